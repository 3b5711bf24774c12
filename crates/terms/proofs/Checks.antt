-- Laws of checks in their order, as a function that answers a verdict uses them: a test that refused is the answer
-- (`hit`, `unlike`), a test that passed leaves the rest (`miss`); and a list of checks is fine exactly when
-- each of them passes.
--   Passes c, refusal_of c   the check c finds nothing; what it refuses for
--   Passed checks            each of them passes
-- Assumes nothing.
use Rattle.std.proofs.Common.{◌≡◌, refl, sym, ap, subst, ◌∙◌, List, [], ◌∷◌, ◌⊎◌, inl, inr, ⊎_elim, ℕ, zero, suc, ◌+◌}
use Rattle.std.proofs.Common.{◌-◌, ◌≤◌, ◌<◌, eq-or-lt_of_le, arith}
use native.Mathlib.Decide.{ℕ_discrete}
use Rattle.lists.specs.Run.{run_of}
use Rattle.lists.proofs.Choice.{below_yes, below_no, same_yes, same_no}
use Rattle.std.proofs.lemmas.Bool.{cases_lt}
use Rattle.lists.proofs.Run.{run_next, run_none}
use Rattle.terms.specs.declared.Refusal.{Refusal}
use Rattle.std.specs.Prelude.{Ok, Err}
use Rattle.terms.specs.Verdict.{Verdict, Fine, Check, refuse◌when◌below◌, refuse◌unless◌is◌, verdict_of, ◌and_then◌}
use Rattle.terms.specs.Verdict.{first_of, if_fine}

-- ---- a check and those that follow

pub refused_not_fine : {A : Type 0} {r : Refusal} → Err r ≡ Fine → A
refused_not_fine e = cc

pub fine_or_refused : (v : Verdict) → (v ≡ Fine) ⊎ ((r : Refusal) × (v ≡ Err r))
fine_or_refused (Ok u) = inl refl
fine_or_refused (Err r) = inr (r, refl)

-- x refused, so v does
pub then_stop : (x y : Verdict) {v : Verdict} {r : Refusal} → v ≡ Err r → v ≡ x → v ≡ x and_then y
unfolding ◌and_then◌
then_stop x y p q = p ∙ ap (λ (u : Verdict). u and_then y) (sym p ∙ q)

-- x passed, so the answer w is what y says
pub then_pass : (x y w : Verdict) → x ≡ Fine → w ≡ y → w ≡ x and_then y
unfolding ◌and_then◌
then_pass x y w p e = e ∙ ap (λ (u : Verdict). u and_then y) (sym p)

pub then_fine : (x y : Verdict) → x and_then y ≡ Fine → (x ≡ Fine) × (y ≡ Fine)
unfolding ◌and_then◌
then_fine (Ok u) y e = (refl, e)
then_fine (Err r) y e = refused_not_fine e

-- y finds nothing, so x decides
pub then_nothing : (x y : Verdict) → y ≡ Fine → x ≡ x and_then y
unfolding ◌and_then◌
then_nothing (Ok u) y e = sym e
then_nothing (Err r) y e = refl

pub then_assoc : (x y z : Verdict) → (x and_then y) and_then z ≡ x and_then y and_then z
unfolding ◌and_then◌
then_assoc (Ok u) y z = refl
then_assoc (Err r) y z = refl

pub fine_then : {x y : Verdict} → x ≡ Fine → y ≡ Fine → x and_then y ≡ Fine
fine_then {x} {y} p q = sym (then_pass x y Fine p (sym q))

-- ---- a list of checks

-- the check c finds nothing
abbrev pub Passes : Check → Type 0
Passes (refuse r when a below b) = b ≤ a
Passes (refuse r unless a is b) = a ≡ b

abbrev pub refusal_of : Check → Refusal
refusal_of (refuse r when a below b) = r
refusal_of (refuse r unless a is b) = r

-- a check refuses or leaves the rest
pub check_or_rest : (c : Check) (rest : List Check)
    → ((Passes c → ⊥) × (verdict_of (c ∷ rest) ≡ Err (refusal_of c)))
    ⊎ (Passes c × (verdict_of (c ∷ rest) ≡ verdict_of rest))
unfolding verdict_of
check_or_rest (refuse r when a below b) rest = elim (cases_lt a b) [
  | inl l ↦ inl ((λ p. omega arith), below_yes _ _ l)
  | inr l ↦ inr (l, below_no _ _ l)
]
check_or_rest (refuse r unless a is b) rest = elim (ℕ_discrete a b) [
  | yes e ↦ inr (e, same_yes _ _ e)
  | no n ↦ inl (n, same_no _ _ n)
]

-- every check of a list finds nothing: fine exactly then
abbrev pub Passed : List Check → Type 0
Passed [] = Unit {0}
Passed (c ∷ rest) = Passes c × Passed rest

pub passed_of_fine : (checks : List Check) → verdict_of checks ≡ Fine → Passed checks
passed_of_fine [] e = tt
passed_of_fine (c ∷ rest) e = elim (check_or_rest c rest) [
  | inl (fails, refused) ↦ refused_not_fine (sym refused ∙ e)
  | inr (passes, same) ↦ (passes, passed_of_fine rest (sym same ∙ e))
]

pub fine_of_passed : (checks : List Check) → Passed checks → verdict_of checks ≡ Fine
unfolding verdict_of
fine_of_passed [] h = refl
fine_of_passed (c ∷ rest) h = elim (check_or_rest c rest) [
  | inl (fails, refused) ↦ absurd (fails h.0)
  | inr (passes, same) ↦ same ∙ fine_of_passed rest h.1
]

-- ---- what a function answers that tests one check after the other

pub hit : (r : Refusal) (a b : ℕ) (rest : List Check) → a < b
    → Err r ≡ verdict_of ((refuse r when a below b) ∷ rest)
unfolding verdict_of
hit r a b rest l = sym (below_yes _ _ l)

pub miss : (r : Refusal) (a b : ℕ) (rest : List Check) (w : Verdict) → b ≤ a → w ≡ verdict_of rest
    → w ≡ verdict_of ((refuse r when a below b) ∷ rest)
unfolding verdict_of
miss r a b rest w l e = e ∙ sym (below_no _ _ l)

pub unlike : (r : Refusal) (a b : ℕ) (rest : List Check) → (a ≡ b → ⊥)
    → Err r ≡ verdict_of ((refuse r unless a is b) ∷ rest)
unfolding verdict_of
unlike r a b rest n = sym (same_no _ _ n)

pub no_more : Fine ≡ verdict_of []
unfolding verdict_of
no_more = refl

-- ---- a loop that looks for the first refusal of n checks, from check a on

-- the loop stands before check i: what the checks from i on will say is what all of them say
pub record Searching (f : ℕ → Verdict) (a n i : ℕ) : Type 0 where
  pub least : a ≤ i
  pub most : i ≤ a + n
  pub rest : first_of f i (a + n - i) ≡ first_of f a n

module _ (f : ℕ → Verdict) (a n : ℕ) where
  pub search_first : Searching f a n a
  search_first =
      let e : a + n - a ≡ n = omega arith in
      record { least = omega arith; most = omega arith; rest = rw e refl }

  first_next : (i : ℕ) → i < a + n → first_of f i (a + n - i) ≡ f i and_then first_of f (i + 1) (a + n - (i + 1))
  unfolding first_of
  first_next i l =
      let e : a + n - i - 1 ≡ a + n - (i + 1) = omega arith in
      run_next ◌and_then◌ Fine f i (a + n - i) (omega arith) ∙ rw e refl

  -- check i passed
  pub search_next : {i : ℕ} {v : Verdict} → Searching f a n i → i < a + n → v ≡ Fine → v ≡ f i
      → Searching f a n (i + 1)
  search_next {i} h l p q =
      record {
        least = omega (arith, h.least);
        most = omega arith;
        rest = then_pass (f i) _ _ (sym q ∙ p) refl ∙ sym (first_next i l) ∙ h.rest;
      }

  -- check i refused: that is the answer
  pub search_stop : {i : ℕ} {v : Verdict} {r : Refusal} → Searching f a n i → i < a + n → v ≡ Err r → v ≡ f i
      → v ≡ first_of f a n
  search_stop {i} h l p q = then_stop (f i) _ p q ∙ sym (first_next i l) ∙ h.rest

  -- all passed
  pub search_end : {i : ℕ} → Searching f a n i → a + n ≤ i → Fine ≡ first_of f a n
  unfolding first_of
  search_end {i} h l = sym (run_none ◌and_then◌ Fine f i (a + n - i) (omega arith)) ∙ h.rest

  -- the last one passed
  pub search_last : {i : ℕ} {v : Verdict} → Searching f a n i → i + 1 ≡ a + n → v ≡ Fine → v ≡ f i
      → Fine ≡ first_of f a n
  search_last h e p q = search_end (search_next h (omega arith) p q) (omega arith)

-- every check of a run that is fine is fine
pub first_fine : (f : ℕ → Verdict) (i n : ℕ) → first_of f i n ≡ Fine → (j : ℕ) → i ≤ j → j < i + n → f j ≡ Fine
unfolding first_of run_of
first_fine f i zero e j a b = let no_way : ⊥ = omega arith in absurd no_way
first_fine f i (suc n) e j a b =
    let q = then_fine (f i) (first_of f (i + 1) n) e in
    ⊎_elim
    (λ (z : i ≡ j). subst (λ (k : ℕ). f k ≡ Fine) z q.0)
    (λ (l : i < j). first_fine f (i + 1) n q.1 j (omega arith) (omega arith))
    (eq-or-lt_of_le a)

-- and a run of checks that are fine is fine
pub fine_first : (f : ℕ → Verdict) (i n : ℕ) → ((j : ℕ) → i ≤ j → j < i + n → f j ≡ Fine) → first_of f i n ≡ Fine
unfolding first_of run_of
fine_first f i zero h = refl
fine_first f i (suc n) h =
    fine_then (h i (omega arith) (omega arith)) (fine_first f (i + 1) n (λ j a b. h j (omega arith) (omega arith)))

-- the first check that refuses is what a run of them says
pub first_refused : (f : ℕ → Verdict) (i n j : ℕ) (r : Refusal) → i ≤ j → j < i + n
    → ((q : ℕ) → i ≤ q → q < j → f q ≡ Fine) → f j ≡ Err r → first_of f i n ≡ Err r
unfolding first_of run_of
first_refused f i zero j r a b fine e = let no_way : ⊥ = omega arith in absurd no_way
first_refused f i (suc n) j r a b fine e =
    ⊎_elim
    (λ (z : i ≡ j). sym (then_stop (f i) _ refl (sym (rw z e))))
    (λ (l : i < j).
    sym (then_pass (f i) (first_of f (i + 1) n) _ (fine i (omega arith) l)
    (sym (first_refused f (i + 1) n j r (omega arith) (omega arith) (λ q u v. fine q (omega arith) v) e))))
    (eq-or-lt_of_le a)

-- ---- what depends on a verdict

pub if_fine_lem : {A : Type 0} (v : Verdict) (x y : A) → Fine ≡ v → x ≡ if_fine v x y
if_fine_lem v x y e = ap (λ (u : Verdict). if_fine u x y) e

pub if_refused : {A : Type 0} (v : Verdict) (x y : A) {r : Refusal} → Err r ≡ v → y ≡ if_fine v x y
if_refused v x y e = ap (λ (u : Verdict). if_fine u x y) e
