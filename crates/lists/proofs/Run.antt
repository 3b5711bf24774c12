-- Laws of a run of places, for any step: one place taken, none left, equal at
-- equal places; and of the lists made of a run. A loop states what it has still to
-- do as a run that equals its goal: `run_next` is its turn, `run_none` its end.
-- Assumes nothing.
use Rattle.std.proofs.Common.{◌≡◌, refl, sym, ap, ap₂, subst, ◌∙◌, List, ℕ, zero, suc, ◌+◌, ◌-◌, ◌≤◌, ◌<◌}
use Rattle.std.proofs.Common.{inl, inr, not-suc-le-zero, le_of_suc-le-suc, add-zero, arith, length, get_or, ext_get_or}
use Rattle.std.proofs.lemmas.Bool.{cases_lt}
use Rattle.std.proofs.lemmas.List.{get_or_past}
use Rattle.lists.specs.Run.{run_of, listed, padded, nth}
use Rattle.lists.proofs.Choice.{below_yes, below_no}

module _ {A B : Type 0} (step : A → B → B) (done : B) where
  pub run_next : (f : ℕ → A) (i n : ℕ) → 0 < n
      → run_of step done f i n ≡ step (f i) (run_of step done f (i + 1) (n - 1))
  unfolding run_of
  run_next f i n l =
      let e : suc (n - 1) ≡ n = omega arith in
      subst (λ (k : ℕ). run_of step done f i k ≡ step (f i) (run_of step done f (i + 1) (n - 1))) e refl

  pub run_none : (f : ℕ → A) (i n : ℕ) → n ≡ 0 → run_of step done f i n ≡ done
  unfolding run_of
  run_none f i n e = ap (run_of step done f i) e

  pub run_same : (f g : ℕ → A) (i n : ℕ) → ((j : ℕ) → i ≤ j → j < i + n → f j ≡ g j)
      → run_of step done f i n ≡ run_of step done g i n
  unfolding run_of
  run_same f g i zero h = refl
  run_same f g i (suc n) h =
      ap₂ step (h i (omega arith) (omega arith)) (run_same f g (i + 1) n (λ j a b. h j (omega arith) (omega arith)))

module _ {A : Type 0} (f : ℕ → A) where
  pub listed_length : (i n : ℕ) → length (listed f i n) ≡ n
  unfolding listed run_of
  listed_length i zero = refl
  listed_length i (suc n) = ap suc (listed_length (i + 1) n)

  pub listed_at : (d : A) (i n k : ℕ) → k < n → get_or (listed f i n) k d ≡ f (i + k)
  unfolding listed run_of
  listed_at d i zero k l = absurd (not-suc-le-zero l)
  listed_at d i (suc n) zero l = ap f (sym (add-zero i))
  listed_at d i (suc n) (suc k) l =
      let e : i + 1 + k ≡ i + suc k = omega arith in
      listed_at d (i + 1) n k (le_of_suc-le-suc l) ∙ ap f e

-- ---- f 1, f 2, .., f n and then 0

pub padded_length : (size n : ℕ) (f : ℕ → ℕ) → length (padded size n f) ≡ size
unfolding padded
padded_length size n f = listed_length _ 1 size

-- place k, from 0
pub padded_at : (size n : ℕ) (f : ℕ → ℕ) (k : ℕ) → k < n → k < size → get_or (padded size n f) k 0 ≡ f (k + 1)
unfolding padded
padded_at size n f k l m =
    let e : 1 + k ≡ k + 1 = omega arith in
    listed_at _ 0 1 size k m ∙ below_no _ _ (omega arith) ∙ ap f e

pub padded_past : (size n : ℕ) (f : ℕ → ℕ) (k : ℕ) → n ≤ k → get_or (padded size n f) k 0 ≡ 0
unfolding padded
padded_past size n f k l = elim (cases_lt k size) [
  | inl m ↦ listed_at _ 0 1 size k m ∙ below_yes _ _ (omega arith)
  | inr m ↦ get_or_past (padded size n f) k 0 (rw (padded_length size n f) m)
]

-- place i, from 1, of a list that is this one
pub padded_nth : (l : List ℕ) (size n : ℕ) (f : ℕ → ℕ) → l ≡ padded size n f → n ≤ size → (i : ℕ) → 1 ≤ i → i ≤ n
    → nth l i ≡ f i
padded_nth l size n f e c i a b =
    let z : i - 1 + 1 ≡ i = omega arith in
    ap (λ (x : List ℕ). nth x i) e ∙ padded_at size n f (i - 1) (omega arith) (omega arith) ∙ ap f z

-- a list with these entries is this list
pub padded_ext : (size n : ℕ) (f : ℕ → ℕ) (l : List ℕ) → length l ≡ size
    → ((k : ℕ) → k < n → k < size → get_or l k 0 ≡ f (k + 1)) → ((k : ℕ) → n ≤ k → get_or l k 0 ≡ 0)
    → l ≡ padded size n f
padded_ext size n f l e g h =
    ext_get_or 0 l (padded size n f) (e ∙ sym (padded_length size n f))
    (λ k b.
    let m : k < size = omega arith in
    elim (cases_lt k n) [
      | inl c ↦ g k c m ∙ sym (padded_at size n f k c m)
      | inr c ↦ h k c ∙ sym (padded_past size n f k c)
    ])

-- equal where f and g are, on 1 to n
pub padded_same : (size n : ℕ) (f g : ℕ → ℕ) → ((i : ℕ) → 1 ≤ i → i ≤ n → f i ≡ g i)
    → padded size n f ≡ padded size n g
unfolding padded listed
padded_same size n f g same =
    run_same _ _ _ _ 1 size
    (λ i a b. elim (cases_lt n i) [
      | inl u ↦ below_yes _ _ u ∙ sym (below_yes _ _ u)
      | inr u ↦ below_no _ _ u ∙ same i a u ∙ sym (below_no _ _ u)
    ])

-- ---- functions whose values are listed

-- where the lists are equal, so are the functions
pub listed_each : {A : Type 0} (d : A) (f g : ℕ → A) (a n : ℕ) → listed f a n ≡ listed g a n
    → (i : ℕ) → a ≤ i → i < a + n → f i ≡ g i
listed_each d f g a n e i u v =
    let here : a + (i - a) ≡ i = omega arith in
    subst (λ (x : ℕ). f x ≡ g x) here
    (sym (listed_at f d a n (i - a) (omega arith)) ∙ ap (λ xs. get_or xs (i - a) d) e
    ∙ listed_at g d a n (i - a) (omega arith))

-- a list of f 1 to f n, and then 0
pub listed_padded : (size n : ℕ) (f : ℕ → ℕ) (xs : List ℕ) → listed f 1 n ≡ xs
    → padded size n f ≡ padded size n (nth xs)
listed_padded size n f xs e =
    padded_same size n f (nth xs)
    (λ i u v.
    let here : 1 + (i - 1) ≡ i = omega arith in
    ap f (sym here) ∙ sym (listed_at f 0 1 n (i - 1) (omega arith)) ∙ ap (λ (l : List ℕ). nth l i) e)
