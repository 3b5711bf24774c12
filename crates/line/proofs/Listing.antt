-- Listing all policies finds the plan, on any line. Where all trains are decided there is nothing to choose. With train
-- i still to decide, the plan is the better of the two that keep and that go there, and the one that keeps when equal.
--   PlanFrom L i p      of the policies that decide as p does before train i, p is the plan
--   first_least L n ds  of the decisions that begin with ds and go on for n trains, the first of least total
-- Assumes nothing.
use Rattle.std.proofs.Common.{◌≡◌, refl, sym, subst, ◌∙◌, List, [], ◌∷◌, ◌++◌, inl, inr, ℕ, zero, suc, ◌+◌, ◌-◌, ◌≤◌}
use Rattle.std.proofs.Common.{◌<◌, le_trans, le_of_eq, eq-or-lt_of_le, arith, length, length-append}
use lib.ListN.{get_or-append}
use lib.Seq.{get_or_at}
use Rattle.lists.specs.Choice.{if_below}
use Rattle.lists.proofs.Choice.{below_yes, below_no}
use Rattle.std.proofs.lemmas.Bool.{cases_lt}
use Rattle.line.specs.Line.{Line}
use Rattle.line.specs.Policy.{Decision, Keep, Go, Policy, total}
use Rattle.line.specs.Plan.{FirstDifference, IsPlan}
use Rattle.line.specs.Answers.{policy_from}
use Rattle.line.proofs.Following.{keep_or_go, keep_not_go}
use Rattle.line.proofs.Days.{lines_alike_refl, same_total}

-- p and q decide alike before train i
abbrev pub AlikeBefore : ℕ → Policy → Policy → Type 0
AlikeBefore i p q = (s : ℕ) → 2 ≤ s → s < i → p s ≡ q s

pub record PlanFrom (L : Line) (i : ℕ) (p : Policy) : Type 0 where
  pub least : (q : Policy) → AlikeBefore i p q → total L p ≤ total L q
  pub tie : (q : Policy) → AlikeBefore i p q → total L q ≡ total L p
      → (t : ℕ) → FirstDifference L.trains p q t → p t ≡ Keep

-- ---- all trains decided; one more to decide; all from train 2 on

pub plan_from_end : (L : Line) (i : ℕ) (p : Policy) → L.trains < i → PlanFrom L i p
plan_from_end L i p b =
    record {
      least = λ q same. le_of_eq (same_total L L p q (lines_alike_refl 1 L) (λ s u v. same s u (omega arith)));
      tie = λ q same e t first. absurd (first.differ (same t first.from_two (omega (arith, first.in_line))));
    }

-- alike before train i and at train i
alike_next : (i : ℕ) (p q : Policy) → AlikeBefore i p q → p i ≡ q i → AlikeBefore (i + 1) p q
alike_next i p q same here s u v = elim (eq-or-lt_of_le v) [
  | inl e ↦ let at : s ≡ i = omega arith in subst (λ (j : ℕ). p j ≡ q j) (sym at) here
  | inr w ↦ same s u (omega arith)
]

-- where policies that are alike before train i differ there, that is their first difference
first_is : (m i t : ℕ) (p q : Policy) → 2 ≤ i → AlikeBefore i p q → ¬ (p i ≡ q i) → FirstDifference m p q t → t ≡ i
first_is m i t p q a same differ first = elim (cases_lt t i) [
  | inl u ↦ absurd (first.differ (same t first.from_two u))
  | inr u ↦ elim (eq-or-lt_of_le u) [ inl e ↦ sym e | inr v ↦ absurd (differ (first.alike i a v)) ]
]

-- x keeps at train i and y goes, they are alike before it, and from the next train on each is the plan
module _ (L : Line) (i : ℕ) (x y : Policy) (a : 2 ≤ i) (same : AlikeBefore i x y) (keep : x i ≡ Keep) (go : y i ≡ Go)
    (X : PlanFrom L (i + 1) x) (Y : PlanFrom L (i + 1) y) where
  -- a policy that is alike before train i is alike to x or to y at train i too
  with_x : (q : Policy) → AlikeBefore i x q → q i ≡ Keep → AlikeBefore (i + 1) x q
  with_x q alike kept = alike_next i x q alike (keep ∙ sym kept)

  with_y : (q : Policy) → AlikeBefore i x q → q i ≡ Go → AlikeBefore (i + 1) y q
  with_y q alike gone = alike_next i y q (λ s u v. sym (same s u v) ∙ alike s u v) (go ∙ sym gone)

  pub plan_from_keep : total L x ≤ total L y → PlanFrom L i x
  plan_from_keep h =
      record {
        least = λ q alike. elim (keep_or_go (q i)) [
          | inl kept ↦ X.least q (with_x q alike kept)
          | inr gone ↦ le_trans h (Y.least q (with_y q alike gone))
        ];
        tie = λ q alike e t first. elim (keep_or_go (q i)) [
          | inl kept ↦ X.tie q (with_x q alike kept) e t first
          | inr gone ↦
              let at = first_is L.trains i t x q a alike (λ d. keep_not_go (sym keep ∙ d ∙ gone)) first in
              subst (λ (j : ℕ). x j ≡ Keep) (sym at) keep
        ];
      }

  pub plan_from_go : total L y < total L x → PlanFrom L i y
  plan_from_go h =
      let back : (q : Policy) → AlikeBefore i y q → AlikeBefore i x q = λ q alike s u v. same s u v ∙ alike s u v in
      record {
        least = λ q alike. elim (keep_or_go (q i)) [
          | inl kept ↦ omega (arith, X.least q (with_x q (back q alike) kept))
          | inr gone ↦ Y.least q (with_y q (back q alike) gone)
        ];
        tie = λ q alike e t first. elim (keep_or_go (q i)) [
          | inl kept ↦ absurd (omega (arith, X.least q (with_x q (back q alike) kept)))
          | inr gone ↦ Y.tie q (with_y q (back q alike) gone) e t first
        ];
      }

pub plan_from_two : (L : Line) (p : Policy) → PlanFrom L 2 p → IsPlan L p
plan_from_two L p P =
    let none : (q : Policy) → AlikeBefore 2 p q = λ q s u v. absurd (omega arith) in
    record { least = λ q. P.least q (none q); tie = λ q. P.tie q (none q) }

-- ---- decisions as lists

-- the one of less total, the first when equal
unfoldable pub better : Line → List Decision → List Decision → List Decision
better L ds es = if_below (total L (policy_from es)) (total L (policy_from ds)) es ds

unfoldable pub first_least : Line → ℕ → List Decision → List Decision
first_least L zero ds = ds
first_least L (suc n) ds = better L (first_least L n (ds ++ Keep ∷ [])) (first_least L n (ds ++ Go ∷ []))

-- es begins with ds, goes on for n trains, of which train i is the first, and is the plan from there
record Found (L : Line) (i n : ℕ) (ds es : List Decision) : Type 0 where
  long : length es ≡ length ds + n
  begins : AlikeBefore i (policy_from ds) (policy_from es)
  best : PlanFrom L i (policy_from es)

module _ (L : Line) (i n : ℕ) (ds : List Decision) (first : i ≡ length ds + 2) where
  module _ (b : Decision) where
    one_more : length (ds ++ b ∷ []) ≡ length ds + 1
    one_more = length-append ds (b ∷ [])

    -- decisions that begin with ds and have b for train i
    module _ (es : List Decision) (E : Found L (i + 1) n (ds ++ b ∷ []) es) where
      found_long : length es ≡ length ds + suc n
      found_long = omega (arith, E.long, one_more)

      found_begins : AlikeBefore i (policy_from ds) (policy_from es)
      found_begins s u v =
          sym (get_or-append ds (b ∷ []) Keep (s - 2) (omega arith)) ∙ E.begins s u (omega arith)

      found_decides : policy_from es i ≡ b
      found_decides =
          sym (E.begins i (omega arith) (omega arith)) ∙ get_or_at ds b [] Keep (i - 2) (omega arith)

  module _ (xs ys : List Decision) (X : Found L (i + 1) n (ds ++ Keep ∷ []) xs)
      (Y : Found L (i + 1) n (ds ++ Go ∷ []) ys) where
    alike : AlikeBefore i (policy_from xs) (policy_from ys)
    alike s u v = sym (found_begins Keep xs X s u v) ∙ found_begins Go ys Y s u v

    keeps : policy_from xs i ≡ Keep
    keeps = found_decides Keep xs X

    goes : policy_from ys i ≡ Go
    goes = found_decides Go ys Y

    found_better : Found L i (suc n) ds (better L xs ys)
    unfolding better
    found_better = elim (cases_lt (total L (policy_from ys)) (total L (policy_from xs))) [
      | inl h ↦ rw (below_yes ys xs h) record {
        long = found_long Go ys Y;
        begins = found_begins Go ys Y;
        best = plan_from_go L i _ _ (omega arith) alike keeps goes X.best Y.best h;
      }
      | inr h ↦ rw (below_no ys xs h) record {
        long = found_long Keep xs X;
        begins = found_begins Keep xs X;
        best = plan_from_keep L i _ _ (omega arith) alike keeps goes X.best Y.best h;
      }
    ]

-- by the number of trains still to decide
found : (L : Line) (n i : ℕ) (ds : List Decision) → i ≡ length ds + 2 → L.trains < i + n
    → Found L i n ds (first_least L n ds)
unfolding first_least
found L zero i ds e b = record { long = omega arith; begins = λ s u v. refl; best = plan_from_end L i _ (omega arith) }
found L (suc n) i ds e b =
    let next : (b : Decision) → i + 1 ≡ length (ds ++ b ∷ []) + 2 = λ b. omega (arith, one_more L i n ds e b) in
    found_better L i n ds e _ _
    (found L n (i + 1) (ds ++ Keep ∷ []) (next Keep) (omega arith))
    (found L n (i + 1) (ds ++ Go ∷ []) (next Go) (omega arith))

module _ (L : Line) where
  listed_all : Found L 2 (L.trains - 1) [] (first_least L (L.trains - 1) [])
  listed_all = found L (L.trains - 1) 2 [] refl (omega arith)

  pub first_least_length : length (first_least L (L.trains - 1) []) ≡ L.trains - 1
  first_least_length = omega (arith, listed_all.long)

  pub first_least_is_plan : IsPlan L (policy_from (first_least L (L.trains - 1) []))
  first_least_is_plan = plan_from_two L _ listed_all.best
