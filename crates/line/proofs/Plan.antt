-- Laws of the plan by its definition alone: two plans agree on trains 2 to m, nothing else of them is read, and a
-- station with excess 0 shows keep.
-- Assumes nothing.
use Rattle.std.proofs.Common.{◌≡◌, refl, sym, subst, ◌∙◌, inl, inr, ℕ, ◌+◌, ◌≤◌, ◌<◌, le_trans, le_of_eq, le_antisymm}
use Rattle.std.proofs.Common.{eq-or-lt_of_le, arith}
use Rattle.lists.specs.Choice.{if_same}
use Rattle.lists.proofs.Choice.{same_yes, same_no}
use Rattle.std.proofs.lemmas.Bool.{cases_eq}
use Rattle.lists.proofs.Induction.{up}
use Rattle.line.specs.Line.{Running, Line}
use Rattle.line.specs.Policy.{Keep, Go, Policy, excess, departure, missed, day_of, total}
use Rattle.line.specs.Plan.{FirstDifference, IsPlan}
use Rattle.line.specs.Alike.{DaysAlike, LinesAlike}
use Rattle.line.proofs.Following.{keep_or_go, keep_not_go, first_on_time, keep_departs, keep_maintains}
use Rattle.line.proofs.Following.{no_excess_maintains, maintained_departs}
use Rattle.line.proofs.Days.{pairs_alike, days_alike, run_alike_refl, lines_alike_refl, same_total}

-- ---- the plan is one

-- policies that are alike before train t and of which the second alone keeps there
first_difference : (m t : ℕ) (p q : Policy) → 2 ≤ t → t ≤ m → ((i : ℕ) → 2 ≤ i → i < t → p i ≡ q i)
    → p t ≡ Go → q t ≡ Keep → FirstDifference m p q t
first_difference m t p q a b alike go keep =
    record { from_two = a; in_line = b; alike = alike; differ = λ e. keep_not_go (sym keep ∙ sym e ∙ go) }

module _ (L : Line) (p q : Policy) (P : IsPlan L p) (Q : IsPlan L q) where
  equal_totals : total L p ≡ total L q
  equal_totals = le_antisymm (P.least q) (Q.least p)

  -- two plans alike before train t are alike at t: where one went and the other kept, it would have to keep
  alike_next : (t : ℕ) → 2 ≤ t → t ≤ L.trains → ((i : ℕ) → 2 ≤ i → i < t → p i ≡ q i) → p t ≡ q t
  alike_next t a b same = elim (keep_or_go (p t)) [
    | inl keep ↦ elim (keep_or_go (q t)) [
      | inl kept ↦ keep ∙ sym kept
      | inr go ↦
          let first = first_difference L.trains t q p a b (λ i u v. sym (same i u v)) go keep in
          keep_not_go (sym (Q.tie p equal_totals t first) ∙ go)
    ]
    | inr go ↦ elim (keep_or_go (q t)) [
      | inl keep ↦
          let first = first_difference L.trains t p q a b same go keep in
          keep_not_go (sym (P.tie q (sym equal_totals) t first) ∙ go)
      | inr gone ↦ go ∙ sym gone
    ]
  ]

  pub plan_one : (t : ℕ) → 2 ≤ t → t ≤ L.trains → p t ≡ q t
  plan_one t a b =
      up (λ (n : ℕ). (i : ℕ) → 2 ≤ i → i < n → p i ≡ q i) 2 (t + 1) (omega arith)
      (λ i u v. absurd (omega arith))
      (λ n x y same i u v. elim (eq-or-lt_of_le v) [
        | inl e ↦
            let here : n ≡ i = omega arith in
            subst (λ (j : ℕ). p j ≡ q j) here (alike_next n x (omega arith) same)
        | inr w ↦ same i u (omega arith)
      ])
      t a (omega arith)

-- policies alike on trains 2 to m differ from a third first at the same train
first_difference_alike : (m : ℕ) (p q r : Policy) (t : ℕ) → ((i : ℕ) → 2 ≤ i → i ≤ m → p i ≡ q i)
    → FirstDifference m q r t → FirstDifference m p r t
first_difference_alike m p q r t same first =
    record {
      from_two = first.from_two;
      in_line = first.in_line;
      alike = λ i a b. same i a (omega (arith, first.in_line)) ∙ first.alike i a b;
      differ = λ f. first.differ (sym (same t first.from_two first.in_line) ∙ f);
    }

-- a plan is read on trains 2 to m alone, of its line and of itself
pub plan_alike : (L M : Line) (p q : Policy) → LinesAlike 1 L M → ((i : ℕ) → 2 ≤ i → i ≤ L.trains → p i ≡ q i)
    → IsPlan L p → IsPlan M q
plan_alike L M p q lines same P =
    record {
      least = λ r. le_trans (le_of_eq (sym here)) (le_trans (P.least r) (le_of_eq (other r)));
      tie = λ r e t differ.
          let first = subst (λ (m : ℕ). FirstDifference m q r t) (sym lines.trains) differ in
          sym (same t first.from_two first.in_line)
          ∙ P.tie r (other r ∙ e ∙ sym here) t (first_difference_alike L.trains p q r t same first);
    }
  where
    here : total L p ≡ total M q
    here = same_total L M p q lines same

    other : (r : Policy) → total L r ≡ total M r
    other r = same_total L M r r lines (λ i a b. refl)

-- ---- a station with excess 0 shows keep

module _ (L : Line) (p : Policy) (s : ℕ) (none : excess L.running p s ≡ 0) where
  abbrev R : Running
  R = L.running

  -- the policy with keep at station s
  abbrev kept : Policy
  kept i = if_same i s Keep (p i)

  kept_here : kept s ≡ Keep
  kept_here = same_yes Keep (p s) refl

  kept_elsewhere : (i : ℕ) → (i ≡ s → ⊥) → kept i ≡ p i
  kept_elsewhere i h = same_no Keep (p i) h

  -- it departs and misses as the policy does
  kept_departs : (i : ℕ) → excess R p i ≡ excess R kept i → departure R p i ≡ departure R kept i
  kept_departs i e = elim (cases_eq i s) [
    | inl h ↦
        let departs = maintained_departs R p s (no_excess_maintains R p s none) in
        rw h (departs ∙ (rw h at e) ∙ sym (keep_departs R kept s kept_here))
    | inr h ↦ unfold departure in rw (kept_elsewhere i h, e)
  ]

  kept_misses : (i : ℕ) → excess R p i ≡ excess R kept i → missed R p i ≡ missed R kept i
  kept_misses i e = elim (cases_eq i s) [
    | inl h ↦ rw h (no_excess_maintains R p s none ∙ sym (keep_maintains R kept s kept_here))
    | inr h ↦ unfold missed in rw (kept_elsewhere i h, e)
  ]

  same_day : DaysAlike 1 L.trains (day_of R p) (day_of R kept)
  same_day =
      days_alike 1 L.trains R R p kept (omega arith) (run_alike_refl 1 L.trains R)
      (first_on_time R p ∙ sym (first_on_time R kept))
      (λ i a b. kept_departs i) (λ i a b. kept_misses i)

  same_total_kept : total L kept ≡ total L p
  unfolding total
  same_total_kept = sym (pairs_alike 1 L L (day_of R p) (day_of R kept) (lines_alike_refl 1 L) same_day 1 (omega arith))

  pub plan_shows_keep : IsPlan L p → 2 ≤ s → s ≤ L.trains → p s ≡ Keep
  plan_shows_keep P a b = elim (keep_or_go (p s)) [
    | inl keep ↦ keep
    | inr go ↦ P.tie kept same_total_kept s
        (first_difference L.trains s p kept a b (λ i u v. sym (kept_elsewhere i (λ e. omega arith))) go kept_here)
  ]
