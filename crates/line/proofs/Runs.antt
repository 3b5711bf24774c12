-- The total of a day, run by run: a miss at a station costs its period for everyone aboard the run that it ends; each
-- train costs its delay for those of its run who leave it. What document 01 sums over pairs is the sum of this over the
-- stations. It holds of any day, under a policy or not.
--   run_cost L D k s   what station s and train s cost those who board at k or later
-- Assumes nothing.
use Rattle.std.proofs.Common.{◌≡◌, ap, ap₂, sym, ◌∙◌, true, inl, inr, ℕ, ◌+◌, ◌*◌, ◌≤◌, le_refl, mul_comm, add-zero}
use Rattle.std.proofs.Common.{arith}
use Rattle.std.specs.Prelude.{if◌then◌else◌}
use Rattle.std.proofs.lemmas.Bool.{cond-true, cond-false, cases_Bool}
use Rattle.line.specs.Sum.{sum◌from◌to◌}
use Rattle.line.specs.Line.{Line}
use Rattle.line.specs.Policy.{Policy, Day, day_of, counts, pairs_total, total}
use Rattle.line.specs.Cells.{leaving, aboard}
use Rattle.line.proofs.Sums.{over, sum_over, over_none, over_first, over_split, over_same, over_add}
use Rattle.line.proofs.Sums.{over_scale, over_times, falls_equal}
use Rattle.line.proofs.Passengers.{Clear, counts_clear, counts_missed, pairs_over, leaving_over, aboard_over}
use Rattle.line.proofs.Starts.{start_of, start_le, start_missed, start_maintained, start_clear, start_through}
use Rattle.line.proofs.Starts.{clear_next}

unfoldable pub run_cost : Line → Day → ℕ → ℕ → ℕ
run_cost L D k s =
    (if D.missed s then L.period s * aboard L (start_of D k s) s else 0)
    + leaving L (start_of D k (s + 1)) s * D.arrival s

module _ (L : Line) (D : Day) where
  -- those who leave train l count its delay, where nothing is missed up to it
  pairs_clear : (k l : ℕ) → k ≤ l → l ≤ L.trains → Clear D k (l + 1)
      → pairs_total L D k l ≡ leaving L k l * D.arrival l + pairs_total L D k (l + 1)
  pairs_clear k l a b clear =
      pairs_over L D k l
      ∙ over_first l (L.trains + 1) _ (omega arith)
      ∙ ap₂ ◌+◌ (leavers ∙ ap (λ (x : ℕ). x * D.arrival l) (sym (leaving_over L k l))) (sym (pairs_over L D k (l + 1)))
    where
      leavers : over k (l + 1) (λ i. L.passengers i (l + 1) * counts L D i (l + 1))
          ≡ over k (l + 1) (λ i. L.passengers i (l + 1)) * D.arrival l
      leavers =
          over_times k (l + 1) _ _ (D.arrival l) (omega arith)
          (λ i c d. counts_clear L D i l (omega arith) (λ s u v. clear s (omega arith) v))

  -- of those who leave train t, the ones who were aboard at a missed station count its period
  leavers_missed : (k l t : ℕ) → k ≤ l → l ≤ t → Clear D k l → D.missed l ≡ true
      → over k (t + 1) (λ i. L.passengers i (t + 1) * counts L D i (t + 1))
      ≡ over k l (λ i. L.passengers i (t + 1)) * L.period l
      + over l (t + 1) (λ i. L.passengers i (t + 1) * counts L D i (t + 1))
  leavers_missed k l t a b clear m =
      over_split k l (t + 1) _ a (omega arith)
      ∙ ap (λ (x : ℕ). x + over l (t + 1) (λ i. L.passengers i (t + 1) * counts L D i (t + 1)))
      (over_times k l _ _ (L.period l) a (λ i u v. counts_missed L D i l t v b (λ s x y. clear s (omega arith) y) m))

  -- those aboard at a missed station count its period; the others are those who board there or later
  pairs_missed : (k l : ℕ) → 1 ≤ l → k ≤ l → l ≤ L.trains → Clear D k l → D.missed l ≡ true
      → pairs_total L D k l ≡ L.period l * aboard L k l + pairs_total L D l l
  pairs_missed k l pos a b clear m =
      pairs_over L D k l
      ∙ over_same l (L.trains + 1) _ _ (λ t c d. leavers_missed k l t a c clear m)
      ∙ over_add l (L.trains + 1) _ _ (omega arith)
      ∙ ap₂ ◌+◌
      (over_scale l (L.trains + 1) _ (L.period l) (omega arith) ∙ mul_comm _ (L.period l)
      ∙ ap (λ (x : ℕ). L.period l * x) (sym (aboard_over L k l pos)))
      (sym (pairs_over L D l l))

  module _ (k : ℕ) (pos : 1 ≤ k) where
    -- one station
    pairs_next : (s : ℕ) → k ≤ s → s ≤ L.trains
        → pairs_total L D (start_of D k s) s ≡ run_cost L D k s + pairs_total L D (start_of D k (s + 1)) (s + 1)
    unfolding run_cost
    pairs_next s a b =
        let begin = start_le D k s a in
        let clear = start_clear D k s a in
        elim (cases_Bool (D.missed s)) [
          | inl m ↦
              let next = pairs_clear s s (le_refl s) b (λ r u v. absurd (omega arith)) in
              let gone = pairs_missed (start_of D k s) s (omega arith) begin.1 b clear m in
              rw (start_missed D k s a m, cond-true _ (L.period s * aboard L (start_of D k s) s) 0 m) (omega arith)
          | inr m ↦
              rw (start_maintained D k s m, cond-false _ (L.period s * aboard L (start_of D k s) s) 0 m)
              (omega (arith, pairs_clear (start_of D k s) s begin.1 b (clear_next D _ s clear m)))
        ]

    -- The total of those who board at k or later and leave after l, nothing being missed between k and l, is their cost
    -- run by run.
    pub pairs_by_runs : (l : ℕ) → k ≤ l → l ≤ L.trains + 1 → Clear D k l
        → pairs_total L D k l ≡ sum (run_cost L D k) from l to L.trains
    pairs_by_runs l a b clear =
        ap (λ (j : ℕ). pairs_total L D j l) (sym (start_through D k l a clear))
        ∙ falls_equal l (L.trains + 1) (run_cost L D k) (λ s. pairs_total L D (start_of D k s) s) b
        (λ s c d. pairs_next s (omega arith) (omega arith))
        ∙ ap (λ (x : ℕ). over l (L.trains + 1) (run_cost L D k) + x)
        (pairs_over L D _ (L.trains + 1) ∙ over_none _ _ _ (le_refl (L.trains + 1)))
        ∙ add-zero _
        ∙ sym (sum_over (run_cost L D k) l L.trains)

-- The total of a policy is its cost run by run.
pub total_by_runs : (L : Line) (p : Policy)
    → total L p ≡ sum (run_cost L (day_of L.running p) 1) from 1 to L.trains
unfolding total
total_by_runs L p =
    pairs_by_runs L (day_of L.running p) 1 (le_refl 1) 1 (le_refl 1) (omega arith) (λ s a b. absurd (omega arith))
