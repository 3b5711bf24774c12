-- How large the sums and the totals of a line can be, by its passengers.
-- Assumes nothing.
use Rattle.std.proofs.Common.{◌≡◌, refl, ap, sym, ◌∙◌, Bool, true, false, ℕ, ◌+◌, ◌-◌, ◌*◌, ◌≤◌, ◌<◌, le_refl, le_trans}
use Rattle.std.proofs.Common.{le_of_eq, mul-le-mul, arith}
use Rattle.std.specs.Prelude.{if◌then◌else◌}
use Rattle.lists.specs.Run.{run_of}
use Rattle.lists.proofs.Induction.{down}
use Rattle.line.specs.Line.{Line}
use Rattle.line.specs.Policy.{Policy, Day, day_of, counts, total}
use Rattle.line.specs.Cells.{leaving, aboard, book_of}
use Rattle.line.specs.Ranges.{latest, everyone, limit, LineInRange, BookInRange}
use Rattle.line.proofs.Sums.{over, sum_over, over_first, over_none, over_split, over_scale, over_le}
use Rattle.line.proofs.Passengers.{counts_last, counts_next, pairs_over, leaving_over, aboard_over}
use Rattle.line.proofs.Bounds.{arrival_le}

module _ (L : Line) (range : LineInRange L) where
  -- those who board at k to l - 1 and leave train t
  inner_le : (k l t : ℕ) → 1 ≤ k → k ≤ l → l ≤ t + 1 → t ≤ L.trains
      → over k l (λ i. L.passengers i (t + 1)) ≤ t * 10000
  inner_le k l t pos a b u =
      le_trans
      (over_le k l _ (λ i. 10000) a (λ i v w. range.passengers i (t + 1) (omega arith) (omega arith) (omega arith)))
      (omega (arith, ten_thousand))
    where
      ten_thousand : over k l (λ i. 10000) ≡ (l - k) * 10000
      ten_thousand =
          down (λ (i : ℕ). over i l (λ j. 10000) ≡ (l - i) * 10000) k l a
          (omega (arith, over_none l l (λ j. 10000) (le_refl l)))
          (λ i v w e. omega (arith, e, over_first i l (λ j. 10000) w))

  -- 10,000 for each pair of the trains from l on
  outer_le : (l : ℕ) → 1 ≤ l → l ≤ L.trains + 1 → over l (L.trains + 1) (λ t. t * 10000) ≤ everyone
  outer_le l a b =
      omega (
        arith,
        range.running.trains,
        over_split 1 l 65 (λ t. t * 10000) a (omega (arith, range.running.trains)),
        over_split l (L.trains + 1) 65 (λ t. t * 10000) b (omega (arith, range.running.trains)),
        all,
      )
    where
      all : over 1 65 (λ t. t * 10000) ≡ everyone
      all = unfold over in unfold run_of in refl

  -- those who board from k on and leave
  leavers_of_line : (k : ℕ) → 1 ≤ k → k ≤ L.trains + 1 → over k (L.trains + 1) (leaving L k) ≤ everyone
  leavers_of_line k pos a =
      le_trans
      (over_le k (L.trains + 1) _ _ a
      (λ t u v.
      le_trans (le_of_eq (leaving_over L k t)) (inner_le k (t + 1) t pos (omega arith) (le_refl _) (omega arith))))
      (outer_le k pos a)

  aboard_of_line : (k l : ℕ) → 1 ≤ k → k < l → l ≤ L.trains → aboard L k l ≤ everyone
  aboard_of_line k l pos a b =
      le_trans (le_of_eq (aboard_over L k l (omega arith)))
      (le_trans
      (over_le l (L.trains + 1) _ _ (omega arith)
      (λ t u v. inner_le k l t pos (omega arith) (omega arith) (omega arith)))
      (outer_le l (omega arith) (omega arith)))

  pub range_of_line : BookInRange (book_of L)
  range_of_line =
      record {
        running = range.running;
        period = range.period;
        leaving = λ k a b. le_trans (le_of_eq (sum_over _ k L.trains)) (leavers_of_line k a (omega arith));
        aboard = aboard_of_line;
      }

  -- ---- totals

  -- a passenger counts no more than the largest delay, which is more than any period
  counts_le : (D : Day) → ((i : ℕ) → i ≤ L.trains → D.arrival i ≤ latest) → (i t : ℕ) → 1 ≤ i → i ≤ t → t ≤ L.trains
      → counts L D i (t + 1) ≤ latest
  counts_le D late i t pos a b =
      down (λ (h : ℕ). counts L D h (t + 1) ≤ latest) i t a
      (le_trans (le_of_eq (counts_last L D t)) (late t b))
      (λ h u v e.
      le_trans (le_of_eq (counts_next L D h t v))
      (either (D.missed (h + 1)) (omega (arith, range.period (h + 1) (omega arith) (omega arith))) e))
    where
      either : (x : Bool) {c d : ℕ} → c ≤ latest → d ≤ latest → (if x then c else d) ≤ latest
      either true h e = h
      either false h e = e

  -- all who leave train t
  train_le : (D : Day) → ((i : ℕ) → i ≤ L.trains → D.arrival i ≤ latest) → (t : ℕ) → t ≤ L.trains
      → over 1 (t + 1) (λ i. L.passengers i (t + 1) * counts L D i (t + 1)) ≤ leaving L 1 t * latest
  train_le D late t b =
      le_trans
      (over_le 1 (t + 1) _ (λ i. L.passengers i (t + 1) * latest) (omega arith)
      (λ i u v. mul-le-mul (le_refl _) (counts_le D late i t u (omega arith) b)))
      (le_of_eq
      (over_scale 1 (t + 1) (λ i. L.passengers i (t + 1)) latest (omega arith)
      ∙ ap (λ (x : ℕ). x * latest) (sym (leaving_over L 1 t))))

  -- No total can pass 1,916,928,000,000 passenger-minutes, under any policy.
  pub total_le : (p : Policy) → total L p ≤ limit
  unfolding total
  total_le p =
      let late = arrival_le L.trains L.running range.running p in
      le_trans (le_of_eq (pairs_over L (day_of L.running p) 1 1))
      (le_trans
      (over_le 1 (L.trains + 1) _ (λ t. leaving L 1 t * latest) (omega arith)
      (λ t u v. train_le (day_of L.running p) late t (omega arith)))
      (omega (
        arith,
        over_scale 1 (L.trains + 1) (leaving L 1) latest (omega arith),
        leavers_of_line 1 (le_refl 1) (omega arith),
      )))
