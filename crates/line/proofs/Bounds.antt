-- How large delays and cells can be. A worked cell is no more than its keep, and so no more than all who leave its row,
-- times the largest delay, whatever stands in the later rows.
-- Assumes nothing.
use Rattle.std.proofs.Common.{◌≡◌, refl, ap, sym, ◌∙◌, ℕ, ◌+◌, ◌*◌, ◌≤◌, ◌<◌, le_refl, le_trans, le_of_eq, mul-le-mul}
use Rattle.std.proofs.Common.{arith}
use Rattle.lists.proofs.Induction.{up}
use Rattle.line.specs.Line.{Running}
use Rattle.line.specs.Policy.{Decision, Keep, Go, Policy, departs, arrival, departure}
use Rattle.line.specs.Cells.{Table, Book, run_from, arrival_on, keep_cost, go_cost, Worked}
use Rattle.line.specs.Alike.{BooksAlike}
use Rattle.line.specs.Sum.{sum◌from◌to◌}
use Rattle.line.specs.Ranges.{latest, everyone, limit, RunningInRange, BookInRange}
use Rattle.line.proofs.Sums.{over, sum_over, over_first, over_split, over_same, over_scale, over_le}
use Rattle.line.proofs.Sums.{falls_within}
use Rattle.line.proofs.Following.{arrival_departed, excess_next}
use Rattle.line.proofs.Choices.{cell_by_le_keep}

-- the limit as document 01 prints it
pub limit_is : limit ≡ 1916928000000
limit_is = refl

-- ---- delays

module _ (m : ℕ) (R : Running) (range : RunningInRange m R) (p : Policy) where
  departure_le : (i : ℕ) → departure R p (i + 1) ≤ arrival R p i
  unfolding departure
  departure_le i = either (p (i + 1)) _ (omega (arith, excess_next R p i))
    where
      either : (b : Decision) (e : ℕ) → e ≤ arrival R p i → departs b e ≤ arrival R p i
      either Keep e h = h
      either Go e h = omega arith

  arrival_each : (i : ℕ) → i ≤ m → arrival R p i ≤ i * 1440
  arrival_each i b =
      up (λ (j : ℕ). arrival R p j ≤ j * 1440) 0 i (omega arith) (unfold arrival in le_refl 0)
      (λ j u v e.
      omega (
        arith,
        e,
        departure_le j,
        arrival_departed R p (j + 1) (omega arith),
        range.arrive (j + 1) (departure R p (j + 1)) (omega arith) (omega arith),
      ))

  -- no train arrives later than 64 source delays of 1,440
  pub arrival_le : (i : ℕ) → i ≤ m → arrival R p i ≤ latest
  arrival_le i b = omega (arith, arrival_each i b, range.trains)

-- ---- cells

pub arrival_on_le : (m : ℕ) (R : Running) → RunningInRange m R → (k l : ℕ) → l ≤ m → arrival_on R k l ≤ latest
unfolding arrival_on
arrival_on_le m R range k = arrival_le m R range (run_from k)

-- a worked cell is at most all who leave from l on, times the largest delay, whatever stands in the later rows
pub row_le : (B : Book) → RunningInRange B.trains B.running → (t : ℕ) (c d : Table) → Worked B t c d
    → (k l : ℕ) → 1 ≤ k → k ≤ t → k ≤ l → l ≤ B.trains → d k l ≤ (sum (B.leaving k) from l to B.trains) * latest
row_le B run t c d W k l pos h a b =
    omega (
      arith,
      W.last k,
      falls_within l (B.trains + 1) cost (d k) (omega arith) (λ s u v. keep s (omega arith) (omega arith)),
      over_le l (B.trains + 1) cost (λ s. B.leaving k s * latest) (omega arith)
          (λ s u v. mul-le-mul (le_refl (B.leaving k s)) (arrival_on_le _ B.running run k s (omega arith))),
      over_scale l (B.trains + 1) (B.leaving k) latest (omega arith),
      ap (λ (x : ℕ). x * latest) (sum_over (B.leaving k) l B.trains),
    )
  where
    cost : ℕ → ℕ
    cost s = B.leaving k s * arrival_on B.running k s

    keep : (s : ℕ) → k ≤ s → s ≤ B.trains → d k s ≤ B.leaving k s * arrival_on B.running k s + d k (s + 1)
    keep s u v = le_trans (le_of_eq (W.anew k s pos h u v)) (unfold keep_cost in cell_by_le_keep B d k s)

module _ (B : Book) (range : BookInRange B) (k : ℕ) (pos : 1 ≤ k) where
  -- all who leave from l on
  leavers_le : (l : ℕ) → k ≤ l → l ≤ B.trains → sum (B.leaving k) from l to B.trains ≤ everyone
  leavers_le l a b =
      omega (
        arith,
        range.leaving k pos (omega arith),
        sum_over (B.leaving k) k B.trains,
        sum_over (B.leaving k) l B.trains,
        over_split k l (B.trains + 1) (B.leaving k) a (omega arith),
      )

  pub leaving_le : (l : ℕ) → k ≤ l → l ≤ B.trains → B.leaving k l ≤ everyone
  leaving_le l a b =
      omega (
        arith,
        leavers_le l a b,
        sum_over (B.leaving k) l B.trains,
        over_first l (B.trains + 1) (B.leaving k) (omega arith),
      )

  -- every worked cell
  pub cell_le : (t : ℕ) (c d : Table) → Worked B t c d → k ≤ t → (l : ℕ) → k ≤ l → l ≤ B.trains
      → d k l ≤ limit
  cell_le t c d W h l a b = omega (arith, row_le B range.running t c d W k l pos h a b, leavers_le l a b)

  -- the two choices, over the cells on which they rest
  pub keep_le : (c : Table) (l : ℕ) → k ≤ l → l ≤ B.trains → keep_cost B c k l ≤ limit + c k (l + 1)
  unfolding keep_cost
  keep_le c l a b = omega (arith, mul-le-mul (leaving_le l a b) (arrival_on_le _ _ range.running k l b))

  pub go_le : (c : Table) (l : ℕ) → k < l → l ≤ B.trains → go_cost B c k l ≤ 1440 * everyone + c l l
  unfolding go_cost
  go_le c l a b = omega (arith, mul-le-mul (range.period l (omega arith) b) (range.aboard k l pos a b))

leavers_alike : (A B : Book) → BooksAlike 1 A B → (k : ℕ) → 1 ≤ k
    → sum (A.leaving k) from k to A.trains ≡ sum (B.leaving k) from k to B.trains
leavers_alike A B alike k a =
    sum_over (A.leaving k) k A.trains
    ∙ over_same k (A.trains + 1) _ _ (λ l u v. alike.leaving k l a u (omega arith))
    ∙ ap (λ (n : ℕ). over k (n + 1) (B.leaving k)) alike.trains
    ∙ sym (sum_over (B.leaving k) k B.trains)

-- the ranges are asked of the trains in use alone
pub range_alike : (A B : Book) → BooksAlike 1 A B → BookInRange A → BookInRange B
range_alike A B alike range =
    record {
      running = record {
        trains = le_trans (le_of_eq (sym alike.trains)) range.running.trains;
        arrive = λ i x a b. same (alike.running.arrive i x a (within b)) (range.running.arrive i x a (within b));
      };
      period = λ s a b. same (alike.period s a (within b)) (range.period s a (within b));
      leaving = λ k a b. same (leavers_alike A B alike k a) (range.leaving k a (within b));
      aboard = λ k l a b u. same (alike.aboard k l a b (within u)) (range.aboard k l a b (within u));
    }
  where
    same : {x y most : ℕ} → x ≡ y → x ≤ most → y ≤ most
    same e h = le_trans (le_of_eq (sym e)) h

    within : {i : ℕ} → i ≤ B.trains → i ≤ A.trains
    within b = le_trans b (le_of_eq (sym alike.trains))
