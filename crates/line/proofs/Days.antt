-- Two days alike, and what they are read from: the trains in use alone.
-- Assumes nothing.
use Rattle.std.proofs.Common.{◌≡◌, refl, ap, ap₂, sym, subst, ◌∙◌, ℕ, ◌+◌, ◌-◌, ◌*◌, ◌≤◌, ◌<◌, arith}
use Rattle.lists.proofs.Induction.{down, up}
use Rattle.line.specs.Line.{Running, Line}
use Rattle.line.specs.Policy.{Policy, arrival, excess, departure, missed, Day, day_of, counts, pairs_total, total}
use Rattle.line.specs.Alike.{RunningAlike, DaysAlike, LinesAlike}
use Rattle.line.proofs.Sums.{over, over_same}
use Rattle.line.proofs.Passengers.{counts_last, counts_next, pairs_over}
use Rattle.line.proofs.Following.{first_on_time, arrival_departed, excess_next}

-- ---- what passengers read of a day

module _ (k : ℕ) (L M : Line) (D E : Day) (lines : LinesAlike k L M) (days : DaysAlike k L.trains D E) where
  counts_alike : (i t : ℕ) → k ≤ i → i ≤ t → t ≤ L.trains → counts L D i (t + 1) ≡ counts M E i (t + 1)
  counts_alike i t a b u =
      down (λ (h : ℕ). counts L D h (t + 1) ≡ counts M E h (t + 1)) i t b
      (counts_last L D t ∙ days.arrival t (omega arith) u ∙ sym (counts_last M E t))
      (λ h c d e.
      counts_next L D h t d
      ∙ (rw (
        days.missed (h + 1) (omega arith) (omega arith),
        lines.period (h + 1) (omega arith) (omega arith),
        e,
      ))
      ∙ sym (counts_next M E h t d))

  -- those who board at k or later: trains k to m alone
  pub pairs_alike : (l : ℕ) → k ≤ l → pairs_total L D k l ≡ pairs_total M E k l
  pairs_alike l a =
      pairs_over L D k l
      ∙ over_same l (L.trains + 1) _ _
      (λ t b c. over_same k (t + 1) _ _
      (λ i d e.
      ap₂ ◌*◌ (lines.passengers i (t + 1) d e (omega arith)) (counts_alike i t d (omega arith) (omega arith))))
      ∙ ap
      (λ (m : ℕ). over l (m + 1) (λ t. over k (t + 1) (λ i. M.passengers i (t + 1) * counts M E i (t + 1))))
      lines.trains
      ∙ sym (pairs_over M E k l)

-- ---- days under policies

-- Two lines alike from train k on and two policies under which it departs alike: as long as each later train that finds
-- the same excess departs alike, so does the next one, and all of them arrive alike.
module _ (k m : ℕ) (R S : Running) (p q : Policy) (pos : 1 ≤ k) (run : RunningAlike k m R S)
    (begin : departure R p k ≡ departure S q k) where
  -- up to train n
  abbrev DepartsAlike : ℕ → Type 0
  DepartsAlike n = (s : ℕ) → k < s → s ≤ n → excess R p s ≡ excess S q s → departure R p s ≡ departure S q s

  arrival_of_departure : (i : ℕ) → k ≤ i → i ≤ m → departure R p i ≡ departure S q i → arrival R p i ≡ arrival S q i
  arrival_of_departure i a b e =
      arrival_departed R p i (omega arith) ∙ run.arrive i _ a b ∙ ap (S.arrive i) e
      ∙ sym (arrival_departed S q i (omega arith))

  excess_of_departure : (i : ℕ) → k ≤ i → i < m → departure R p i ≡ departure S q i
      → excess R p (i + 1) ≡ excess S q (i + 1)
  excess_of_departure i a b e =
      excess_next R p i
      ∙ ap₂ ◌-◌ (arrival_of_departure i a (omega arith) e) (run.slack (i + 1) (omega arith) (omega arith))
      ∙ sym (excess_next S q i)

  pub departures_alike : (n : ℕ) → k ≤ n → n ≤ m → DepartsAlike n → departure R p n ≡ departure S q n
  departures_alike n a b step =
      up (λ (i : ℕ). departure R p i ≡ departure S q i) k n a begin
      (λ i c d e. step (i + 1) (omega arith) (omega arith) (excess_of_departure i c (omega arith) e))

  pub arrivals_alike : (n : ℕ) → k ≤ n → n ≤ m → DepartsAlike n → arrival R p n ≡ arrival S q n
  arrivals_alike n a b step = arrival_of_departure n a b (departures_alike n a b step)

  pub excesses_alike : (n s : ℕ) → k ≤ n → n < m → n + 1 ≡ s → DepartsAlike n → excess R p s ≡ excess S q s
  excesses_alike n s a b e step =
      subst (λ (j : ℕ). excess R p j ≡ excess S q j) e
      (excess_of_departure n a b (departures_alike n a (omega arith) step))

  -- where at the same excess the same is missed too, the days are alike
  pub days_alike : DepartsAlike m
      → ((s : ℕ) → k < s → s ≤ m → excess R p s ≡ excess S q s → missed R p s ≡ missed S q s)
      → DaysAlike k m (day_of R p) (day_of S q)
  days_alike departs misses =
      record {
        arrival = λ i a b. arrivals_alike i a b (λ s c d. departs s c (omega arith));
        missed = λ s a b.
            misses s a b
            (excesses_alike (s - 1) s (omega arith) (omega arith) (omega arith) (λ r c d. departs r c (omega arith)));
      }

-- under policies alike after train k the days are alike
pub policies_alike : (k m : ℕ) (R S : Running) (p q : Policy) → 1 ≤ k → RunningAlike k m R S
    → departure R p k ≡ departure S q k → ((s : ℕ) → k < s → s ≤ m → p s ≡ q s)
    → DaysAlike k m (day_of R p) (day_of S q)
unfolding departure missed
policies_alike k m R S p q pos run begin same =
    days_alike k m R S p q pos run begin (λ s a b e. rw (same s a b, e)) (λ s a b e. rw (same s a b, e))

pub run_alike_refl : (k m : ℕ) (R : Running) → RunningAlike k m R R
run_alike_refl k m R = record { slack = λ s a b. refl; arrive = λ i x a b. refl }

pub lines_alike_refl : (k : ℕ) (L : Line) → LinesAlike k L L
lines_alike_refl k L =
    record {
      trains = refl;
      running = run_alike_refl k L.trains L.running;
      period = λ s a b. refl;
      passengers = λ i j a b c. refl;
    }

pub lines_alike_trans : (k : ℕ) (L M N : Line) → LinesAlike k L M → LinesAlike k M N → LinesAlike k L N
lines_alike_trans k L M N x y =
    let most : (n : ℕ) → n ≤ L.trains → n ≤ M.trains = λ n b. omega (arith, x.trains) in
    record {
      trains = x.trains ∙ y.trains;
      running = record {
        slack = λ s a b. x.running.slack s a b ∙ y.running.slack s a (most s b);
        arrive = λ i d a b. x.running.arrive i d a b ∙ y.running.arrive i d a (most i b);
      };
      period = λ s a b. x.period s a b ∙ y.period s a (most s b);
      passengers = λ i j a b c. x.passengers i j a b c ∙ y.passengers i j a b (omega (arith, x.trains));
    }

-- Arrivals and the total read the trains in use alone: nothing of a line after its last train, no slack or period at
-- station 1, and a policy at trains 2 to m.
module _ (L M : Line) (p q : Policy) (lines : LinesAlike 1 L M)
    (same : (s : ℕ) → 2 ≤ s → s ≤ L.trains → p s ≡ q s) where
  pub same_days : DaysAlike 1 L.trains (day_of L.running p) (day_of M.running q)
  same_days =
      policies_alike 1 L.trains L.running M.running p q (omega arith) lines.running
      (first_on_time L.running p ∙ sym (first_on_time M.running q))
      (λ s a b. same s (omega arith) b)

  pub same_total : total L p ≡ total M q
  unfolding total
  same_total = pairs_alike 1 L M (day_of L.running p) (day_of M.running q) lines same_days 1 (omega arith)
