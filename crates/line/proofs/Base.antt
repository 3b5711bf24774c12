-- The base, document 01's own line: its slack, its arrivals, what its passengers count, its ranges, and which such
-- lines are alike.
-- Assumes nothing.
use Rattle.std.proofs.Common.{◌≡◌, refl, ap, ℕ, ◌+◌, ◌-◌, ◌≤◌, ◌<◌, arith}
use Rattle.std.specs.Prelude.{if◌then◌else◌}
use Rattle.line.specs.Line.{Line, line_from}
use Rattle.line.specs.Policy.{Policy, arrival, departure, Day, dropped, counts}
use Rattle.line.specs.Alike.{LinesAlike}
use Rattle.line.specs.Ranges.{LineInRange}
use Rattle.line.proofs.Passengers.{counts_one_period}
use Rattle.line.proofs.Following.{arrival_departed}

module _ (m T : ℕ) (planned driving source : ℕ → ℕ) (passengers : ℕ → ℕ → ℕ) where
  abbrev line : Line
  line = line_from m T planned driving source passengers

  -- The slack at station i, where it is 0 or more.
  pub base_slack : (i : ℕ) → planned (i - 1) + driving (i - 1) ≤ planned i
      → planned i ≡ planned (i - 1) + driving (i - 1) + line.running.slack i
  unfolding line_from
  base_slack i l = omega arith

  -- A train arrives with its departure delay plus its source delay.
  pub base_arrival : (p : Policy) (i : ℕ) → 1 ≤ i
      → arrival line.running p i ≡ departure line.running p i + source i
  unfolding line_from
  base_arrival p i pos = arrival_departed line.running p i pos

  -- Each passenger of a dropped pair counts T, each other the arrival delay of train j - 1.
  pub base_counts : (D : Day) (i j : ℕ) → i < j → counts line D i j ≡ (if dropped D i j then T else D.arrival (j - 1))
  unfolding line_from
  base_counts D i j l =
      let e : j - 1 + 1 ≡ j = omega arith in
      rw e at (counts_one_period line D T i (j - 1) (omega arith) (λ s a b. refl))

  pub base_in_range : m ≤ 64 → T ≤ 1440 → ((i : ℕ) → 1 ≤ i → i ≤ m → source i ≤ 1440)
      → ((i j : ℕ) → 1 ≤ i → i < j → j ≤ m + 1 → passengers i j ≤ 10000) → LineInRange line
  unfolding line_from
  base_in_range few short late many =
      record {
        running = record { trains = few; arrive = λ i x a b. omega (arith, late i a b) };
        period = λ s a b. short;
        passengers = many;
      }

-- Lines whose numbers are the same from train k on are alike from there. After a report of train t they are from t + 1.
pub base_alike : (k m T : ℕ) (planned planned' driving driving' source source' : ℕ → ℕ) (n n' : ℕ → ℕ → ℕ) → 1 ≤ k
    → ((i : ℕ) → k ≤ i → i ≤ m → planned i ≡ planned' i)
    → ((i : ℕ) → k ≤ i → i ≤ m → driving i ≡ driving' i)
    → ((i : ℕ) → k ≤ i → i ≤ m → source i ≡ source' i)
    → ((i j : ℕ) → k ≤ i → i < j → j ≤ m + 1 → n i j ≡ n' i j)
    → LinesAlike k (line_from m T planned driving source n) (line_from m T planned' driving' source' n')
unfolding line_from
base_alike k m T planned planned' driving driving' source source' n n' pos e f g h =
    record {
      trains = refl;
      running = record {
        slack = λ s a b.
            rw (e s (omega arith) b, e (s - 1) (omega arith) (omega arith), f (s - 1) (omega arith) (omega arith));
        arrive = λ i x a b. ap (λ (y : ℕ). x + y) (g i a b);
      };
      period = λ s a b. refl;
      passengers = h;
    }
