-- The lists that hold a line's times and sums are what cells are worked from: their numbers are in range, and the book
-- that they make is alike to that of the line.
-- Assumes nothing.
use Rattle.std.proofs.Common.{◌≡◌, refl, ap, ap₂, sym, ◌∙◌, List, ℕ, ◌+◌, ◌-◌, ◌≤◌, ◌<◌, le_trans, le_of_eq, arith}
use Rattle.line.specs.Line.{line_from}
use Rattle.line.specs.Cells.{leaving, book_of}
use Rattle.line.specs.Alike.{BooksAlike}
use Rattle.line.specs.Ranges.{everyone}
use Rattle.line.proofs.Sums.{sum_over, over_split, over_same}
use Rattle.line.proofs.Passengers.{leaving_over, aboard_leaving}
use Rattle.line.proofs.Totals.{range_of_line}
use Rattle.sheet.specs.Numbers.{Numbers}
use Rattle.sheet.specs.Accepted.{InRange}
use Rattle.cells.specs.declared.timing.Timing.{Timing}
use Rattle.cells.specs.Sums.{leaving_in, boarded_in, aboard_in, SumsGiven}
use Rattle.cells.specs.Book.{book_in, BookGiven}
use Rattle.prepare.specs.LineOf.{line_of}
use Rattle.prepare.specs.Prepared.{TimingOf, SumsOf}
use Rattle.prepare.proofs.Lines.{line_in_range}

module _ (N : Numbers) (range : InRange N) (timing : Timing) (sums : List ℕ) (times : TimingOf N timing)
    (leavers : SumsOf N sums) where
  -- those who leave, by the line
  leaving_same : (k l : ℕ) → 1 ≤ k → k ≤ l → l ≤ N.trains → leaving_in sums k l ≡ leaving (line_of N) k l
  unfolding leaving line_of line_from
  leaving_same = leavers.leaving

  -- all of them are at most everyone
  boarded_le : (k : ℕ) → 1 ≤ k → k ≤ N.trains → boarded_in N.trains sums k k ≤ everyone
  unfolding boarded_in line_of line_from
  boarded_le k a b =
      le_trans
      (le_of_eq
      (sum_over (leaving_in sums k) k N.trains
      ∙ over_same k (N.trains + 1) _ _ (λ t u v. leaving_same k t a u (omega arith))
      ∙ sym (sum_over (leaving (line_of N) k) k N.trains)))
      ((range_of_line (line_of N) (line_in_range N range)).leaving k a b)

  -- from a later station on no more board
  sums_given : SumsGiven N.trains sums
  sums_given =
      record {
        trains = range.trains_most;
        most = boarded_le;
        falls = λ k l t a b c d.
            omega (
              arith,
              leaving_same k t a (omega arith) d,
              leaving_same l t (omega arith) c d,
              leaving_over (line_of N) k t,
              leaving_over (line_of N) l t,
              over_split k l (t + 1) (λ i. (line_of N).passengers i (t + 1)) b (omega arith),
            );
      }

  -- those aboard, by the line
  aboard_same : (k l : ℕ) → 1 ≤ k → k < l → l ≤ N.trains
      → aboard_in N.trains sums k l ≡ (book_of (line_of N)).aboard k l
  unfolding aboard_in line_of line_from
  aboard_same k l a b c =
      sum_over (λ t. leaving_in sums k t - leaving_in sums l t) l N.trains
      ∙ over_same l (N.trains + 1) _ _ (λ t u v.
      ap₂ (λ (x y : ℕ). x - y) (leaving_same k t a (omega arith) (omega arith))
      (leaving_same l t (omega arith) u (omega arith)))
      ∙ sym (sum_over (λ t. leaving (line_of N) k t - leaving (line_of N) l t) l N.trains)
      ∙ sym (aboard_leaving (line_of N) k l (omega arith) (omega arith))

  -- in range
  pub book_given : BookGiven N.trains timing sums
  book_given =
      record {
        some = range.trains_least;
        times = record {
          trains = range.trains_most;
          source = λ i a b. le_trans (le_of_eq (times.source i a b)) (range.train i a b).delay;
          period = λ s a b. le_trans (le_of_eq (times.period s a b)) range.period_most;
        };
        leavers = sums_given;
      }

  -- and alike
  pub books_alike : BooksAlike 1 (book_in N.trains timing sums) (book_of (line_of N))
  unfolding line_of line_from
  books_alike =
      record {
        trains = refl;
        running = record {
          slack = times.slack;
          arrive = λ i x a b. ap (λ (y : ℕ). x + y) (times.source i a b);
        };
        period = λ s a b. times.period s (omega arith) b;
        leaving = leaving_same;
        aboard = aboard_same;
      }
