-- A source delay replaced: an accepted sheet has room for it, and the times with the new delay are those of the
-- sheet as it then stands, so that what is settled on it is settled for that sheet's line.
-- Assumes nothing.
use Rattle.std.proofs.Common.{refl, ◌≡◌, ◌∙◌, List, ℕ, ◌+◌, ◌-◌, ◌*◌, ◌≤◌, arith, lit≤, length}
use Rattle.line.specs.Cells.{book_of}
use Rattle.sheet.specs.Format.{trains_of}
use Rattle.sheet.specs.Numbers.{numbers_of}
use Rattle.sheet.specs.Accepted.{InRange, AcceptedSheet, SameNumbers, with_delay, DelayReplaced}
use Rattle.sheet.proofs.Lengths.{layout, bytes_bits, train_within}
use Rattle.sheet.proofs.Meaning.{same_sym}
use Rattle.sheet.proofs.Amend.{replaced_numbers, replaced_accepted}
use Rattle.cells.specs.declared.timing.Timing.{Timing}
use Rattle.cells.specs.Timing.{source_in, with_source}
use Rattle.cells.proofs.Times.{source_here}
use Rattle.cells.specs.Book.{book_in, BookGiven}
use Rattle.prepare.specs.LineOf.{line_of}
use Rattle.prepare.specs.Prepared.{TimingOf, SumsOf}
use Rattle.prepare.proofs.Holding.{timing_after_delay, sums_with_delay, timing_of_same, sums_of_same}
use Rattle.planner.specs.Buffers.{Buffers}
use Rattle.planner.specs.Settled.{Settled}
use Rattle.planner.specs.Workable.{DelayRoom}
use Rattle.planner.proofs.Taken.{taken_given, settled_for}

module _ (s : List ℕ) (i v : ℕ) (ok : AcceptedSheet s) (least : 1 ≤ i) (most : i ≤ trains_of s) (small : v ≤ 1440) where
  pub delay_room : DelayRoom s i v
  delay_room =
      let bits = bytes_bits (trains_of s) in
      let room : 18 + 33 * trains_of s ≤ 8 * length s = omega (arith, ok.long, layout (trains_of s)) in
      record {
        least = least;
        within = train_within s (trains_of s) 40 11 (i - 1) room ok.numbers.trains_most (lit≤ tt) (lit≤ tt)
            (omega arith);
        small = small;
      }

  -- the sheet is t then; m, times and sums are those of s
  module _ (t : List ℕ) (put : DelayReplaced s i v t) (m : ℕ) (timing timed : Timing) (sums : List ℕ)
      (replaced : timed ≡ with_source timing i v) (here : source_in timed i ≡ v) (trains : m ≡ trains_of s)
      (times : TimingOf (numbers_of s) timing) (leavers : SumsOf (numbers_of s) sums) where
    same : SameNumbers (with_delay (numbers_of s) i v) (numbers_of t)
    same = same_sym _ _ (replaced_numbers s t i v ok least most put)

    in_range : InRange (numbers_of t)
    in_range = (replaced_accepted s t i v ok least most put small).numbers

    new_times : TimingOf (numbers_of t) timed
    new_times =
        timing_of_same _ _ same _ (timing_after_delay (numbers_of s) i v timing timed least replaced here times)

    same_leavers : SumsOf (numbers_of t) sums
    same_leavers = sums_of_same _ _ same sums (sums_with_delay (numbers_of s) i v sums leavers)

    pub replaced_given : BookGiven m timed sums
    replaced_given = taken_given (numbers_of t) m _ sums in_range (trains ∙ same.trains) new_times same_leavers

    pub timed_settled : (before after : Buffers) (n : ℕ)
        → Settled (book_in m timed sums) i before after n
        → Settled (book_of (line_of (numbers_of t))) i before after n
    timed_settled =
        settled_for (numbers_of t) m _ sums in_range (trains ∙ same.trains) new_times same_leavers i

  -- times that have a place for each of 64 trains have the new delay in its place
  pub replaced_settled : (t : List ℕ) → DelayReplaced s i v t → (m : ℕ) (timing : Timing) (sums : List ℕ)
      → length timing.trains ≡ 64 → m ≡ trains_of s → TimingOf (numbers_of s) timing → SumsOf (numbers_of s) sums
      → (before after : Buffers) (n : ℕ) → Settled (book_in m (with_source timing i v) sums) i before after n
      → Settled (book_of (line_of (numbers_of t))) i before after n
  replaced_settled t put m timing sums long =
      timed_settled t put m timing _ sums refl (source_here timing i v least (omega (arith, ok.numbers.trains_most)))
