-- From a sheet whose checks passed to what is settled on its times and sums: they make the book of the sheet's line, so
-- that what is settled on them is settled for that line.
-- Assumes nothing.
use Rattle.std.proofs.Common.{◌≡◌, refl, ap, sym, subst, ◌∙◌, List, ℕ}
use Rattle.std.specs.Prelude.{Ok}
use Rattle.terms.specs.Verdict.{Verdict, Fine, ◌and_then◌}
use Rattle.reader.specs.Reading.{Reading}
use Rattle.line.specs.Cells.{book_of}
use Rattle.sheet.specs.Format.{trains_of, period_of}
use Rattle.sheet.specs.Numbers.{Numbers}
use Rattle.sheet.specs.Accepted.{InRange}
use Rattle.terms.specs.declared.Head.{Head}
use Rattle.reader.proofs.ReadingOf.{accepted_reading}
use Rattle.cells.specs.declared.timing.Timing.{Timing}
use Rattle.cells.specs.Book.{book_in, BookGiven}
use Rattle.prepare.specs.LineOf.{line_of}
use Rattle.prepare.specs.Prepared.{TimingOf, SumsOf, Prepared}
use Rattle.prepare.proofs.Prepares.{prepared_same}
use Rattle.prepare.proofs.Joining.{book_given, books_alike}
use Rattle.planner.specs.Buffers.{Buffers}
use Rattle.planner.specs.Settled.{Settled}
use Rattle.planner.proofs.Settles.{settled_alike}

-- checks that begin with an equal verdict
pub after_same : (w : Verdict) {v v' : Verdict} {s : List ℕ} {timing : Timing} {sums : List ℕ} {r : Reading} → v ≡ v'
    → Prepared (v and_then w) s timing sums r → Prepared (v' and_then w) s timing sums r
after_same w e h = prepared_same (ap (λ (x : Verdict). x and_then w) e) refl h

module _ {checks : Verdict} {s : List ℕ} {timing : Timing} {sums : List ℕ}
    {r : Reading} {h : Head} (told : Prepared checks s timing sums r)
    (answer : r ≡ Ok h) where
  passed : (checks ≡ Fine) × (h.trains ≡ trains_of s) × (h.period ≡ period_of s)
  passed = accepted_reading checks _ _ (sym answer ∙ told.answer)

  pub taken_fine : checks ≡ Fine
  taken_fine = passed.0

  pub taken_trains : h.trains ≡ trains_of s
  taken_trains = passed.1

module _ (N : Numbers) (m : ℕ) (timing : Timing) (sums : List ℕ) (range : InRange N) (trains : m ≡ N.trains)
    (times : TimingOf N timing) (leavers : SumsOf N sums) where
  pub taken_given : BookGiven m timing sums
  taken_given = rw trains (book_given N range timing sums times leavers)

  pub settled_for : (t : ℕ) (before after : Buffers) (n : ℕ) → Settled (book_in m timing sums) t before after n
      → Settled (book_of (line_of N)) t before after n
  settled_for t before after n settled =
      settled_alike _ _ t before after n (books_alike N range timing sums times leavers)
      (subst (λ (k : ℕ). Settled (book_in k timing sums) t before after n) trains settled)
