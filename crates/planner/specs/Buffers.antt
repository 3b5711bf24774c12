-- The lent buffers of plan and report, and what a refusal leaves of them. Document 01, "Four operations" and "Numbers
-- of refusal".
--   Buffers                     the working cells, the decision bytes and the delays, as they are lent or left
--   buffers c d y               these three lists as one
--   RightLengths b              they have the lengths that document 01 states
--   buffers_verdict b           refused, with 10, where they have not; buffer_lengths_verdict by their lengths
--   Blanked before after        the decisions and the delays are blank, the cells as they were
--   RefusedFor r before after   what the refusal r leaves
-- Assumes nothing.
use Rattle.std.specs.Prelude.{ℕ, ◌≡◌, true, false, List, [], ◌∷◌, length, replicate}
use Rattle.terms.specs.declared.ListFault.TheVariants.{BufferLength}
use Rattle.terms.specs.declared.Refusal.{Refusal}
use Rattle.terms.specs.declared.Refusal.TheVariants.{OfList}
use Rattle.terms.specs.Verdict.{Verdict, refuse◌unless◌is◌, verdict_of}
use Rattle.terms.specs.Refusal.{blanks_of}
use Rattle.cells.specs.Place.{cell_count}

pub record Buffers : Type 0 where
  pub cells : List ℕ
  pub decisions : List ℕ
  pub delays : List ℕ

abbrev pub buffers : List ℕ → List ℕ → List ℕ → Buffers
buffers c d y = record { cells = c; decisions = d; delays = y }

-- 4,096 working cells, 64 decision bytes, 64 delays
pub record RightLengths (b : Buffers) : Type 0 where
  pub cells : length b.cells ≡ cell_count
  pub decisions : length b.decisions ≡ 64
  pub delays : length b.delays ≡ 64

unfoldable pub buffer_lengths_verdict : ℕ → ℕ → ℕ → Verdict
buffer_lengths_verdict cells decisions delays =
    verdict_of (
    (refuse (OfList BufferLength) unless cells is cell_count)
    ∷ (refuse (OfList BufferLength) unless decisions is 64)
    ∷ (refuse (OfList BufferLength) unless delays is 64)
    ∷ [])

abbrev pub buffers_verdict : Buffers → Verdict
buffers_verdict b = buffer_lengths_verdict (length b.cells) (length b.decisions) (length b.delays)

-- all 64 decision bytes are 2 and all delays 0; the cells are unchanged
pub record Blanked (before after : Buffers) : Type 0 where
  pub decisions : after.decisions ≡ replicate 64 2
  pub delays : after.delays ≡ replicate 64 0
  pub cells : after.cells ≡ before.cells

-- Refusal 10 writes nothing. Any other blanks.
pub record RefusedFor (r : Refusal) (before after : Buffers) : Type 0 where
  pub blanked : blanks_of r ≡ true → Blanked before after
  pub kept : blanks_of r ≡ false → after ≡ before
