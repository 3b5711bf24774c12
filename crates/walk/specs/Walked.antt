-- What is read off cells as they stand. Document 01, "Four operations", report: decisions follow from train 2 by
-- comparing the two choices in the cells (keep when equal), and delays by following them; the rest 0.
--   Walked B c ds ys     ds are the decision bytes and ys the delays that are read off the table c
-- Assumes nothing.
use Rattle.std.specs.Prelude.{◌≡◌, List, ℕ}
use Rattle.lists.specs.Run.{padded}
use Rattle.line.specs.Policy.{arrival}
use Rattle.line.specs.Cells.{Table, Book, decide}
use Rattle.cells.specs.Shown.{shown}

pub record Walked (B : Book) (c : Table) (ds ys : List ℕ) : Type 0 where
  pub decisions : ds ≡ shown B.trains (decide B c)
  pub delays : ys ≡ padded 64 B.trains (arrival B.running (decide B c))
