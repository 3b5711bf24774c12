-- `sums::Sums::boarders` meets its contract. Invariant: the entries before i are held.
use Rattle.std.proofs.Common.{◌≡◌, length}
use Rattle.lists.proofs.Held.{Held}
use Rattle.cells.specs.Sums.{boarded_in}
use Rattle.cells.proofs.sums.Sums.boarders.Given as goal

abbrev pub invariant-loop-i : goal.invariant-loop-i
invariant-loop-i l = (length l.boarding ≡ 64) × Held l.boarding (λ t. boarded_in l.self.m l.self.list.now t t) 1 l.i
