-- The last bits of the value stand, and `rest` holds the others.
use Rattle.std.proofs.Common.{◌≡◌, List, ℕ, ◌+◌, ◌-◌, ◌/◌, ◌%◌, ◌^◌}
use Rattle.bits.specs.Field.{Put}
use Rattle.bits.proofs.put.Given as goal

-- `left` of the w bits of v are still to be put, and rest holds them; the others stand
pub record Putting (s : List ℕ) (at w v left rest : ℕ) (t : List ℕ) : Type 0 where
  pub holds : rest ≡ v / 2 ^ (w - left)
  pub done : Put s (at + left) (w - left) (v % 2 ^ (w - left)) t

abbrev pub invariant-loop-k : goal.invariant-loop-k
invariant-loop-k l = Putting l.initial.bytes l.at l.width l.value l.k l.rest l.bytes
