-- The number so far is the field of the bits passed.
use Rattle.std.proofs.Common.{◌≡◌}
use Rattle.bits.specs.Field.{field_of}
use Rattle.bits.proofs.field.Given as goal

abbrev pub invariant-loop-k : goal.invariant-loop-k
invariant-loop-k l = l.number ≡ field_of l.bytes l.at l.k
