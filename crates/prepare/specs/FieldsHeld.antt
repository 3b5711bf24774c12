-- The passengers by pair that the fields of the code hold. Document 01, "The line and its numbers".
--   pairs_held f i j   those who board at i and leave at j
-- Assumes nothing.
use Rattle.std.specs.Prelude.{ℕ}
use Rattle.prepare.specs.declared.fields.Fields.{Fields}
use Rattle.prepare.specs.Preparing.{pair_in}

abbrev pub pairs_held : Fields → ℕ → ℕ → ℕ
pairs_held f = pair_in f.m f.passengers.now
