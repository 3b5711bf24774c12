-- Decisions as bytes. Document 01, "Following a policy", and "Four operations".
--   byte_of d     keep is 1, go is 0
--   shown m p     the 64 decision bytes of the policy p on a line of m trains
--   policy_in b   the policy that the decision bytes b show
-- Assumes nothing.
use Rattle.std.specs.Prelude.{ℕ, List}
use Rattle.lists.specs.Choice.{if_below, if_same}
use Rattle.lists.specs.Run.{nth, padded}
use Rattle.line.specs.Policy.{Decision, Keep, Go, Policy}

abbrev pub byte_of : Decision → ℕ
byte_of Keep = 1
byte_of Go = 0

-- Decision byte 1 is 0, bytes 2 to m the policy, the rest 0.
unfoldable pub shown : ℕ → Policy → List ℕ
shown m p = padded 64 m (λ i. if_below 1 i (byte_of (p i)) 0)

-- byte i, from 1: 1 is keep, anything else go
unfoldable pub policy_in : List ℕ → Policy
policy_in bytes i = if_same (nth bytes i) 1 Keep Go
