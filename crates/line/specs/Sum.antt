-- Sums of numbers.
--   sum f from a to b   f a + f (a + 1) + .. + f b; 0 where b is less than a
-- Assumes nothing.
use Rattle.std.specs.Prelude.{ℕ, ◌+◌, ◌-◌}
use Rattle.lists.specs.Run.{run_of}

infix 60 sum◌from◌to◌
unfoldable pub sum◌from◌to◌ : (ℕ → ℕ) → ℕ → ℕ → ℕ
sum f from a to b = run_of ◌+◌ 0 f a (b + 1 - a)
