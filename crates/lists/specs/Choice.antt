-- One of two values, by a test.
-- Assumes nothing.
use Rattle.std.specs.Prelude.{ℕ, ltb, eqb, if◌then◌else◌}

-- x where a is less than b, else y
unfoldable pub if_below : {A : Type 0} → ℕ → ℕ → A → A → A
if_below a b x y = if ltb a b then x else y

-- x where a equals b, else y
unfoldable pub if_same : {A : Type 0} → ℕ → ℕ → A → A → A
if_same a b x y = if eqb a b then x else y
