-- A list that a loop fills from its first place on.
-- Assumes nothing.
use Rattle.std.specs.Prelude.{ℕ, ◌≤◌, ◌<◌, ◌≡◌, List, length, get_or}

-- the first n places of new are f 0, f 1, ..; the others are those of old (d stands for what lies past the end)
pub record Filled {A : Type 0} (d : A) (f : ℕ → A) (n : ℕ) (old new : List A) : Type 0 where
  pub long : length new ≡ length old
  pub filled : (k : ℕ) → k < n → get_or new k d ≡ f k
  pub others : (k : ℕ) → n ≤ k → get_or new k d ≡ get_or old k d
