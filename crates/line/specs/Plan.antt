-- The plan. Document 01, "Following a policy", from the total on.
--   FirstDifference m p q t   t is the first train at which p and q differ
--   IsPlan L p                p is the plan of L
-- Assumes nothing.
use Rattle.std.specs.Prelude.{ℕ, ◌≤◌, ◌<◌, ◌≡◌}
use Rattle.line.specs.Line.{Line}
use Rattle.line.specs.Policy.{Policy, Keep, total}

-- Compare from train 2 upward: t is the first of trains 2 to m at which p and q differ.
pub record FirstDifference (m : ℕ) (p q : Policy) (t : ℕ) : Type 0 where
  pub from_two : 2 ≤ t
  pub in_line : t ≤ m
  pub alike : (i : ℕ) → 2 ≤ i → i < t → p i ≡ q i
  pub differ : ¬ (p t ≡ q t)

-- The plan is the policy of least total. Among those of equal total, at the first difference the plan has keep.
pub record IsPlan (L : Line) (p : Policy) : Type 0 where
  pub least : (q : Policy) → total L p ≤ total L q
  pub tie : (q : Policy) → total L q ≡ total L p → (t : ℕ) → FirstDifference L.trains p q t → p t ≡ Keep
