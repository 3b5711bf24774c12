-- Induction over the numbers from a to b, downward and upward.
-- Assumes nothing.
use Rattle.std.proofs.Common.{◌≡◌, subst, ℕ, zero, suc, ◌+◌, ◌-◌, ◌≤◌, ◌<◌, arith}

module _ (P : ℕ → Type 0) (a b : ℕ) where
  down_by : ((i : ℕ) → a ≤ i → i < b → P (i + 1) → P i) → P b → (n i : ℕ) → a ≤ i → i + n ≡ b → P i
  down_by step end zero i l e = let same : b ≡ i = omega arith in subst P same end
  down_by step end (suc n) i l e = step i l (omega arith) (down_by step end n (i + 1) (omega arith) (omega arith))

  -- what holds at b, and at i if at i + 1, holds at a
  pub down : a ≤ b → P b → ((i : ℕ) → a ≤ i → i < b → P (i + 1) → P i) → P a
  down l end step = down_by step end (b - a) a (omega arith) (omega arith)

  up_by : ((i : ℕ) → a ≤ i → i < b → P i → P (i + 1)) → P a → (n i : ℕ) → i ≡ a + n → i ≤ b → P i
  up_by step begin zero i e l = let same : a ≡ i = omega arith in subst P same begin
  up_by step begin (suc n) i e l =
      let next : a + n + 1 ≡ i = omega arith in
      subst P next (step (a + n) (omega arith) (omega arith) (up_by step begin n (a + n) (omega arith) (omega arith)))

  -- what holds at a, and at i + 1 if at i, holds at b
  pub up : a ≤ b → P a → ((i : ℕ) → a ≤ i → i < b → P i → P (i + 1)) → P b
  up l begin step = up_by step begin (b - a) b (omega arith) (omega arith)
