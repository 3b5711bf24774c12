-- Laws of the sums: those who board at station k or later and leave train l, or it or a later one, and those aboard.
-- Assumes nothing.
use Rattle.std.proofs.Common.{◌≡◌, ◌∙◌, List, ℕ, ◌+◌, ◌-◌, ◌≤◌, ◌<◌, arith}
use Rattle.line.specs.Ranges.{everyone}
use Rattle.line.proofs.Sums.{over, sum_over, over_none, over_first, over_split, over_same, over_add}
use Rattle.cells.specs.Sums.{leaving_in, boarded_in, aboard_in, SumsGiven}

module _ (m : ℕ) (sums : List ℕ) where
  boarded_over : (k l : ℕ) → boarded_in m sums k l ≡ over l (m + 1) (leaving_in sums k)
  unfolding boarded_in
  boarded_over k l = sum_over (leaving_in sums k) l m

  pub boarded_none : (k l : ℕ) → m < l → boarded_in m sums k l ≡ 0
  boarded_none k l h = boarded_over k l ∙ over_none l (m + 1) (leaving_in sums k) (omega arith)

  pub boarded_first : (k l : ℕ) → l ≤ m → boarded_in m sums k l ≡ leaving_in sums k l + boarded_in m sums k (l + 1)
  boarded_first k l h =
      omega (arith, boarded_over k l, boarded_over k (l + 1), over_first l (m + 1) (leaving_in sums k) (omega arith))

module _ (m : ℕ) (sums : List ℕ) (given : SumsGiven m sums) (k l : ℕ) (pos : 1 ≤ k) (run : k ≤ l) (last : l ≤ m) where
  pub boarded_le : boarded_in m sums k l ≤ everyone
  boarded_le =
      omega (
        arith,
        given.most k pos (omega arith),
        boarded_over m sums k k,
        boarded_over m sums k l,
        over_split k l (m + 1) (leaving_in sums k) run (omega arith),
      )

  pub leaving_le : leaving_in sums k l ≤ everyone
  leaving_le = omega (arith, boarded_le, boarded_first m sums k l last)

  -- of those who board at k or later and leave after l, some are aboard at l and the others board there or later
  pub boarded_aboard : boarded_in m sums k l ≡ aboard_in m sums k l + boarded_in m sums l l
  unfolding aboard_in
  boarded_aboard =
      boarded_over m sums k l
      ∙ over_same l (m + 1) _ _ (λ t u v. omega (arith, given.falls k l t pos run u (omega arith)))
      ∙ over_add l (m + 1) (λ t. leaving_in sums k t - leaving_in sums l t) (leaving_in sums l) (omega arith)
      ∙ rw (boarded_over m sums l l, sum_over (λ t. leaving_in sums k t - leaving_in sums l t) l m)

  pub aboard_le : aboard_in m sums k l ≤ everyone
  aboard_le = omega (arith, boarded_aboard, boarded_le)

-- ---- what the loop that counts those who board rests on

pub ruleset counting = (boarded_none, boarded_first, boarded_le)
