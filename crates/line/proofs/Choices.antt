-- The two choices of a cell, and the cell on which a run begins.
-- Assumes nothing.
use Rattle.std.proofs.Common.{◌≡◌, refl, sym, ◌∙◌, inl, inr, ℕ, zero, suc, ◌≤◌, ◌<◌, le_refl, arith}
use Rattle.lists.proofs.Choice.{below_yes, below_no}
use Rattle.std.proofs.lemmas.Bool.{cases_lt}
use Rattle.line.specs.Policy.{Keep, Go}
use Rattle.line.specs.Cells.{Table, Book, excess_on, keep_cost, go_cost, lesser, cell_by, Worked, prefer, choice}
use Rattle.line.proofs.Following.{keep_not_go}
use Rattle.line.proofs.Along.{excess_on_start}

-- ---- the lesser choice and the preferred one

module _ (x y : ℕ) where
  lesser_le_keep : (e : ℕ) → lesser e x y ≤ x
  lesser_le_keep zero = omega arith
  lesser_le_keep (suc e) = omega arith

  lesser_le_go : (e : ℕ) → 0 < e → lesser e x y ≤ y
  lesser_le_go zero l = absurd (omega arith)
  lesser_le_go (suc e) l = omega arith

  -- where keep costs no more it is preferred, also when the two are equal
  pub prefer_of_keep_le : (e : ℕ) → x ≤ y → prefer e x y ≡ Keep
  prefer_of_keep_le zero b = refl
  prefer_of_keep_le (suc e) b = below_no Go Keep b

  prefer_keep : (e : ℕ) → prefer e x y ≡ Keep → lesser e x y ≡ x
  prefer_keep zero h = refl
  prefer_keep (suc e) h = elim (cases_lt y x) [
    | inl l ↦ keep_not_go (sym h ∙ below_yes Go Keep l)
    | inr l ↦ omega arith
  ]

  prefer_go : (e : ℕ) → prefer e x y ≡ Go → (lesser e x y ≡ y) × (y < x) × (0 < e)
  prefer_go zero h = keep_not_go h
  prefer_go (suc e) h = elim (cases_lt y x) [
    | inl l ↦ (omega arith, l, omega arith)
    | inr l ↦ keep_not_go (sym (below_no Go Keep l) ∙ h)
  ]

  -- by the tests of code
  pub lesser_of_go_less : (e : ℕ) → 0 < e → y < x → y ≡ lesser e x y
  lesser_of_go_less zero a b = absurd (omega arith)
  lesser_of_go_less (suc e) a b = omega arith

  pub lesser_of_keep_le : (e : ℕ) → x ≤ y → x ≡ lesser e x y
  lesser_of_keep_le zero b = refl
  lesser_of_keep_le (suc e) b = omega arith

  pub prefer_of_go_less : (e : ℕ) → 0 < e → y < x → prefer e x y ≡ Go
  prefer_of_go_less zero a b = absurd (omega arith)
  prefer_of_go_less (suc e) a b = below_yes Go Keep b

module _ (B : Book) (c : Table) (k l : ℕ) where
  pub cell_by_le_keep : cell_by B c k l ≤ keep_cost B c k l
  unfolding cell_by
  cell_by_le_keep = lesser_le_keep (keep_cost B c k l) (go_cost B c k l) (excess_on B.running k l)

  pub cell_by_le_go : 0 < excess_on B.running k l → cell_by B c k l ≤ go_cost B c k l
  unfolding cell_by
  cell_by_le_go = lesser_le_go (keep_cost B c k l) (go_cost B c k l) (excess_on B.running k l)

  -- Where the excess is 0 only keep is a choice.
  pub choice_no_excess : excess_on B.running k l ≡ 0 → choice B c k l ≡ Keep
  unfolding choice
  choice_no_excess e = rw e

  -- where keep is chosen the cell is what keep costs,
  pub choice_keep : choice B c k l ≡ Keep → cell_by B c k l ≡ keep_cost B c k l
  unfolding choice cell_by
  choice_keep = prefer_keep (keep_cost B c k l) (go_cost B c k l) (excess_on B.running k l)

  -- and where go is, what go costs, which is less, and there is an excess
  pub choice_go : choice B c k l ≡ Go
      → (cell_by B c k l ≡ go_cost B c k l) × (go_cost B c k l < keep_cost B c k l) × (0 < excess_on B.running k l)
  unfolding choice cell_by
  choice_go = prefer_go (keep_cost B c k l) (go_cost B c k l) (excess_on B.running k l)

-- where a run begins only keep is a choice
pub choice_start : (B : Book) (c : Table) (k l : ℕ) → l ≤ k → choice B c k l ≡ Keep
choice_start B c k l h = choice_no_excess B c k l (excess_on_start B.running k l h)

pub cell_start : (B : Book) (t : ℕ) (c d : Table) → Worked B t c d → (l : ℕ) → 1 ≤ l → l ≤ t → l ≤ B.trains
    → d l l ≡ keep_cost B d l l
cell_start B t c d W l a b u =
    W.anew l l a b (le_refl l) u ∙ choice_keep B d l l (choice_start B d l l (le_refl l))
