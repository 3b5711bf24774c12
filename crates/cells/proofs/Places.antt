-- Laws of where cells stand: within what is lent, row after row, a row without gaps, no two in one place; of the table
-- of a list of cells; and of where sums stand. Nothing else reads the definitions of the two places but the proofs of
-- the functions that work them out.
-- Assumes nothing.
use Rattle.std.proofs.Common.{◌≡◌, List, ◌⊎◌, inl, inr, ℕ, ◌+◌, ◌-◌, ◌/◌, ◌%◌, ◌≤◌, ◌<◌, arith, get_or}
use Rattle.lists.proofs.Choice.{below_yes, below_no}
use Rattle.std.proofs.lemmas.Bool.{cases_lt}
use Rattle.cells.specs.Place.{cell_count, place, table_of, InUse}
use Rattle.cells.specs.Sums.{place_of_sum}

-- ---- places

module _ (m k l : ℕ) (first : 1 ≤ k) (run : k ≤ l) (last : l ≤ m) (most : m ≤ 64) where
  pub place_lt : place m k l < cell_count
  unfolding place
  place_lt = omega arith

  pub place_row : place m k l ≡ place m k k + (l - k)
  unfolding place
  place_row = omega arith

  -- a later row stands after this one
  pub place_after : (j i : ℕ) → k < j → j ≤ i → place m k l < place m j i
  unfolding place
  place_after j i a b = omega arith

-- two cells that share a place are one
pub place_one : (m k l j i : ℕ) → m ≤ 64 → 1 ≤ k → k ≤ l → l ≤ m → 1 ≤ j → j ≤ i → i ≤ m → place m k l ≡ place m j i
    → (k ≡ j) × (l ≡ i)
unfolding place
place_one m k l j i few a b c u v w e = (omega arith, omega arith)

-- a whole row is lent
pub row_fits : (m k : ℕ) → 1 ≤ k → k ≤ m → m ≤ 64 → place m k k + (m + 1 - k) ≤ cell_count
unfolding place
row_fits m k first last most = omega arith

-- ---- places in use

-- within 64 columns no two cells share a place
module _ (m t p : ℕ) (few : m ≤ 64) where
  in_use_row : (u : InUse m t p) → u.row ≡ p / 64 + 1
  unfolding place
  in_use_row u = omega (arith, u.cell.stands, u.least, u.cell.run, u.cell.last)

  in_use_column : (u : InUse m t p) → u.cell.column ≡ p % 64 + 1
  unfolding place
  in_use_column u = omega (arith, u.cell.stands, u.least, u.cell.run, u.cell.last)

  in_use_here : p / 64 + 1 ≤ t → p / 64 + 1 ≤ p % 64 + 1 → p % 64 + 1 ≤ m → InUse m t p
  unfolding place
  in_use_here a b c =
      record {
        row = p / 64 + 1;
        least = omega arith;
        most = a;
        cell = record { column = p % 64 + 1; run = b; last = c; stands = omega arith };
      }

  pub in_use_or_not : InUse m t p ⊎ ¬ (InUse m t p)
  in_use_or_not = elim (cases_lt t (p / 64 + 1)) [
    | inl a ↦ inr (λ u. omega (arith, in_use_row u, u.most))
    | inr a ↦ elim (cases_lt (p % 64 + 1) (p / 64 + 1)) [
      | inl b ↦ inr (λ u. omega (arith, in_use_row u, in_use_column u, u.cell.run))
      | inr b ↦ elim (cases_lt m (p % 64 + 1)) [
        | inl c ↦ inr (λ u. omega (arith, in_use_column u, u.cell.last))
        | inr c ↦ inl (in_use_here a b c)
      ]
    ]
  ]

-- ---- the table

module _ (m : ℕ) (cells : List ℕ) (k l : ℕ) where
  pub table_in : l ≤ m → table_of m cells k l ≡ get_or cells (place m k l) 0
  unfolding table_of
  table_in h = below_no _ _ h

  -- past the last column stands no cell
  pub table_past : m < l → table_of m cells k l ≡ 0
  unfolding table_of
  table_past h = below_yes _ _ h

-- ---- places of sums

-- two sums that share a place are of one train and of one station; no station is 0
pub place_of_sum_one : (k l i t : ℕ) → 1 ≤ l → l ≤ 64 → 1 ≤ t → t ≤ 64 → place_of_sum k l ≡ place_of_sum i t
    → (k - 1 ≡ i - 1) × (l ≡ t)
unfolding place_of_sum
place_of_sum_one k l i t a b u v e = (omega arith, omega arith)

-- ---- what the function that reads a cell rests on

pub ruleset reading = (place_lt, table_in, table_past)
