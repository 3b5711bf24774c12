-- Cells within the limit: the checks find nothing exactly where every cell in use of the later rows is, and what they
-- find otherwise is the first row that is not.
-- Assumes nothing.
use Rattle.std.proofs.Common.{◌≡◌, refl, ap, sym, ◌∙◌, true, List, inl, inr, ℕ, ◌+◌, ◌-◌, ◌≤◌, ◌<◌, arith}
use Rattle.terms.specs.declared.ReportFault.TheVariants.{CellOverLimit}
use Rattle.terms.specs.declared.Refusal.{Refusal}
use Rattle.terms.specs.declared.Refusal.TheVariants.{OfReport}
use Rattle.std.specs.Prelude.{Err}
use Rattle.terms.specs.Verdict.{Fine}
use Rattle.terms.specs.Refusal.{train, blanks_of}
use Rattle.terms.proofs.Checks.{fine_or_refused, passed_of_fine, fine_of_passed, first_fine, fine_first}
use Rattle.terms.proofs.Checks.{first_refused}
use Rattle.terms.proofs.Refusing.{only_of, only_first}
use Rattle.line.specs.Ranges.{limit}
use Rattle.cells.specs.Place.{table_of}
use Rattle.cells.specs.Limits.{LaterInRange, cell_verdict, row_verdict, later_verdict, FirstOver}

module _ (m i : ℕ) (cells : List ℕ) where
  cell_in_range : (k l : ℕ) → cell_verdict m cells k l ≡ Fine → table_of m cells k l ≤ limit
  unfolding cell_verdict
  cell_in_range k l e = (passed_of_fine _ e).0

  fine_cell : (k l : ℕ) → table_of m cells k l ≤ limit → cell_verdict m cells k l ≡ Fine
  unfolding cell_verdict
  fine_cell k l small = fine_of_passed _ (small, tt)

  pub later_of_fine : later_verdict m cells i ≡ Fine → LaterInRange m i cells
  unfolding later_verdict row_verdict
  later_of_fine e k l a b c =
      let row = first_fine (row_verdict m cells) _ _ e k (omega arith) (omega arith) in
      cell_in_range k l (first_fine (cell_verdict m cells k) _ _ row l b (omega arith))

  pub fine_of_later : LaterInRange m i cells → later_verdict m cells i ≡ Fine
  unfolding later_verdict row_verdict
  fine_of_later h =
      fine_first (row_verdict m cells) _ _ (λ k a b.
      fine_first (cell_verdict m cells k) _ _ (λ l c d. fine_cell k l (h k l (omega arith) c (omega arith))))

  -- whatever a row is refused for is that row
  row_refusal : (k : ℕ) (r : Refusal) → row_verdict m cells k ≡ Err r → OfReport (CellOverLimit (train k)) ≡ r
  unfolding row_verdict cell_verdict
  row_refusal k = only_first _ _ _ _ (λ l. only_of _ _ (inr refl, tt))

  row_over : (k l : ℕ) → k ≤ l → l ≤ m → limit < table_of m cells k l
      → row_verdict m cells k ≡ Err (OfReport (CellOverLimit (train k)))
  unfolding row_verdict
  row_over k l a b over = elim (fine_or_refused (row_verdict m cells k)) [
    | inl fine ↦
        absurd (omega (arith, over, cell_in_range k l (first_fine (cell_verdict m cells k) _ _ fine l a (omega arith))))
    | inr (r, e) ↦ e ∙ ap Err (sym (row_refusal k r e))
  ]

  pub later_over : (k : ℕ) → FirstOver m i cells k
      → later_verdict m cells i ≡ Err (OfReport (CellOverLimit (train k)))
  unfolding later_verdict row_verdict
  later_over k h =
      first_refused (row_verdict m cells) (i + 1) (m - i) k _ (omega (arith, h.after))
      (omega (arith, h.after, h.in_row, h.last))
      (λ j a b. fine_first (cell_verdict m cells j) _ _ (λ l c d.
      fine_cell j l (h.first j l (omega arith) b c (omega arith))))
      (row_over k h.column h.in_row h.last h.over)

  pub later_blanks : (r : Refusal) → later_verdict m cells i ≡ Err r → blanks_of r ≡ true
  unfolding later_verdict row_verdict cell_verdict
  later_blanks = only_first _ _ _ _ (λ k. only_first _ _ _ _ (λ l. only_of _ _ (inr refl, tt)))

-- a cell over the limit refuses its row
pub row_refused : (m : ℕ) (cells : List ℕ) (k l : ℕ) → limit < table_of m cells k l → k ≤ l → l ≤ m
    → row_verdict m cells k ≡ Err (OfReport (CellOverLimit (train k)))
row_refused m cells k l over a b = row_over m 0 cells k l a b over
