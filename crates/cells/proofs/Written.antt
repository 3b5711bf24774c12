-- Rows worked: working leaves one list of cells, and books alike leave the same.
-- Assumes nothing.
use Rattle.std.proofs.Common.{◌≡◌, refl, ap, sym, subst, ◌∙◌, List, inl, inr, ℕ, ◌≤◌, arith, get_or, ext_get_or}
use Rattle.line.specs.Cells.{Book, Worked}
use Rattle.line.specs.Alike.{BooksAlike}
use Rattle.line.proofs.Tables.{worked_for_alike, worked_one}
use Rattle.cells.specs.Place.{table_of, InUse, RowsWorked}
use Rattle.cells.proofs.Places.{in_use_or_not, table_in}

-- two lists that keep the promise are equal
module _ (B : Book) (t : ℕ) (before after after' : List ℕ) (few : B.trains ≤ 64)
    (W : RowsWorked B t before after) (W' : RowsWorked B t before after') where
  in_use_one : (p : ℕ) → InUse B.trains t p → get_or after p 0 ≡ get_or after' p 0
  in_use_one p u =
      let m = B.trains in
      let l = u.cell.column in
      let same = worked_one B t _ _ _ _ W.worked W'.worked (λ k l a b c. refl)
      u.row l u.least u.cell.run (omega (arith, u.cell.last)) in
      ap (λ (q : ℕ). get_or after q 0) u.cell.stands
      ∙ sym (table_in m after u.row l u.cell.last) ∙ same
      ∙ table_in m after' u.row l u.cell.last
      ∙ ap (λ (q : ℕ). get_or after' q 0) (sym u.cell.stands)

  pub rows_worked_one : after ≡ after'
  rows_worked_one =
      ext_get_or 0 after after' (W.long ∙ sym W'.long)
      (λ p b. elim (in_use_or_not B.trains t p few) [
        | inl u ↦ in_use_one p u
        | inr u ↦ W.others p u ∙ sym (W'.others p u)
      ])

-- worked by a book, worked by one alike
pub rows_worked_alike : (A B : Book) (t : ℕ) (before after : List ℕ) → BooksAlike 1 A B → RowsWorked A t before after
    → RowsWorked B t before after
rows_worked_alike A B t before after alike W =
    record {
      long = W.long;
      worked = subst (λ (m : ℕ). Worked B t (table_of m before) (table_of m after)) alike.trains
          (worked_for_alike t A B _ _ alike W.worked);
      others = λ p. subst (λ (m : ℕ). ¬ (InUse m t p) → get_or after p 0 ≡ get_or before p 0) alike.trains (W.others p);
    }
