-- Tables written out as rows. Rows that are what the rule makes of themselves are worked.
--   rows_of m c   the cells in use of the table c for m trains, row by row
-- Assumes nothing.
use Rattle.std.proofs.Common.{◌≡◌, refl, ap, sym, ◌∙◌, List, [], ◌∷◌, map, inl, inr, ℕ, zero, suc, ◌+◌, ◌-◌, ◌≤◌, arith}
use Rattle.std.proofs.Common.{length, get_or}
use lib.ListN.{get_or-eq_default}
use Rattle.lists.specs.Choice.{if_below}
use Rattle.lists.specs.Run.{run_of, listed, nth}
use Rattle.lists.proofs.Choice.{below_yes, below_no}
use Rattle.std.proofs.lemmas.Bool.{cases_lt}
use Rattle.lists.proofs.Run.{run_same, listed_length, listed_at}
use Rattle.line.specs.Cells.{Table, Book, cell_by, Worked}
use Rattle.line.specs.Answers.{Rows, table_from}

abbrev row_of : ℕ → Table → ℕ → List ℕ
row_of m c k = listed (c k) k (m + 1 - k)

unfoldable pub rows_of : ℕ → Table → Rows
rows_of m c = listed (row_of m c) 1 m

map_listed : {A B : Type 0} (f : A → B) (g : ℕ → A) (i n : ℕ) → map f (listed g i n) ≡ listed (λ j. f (g j)) i n
unfolding listed run_of
map_listed f g i zero = refl
map_listed f g i (suc n) = ap (λ xs. f (g i) ∷ xs) (map_listed f g (i + 1) n)

module _ (m : ℕ) (c : Table) where
  rows_in_use : map length (rows_of m c) ≡ listed (λ k. m + 1 - k) 1 m
  unfolding rows_of
  rows_in_use =
      map_listed length (row_of m c) 1 m
      ∙ (unfold listed in run_same ◌∷◌ [] _ _ 1 m (λ k u v. listed_length (c k) k (m + 1 - k)))

  row_at : (k : ℕ) → 1 ≤ k → k ≤ m → get_or (rows_of m c) (k - 1) [] ≡ row_of m c k
  unfolding rows_of
  row_at k a b =
      let here : 1 + (k - 1) ≡ k = omega arith in
      listed_at (row_of m c) [] 1 m (k - 1) (omega arith) ∙ ap (row_of m c) here

  table_at : (k l : ℕ) → 1 ≤ k → k ≤ l → l ≤ m → table_from (rows_of m c) k l ≡ c k l
  table_at k l a b u =
      let here : k + (l - k + 1 - 1) ≡ l = omega arith in
      ap (λ (row : List ℕ). nth row (l - k + 1)) (row_at k a (omega arith))
      ∙ listed_at (c k) 0 k (m + 1 - k) (l - k + 1 - 1) (omega arith) ∙ ap (c k) here

  -- no row has an entry for l = m + 1
  row_short : (k : ℕ) → length (get_or (rows_of m c) (k - 1) []) ≤ m + 1 - k + 1 - 1
  unfolding rows_of
  row_short k = elim (cases_lt (k - 1) m) [
    | inl u ↦ rw (listed_at (row_of m c) [] 1 m (k - 1) u, listed_length (c (1 + (k - 1)))) (omega arith)
    | inr u ↦
        let past : length (rows_of m c) ≤ k - 1 = omega (arith, listed_length (row_of m c) 1 m) in
        rw (get_or-eq_default (rows_of m c) [] past) (omega arith)
  ]

  table_last : (k : ℕ) → table_from (rows_of m c) k (m + 1) ≡ 0
  table_last k = get_or-eq_default (get_or (rows_of m c) (k - 1) []) 0 (row_short k)

-- what the rule makes of rows, from row 1 to row t, over rows that stood before
abbrev pub reworked : Book → ℕ → Rows → Rows → Rows
reworked B t before rows =
    rows_of B.trains (λ k l. if_below t k (table_from before k l) (cell_by B (table_from rows) k l))

module _ (B : Book) (t : ℕ) (before rows : Rows) (same : reworked B t before rows ≡ rows) where
  pub reworked_in_use : map length rows ≡ listed (λ k. B.trains + 1 - k) 1 B.trains
  reworked_in_use = ap (map length) (sym same) ∙ rows_in_use B.trains _

  cell_at : (k l : ℕ) → 1 ≤ k → k ≤ l → l ≤ B.trains
      → table_from rows k l ≡ if_below t k (table_from before k l) (cell_by B (table_from rows) k l)
  cell_at k l a b u = ap (λ (r : Rows). table_from r k l) (sym same) ∙ table_at B.trains _ k l a b u

  pub reworked_worked : Worked B t (table_from before) (table_from rows)
  reworked_worked =
      record {
        last = λ k. ap (λ (r : Rows). table_from r k (B.trains + 1)) (sym same) ∙ table_last B.trains _ k;
        anew = λ k l pos u a b. cell_at k l pos a b ∙ below_no _ _ u;
        stand = λ k l u a b. cell_at k l (omega arith) a b ∙ below_yes _ _ u;
      }
