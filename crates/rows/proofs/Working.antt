-- Rows worked one after the other, from a train down to 1: a row is a part of the cells of its own, put back where it
-- was taken, and every later row stands.
--   WorkedTo B t before cells diagonal i   rows i + 1 to t are worked, all else is as it was before
-- Assumes nothing.
use Rattle.std.proofs.Common.{◌≡◌, refl, ap, sym, ◌∙◌, List, ◌++◌, inl, inr, ℕ, ◌+◌, ◌-◌, ◌*◌, ◌≤◌, ◌<◌, le_refl}
use Rattle.std.proofs.Common.{le_of_eq, eq-or-lt_of_le, arith, length, get_or, set, take, drop, replicate, length-set}
use Rattle.std.proofs.Math.ListN.{get_or-eq_default}
use Rattle.lists.specs.Run.{nth}
use Rattle.std.proofs.lemmas.Bool.{cases_lt, cases_eq}
use Rattle.lists.proofs.Splice.{splice, length_splice, splice_before, splice_in, splice_after}
use Rattle.lists.proofs.Fill.{zeros_at}
use Rattle.lists.proofs.Held.{nth_set, nth_set_other}
use Rattle.line.specs.Cells.{Table, Book, excess_on, keep_cost, go_cost, lesser, cell_by}
use Rattle.line.specs.Ranges.{limit}
use Rattle.line.proofs.Along.{excess_on_start}
use Rattle.line.proofs.Alike.{cell_by_alike, books_alike_refl}
use Rattle.cells.specs.Place.{cell_count, place, table_of, InRow, InUse, RowsWorked}
use Rattle.cells.specs.Book.{book_in, BookGiven}
use Rattle.cells.specs.declared.timing.Timing.{Timing}
use Rattle.cells.specs.declared.costs.Costs.{Costs}
use Rattle.cells.specs.Costs.{CostsAlong}
use Rattle.cells.proofs.Places.{place_row, place_after, row_fits, table_in, table_past}
use Rattle.cells.proofs.Along.{keep_le, go_le}
use Rattle.rows.specs.Rows.{Diagonal, ceiling, RowRoom, RowFilled, RowWorked}

-- ---- a row put back

module _ (m k : ℕ) (cells row : List ℕ) (long : length cells ≡ cell_count) (few : m ≤ 64) (pos : 1 ≤ k) (last : k ≤ m)
    (size : length row ≡ m + 1 - k) where
  abbrev put : List ℕ
  put = splice cells (place m k k) row

  fits : place m k k + length row ≤ length cells
  fits = omega (arith, row_fits m k pos last few)

  pub put_long : length put ≡ length cells
  put_long = length_splice cells (place m k k) row fits

  -- its cells, and 0 past the last column
  pub put_row : (l : ℕ) → k ≤ l → l ≤ m + 1 → table_of m put k l ≡ get_or row (l - k) 0
  put_row l a b = elim (cases_lt m l) [
    | inl past ↦ table_past m put k l past ∙ sym (get_or-eq_default row 0 (omega arith))
    | inr in_use ↦
        table_in m put k l in_use
        ∙ ap (λ (p : ℕ). get_or put p 0) (place_row m k l pos a in_use few)
        ∙ splice_in cells (place m k k) row fits (l - k) 0 (omega arith)
  ]

  -- a place that is no cell of the row stands
  pub put_others : (p : ℕ) → ¬ (InRow m k p) → get_or put p 0 ≡ get_or cells p 0
  put_others p n = elim (cases_lt p (place m k k)) [
    | inl before ↦ splice_before cells (place m k k) row fits p 0 before
    | inr from ↦ elim (cases_lt p (place m k k + length row)) [
      | inl inside ↦ absurd (n (record {
        column = k + (p - place m k k);
        run = omega arith;
        last = omega arith;
        stands = omega (arith, place_row m k (k + (p - place m k k)) pos (omega arith) (omega arith) few);
      }))
      | inr after ↦ splice_after cells (place m k k) row fits p 0 after
    ]
  ]

-- ---- one row

module _ (m k : ℕ) (timing : Timing) (sums : List ℕ) (costs : Costs) (diagonal part cells row : List ℕ)
    (long : length cells ≡ cell_count) (few : m ≤ 64) (pos : 1 ≤ k) (last : k ≤ m) (size : length row ≡ m + 1 - k)
    (A : CostsAlong (book_in m timing sums) k costs)
    (F : RowFilled k costs diagonal part row) where
  abbrev book : Book
  book = book_in m timing sums

  abbrev after : List ℕ
  after = splice cells (place m k k) row

  abbrev table : Table
  table = table_of m after

  here : (l : ℕ) → k ≤ l → l ≤ m + 1 → table k l ≡ get_or row (l - k) 0
  here = put_row m k cells row long few pos last size

  -- a cell of the row by the cell after it
  row_cell : (l : ℕ) → k ≤ l → l ≤ m
      → table k l ≡ lesser (excess_on book.running k l) (keep_cost book table k l)
      (book.period l * book.aboard k l + nth diagonal l)
  unfolding keep_cost
  row_cell l a b =
      let C = A.each l a b in
      let at : k + (l - k) ≡ l = omega arith in
      let after : l - k + 1 ≡ l + 1 - k = omega arith in
      here l a (omega arith)
      ∙ (rw (at, after, C.excess, C.keep, C.go, sym (here (l + 1) (omega arith) (omega arith))) at
      (F.cells (l - k) (omega arith)))

  first_is : get_or after (place m k k) 0 ≡ table k k
  first_is = sym (table_in m after k k last)

  row_worked : RowWorked book k diagonal cells after (get_or after (place m k k) 0)
  row_worked =
      let none : k - k ≡ 0 = omega arith in
      record {
        long = put_long m k cells row long few pos last size;
        cells = row_cell;
        first = first_is;
        most = rw (first_is, here k (le_refl k) (omega arith), none) F.most;
        others = put_others m k cells row long few pos last size;
      }

  -- as the part from place p on comes back
  pub row_put_back : (p : ℕ) → p ≡ place m k k →
      let back = take p cells ++ (row ++ drop (p + (m + 1 - k) - p) (drop p cells)) in
      RowWorked book k diagonal cells back (get_or back p 0)
  row_put_back p e =
      let all : p + (m + 1 - k) - p ≡ length row = omega arith in
      rw (all, e) row_worked

-- ---- rows from t down

pub record WorkedTo (B : Book) (t : ℕ) (before cells diagonal : List ℕ) (i : ℕ) : Type 0 where
  pub most : i ≤ t
  pub long : length cells ≡ length before
  pub long_diagonal : length diagonal ≡ 64
  pub ahead : (l : ℕ) → i < l → l ≤ B.trains → nth diagonal l ≡ table_of B.trains cells l l
  pub small : (l : ℕ) → 1 ≤ l → l ≤ B.trains → nth diagonal l ≤ ceiling
  pub anew : (k l : ℕ) → i < k → k ≤ t → k ≤ l → l ≤ B.trains
      → table_of B.trains cells k l ≡ cell_by B (table_of B.trains cells) k l
  pub stand : (k l : ℕ) → t < k → k ≤ l → l ≤ B.trains
      → table_of B.trains cells k l ≡ table_of B.trains before k l
  pub others : (p : ℕ) → ¬ (InUse B.trains t p) → get_or cells p 0 ≡ get_or before p 0

pub worked_start : (B : Book) (t : ℕ) (cells diagonal : List ℕ) → length diagonal ≡ 64
    → Diagonal B.trains t cells (replicate 64 0) diagonal
    → ((l : ℕ) → t < l → l ≤ B.trains → table_of B.trains cells l l ≤ limit) → WorkedTo B t cells cells diagonal t
worked_start B t cells diagonal long D later =
    record {
      most = le_refl t;
      long = refl;
      long_diagonal = long;
      ahead = D.held;
      small = λ l a b. elim (cases_lt t l) [
        | inl u ↦ omega (arith, D.held l u b, later l u b)
        | inr u ↦ omega (arith, D.rest l a u, zeros_at 64 (l - 1))
      ];
      anew = λ k l a b u v. absurd (omega arith);
      stand = λ k l a b u. refl;
      others = λ p n. refl;
    }

module _ (B : Book) (t i : ℕ) (before cells diagonal after : List ℕ) (x : ℕ)
    (W : WorkedTo B t before cells diagonal i) (few : B.trains ≤ 64) (pos : 1 ≤ i) (last : t ≤ B.trains)
    (R : RowWorked B i diagonal cells after x) where
  abbrev c : Table
  c = table_of B.trains cells

  abbrev d : Table
  d = table_of B.trains after

  inside : i ≤ B.trains
  inside = omega (arith, W.most)

  -- a later row stands
  later : (j l : ℕ) → i < j → j ≤ l → d j l ≡ c j l
  later j l a b = elim (cases_lt B.trains l) [
    | inl past ↦ table_past B.trains after j l past ∙ sym (table_past B.trains cells j l past)
    | inr in_use ↦
        table_in B.trains after j l in_use
        ∙ R.others (place B.trains j l) (λ u.
        omega (arith, u.stands, place_after B.trains i u.column pos u.run u.last few j l a b))
        ∙ sym (table_in B.trains cells j l in_use)
  ]

  this_row : (l : ℕ) → i ≤ l → l ≤ B.trains → d i l ≡ cell_by B d i l
  unfolding cell_by
  this_row l a b = elim (eq-or-lt_of_le a) [
    | inl e ↦ R.cells l a b ∙ rw (excess_on_start B.running i l (le_of_eq (sym e))) refl
    | inr u ↦ R.cells l a b ∙ unfold go_cost in rw (W.ahead l u b, sym (later l l u (le_refl l))) refl
  ]

  -- it rests on later rows alone
  later_row : (k l : ℕ) → i < k → k ≤ t → k ≤ l → l ≤ B.trains → d k l ≡ cell_by B d k l
  later_row k l a b u v =
      later k l a u ∙ W.anew k l a b u v
      ∙ cell_by_alike k B B (omega arith) (books_alike_refl k B) c d l u v
      (sym (later k (l + 1) a (omega arith))) (λ w. sym (later l l (omega arith) (le_refl l)))

  pub worked_back : (at : ℕ) → at ≡ i - 1 → WorkedTo B t before after (set diagonal at x) (i - 1)
  worked_back at e =
      let here = nth_set diagonal at i x e pos (omega (arith, W.long_diagonal)) in
      record {
        most = omega (arith, W.most);
        long = R.long ∙ W.long;
        long_diagonal = length-set diagonal at x ∙ W.long_diagonal;
        ahead = λ l a b. elim (cases_eq l i) [
          | inl same ↦ rw same (here ∙ R.first)
          | inr not ↦ nth_set_other diagonal at i x e pos l (omega arith) not ∙ W.ahead l (omega arith) b
              ∙ sym (later l l (omega arith) (le_refl l))
        ];
        small = λ l a b. elim (cases_eq l i) [
          | inl same ↦ rw (same, here) R.most
          | inr not ↦ rw (nth_set_other diagonal at i x e pos l a not) (W.small l a b)
        ];
        anew = λ k l a b u v. elim (cases_eq k i) [
          | inl same ↦ rw same (this_row l (omega arith) v)
          | inr not ↦ later_row k l (omega arith) b u v
        ];
        stand = λ k l a u v. later k l (omega (arith, W.most)) u ∙ W.stand k l a u v;
        others = λ p n.
            R.others p (λ u. n (record { row = i; least = pos; most = W.most; cell = u })) ∙ W.others p n;
      }

pub worked_end : (B : Book) (t : ℕ) (before cells diagonal : List ℕ) (i : ℕ) → WorkedTo B t before cells diagonal i
    → i ≡ 0 → RowsWorked B t before cells
worked_end B t before cells diagonal i W e =
    record {
      long = W.long;
      worked = record {
        last = λ k. table_past B.trains cells k (B.trains + 1) (omega arith);
        anew = λ k l a b u v. W.anew k l (omega arith) b u v;
        stand = W.stand;
      };
      others = W.others;
    }

-- ---- a row can be added up

pub row_room : (m k : ℕ) (timing : Timing) (sums : List ℕ) (costs : Costs) (diagonal : List ℕ) (n : ℕ)
    → BookGiven m timing sums → 1 ≤ k → k ≤ m → CostsAlong (book_in m timing sums) k costs
    → ((l : ℕ) → 1 ≤ l → l ≤ m → nth diagonal l ≤ ceiling) → n ≡ m + 1 - k → RowRoom k n costs diagonal
row_room m k timing sums costs diagonal n given pos last A small size =
    record {
      first = pos;
      last = omega (arith, given.times.trains);
      small = λ l a b. (
        keep_le m k timing sums costs given pos A l a (omega arith),
        go_le m k timing sums costs given pos A l a (omega arith),
        small l (omega arith) (omega arith),
      );
    }
