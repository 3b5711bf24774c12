-- Worked tables: there is one and no other, and one that is worked anew up to row t after a change of trains up to t is
-- the worked table of the changed line.
-- Assumes nothing.
use Rattle.std.proofs.Common.{◌≡◌, refl, ap, sym, ◌∙◌, inl, inr, ℕ, zero, suc, ◌+◌, ◌-◌, ◌*◌, ◌≤◌, ◌<◌, le_refl}
use Rattle.std.proofs.Common.{eq-or-lt_of_le, arith}
use Rattle.lists.specs.Choice.{if_below}
use Rattle.lists.proofs.Choice.{below_yes, below_no}
use Rattle.std.proofs.lemmas.Bool.{cases_lt}
use Rattle.lists.proofs.Induction.{down}
use Rattle.line.specs.Cells.{Table, Book, excess_on, arrival_on, keep_cost, go_cost, lesser, cell_by, Worked}
use Rattle.line.specs.Alike.{BooksAlike}
use Rattle.line.proofs.Along.{excess_on_start}
use Rattle.line.proofs.Alike.{books_alike_later, books_alike_refl, cell_by_alike}

-- worked by a book, worked by one alike
pub worked_for_alike : (t : ℕ) (A B : Book) (c d : Table) → BooksAlike 1 A B → Worked A t c d → Worked B t c d
worked_for_alike t A B c d alike W =
    record {
      last = λ k. ap (λ (m : ℕ). d k (m + 1)) (sym alike.trains) ∙ W.last k;
      anew = λ k l pos u a b.
          let b' : l ≤ A.trains = omega (arith, alike.trains) in
          W.anew k l pos u a b'
          ∙ cell_by_alike k A B pos (books_alike_later 1 k A B pos alike) d d l a b' refl (λ v. refl);
      stand = λ k l u a b. W.stand k l u a (omega (arith, alike.trains));
    }

-- ---- there is no other

module _ (B : Book) (t : ℕ) (c₁ c₂ d₁ d₂ : Table) (W₁ : Worked B t c₁ d₁) (W₂ : Worked B t c₂ d₂)
    (rows : (k l : ℕ) → t < k → k ≤ l → l ≤ B.trains → c₁ k l ≡ c₂ k l) where
  -- a cell, by the next in its row and the one on which the row of its column begins
  cell_same : (k l : ℕ) → 1 ≤ k → k ≤ l → l ≤ B.trains → d₁ k (l + 1) ≡ d₂ k (l + 1)
      → (k < l → d₁ l l ≡ d₂ l l) → d₁ k l ≡ d₂ k l
  cell_same k l pos a b next first = elim (cases_lt t k) [
    | inl u ↦ W₁.stand k l u a b ∙ rows k l u a b ∙ sym (W₂.stand k l u a b)
    | inr u ↦
        W₁.anew k l pos u a b
        ∙ cell_by_alike k B B pos (books_alike_refl k B) d₁ d₂ l a b next first
        ∙ sym (W₂.anew k l pos u a b)
  ]

  -- column by column, from the last
  pub worked_one : (k l : ℕ) → 1 ≤ k → k ≤ l → l ≤ B.trains + 1 → d₁ k l ≡ d₂ k l
  worked_one k l pos a b =
      down (λ (n : ℕ). (j : ℕ) → 1 ≤ j → j ≤ n → d₁ j n ≡ d₂ j n) l (B.trains + 1) b
      (λ j u v. W₁.last j ∙ sym (W₂.last j))
      (λ n u v column j x y.
      cell_same j n x y (omega arith) (column j x (omega arith))
      (λ z. cell_same n n (omega arith) (le_refl n) (omega arith) (column n (omega arith) (omega arith))
      (λ w. absurd (omega arith))))
      k pos a

-- ---- a report leaves what a plan would

module _ (t : ℕ) (A B : Book) (b c d : Table) (alike : BooksAlike (t + 1) A B)
    (old : Worked A A.trains b c) (new : Worked B t c d) where
  -- the cell after (k, l), in a later row
  next_stands : (k l : ℕ) → t < k → k ≤ l → l ≤ B.trains → c k (l + 1) ≡ d k (l + 1)
  next_stands k l u a v = elim (eq-or-lt_of_le v) [
    | inl e ↦
        let m : l ≡ A.trains = e ∙ sym alike.trains in
        ap (λ (n : ℕ). c k (n + 1)) m ∙ old.last k ∙ sym (ap (λ (n : ℕ). d k (n + 1)) e ∙ new.last k)
    | inr w ↦ sym (new.stand k (l + 1) u (omega arith) (omega arith))
  ]

  -- the later rows are worked already: they do not read trains up to t
  later_worked : (k l : ℕ) → 1 ≤ k → t < k → k ≤ l → l ≤ B.trains → d k l ≡ cell_by B d k l
  later_worked k l pos u a v =
      let v' : l ≤ A.trains = omega (arith, alike.trains) in
      new.stand k l u a v
      ∙ old.anew k l pos (omega arith) a v'
      ∙ cell_by_alike k A B pos (books_alike_later (t + 1) k A B (omega arith) alike) c d l a v'
      (next_stands k l u a v) (λ w. sym (new.stand l l (omega arith) (le_refl l) v))

  pub reworked_is_worked : (x : Table) → Worked B B.trains x d
  reworked_is_worked x =
      record {
        last = new.last;
        anew = λ k l pos u a v. elim (cases_lt t k) [
          | inr w ↦ new.anew k l pos w a v
          | inl w ↦ later_worked k l pos w a v
        ];
        stand = λ k l u a v. absurd (omega arith);
      }

-- ---- there is one

-- The worked table by columns from the last: column B t c n k is cell (k, m + 1 - n). A row that is worked anew begins
-- with keep.
unfoldable column : Book → ℕ → Table → ℕ → ℕ → ℕ
column B t c zero k = 0
column B t c (suc r) k =
    let l = B.trains - r in
    let keep : ℕ → ℕ = λ j. B.leaving j l * arrival_on B.running j l + column B t c r j in
    let first = if_below t l (c l l) (keep l) in
    if_below t k (c k l) (lesser (excess_on B.running k l) (keep k) (B.period l * B.aboard k l + first))

module _ (B : Book) (t : ℕ) (c : Table) where
  pub worked_table : Table
  worked_table k l = column B t c (B.trains + 1 - l) k

  abbrev keep : ℕ → ℕ → ℕ
  keep k l = keep_cost B worked_table k l

  -- the cell on which row l begins
  begin : ℕ → ℕ
  begin l = if_below t l (c l l) (keep l l)

  table_next : (k l : ℕ) → l ≤ B.trains → worked_table k l
      ≡ if_below t k (c k l) (lesser (excess_on B.running k l) (keep k l) (B.period l * B.aboard k l + begin l))
  unfolding column keep_cost worked_table begin
  table_next k l b =
      let left : B.trains + 1 - l ≡ suc (B.trains - l) = omega arith in
      let here : B.trains - (B.trains - l) ≡ l = omega arith in
      let after : B.trains + 1 - (l + 1) ≡ B.trains - l = omega arith in
      rw (left, here, after)

  begin_is : (l : ℕ) → l ≤ B.trains → begin l ≡ worked_table l l
  unfolding begin
  begin_is l b = elim (cases_lt t l) [
    | inl u ↦ rw (table_next l l b, below_yes (c l l) (keep l l) u) (sym (below_yes _ _ u))
    | inr u ↦ rw (table_next l l b, excess_on_start B.running l l (le_refl l), below_no (c l l) (keep l l) u)
  ]

  table_last : (k : ℕ) → worked_table k (B.trains + 1) ≡ 0
  unfolding worked_table column
  table_last k = let none : B.trains + 1 - (B.trains + 1) ≡ 0 = omega arith in rw none

  pub worked_exists : Worked B t c worked_table
  unfolding cell_by go_cost
  worked_exists =
      record {
        last = table_last;
        anew = λ k l pos u a b. table_next k l b ∙ below_no _ _ u ∙ rw (begin_is l b);
        stand = λ k l u a b. table_next k l b ∙ below_yes _ _ u;
      }

-- ---- rows after t do not read trains up to t

pub rows_alike : (t : ℕ) (A B : Book) (b₁ b₂ c d : Table) → BooksAlike (t + 1) A B → Worked A A.trains b₁ c
    → Worked B B.trains b₂ d → (k l : ℕ) → t < k → k ≤ l → l ≤ B.trains → d k l ≡ c k l
rows_alike t A B b₁ b₂ c d alike old new k l u a v =
    let again = worked_exists B t c in
    worked_one B B.trains b₂ b₂ d _ new (reworked_is_worked t A B b₁ c _ alike old again b₂) (λ i j x y z. refl)
    k l (omega arith) a (omega arith)
    ∙ again.stand k l u a v
