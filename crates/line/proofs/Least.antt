-- A policy against a worked table. Along the policy's own runs the cell at which it stands falls from station to
-- station by no more than the station costs, and by just that where the policy does what the cells say. Summed up, no
-- policy has less than the cell at which it begins, and one that does what the cells say has just that.
-- Assumes nothing.
use Rattle.std.proofs.Common.{◌≡◌, ap, subst, ◌∙◌, inl, inr, ℕ, ◌+◌, ◌≤◌, ◌<◌, le_refl, le_trans, le_of_eq}
use Rattle.std.proofs.Common.{eq-or-lt_of_le, arith}
use Rattle.std.specs.Prelude.{if◌then◌else◌}
use Rattle.std.proofs.lemmas.Bool.{cond-false, cases_Bool}
use Rattle.line.specs.Line.{Running, Line}
use Rattle.line.specs.Policy.{Keep, Policy, departure, missed, Day, day_of, pairs_total}
use Rattle.line.specs.Cells.{Table, Along, aboard, Book, book_of, keep_cost, go_cost, cell_by, Worked, choice}
use Rattle.line.proofs.Sums.{over, sum_over, over_none, over_zero, falls_equal, falls_within, falls_each}
use Rattle.line.proofs.Passengers.{aboard_over}
use Rattle.line.proofs.Following.{keep_or_go, keep_maintains, missed_when}
use Rattle.line.proofs.Starts.{start_of, start_le, start_first, start_missed, start_maintained, start_through}
use Rattle.line.proofs.Runs.{run_cost, pairs_by_runs}
use Rattle.line.proofs.Along.{start_arrives, start_excess}
use Rattle.line.proofs.Choices.{cell_by_le_keep, cell_by_le_go, choice_keep, choice_go, cell_start}
use Rattle.line.proofs.Decided.{goes_missed}

-- nobody is aboard where a run begins
aboard_none : (L : Line) (k : ℕ) → 1 ≤ k → k ≤ L.trains → aboard L k k ≡ 0
aboard_none L k pos b =
    aboard_over L k k pos ∙ over_zero k (L.trains + 1) _ (omega arith) (λ t u v. over_none k k _ (le_refl k))

module _ (L : Line) (c d : Table) (W : Worked (book_of L) L.trains c d) where
  abbrev R : Running
  R = L.running

  abbrev B : Book
  B = book_of L

  -- ---- one station, train k departing with delay 0

  module _ (p : Policy) (k : ℕ) (pos : 1 ≤ k) (on_time : departure L.running p k ≡ 0) where
    abbrev D : Day
    D = day_of R p

    abbrev start : ℕ → ℕ
    start s = start_of D k s

    -- the cell at which the policy stands
    cell_at : ℕ → ℕ
    cell_at s = d (start s) s

    -- what the cells charge it there
    price : ℕ → ℕ
    price s = if missed R p s then go_cost B d (start s) s else keep_cost B d (start s) s

    cell_worked : (s : ℕ) → k ≤ s → s ≤ L.trains → cell_at s ≡ cell_by B d (start s) s
    unfolding cell_at
    cell_worked s a b =
        let begin = start_le D k s a in
        W.anew (start s) s (omega arith) (omega arith) begin.1 b

    -- the price is what the station costs and the next cell
    price_cost : (s : ℕ) → k ≤ s → s ≤ L.trains → price s ≡ run_cost L D k s + cell_at (s + 1)
    unfolding run_cost go_cost keep_cost price cell_at
    price_cost s a b =
        let arrives = start_arrives R p k pos on_time s a in
        elim (cases_Bool (missed R p s)) [
          | inl m ↦
              let begin = cell_start B L.trains c d W s (omega arith) b b in
              rw (m, arrives, start_missed D k s a m) (omega (arith, begin))
          | inr m ↦ rw (m, arrives, start_maintained D k s m) (omega arith)
        ]

    -- the cell is no more than the price,
    price_le : (s : ℕ) → k ≤ s → s ≤ L.trains → cell_at s ≤ price s
    unfolding price
    price_le s a b = elim (cases_Bool (missed R p s)) [
      | inl m ↦ elim (eq-or-lt_of_le (start_le D k s a).1) [
        | inl e ↦ unfold cell_at in rw (m, e) (unfold go_cost in omega arith)
        | inr l ↦
            let late = rw (start_excess R p k pos on_time s a l) at (missed_when R p s m).1 in
            rw (m, cell_worked s a b) (cell_by_le_go B d (start s) s late)
      ]
      | inr m ↦ rw (m, cell_worked s a b) (cell_by_le_keep B d (start s) s)
    ]

    -- is the price where a run begins with train k,
    price_first : k ≤ L.trains → cell_at k ≡ price k
    unfolding price cell_at
    price_first b = elim (cases_Bool (missed R p k)) [
      | inl m ↦ rw (m, start_first D k) (unfold go_cost in rw (aboard_none L k pos b) (omega arith))
      | inr m ↦ rw (m, start_first D k) (cell_start B L.trains c d W k pos b b)
    ]

    -- and is the price where the policy does what the cells say
    price_follows : (s : ℕ) → k ≤ s → s ≤ L.trains → p s ≡ choice B d (start s) s → cell_at s ≡ price s
    unfolding price
    price_follows s a b same = elim (keep_or_go (choice B d (start s) s)) [
      | inl keep ↦ rw (keep_maintains R p s (same ∙ keep), cell_worked s a b) (choice_keep B d (start s) s keep)
      | inr go ↦
          let gone = goes_missed B d p k pos on_time s a go (same ∙ go) in
          rw (gone, cell_worked s a b) (choice_go B d (start s) s go).0
    ]

  -- ---- all stations from l on

  module _ (p : Policy) (k l : ℕ) (pos : 1 ≤ k) (a : k ≤ l) (b : l ≤ L.trains + 1)
      (on : Along L.running p k l) where
    abbrev day : Day
    day = day_of R p

    abbrev cell : ℕ → ℕ
    cell s = cell_at p k pos on.on_time s

    first_cell : cell l ≡ d k l
    unfolding cell_at
    first_cell = ap (λ (j : ℕ). d j l) (start_through day k l a on.maintained)

    last_cell : cell (L.trains + 1) ≡ 0
    unfolding cell_at
    last_cell = W.last _

    by_runs : pairs_total L day k l ≡ over l (L.trains + 1) (run_cost L day k)
    by_runs = pairs_by_runs L day k pos l a b on.maintained ∙ sum_over (run_cost L day k) l L.trains

    falls_here : (s : ℕ) → l ≤ s → s < L.trains + 1 → cell s ≤ run_cost L day k s + cell (s + 1)
    falls_here s u v =
        le_trans
        (price_le p k pos on.on_time s (omega arith) (omega arith))
        (le_of_eq (price_cost p k pos on.on_time s (omega arith) (omega arith)))

    -- no policy has less than the cell,
    pub least_of_all : d k l ≤ pairs_total L day k l
    least_of_all =
        let whole = falls_within l (L.trains + 1) (run_cost L day k) cell b falls_here in
        omega (arith, first_cell, last_cell, by_runs, whole)

    -- one that does what the cells say has just that,
    pub follows_attains : ((s : ℕ) → k < s → l ≤ s → s ≤ L.trains → p s ≡ choice B d (start_of day k s) s)
        → pairs_total L day k l ≡ d k l
    follows_attains does =
        let whole = falls_equal l (L.trains + 1) (run_cost L day k) cell b (λ s u v. at_price s u (omega arith)) in
        omega (arith, first_cell, last_cell, by_runs, whole)
      where
        at_price : (s : ℕ) → l ≤ s → s ≤ L.trains → cell s ≡ run_cost L day k s + cell (s + 1)
        at_price s u v = elim (eq-or-lt_of_le (le_trans a u)) [
          | inl e ↦
              subst (λ (j : ℕ). cell j ≡ price p k pos on.on_time j) e
              (price_first p k pos on.on_time (omega arith))
              ∙ price_cost p k pos on.on_time s (omega arith) v
          | inr w ↦
              price_follows p k pos on.on_time s (omega arith) v (does s w u v)
              ∙ price_cost p k pos on.on_time s (omega arith) v
        ]

    -- and one that has no more keeps only where the cells keep.
    pub keeps_as_cells : pairs_total L day k l ≤ d k l → (s : ℕ) → l ≤ s → s ≤ L.trains → p s ≡ Keep
        → choice B d (start_of day k s) s ≡ Keep
    keeps_as_cells most s u v keep = elim (keep_or_go (choice B d (start_of day k s) s)) [
      | inl e ↦ e
      | inr go ↦
          let here = cell_worked p k pos on.on_time s (omega arith) v in
          absurd (omega (arith, tight, here, choice_go B d (start_of day k s) s go))
    ]
      where
        tight : keep_cost B d (start_of day k s) s ≤ cell s
        tight =
            let each = falls_each l (L.trains + 1) (run_cost L day k) cell falls_here
            (omega (arith, first_cell, last_cell, by_runs)) s u (omega arith) in
            let price_is : price p k pos on.on_time s ≡ keep_cost B d (start_of day k s) s
            = unfold price in cond-false _ _ _ (keep_maintains R p s keep) in
            omega (arith, each, price_cost p k pos on.on_time s (omega arith) v, price_is)
