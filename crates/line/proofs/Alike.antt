-- Row k depends on trains k to m alone: lines and books alike from train k on have the same sums, runs, worked cells
-- and choices there.
-- Assumes nothing.
use Rattle.std.proofs.Common.{◌≡◌, refl, ap, sym, ◌∙◌, inl, inr, ℕ, ◌+◌, ◌-◌, ◌≤◌, ◌<◌, le_refl, le_of_eq}
use Rattle.std.proofs.Common.{eq-or-lt_of_le, arith}
use Rattle.lists.proofs.Induction.{up}
use Rattle.line.specs.Line.{Running, Line}
use Rattle.line.specs.Policy.{Decision, departure}
use Rattle.line.specs.Cells.{Table, leaving, aboard, Book, book_of, run_from, excess_on, arrival_on, keep_cost, go_cost}
use Rattle.line.specs.Cells.{cell_by, choice, under, begins, policy_by, decide}
use Rattle.line.specs.Alike.{LinesAlike, BooksAlike}
use Rattle.line.proofs.Sums.{over, over_same}
use Rattle.line.proofs.Passengers.{leaving_over, aboard_over}
use Rattle.line.proofs.Days.{departures_alike, arrivals_alike, run_alike_refl}
use Rattle.line.proofs.Along.{excess_on_start}
use Rattle.line.proofs.Choices.{choice_keep, choice_start}
use Rattle.line.proofs.Decided.{begins_next, begins_first, begins_le}

-- ---- alike from a later train on; and the sums of lines alike

pub books_alike_later : (k j : ℕ) (A B : Book) → k ≤ j → BooksAlike k A B → BooksAlike j A B
books_alike_later k j A B h alike =
    record {
      trains = alike.trains;
      running = record {
        slack = λ s a b. alike.running.slack s (omega arith) b;
        arrive = λ i x a b. alike.running.arrive i x (omega arith) b;
      };
      period = λ s a b. alike.period s (omega arith) b;
      leaving = λ i l a b u. alike.leaving i l (omega arith) b u;
      aboard = λ i l a b u. alike.aboard i l (omega arith) b u;
    }

pub books_alike_refl : (k : ℕ) (B : Book) → BooksAlike k B B
books_alike_refl k B =
    record {
      trains = refl;
      running = run_alike_refl k B.trains B.running;
      period = λ s a b. refl;
      leaving = λ i l a b u. refl;
      aboard = λ i l a b u. refl;
    }

module _ (k : ℕ) (L M : Line) (alike : LinesAlike k L M) where
  leaving_alike : (i l : ℕ) → k ≤ i → i ≤ l → l ≤ L.trains → leaving L i l ≡ leaving M i l
  leaving_alike i l a b u =
      leaving_over L i l
      ∙ over_same i (l + 1) _ _ (λ j c d. alike.passengers j (l + 1) (omega arith) d (omega arith))
      ∙ sym (leaving_over M i l)

  aboard_alike : (i l : ℕ) → k ≤ i → i < l → l ≤ L.trains → aboard L i l ≡ aboard M i l
  aboard_alike i l a b u =
      aboard_over L i l (omega arith)
      ∙ over_same l (L.trains + 1) _ _
      (λ t c d. over_same i l _ _ (λ j e f. alike.passengers j (t + 1) (omega arith) (omega arith) (omega arith)))
      ∙ ap (λ (m : ℕ). over l (m + 1) (λ t. over i l (λ j. M.passengers j (t + 1)))) alike.trains
      ∙ sym (aboard_over M i l (omega arith))

  pub books_of_lines : BooksAlike k (book_of L) (book_of M)
  books_of_lines =
      record {
        trains = alike.trains;
        running = alike.running;
        period = alike.period;
        leaving = leaving_alike;
        aboard = aboard_alike;
      }

-- ---- row k

module _ (k : ℕ) (A B : Book) (pos : 1 ≤ k) (alike : BooksAlike k A B) where
  abbrev R : Running
  R = A.running

  abbrev S : Running
  S = B.running

  first_departs_alike : departure R (run_from k) k ≡ departure S (run_from k) k
  unfolding excess_on
  first_departs_alike = excess_on_start R k k (le_refl k) ∙ sym (excess_on_start S k k (le_refl k))

  pub excess_on_alike : (l : ℕ) → k ≤ l → l ≤ A.trains → excess_on R k l ≡ excess_on S k l
  unfolding excess_on departure
  excess_on_alike l a b =
      departures_alike k A.trains R S (run_from k) (run_from k) pos alike.running first_departs_alike l a b
      (λ s c d e. rw e)

  pub arrival_on_alike : (l : ℕ) → k ≤ l → l ≤ A.trains → arrival_on R k l ≡ arrival_on S k l
  unfolding arrival_on departure
  arrival_on_alike l a b =
      arrivals_alike k A.trains R S (run_from k) (run_from k) pos alike.running first_departs_alike l a b
      (λ s c d e. rw e)

  -- two tables alike at the cells on which (k, l) rests: the next one and, where go is a choice, (l, l)
  module _ (c d : Table) (l : ℕ) (a : k ≤ l) (b : l ≤ A.trains)
      (next : c k (l + 1) ≡ d k (l + 1)) (first : k < l → c l l ≡ d l l) where
    keep_alike : keep_cost A c k l ≡ keep_cost B d k l
    unfolding keep_cost
    keep_alike = rw (alike.leaving k l (le_refl k) a b, arrival_on_alike l a b, next)

    go_alike : k < l → go_cost A c k l ≡ go_cost B d k l
    unfolding go_cost
    go_alike u = rw (alike.period l u b, alike.aboard k l (le_refl k) u b, first u)

    pub cell_by_alike : cell_by A c k l ≡ cell_by B d k l
    cell_by_alike = elim (eq-or-lt_of_le a) [
      | inl e ↦
          let start : l ≤ k = le_of_eq (sym e) in
          choice_keep A c k l (choice_start A c k l start) ∙ keep_alike
          ∙ sym (choice_keep B d k l (choice_start B d k l start))
      | inr u ↦ unfold cell_by in rw (excess_on_alike l a b, keep_alike, go_alike u)
    ]

    pub choice_alike : choice A c k l ≡ choice B d k l
    choice_alike = elim (eq-or-lt_of_le a) [
      | inl e ↦ choice_start A c k l (le_of_eq (sym e)) ∙ sym (choice_start B d k l (le_of_eq (sym e)))
      | inr u ↦ unfold choice in rw (excess_on_alike l a b, keep_alike, go_alike u)
    ]

-- ---- decisions

module _ (A B : Book) (c d : Table) (alike : BooksAlike 1 A B)
    (cells : (k l : ℕ) → 1 ≤ k → k ≤ l → l ≤ A.trains + 1 → c k l ≡ d k l) where
  choices_alike : (k l : ℕ) → 1 ≤ k → k ≤ l → l ≤ A.trains → choice A c k l ≡ choice B d k l
  choices_alike k l pos a b =
      choice_alike k A B pos (books_alike_later 1 k A B pos alike) c d l a b
      (cells k (l + 1) pos (omega arith) (omega arith)) (λ u. cells l l (omega arith) (le_refl l) (omega arith))

  begins_alike : (i : ℕ) → 1 ≤ i → i ≤ A.trains → begins (choice A c) i ≡ begins (choice B d) i
  begins_alike i a b =
      up (λ (j : ℕ). begins (choice A c) j ≡ begins (choice B d) j) 1 i a
      (begins_first (choice A c) ∙ sym (begins_first (choice B d)))
      (λ j u v e.
      let in_line = begins_le (choice B d) j u in
      begins_next (choice A c) j
      ∙ ap (λ (k : ℕ). under (choice A c k (j + 1)) k (j + 1)) e
      ∙ ap (λ (x : Decision). under x (begins (choice B d) j) (j + 1))
      (choices_alike _ (j + 1) in_line.0 (omega arith) (omega arith))
      ∙ sym (begins_next (choice B d) j))

  -- the policies that are read off are alike on the trains in use
  pub decide_alike : (s : ℕ) → 2 ≤ s → s ≤ A.trains → decide A c s ≡ decide B d s
  unfolding decide policy_by
  decide_alike s a b =
      let in_line = begins_le (choice B d) (s - 1) (omega arith) in
      ap (λ (k : ℕ). choice A c k s) (begins_alike (s - 1) (omega arith) (omega arith))
      ∙ choices_alike _ s in_line.0 (omega arith) b
