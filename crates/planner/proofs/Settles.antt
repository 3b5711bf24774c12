-- Settled work reads no more of a book than books alike have in common: what is settled for one is settled for the
-- other. And buffers are equal list by list.
-- Assumes nothing.
use Rattle.std.proofs.Common.{◌≡◌, ap, sym, ◌∙◌, List, ℕ, ◌≤◌, arith}
use Rattle.lists.specs.Run.{padded}
use Rattle.lists.proofs.Run.{padded_same}
use Rattle.line.specs.Policy.{Policy, arrival}
use Rattle.line.specs.Cells.{Book, decide}
use Rattle.line.specs.Alike.{BooksAlike}
use Rattle.line.proofs.Following.{first_on_time}
use Rattle.line.proofs.Days.{policies_alike}
use Rattle.line.proofs.Alike.{decide_alike}
use Rattle.cells.specs.Place.{table_of}
use Rattle.cells.specs.Shown.{shown}
use Rattle.cells.proofs.Written.{rows_worked_alike}
use Rattle.cells.proofs.Shown.{shown_same}
use Rattle.planner.specs.Buffers.{Buffers}
use Rattle.planner.specs.Settled.{Settled}

pub buffers_one : (b c : Buffers) → b.cells ≡ c.cells → b.decisions ≡ c.decisions → b.delays ≡ c.delays → b ≡ c
buffers_one b c cells decisions delays =
    λ i. record { cells = cells i; decisions = decisions i; delays = delays i }

-- ---- by books alike

module _ (A B : Book) (alike : BooksAlike 1 A B) (cells : List ℕ) where
  abbrev decided_a : Policy
  decided_a = decide A (table_of A.trains cells)

  abbrev decided_b : Policy
  decided_b = decide B (table_of B.trains cells)

  decided_same : (i : ℕ) → 2 ≤ i → i ≤ A.trains → decided_a i ≡ decided_b i
  decided_same =
      decide_alike A B _ _ alike (λ k l a b c. ap (λ (m : ℕ). table_of m cells k l) alike.trains)

  shown_alike : shown A.trains decided_a ≡ shown B.trains decided_b
  shown_alike =
      shown_same A.trains decided_a decided_b decided_same ∙ ap (λ (m : ℕ). shown m decided_b) alike.trains

  delays_alike : padded 64 A.trains (arrival A.running decided_a)
      ≡ padded 64 B.trains (arrival B.running decided_b)
  delays_alike =
      let days = policies_alike 1 A.trains A.running B.running decided_a decided_b (omega arith) alike.running
      (first_on_time _ decided_a ∙ sym (first_on_time _ decided_b)) decided_same in
      padded_same 64 A.trains _ _ days.arrival
      ∙ ap (λ (m : ℕ). padded 64 m (arrival B.running decided_b)) alike.trains

pub settled_alike : (A B : Book) (t : ℕ) (before after : Buffers) (n : ℕ) → BooksAlike 1 A B
    → Settled A t before after n → Settled B t before after n
settled_alike A B t before after n alike S =
    record {
      cells = rows_worked_alike A B t _ _ alike S.cells;
      walked = record {
        decisions = S.walked.decisions ∙ shown_alike A B alike after.cells;
        delays = S.walked.delays ∙ delays_alike A B alike after.cells;
      };
      total = S.total ∙ ap (λ (m : ℕ). table_of m after.cells 1 1) alike.trains;
    }
