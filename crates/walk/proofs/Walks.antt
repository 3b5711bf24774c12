-- The walk along cells as they stand: one station's step, and what stands after the trains passed.
--   Walking B c decisions delays costs first i   the walk stands at station i, on the run from `first`
-- Assumes nothing.
use Rattle.std.proofs.Common.{◌≡◌, refl, ap, ap₂, sym, ◌∙◌, List, ℕ, ◌+◌, ◌-◌, ◌≤◌, ◌<◌, le_refl, le_trans, le_of_eq}
use Rattle.std.proofs.Common.{arith, set, replicate}
use Rattle.lists.specs.Choice.{if_below}
use Rattle.lists.specs.Filled.{Filled}
use Rattle.lists.proofs.Choice.{below_yes, below_no}
use Rattle.lists.proofs.Fill.{filled_none, filled_next, filled_counted}
use Rattle.line.specs.Policy.{Decision, Keep, Go, arrival}
use Rattle.line.specs.Cells.{Table, Book, arrival_on, keep_cost, go_cost, choice, under, begins, decide}
use Rattle.line.specs.Ranges.{latest}
use Rattle.line.proofs.Along.{excess_on_start, arrival_on_departed}
use Rattle.line.proofs.Bounds.{arrival_on_le}
use Rattle.line.proofs.Decided.{begins_next, begins_first, begins_le, policy_by_next, decided_arrives}
use Rattle.cells.specs.declared.place.Table.{Table as Lent}
use Rattle.cells.specs.declared.timing.Timing.{Timing}
use Rattle.cells.specs.declared.costs.Costs.{Costs}
use Rattle.cells.specs.declared.book.Book.{Book as Holder}
use Rattle.cells.specs.Timing.{source_in, running_in}
use Rattle.cells.specs.Held.{book_held, table_held}
use Rattle.cells.specs.Costs.{excess_in, CostsAlong}
use Rattle.cells.specs.Shown.{byte_of, shown}
use Rattle.cells.proofs.Along.{keep_le, go_le, kept_arrives}
use Rattle.cells.proofs.Bounded.{running_in_range}
use Rattle.walk.specs.Walked.{Walked}
use Rattle.walk.specs.Following.{chosen_by, ChoiceGiven, StepGiven, Stepped, WalkGiven}

-- ---- one station's step

-- a run begins on time
pub begun : (timing : Timing) (l : ℕ) → 1 ≤ l → 0 + source_in timing l ≡ arrival_on (running_in timing) l l
begun timing l pos =
    let R = running_in timing in
    sym (arrival_on_departed R l l pos ∙ ap (λ (x : ℕ). x + source_in timing l) (excess_on_start R l l (le_refl l)))

module _ (book : Holder) (k l : ℕ) (costs : Costs) (t : Lent)
    (step : StepGiven (book_held book) k l costs t) where
  abbrev B : Book
  B = book_held book

  abbrev C : Table
  C = table_held t

  pub step_chooses : ChoiceGiven k l costs t
  step_chooses =
      let run : k ≤ l = omega arith in
      record {
        first = step.first;
        run = run;
        last = le_trans step.last book.given.times.trains;
        keep_most = keep_le _ _ _ _ costs book.given step.first step.along l run step.last;
        go_most = go_le _ _ _ _ costs book.given step.first step.along l run step.last;
        range = step.range;
      }

  -- the costs and the cells make the choice
  chosen : chosen_by costs C k l ≡ choice B C k l
  unfolding choice keep_cost go_cost
  chosen =
      let here = step.along.each l (omega arith) step.last in
      rw (here.excess, here.keep, here.go)

  -- under keep the run goes on
  pub stepped_keep : Keep ≡ chosen_by costs C k l
      → Stepped B C k l Keep k (excess_in costs l + source_in book.timing.now l) costs
  stepped_keep e =
      record {
        decides = e ∙ chosen;
        first = refl;
        late = kept_arrives _ _ _ _ costs book.given step.first step.along l (omega arith) step.last;
        along = step.along;
      }

  -- under go train l begins one, on time
  pub stepped_go : Go ≡ chosen_by costs C k l → (after : Costs) → CostsAlong B l after
      → Stepped B C k l Go l (0 + source_in book.timing.now l) after
  stepped_go e after A =
      record { decides = e ∙ chosen; first = refl; late = begun book.timing.now l (omega arith); along = A }

-- ---- the walk

-- the trains before station i have decided and arrived, and the rest is 0
pub record Walking (B : Book) (c : Table) (decisions delays : List ℕ) (costs : Costs) (first i : ℕ) : Type 0 where
  pub few : B.trains ≤ 64
  pub done : ℕ
  pub some : 1 ≤ done
  pub last : done ≤ B.trains
  pub next : i ≡ done + 1
  pub run : first ≡ begins (choice B c) done
  pub along : CostsAlong B first costs
  pub shows : Filled 0 (λ k. if_below 1 (k + 1) (byte_of (decide B c (k + 1))) 0) done (replicate 64 0) decisions
  pub delayed : Filled 0 (λ k. arrival B.running (decide B c) (k + 1)) done (replicate 64 0) delays

module _ (B : Book) (c : Table) where
  -- the lists are blank; train 1 begins the first run, on time, and has nobody to wait for
  pub walk_start : (decisions delays : List ℕ) (costs : Costs) (k late : ℕ) → decisions ≡ replicate 64 0
      → delays ≡ replicate 64 0 → k ≡ 0 → B.trains ≤ 64 → 1 ≤ B.trains → late ≡ arrival_on B.running 1 1
      → CostsAlong B 1 costs → Walking B c decisions (set delays k late) costs 1 2
  walk_start decisions delays costs k late d y at few some e A =
      let first = sym (begins_first (choice B c)) in
      let arrives = e ∙ ap (λ (j : ℕ). arrival_on B.running j 1) first ∙ sym (decided_arrives B c 1 (le_refl 1)) in
      let blank : (f : ℕ → ℕ) → Filled 0 f 0 (replicate 64 0) (replicate 64 0) = λ f. filled_none 0 f _ in
      record {
        few = few;
        done = 1;
        some = le_refl 1;
        last = some;
        next = refl;
        run = first;
        along = A;
        shows = rw d (filled_next 0 _ (blank _) (omega arith) (sym (below_no _ _ (le_refl 1))));
        delayed = rw (y, at) (filled_next 0 _ (blank _) (omega arith) arrives);
      }

  module _ (decisions delays : List ℕ) (costs : Costs) (first i : ℕ)
      (w : Walking B c decisions delays costs first i) where
    -- one station more
    module _ (d : Decision) (f x : ℕ) (after : Costs) (s : Stepped B c first i d f x after) where
      begins_at : f ≡ begins (choice B c) (w.done + 1)
      begins_at =
          s.first ∙ ap (λ (e : Decision). under e first i) s.decides
          ∙ ap₂ (λ (k l : ℕ). under (choice B c k l) k l) w.run w.next
          ∙ sym (begins_next (choice B c) w.done)

      arrives : x ≡ arrival B.running (decide B c) (w.done + 1)
      arrives =
          s.late ∙ ap₂ (arrival_on B.running) begins_at w.next
          ∙ sym (decided_arrives B c (w.done + 1) (omega arith))

      decides : byte_of d ≡ if_below 1 (w.done + 1) (byte_of (decide B c (w.done + 1))) 0
      unfolding decide
      decides =
          ap byte_of (s.decides ∙ ap₂ (choice B c) w.run w.next ∙ sym (policy_by_next (choice B c) w.done))
          ∙ sym (below_yes _ _ (omega arith))

      pub walk_next : (k : ℕ) → k ≡ i - 1 → i ≤ B.trains
          → Walking B c (set decisions k (byte_of d)) (set delays k x) after f (i + 1)
      walk_next k at last =
          let index : k ≡ w.done = omega arith in
          record {
            few = w.few;
            done = w.done + 1;
            some = omega arith;
            last = omega arith;
            next = ap (λ (j : ℕ). j + 1) w.next;
            run = begins_at;
            along = s.along;
            shows = rw index (filled_next 0 _ w.shows (omega arith) decides);
            delayed = rw index (filled_next 0 _ w.delayed (omega arith) arrives);
          }

    -- all trains have decided and arrived
    pub walk_end : B.trains < i → Walked B c decisions delays
    unfolding shown
    walk_end past =
        let all : w.done ≡ B.trains = omega arith in
        record {
          decisions = filled_counted _ 64 _ decisions (rw all at w.shows);
          delays = filled_counted _ 64 _ delays (rw all at w.delayed);
        }

-- ---- what the code asks of the walk

module _ (book : Holder) (t : Lent) where
  -- the station at which the walk stands can be stepped
  pub walk_asks : (decisions₀ delays₀ decisions delays : List ℕ) (costs : Costs) (first i : ℕ)
      → WalkGiven decisions₀ delays₀ t → Walking (book_held book) (table_held t) decisions delays costs first i
      → i ≤ book.sums.m → StepGiven (book_held book) first i costs t
  walk_asks decisions₀ delays₀ decisions delays costs first i given w last =
      let on = begins_le (choice (book_held book) (table_held t)) w.done w.some in
      record {
        first = omega arith;
        run = omega arith;
        last = last;
        along = w.along;
        range = given.range;
      }

  -- and its train arrives no later than any can
  pub walk_late : (k l : ℕ) (d : Decision) (f x : ℕ) (costs : Costs) → l ≤ book.sums.m
      → Stepped (book_held book) (table_held t) k l d f x costs → x ≤ latest
  walk_late k l d f x costs last s =
      le_trans (le_of_eq s.late)
      (arrival_on_le book.sums.m (running_in book.timing.now)
      (running_in_range book.sums.m book.timing.now book.given.times) _ l last)

-- ---- what the walk rests on, beside what is answered by hand

pub ruleset walking = (walk_start, walk_late, walk_next, begun)
