-- What the two choices cost along the run from train k, station by station, and how much it can be.
--   CostsTo m k timing sums costs late boarded i   the stations from k to i - 1 are done: train i - 1 arrived late by
--     `late`, and `boarded` are those who board at k or later and leave train i or a later one
-- Assumes nothing.
use Rattle.std.proofs.Common.{◌≡◌, ap, sym, ◌∙◌, List, inl, inr, ℕ, ◌+◌, ◌-◌, ◌*◌, ◌≤◌, ◌<◌, le_refl, le_trans}
use Rattle.std.proofs.Common.{le_of_eq, mul_comm, mul-le-mul, arith, length, length-set, get_or-set_same}
use Rattle.std.proofs.Common.{get_or-set_other}
use Rattle.std.proofs.lemmas.Bool.{cases_eq}
use Rattle.lists.proofs.Held.{nth_index}
use Rattle.line.specs.Line.{Running}
use Rattle.line.specs.Cells.{Book, excess_on, arrival_on}
use Rattle.line.specs.Ranges.{latest, everyone, limit}
use Rattle.line.proofs.Along.{excess_on_start, excess_on_next, arrival_on_departed}
use Rattle.line.proofs.Bounds.{arrival_on_le}
use Rattle.cells.specs.declared.timing.Timing.{Timing}
use Rattle.cells.specs.declared.costs.Cost.{Cost}
use Rattle.cells.specs.declared.costs.Costs.{Costs}
use Rattle.cells.specs.Timing.{slack_in, source_in, period_in, running_in}
use Rattle.cells.specs.Sums.{leaving_in, boarded_in, aboard_in}
use Rattle.cells.specs.Book.{book_in, BookGiven}
use Rattle.cells.specs.Costs.{zero_cost, excess_in, keep_in, go_in, with_costs, CostsAt, CostsAlong}
use Rattle.cells.proofs.Leavers.{boarded_first, boarded_le, boarded_aboard, leaving_le, aboard_le}
use Rattle.cells.proofs.Bounded.{running_in_range}

-- ---- the three of station i stored

module _ (costs : Costs) (i : ℕ) (x : Cost) (least : 1 ≤ i) (B : Book) (k : ℕ) where
  -- they are read there
  put_at : i ≤ length costs.stations → x.excess ≡ excess_on B.running k i
      → x.keep ≡ B.leaving k i * arrival_on B.running k i → x.go ≡ B.period i * B.aboard k i
      → CostsAt B k i (with_costs costs i x)
  unfolding excess_in keep_in go_in
  put_at room e f g =
      let here = get_or-set_same costs.stations (i - 1) x zero_cost (omega arith) in
      record {
        excess = ap (λ (x : Cost). x.excess) here ∙ e;
        keep = ap (λ (x : Cost). x.keep) here ∙ f;
        go = ap (λ (x : Cost). x.go) here ∙ g;
      }

  -- those of another station stand
  put_stands : (l : ℕ) → 1 ≤ l → ¬ (l ≡ i) → CostsAt B k l costs → CostsAt B k l (with_costs costs i x)
  unfolding excess_in keep_in go_in
  put_stands l pos not C =
      let there = get_or-set_other costs.stations (i - 1) (l - 1) x zero_cost (λ e. not (omega arith)) in
      record {
        excess = ap (λ (x : Cost). x.excess) there ∙ C.excess;
        keep = ap (λ (x : Cost). x.keep) there ∙ C.keep;
        go = ap (λ (x : Cost). x.go) there ∙ C.go;
      }

-- ---- along the run

module _ (m k : ℕ) (timing : Timing) (sums : List ℕ) where
  abbrev R : Running
  R = running_in timing

  abbrev B : Book
  B = book_in m timing sums

  pub record CostsTo (costs : Costs) (late boarded i : ℕ) : Type 0 where
    pub long : length costs.stations ≡ 64
    -- what the slack at station i leaves of the delay is the excess there
    pub ahead : late - slack_in timing i ≡ excess_on R k i
    pub small : late ≤ latest
    pub counted : boarded ≡ boarded_in m sums k i
    pub done : (l : ℕ) → k ≤ l → l < i → CostsAt B k l costs

  -- the run begins on time
  pub costs_start : (costs : Costs) (boarded : ℕ) → length costs.stations ≡ 64 → boarded ≡ boarded_in m sums k k
      → CostsTo costs 0 boarded k
  costs_start costs boarded long e =
      record {
        long = long;
        ahead = omega (arith, excess_on_start R k k (le_refl k));
        small = omega arith;
        counted = e;
        done = λ l a b. absurd (omega arith);
      }

  module _ (given : BookGiven m timing sums) (costs : Costs) (late boarded i : ℕ) (S : CostsTo costs late boarded i)
      (first : 1 ≤ k) (from : k ≤ i) (last : i ≤ m) where
    turn_arrives : late - slack_in timing i + source_in timing i ≡ arrival_on R k i
    turn_arrives =
        ap (λ (x : ℕ). x + source_in timing i) S.ahead ∙ sym (arrival_on_departed R k i (omega arith))

    -- train i arrives no later than any can
    pub turn_late : late - slack_in timing i + source_in timing i ≤ latest
    turn_late =
        le_trans (le_of_eq turn_arrives) (arrival_on_le m R (running_in_range m timing given.times) k i last)

    -- of these, at most everyone, some are aboard at station i and the others board there or later
    pub turn_boards : (boarded ≡ aboard_in m sums k i + boarded_in m sums i i) × (boarded ≤ everyone)
    turn_boards = (
      S.counted ∙ boarded_aboard m sums given.leavers k i first from last,
      le_trans (le_of_eq S.counted) (boarded_le m sums given.leavers k i first from last),
    )

    -- some leave train i, the others a later one
    pub turn_leaves : boarded ≡ leaving_in sums k i + boarded_in m sums k (i + 1)
    turn_leaves = S.counted ∙ boarded_first m sums k i last

    -- one station more
    pub costs_next : (x a n b t y z : ℕ) → x ≡ late - slack_in timing i
        → a ≡ x + source_in timing i
        → n ≡ leaving_in sums k i → b ≡ boarded_in m sums i i → t ≡ period_in timing i → y ≡ n * a → z
        ≡ (boarded - b) * t
        → CostsTo (with_costs costs i (record { excess = x; keep = y; go = z })) a (boarded - n) (i + 1)
    costs_next x a n b t y z ex ea en eb et ey ez =
        let pos : 1 ≤ i = omega arith in
        let late_is : a ≡ arrival_on R k i = ea ∙ ap (λ (e : ℕ). e + source_in timing i) ex ∙ turn_arrives in
        let aboard_is : boarded - b ≡ aboard_in m sums k i = omega (arith, turn_boards.0) in
        let room : i ≤ length costs.stations = omega (arith, S.long, given.times.trains) in
        record {
          long = length-set costs.stations (i - 1) _ ∙ S.long;
          ahead = ap (λ (d : ℕ). d - slack_in timing (i + 1)) late_is ∙ sym (excess_on_next R k i from);
          small = rw (ea, ex) turn_late;
          counted = omega (arith, turn_leaves);
          done = λ l u v. elim (cases_eq l i) [
            | inl same ↦ rw same (put_at costs i _ pos B k room (ex ∙ S.ahead)
                (rw (ey, en, late_is)) (rw (ez, aboard_is, et) (mul_comm _ _)))
            | inr not ↦ put_stands costs i _ pos B k l (omega arith) not (S.done l u (omega arith))
          ];
        }

  -- no station is left
  pub costs_end : (costs : Costs) (late boarded i : ℕ) → CostsTo costs late boarded i → m < i → CostsAlong B k costs
  costs_end costs late boarded i S past =
      record { each = λ l a b. S.done l a (omega arith) }

-- ---- how much it is

module _ (m k : ℕ) (timing : Timing) (sums : List ℕ) (costs : Costs) (given : BookGiven m timing sums) (first : 1 ≤ k)
    (C : CostsAlong (book_in m timing sums) k costs) (l : ℕ) (run : k ≤ l) (last : l ≤ m) where
  -- the excess is what train l departs with, kept
  pub kept_arrives : excess_in costs l + source_in timing l ≡ arrival_on (running_in timing) k l
  kept_arrives =
      ap (λ (e : ℕ). e + source_in timing l) (C.each l run last).excess
      ∙ sym (arrival_on_departed (running_in timing) k l (omega arith))

  on_run_le : arrival_on (running_in timing) k l ≤ latest
  on_run_le = arrival_on_le m (running_in timing) (running_in_range m timing given.times) k l last

  pub kept_le : excess_in costs l + source_in timing l ≤ latest
  kept_le = le_trans (le_of_eq kept_arrives) on_run_le

  pub keep_le : keep_in costs l ≤ limit
  keep_le =
      le_trans (le_of_eq (C.each l run last).keep)
      (mul-le-mul (leaving_le m sums given.leavers k l first run last) on_run_le)

  pub go_le : go_in costs l ≤ limit
  go_le =
      omega (
        arith,
        (C.each l run last).go,
        mul-le-mul (given.times.period l (omega arith) last) (aboard_le m sums given.leavers k l first run last),
      )

-- ---- what the loop along a run rests on, beside what is answered by hand

pub ruleset along = (costs_start, turn_late, nth_index)
