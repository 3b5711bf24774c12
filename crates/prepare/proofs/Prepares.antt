-- From a sheet taken apart to its times and sums: what an accepted sheet left in the four lists is enough to fill them,
-- and they then hold the sheet's own numbers.
-- Assumes nothing.
use Rattle.std.proofs.Common.{◌≡◌, sym, subst, ◌∙◌, List, ℕ, ◌≤◌, le_trans, le_of_eq, arith}
use Rattle.lists.proofs.Choice.{below_yes}
use Rattle.terms.specs.declared.Refusal.{Refusal}
use Rattle.std.specs.Prelude.{Ok, Err}
use Rattle.terms.specs.Verdict.{Verdict, Fine}
use Rattle.reader.specs.Reading.{Reading}
use Rattle.terms.proofs.Checks.{refused_not_fine}
use Rattle.sheet.specs.Format.{trains_of, period_of}
use Rattle.sheet.specs.Numbers.{Lists, numbers_of, numbers_in, times_in}
use Rattle.sheet.specs.Pairs.{passengers_of_pair}
use Rattle.sheet.specs.Checks.{earliest_of, sheet_verdict}
use Rattle.sheet.specs.Accepted.{Lengths, InRange, SameNumbers}
use Rattle.sheet.proofs.Lengths.{pairs_le}
use Rattle.sheet.proofs.Facts.{accepted_of_fine}
use Rattle.sheet.proofs.Meaning.{in_range_same}
use Rattle.reader.specs.Decoded.{Decoded}
use Rattle.terms.specs.declared.Head.{Head}
use Rattle.terms.proofs.Answers.{answer_refused}
use Rattle.reader.proofs.ReadingOf.{accepted_reading}
use Rattle.reader.proofs.Decoded.{decoded_lengths, decoded_numbers}
use Rattle.cells.specs.declared.timing.Timing.{Timing}
use Rattle.prepare.specs.Prepared.{HoldsTimes, HoldsSums, Prepared}
use Rattle.prepare.specs.Preparing.{TrainGiven, pair_in, FieldsGiven}
use Rattle.prepare.proofs.Holding.{timing_of_same, sums_of_same}

module _ (s : List ℕ) (before after : Lists) (a : Reading) (decoded : Decoded s before after a)
    (long : Lengths 64 2080 before) (h : Head) (accepted : a ≡ Ok h) where
  -- the checks let it pass
  passed : (sheet_verdict s ≡ Fine) × (h.trains ≡ trains_of s) × (h.period ≡ period_of s)
  passed = accepted_reading _ _ _ (sym accepted ∙ decoded.answer)

  -- the lists hold its numbers
  same : SameNumbers (numbers_in h.trains h.period after) (numbers_of s)
  same = decoded_numbers s before after a decoded h.trains h.period passed.1 passed.2 passed.0

  -- in their lengths
  lengths : Lengths 64 2080 after
  lengths = decoded_lengths s before after a decoded long

  -- and in range
  range : InRange (numbers_in h.trains h.period after)
  range = in_range_same _ (numbers_of s) same (accepted_of_fine s passed.0).numbers

  -- ---- what filling asks

  -- no train departs before its feeder is planned to arrive
  pub train_given : (i : ℕ) → 1 ≤ i → i ≤ h.trains → TrainGiven i after.departures after.driving after.delays
  unfolding earliest_of
  train_given i a b =
      let few = range.trains_most in
      let room = lengths in
      record {
        least = a;
        most = omega arith;
        slack = record {
          room = omega arith;
          feeder = omega arith;
          enough = λ u. le_trans (le_of_eq (sym (below_yes _ _ u))) (range.train i a b).slack;
        };
        delay = omega arith;
      }

  -- no field is over 10,000
  pub fields_given : FieldsGiven h.trains after.passengers
  fields_given =
      let few = range.trains_most in
      record {
        trains = few;
        long = omega (arith, lengths.passengers, pairs_le h.trains few);
        most = range.passengers;
      }

  -- ---- what is filled

  -- times and sums of the lists are those of the sheet
  pub prepared_accepted : (timing : Timing) (sums : List ℕ)
      → HoldsTimes h.trains h.period (times_in after.departures after.driving after.delays) timing
      → HoldsSums h.trains (pair_in h.trains after.passengers) sums → Prepared (sheet_verdict s) s timing sums (Ok h)
  unfolding pair_in passengers_of_pair
  prepared_accepted timing sums times leavers =
      record {
        answer = sym accepted ∙ decoded.answer;
        times = λ _. timing_of_same _ _ same timing times;
        leavers = λ _. sums_of_same _ _ same sums leavers;
      }

-- where the answer refuses, nothing is asked of the lists
pub prepared_refused : (checks : Verdict) (s : List ℕ) (timing : Timing) (sums : List ℕ) (r : Refusal) → Err r ≡ checks
    → Prepared checks s timing sums (Err r)
prepared_refused checks s timing sums r e =
    record {
      answer = answer_refused _ _ e;
      times = λ fine. refused_not_fine (e ∙ fine);
      leavers = λ fine. refused_not_fine (e ∙ fine);
    }

-- what was prepared after some checks was prepared after equal ones
pub prepared_same : {v w : Verdict} {s : List ℕ} {timing : Timing} {sums : List ℕ} {r q : Reading} → v ≡ w → r ≡ q
    → Prepared v s timing sums r → Prepared w s timing sums q
prepared_same {w = w} {s = s} {timing = timing} {sums = sums} {r = r} e a h =
    subst (Prepared w s timing sums) a (subst (λ (x : Verdict). Prepared x s timing sums r) e h)
