-- One source delay replaced, in the same numbers and in an accepted sheet: the sheet stays accepted, and every other
-- field is as it was.
-- Assumes nothing.
use Rattle.std.proofs.Common.{◌≡◌, sym, ap, ◌∙◌, List, inl, inr, ⊎_elim, ℕ, ◌+◌, ◌-◌, ◌*◌, ◌≤◌, ◌<◌, rules, arith, lit≤}
use native.Mathlib.Decide.{ℕ_discrete}
use Rattle.lists.specs.Choice.{if_same}
use Rattle.lists.proofs.Choice.{same_yes, same_no}
use Rattle.std.proofs.lemmas.Bool.{cases_lt}
use Rattle.bits.specs.Field.{Put}
use Rattle.bits.proofs.Puts.{put_apart}
use Rattle.sheet.specs.Format.{trains_of, entry, bytes_of}
use Rattle.sheet.specs.Numbers.{Numbers, numbers_of}
use Rattle.sheet.specs.Accepted.{InRange, AcceptedSheet, SameNumbers, with_delay, DelayReplaced}
use Rattle.sheet.proofs.Lengths.{layout, trains_apart}
use Rattle.sheet.proofs.Meaning.{in_range_same}

pub with_delay_same : (N M : Numbers) (i v : ℕ) → SameNumbers N M → SameNumbers (with_delay N i v) (with_delay M i v)
with_delay_same N M i v same =
    record {
      trains = same.trains;
      period = same.period;
      departure = same.departure;
      driving = same.driving;
      delay = λ j a b. ap (if_same j i v) (same.delay j a b);
      passengers = same.passengers;
    }

module _ (s t : List ℕ) (i v : ℕ) (ok : AcceptedSheet s) (least : 1 ≤ i) (most : i ≤ trains_of s)
    (replaced : DelayReplaced s i v t) where
  put : Put s (40 + 33 * (i - 1)) 11 v t
  put = replaced.put

  same_delay : (j : ℕ) → 1 ≤ j → j ≤ trains_of s
      → (numbers_of t).times.delay j ≡ (with_delay (numbers_of s) i v).times.delay j
  unfolding entry
  same_delay j a b = elim (ℕ_discrete j i) [
    | yes e ↦ rw e put.holds ∙ sym (same_yes _ _ e)
    | no n ↦ put_apart put _ 11
        (⊎_elim (λ (l : i < j). inr (omega arith)) (λ (l : j ≤ i). inl (omega arith)) (cases_lt i j))
        ∙ sym (same_no _ _ n)
  ]

  pub replaced_numbers : SameNumbers (numbers_of t) (with_delay (numbers_of s) i v)
  unfolding entry
  replaced_numbers =
      let trains : trains_of t ≡ trains_of s = put_apart put 0 7 (inl (omega arith)) in
      record {
        trains = trains;
        period = put_apart put 7 11 (inl (omega arith));
        departure = λ j a b. put_apart put _ 12 (trains_apart 18 12 40 11 (j - 1) (i - 1) (lit≤ tt) (lit≤ tt));
        driving = λ j a b. put_apart put _ 10 (trains_apart 30 10 40 11 (j - 1) (i - 1) (lit≤ tt) (lit≤ tt));
        delay = same_delay;
        passengers = λ f a b. rw trains (put_apart put _ 14 (inr (omega arith)));
      }

  in_range_with_delay : v ≤ 1440 → InRange (with_delay (numbers_of s) i v)
  in_range_with_delay l =
      let r = ok.numbers in
      record {
        trains_least = r.trains_least;
        trains_most = r.trains_most;
        period_least = r.period_least;
        period_most = r.period_most;
        -- only the delay differs
        train = λ j a b.
            let q = r.train j a b in
            let delay : (with_delay (numbers_of s) i v).times.delay j ≤ 1440 = elim (ℕ_discrete j i) [
              | yes e ↦ rw (same_yes v ((numbers_of s).times.delay j) e) l
              | no n ↦ rw (same_no v ((numbers_of s).times.delay j) n) q.delay
            ] in
            search rules;
        passengers = r.passengers;
      }

  -- a source delay of 0 to 1,440 leaves the sheet accepted
  pub replaced_accepted : v ≤ 1440 → AcceptedSheet t
  replaced_accepted l =
      let same = replaced_numbers in
      let trains : trains_of t ≡ trains_of s = same.trains in
      record {
        long = put.long ∙ ok.long ∙ ap bytes_of (sym trains);
        numbers = in_range_same (numbers_of t) (with_delay (numbers_of s) i v) same (in_range_with_delay l);
        filling = rw (trains, put.long) (put_apart put _ _ (inr (omega (arith, layout (trains_of s)))) ∙ ok.filling);
      }
