-- What holds the times and the sums of a line: one train more, one source delay replaced, and the same numbers.
-- Assumes nothing.
use Rattle.std.proofs.Common.{◌≡◌, refl, sym, ◌∙◌, List, inl, inr, ℕ, ◌+◌, ◌-◌, ◌≤◌, arith, length}
use Rattle.std.proofs.lemmas.Bool.{cases_eq}
use Rattle.lists.proofs.Choice.{same_yes, same_no}
use Rattle.line.proofs.Sums.{sum_over, over_same}
use Rattle.sheet.specs.Numbers.{Times, Numbers}
use Rattle.sheet.specs.Accepted.{SameNumbers, with_delay}
use Rattle.sheet.specs.Pairs.{passengers_of_pair}
use Rattle.cells.specs.declared.timing.Timing.{Timing}
use Rattle.cells.specs.declared.timing.TrainTimes.{TrainTimes}
use Rattle.cells.specs.Timing.{slack_in, source_in, period_in, with_times, with_source}
use Rattle.cells.proofs.Times.{slack_elsewhere, source_elsewhere, period_elsewhere}
use Rattle.cells.proofs.Times.{source_here, slack_with_source, period_with_source}
use Rattle.prepare.specs.Prepared.{HoldsTimes, HoldsSums, TimingOf, SumsOf}
use Rattle.prepare.proofs.Lines.{passengers_same}

-- ---- trains one by one

-- who holds the times of so many trains holds those of fewer
pub times_fewer : {k m T : ℕ} {x : Times} {timing : Timing} → HoldsTimes m T x timing → k ≤ m → HoldsTimes k T x timing
times_fewer H few =
    record {
      slack = λ i a b. H.slack i a (omega arith);
      source = λ i a b. H.source i a (omega arith);
      period = λ i a b. H.period i a (omega arith);
    }

-- and so it is with their sums
pub sums_fewer : {k m : ℕ} {n : ℕ → ℕ → ℕ} {sums : List ℕ} → HoldsSums m n sums → k ≤ m → HoldsSums k n sums
sums_fewer H few = record { leaving = λ i l a b c. H.leaving i l a b (omega arith) }

-- of no train nothing is asked
pub times_none : (T : ℕ) (x : Times) (timing : Timing) → HoldsTimes 0 T x timing
times_none T x timing =
    record {
      slack = λ i a b. absurd (omega arith);
      source = λ i a b. absurd (omega arith);
      period = λ i a b. absurd (omega arith);
    }

-- nor of its sums
pub sums_none : (n : ℕ → ℕ → ℕ) (sums : List ℕ) → HoldsSums 0 n sums
sums_none n sums = record { leaving = λ k l a b c. absurd (omega arith) }

-- the times of train i are replaced, and those of the trains before it were there
pub times_next : (i T : ℕ) (x : Times) (timing after : Timing) (one : TrainTimes) → 1 ≤ i
    → HoldsTimes (i - 1) T x timing → after ≡ with_times timing i one → slack_in after i ≡ one.slack
    → source_in after i ≡ one.source → period_in after i ≡ one.period
    → (2 ≤ i → one.slack ≡ x.departure i - x.departure (i - 1) - x.driving (i - 1)) → one.source ≡ x.delay i
    → one.period ≡ T → HoldsTimes i T x after
times_next i T x timing after one least H e slacked sourced perioded taken delay often =
    record {
      slack = λ j u v. elim (cases_eq j i) [
        | inl same ↦ rw same (slacked ∙ taken (omega arith))
        | inr not ↦ rw e (slack_elsewhere timing i j one least (omega arith) not) ∙ H.slack j u (omega arith)
      ];
      source = λ j u v. elim (cases_eq j i) [
        | inl same ↦ rw same (sourced ∙ delay)
        | inr not ↦ rw e (source_elsewhere timing i j one least u not) ∙ H.source j u (omega arith)
      ];
      period = λ j u v. elim (cases_eq j i) [
        | inl same ↦ rw same (perioded ∙ often)
        | inr not ↦ rw e (period_elsewhere timing i j one least u not) ∙ H.period j u (omega arith)
      ];
    }

-- ---- one source delay replaced

-- in its place, where it then stands
pub timing_after_delay : (N : Numbers) (i v : ℕ) (timing after : Timing) → 1 ≤ i → after ≡ with_source timing i v
    → source_in after i ≡ v → TimingOf N timing → TimingOf (with_delay N i v) after
timing_after_delay N i v timing after least e sourced H =
    record {
      slack = λ j a b. rw e (slack_with_source timing i v j) ∙ H.slack j a b;
      source = λ j a b. elim (cases_eq j i) [
        | inl same ↦ rw same sourced ∙ sym (same_yes v _ same)
        | inr not ↦ rw e (source_elsewhere timing i j _ least a not) ∙ H.source j a b ∙ sym (same_no v _ not)
      ];
      period = λ j a b. rw e (period_with_source timing i v j) ∙ H.period j a b;
    }

pub timing_with_delay : (N : Numbers) (i v : ℕ) (timing : Timing) → 1 ≤ i → i ≤ N.trains → N.trains ≤ 64
    → length timing.trains ≡ 64 → TimingOf N timing → TimingOf (with_delay N i v) (with_source timing i v)
timing_with_delay N i v timing least most few long =
    timing_after_delay N i v timing _ least refl (source_here timing i v least (omega arith))

-- no sum counts a delay
pub sums_with_delay : (N : Numbers) (i v : ℕ) (sums : List ℕ) → SumsOf N sums → SumsOf (with_delay N i v) sums
unfolding passengers_of_pair
sums_with_delay N i v sums H = H

-- ---- the same numbers

module _ (N M : Numbers) (same : SameNumbers N M) where
  -- have the same times
  pub timing_of_same : (timing : Timing) → TimingOf N timing → TimingOf M timing
  timing_of_same timing H =
      let m = same.trains in
      record {
        slack = λ i a b.
            H.slack i a (omega arith)
            ∙ rw (
              same.departure i (omega arith) b,
              same.departure (i - 1) (omega arith) (omega arith),
              same.driving (i - 1) (omega arith) (omega arith),
            ) refl;
        source = λ i a b. H.source i a (omega arith) ∙ same.delay i a b;
        period = λ s a b. H.period s a (omega arith) ∙ same.period;
      }

  -- and the same sums
  pub sums_of_same : (sums : List ℕ) → SumsOf N sums → SumsOf M sums
  sums_of_same sums H =
      let m = same.trains in
      record {
        leaving = λ k l a b c.
            H.leaving k l a b (omega arith) ∙ sum_over _ k l
            ∙ over_same k (l + 1) _ _ (λ i u v. passengers_same N M same i (l + 1) (omega arith) v (omega arith))
            ∙ sym (sum_over _ k l);
      }
