-- The times of a train replaced, or its source delay alone: every other number is as it was.
-- Assumes nothing.
use Rattle.std.proofs.Common.{◌≡◌, refl, ap, sym, ◌∙◌, ℕ, ◌-◌, ◌≤◌, inl, inr, arith, length, set, get_or-set_same}
use Rattle.std.proofs.Common.{get_or-set_other, length-set}
use Rattle.std.proofs.lemmas.List.{get_or_past}
use Rattle.std.proofs.lemmas.Bool.{cases_lt, cases_eq}
use Rattle.cells.specs.declared.timing.TrainTimes.{TrainTimes}
use Rattle.cells.specs.declared.timing.Timing.{Timing}
use Rattle.cells.specs.Timing.{train_times, slack_in, source_in, period_in, with_times, with_source}

-- ---- the times of train i replaced

module _ (timing : Timing) (i j : ℕ) (x : TrainTimes) where
  -- those of another train are as they were
  module _ (least : 1 ≤ i) (pos : 1 ≤ j) (not : ¬ (j ≡ i)) where
    elsewhere : train_times (with_times timing i x) j ≡ train_times timing j
    elsewhere = get_or-set_other timing.trains (i - 1) (j - 1) x _ (λ e. not (omega arith))

    pub slack_elsewhere : slack_in (with_times timing i x) j ≡ slack_in timing j
    unfolding slack_in
    slack_elsewhere = ap (λ (x : TrainTimes). x.slack) elsewhere

    pub source_elsewhere : source_in (with_times timing i x) j ≡ source_in timing j
    unfolding source_in
    source_elsewhere = ap (λ (x : TrainTimes). x.source) elsewhere

    pub period_elsewhere : period_in (with_times timing i x) j ≡ period_in timing j
    unfolding period_in
    period_elsewhere = ap (λ (x : TrainTimes). x.period) elsewhere

  -- and a number that x leaves is as it was, whatever the train
  stands : (f : TrainTimes → ℕ) → f x ≡ f (train_times timing i)
      → f (train_times (with_times timing i x) j) ≡ f (train_times timing j)
  stands f e = elim (cases_eq (j - 1) (i - 1)) [
    | inr not ↦ ap f (get_or-set_other timing.trains (i - 1) (j - 1) x _ not)
    | inl same ↦ elim (cases_lt (i - 1) (length timing.trains)) [
      | inl room ↦ rw same (ap f (get_or-set_same timing.trains (i - 1) x _ room) ∙ e)
      | inr past ↦ rw same (ap f
          (get_or_past (set timing.trains (i - 1) x) (i - 1) _ (omega (arith, length-set {A = TrainTimes}))
          ∙ sym (get_or_past timing.trains (i - 1) _ past)))
    ]
  ]

-- those of train i are x
module _ (timing : Timing) (i : ℕ) (x : TrainTimes) (least : 1 ≤ i) (room : i ≤ length timing.trains) where
  here : train_times (with_times timing i x) i ≡ x
  here = get_or-set_same timing.trains (i - 1) x _ (omega arith)

  pub slack_replaced : slack_in (with_times timing i x) i ≡ x.slack
  unfolding slack_in
  slack_replaced = ap (λ (x : TrainTimes). x.slack) here

  pub source_replaced : source_in (with_times timing i x) i ≡ x.source
  unfolding source_in
  source_replaced = ap (λ (x : TrainTimes). x.source) here

  pub period_replaced : period_in (with_times timing i x) i ≡ x.period
  unfolding period_in
  period_replaced = ap (λ (x : TrainTimes). x.period) here

pub ruleset replaced = (slack_replaced, source_replaced, period_replaced)

-- ---- the source delay of train i replaced

module _ (timing : Timing) (i v j : ℕ) where
  pub slack_with_source : slack_in (with_source timing i v) j ≡ slack_in timing j
  unfolding slack_in
  slack_with_source = stands timing i j _ (λ (x : TrainTimes). x.slack) refl

  pub period_with_source : period_in (with_source timing i v) j ≡ period_in timing j
  unfolding period_in
  period_with_source = stands timing i j _ (λ (x : TrainTimes). x.period) refl

-- where it was replaced it stands
pub source_here : (timing : Timing) (i v : ℕ) → 1 ≤ i → i ≤ length timing.trains
    → source_in (with_source timing i v) i ≡ v
source_here timing i v least room = source_replaced timing i _ least room
