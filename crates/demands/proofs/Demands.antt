-- Demands 1 and 2 of the operations, from their contracts alone. The decision bytes show the policy of the contract on
-- trains 2 to m, and nothing else of a policy is ever read.
-- Assumes nothing.
use Rattle.std.proofs.Common.{◌≡◌, refl, sym, ap, subst, ◌∙◌, List, ℕ, ◌≤◌, arith}
use Rattle.lists.specs.Choice.{if_same}
use Rattle.lists.specs.Run.{nth}
use Rattle.lists.proofs.Choice.{below_yes}
use Rattle.lists.proofs.Run.{padded_nth, padded_same}
use Rattle.line.specs.Line.{Line, line_from}
use Rattle.line.specs.Policy.{Decision, Keep, Go, Policy, day_of}
use Rattle.line.specs.Plan.{IsPlan}
use Rattle.line.specs.Cells.{IsCell}
use Rattle.line.specs.Alike.{DaysAlike}
use Rattle.line.proofs.Days.{lines_alike_refl, same_days, same_total}
use Rattle.line.proofs.Worked.{cell_means}
use Rattle.line.proofs.Plan.{plan_alike}
use Rattle.sheet.specs.Numbers.{numbers_of}
use Rattle.sheet.specs.Checks.{sheet_verdict}
use Rattle.cells.proofs.Places.{table_in}
use Rattle.cells.specs.Shown.{byte_of, shown, policy_in}
use Rattle.cells.proofs.Shown.{shown_same}
use Rattle.prepare.specs.LineOf.{line_of}
use Rattle.planner.specs.Buffers.{Buffers}
use Rattle.planner.specs.Plan.{plan_verdict, Planned}
use Rattle.planner.proofs.Refusals.{accepted_of_plan}
use Rattle.planner.proofs.Outcome.{plan_outcome_one, report_outcome_one}
use Rattle.demands.proofs.RoundTrip.{read_then_write, write_then_read, equal_fields}
use Rattle.demands.specs.Calling.{operations}
use Rattle.demands.specs.Answered.{Demand1}
use Rattle.demands.specs.Least.{LeastPlan, Demand2}
use Rattle.demands.specs.OneMeaning.{OneMeaning}
use Rattle.demands.proofs.Answered.{fine_of_zero, plan_answered, report_answered}
use Rattle.demands.proofs.Possible.{plan_possible, report_possible}

pub demand_1 : Demand1 operations
demand_1 =
    record {
      every_sheet = λ x. plan_possible;
      every_report = λ x. report_possible;
      one_plan = λ x. plan_outcome_one;
      one_report = λ x s i v before t t' after after'. report_outcome_one s i v before t t' after after';
      of_plan = λ x. plan_answered;
      of_report = λ x. report_answered;
    }

-- ---- demand 2

byte_shows : (d : Decision) → if_same (byte_of d) 1 Keep Go ≡ d
unfolding if_same
byte_shows Keep = refl
byte_shows Go = refl

shown_shows : (m : ℕ) (bytes : List ℕ) (p : Policy) → m ≤ 64 → bytes ≡ shown m p → (i : ℕ) → 2 ≤ i → i ≤ m
    → policy_in bytes i ≡ p i
unfolding shown policy_in
shown_shows m bytes p few e i a b =
    let byte : nth bytes i ≡ byte_of (p i) = padded_nth bytes 64 m _ e few i (omega arith) b ∙ below_yes _ _ a in
    ap (λ (n : ℕ). if_same n 1 Keep Go) byte ∙ byte_shows (p i)

module _ (L : Line) (before after : Buffers) (n : ℕ) (few : L.trains ≤ 64) (plan : Planned L before after n) where
  abbrev shows : Policy
  shows = policy_in after.decisions

  -- the decisions shown are the plan's, at every train that decides
  agrees : (i : ℕ) → 2 ≤ i → i ≤ L.trains → plan.policy i ≡ shows i
  agrees i u v = sym (shown_shows L.trains after.decisions plan.policy few plan.decisions i u v)

  shows_plan : IsPlan L shows
  shows_plan = plan_alike L L plan.policy shows (lines_alike_refl 1 L) agrees plan.plan

  days : DaysAlike 1 L.trains (day_of L.running plan.policy) (day_of L.running shows)
  days = same_days L L plan.policy shows (lines_alike_refl 1 L) agrees

  least_plan : LeastPlan L after n
  least_plan =
      record {
        told = plan.costs ∙ same_total L L plan.policy shows (lines_alike_refl 1 L) agrees;
        least = shows_plan.least;
        earliest = shows_plan.tie;
        decisions = plan.decisions ∙ shown_same L.trains plan.policy shows agrees;
        delays = plan.delays ∙ padded_same 64 L.trains _ _ days.arrival;
        cells = λ k l u v w.
            subst (IsCell L k l) (table_in L.trains after.cells k l w)
            (cell_means L _ _ plan.cells.worked k l u v (omega arith));
      }

pub demand_2 : Demand2 operations
unfolding plan_verdict line_of line_from
demand_2 =
    record {
      accepted_plan_is_least = λ x s before after a h zero.
          let fine = fine_of_zero (sheet_verdict s) _ before after a h zero in
          let sheet = (accepted_of_plan s before fine).1 in
          least_plan (line_of (numbers_of s)) before after _ sheet.numbers.trains_most (h.accepted fine);
    }

pub one_meaning : OneMeaning
one_meaning =
    record {
      read_then_write = read_then_write;
      write_then_read = write_then_read;
      equal_fields = equal_fields;
    }
