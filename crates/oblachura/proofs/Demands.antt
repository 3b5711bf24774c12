-- The three demands hold of the calls from C: each promise can be kept and leaves nothing open, because the operation's
-- does; what an accepted plan returned and stored is what the operation answered.
-- Assumes nothing.
use Rattle.std.proofs.Common.{ℕ, ◌≡◌, refl, sym, subst, ◌∙◌, inl, inr, List, length}
use Rattle.std.proofs.lemmas.Bool.{cases_eq}
use Rattle.bits.specs.Field.{Bytes}
use Rattle.terms.specs.declared.ListFault.TheVariants.{BufferLength}
use Rattle.terms.specs.declared.Refusal.TheVariants.{OfList}
use Rattle.terms.specs.Refusal.{number_of}
use Rattle.terms.specs.Answer.{Answer, answer_number, answer_place}
use Rattle.sheet.specs.Accepted.{AcceptedSheet}
use Rattle.sheet.specs.Numbers.{numbers_of}
use Rattle.prepare.specs.LineOf.{line_of}
use Rattle.planner.specs.Buffers.{Buffers}
use Rattle.planner.specs.Plan.{Plan}
use Rattle.planner.proofs.Outcome.{plan_outcome_one, report_outcome_one}
use Rattle.demands.specs.Calling.{Right}
use Rattle.demands.specs.Answered.{PlanPossible, ReportPossible, Demand1}
use Rattle.demands.specs.Least.{LeastPlan}
use Rattle.demands.specs.Runs.{planned, Begun}
use Rattle.demands.proofs.Demands.{demand_1, demand_2}
use Rattle.oblachura.specs.AnswerNumbers.{answer_numbers}
use Rattle.oblachura.specs.Calls.{PlanCall, lent, ReportCall}
use Rattle.oblachura.specs.CallPromises.{One}
use Rattle.oblachura.specs.Demands.{Result, from_c, PlanStores, Demands}
use Rattle.oblachura.proofs.Call.{call_told, call_wrong_list, call_one}
use Rattle.oblachura.proofs.Answered.{said_total, Ran, plan_ran, plan_answered, report_answered}
use Rattle.oblachura.proofs.Runs.{report_in_run}

-- ---- demand 1

-- what is returned and stored where the operation answers b, and where the list has another length
result_of : Answer → Result
result_of b = record { returned = answer_number b; stored = answer_numbers b }

unlisted : List ℕ → Result
unlisted list = record { returned = number_of (OfList BufferLength); stored = list }

plan_possible : (list s : List ℕ) (before : Buffers) → PlanPossible from_c list s before
unfolding result_of unlisted
plan_possible list s before = elim (cases_eq (length list) 3) [
  | inl long ↦
      let found = demand_1.every_sheet tt s before in
      record {
        after = found.after;
        answer = result_of found.answer;
        plan = call_told long found.answer found.plan (refl, refl);
      }
  | inr other ↦ record { after = before; answer = unlisted list; plan = call_wrong_list other refl }
]

report_possible : (list s : List ℕ) → Bytes s → (i v : ℕ) (before : Buffers) → ReportPossible from_c list s i v before
unfolding result_of unlisted
report_possible list s bytes i v before = elim (cases_eq (length list) 3) [
  | inl long ↦
      let found = demand_1.every_report tt s bytes i v before in
      record {
        sheet = found.sheet;
        after = found.after;
        answer = result_of found.answer;
        report = call_told long found.answer found.report (refl, refl);
      }
  | inr other ↦ record { sheet = s; after = before; answer = unlisted list; report = call_wrong_list other refl }
]

one_plan : (s : List ℕ) (before : Buffers) (list : List ℕ) → One (PlanCall s before list)
one_plan s before list = call_one (plan_outcome_one s before)

one_report : (i v : ℕ) (s : List ℕ) (before : Buffers) (list : List ℕ) → One (ReportCall i v (lent s before) list)
one_report i v s before list =
    call_one (λ after after' a a' g h.
    let same = report_outcome_one s i v before _ _ _ _ a a' g h in
    (same.0, λ k. lent (same.1 k) (same.2 k)))

result_one : {a a' : Result} → a.returned ≡ a'.returned → a.stored ≡ a'.stored → a ≡ a'
result_one returned stored k = record { returned = returned k; stored = stored k }

demand_1_from_c : Demand1 from_c
demand_1_from_c =
    record {
      every_sheet = plan_possible;
      every_report = report_possible;
      one_plan = λ list s before after after' a a' g h.
          let same = one_plan s before list _ _ _ _ _ _ g h in
          (result_one same.2 same.1, same.0);
      one_report = λ list s i v before t t' after after' a a' g h.
          let same = one_report i v s before list _ _ _ _ _ _ g h in
          (result_one same.2 same.1, λ k. (same.0 k).sheet, λ k. (same.0 k).buffers);
      of_plan = plan_answered;
      of_report = report_answered;
    }

-- ---- demand 2

module _ (list s : List ℕ) (before after : Buffers) (a : Result)
    (h : PlanCall s before list after a.stored a.returned) (zero : a.returned ≡ 0) where
  -- the operation was run, and accepted
  ran_accepted : Ran a (λ b. Plan s before after b × (answer_number b ≡ 0))
  ran_accepted =
      let right = ((plan_answered list s before after a h).accepted_only zero).0 in
      let ran = plan_ran list s before after a h right.beside in
      record { answer = ran.answer; tells = ran.tells; of = (ran.of, sym ran.tells.number ∙ zero) }

  least : LeastPlan (line_of (numbers_of s)) after (from_c.total a)
  least =
      let ran = ran_accepted in
      subst (LeastPlan (line_of (numbers_of s)) after) (sym (said_total ran.tells))
      (demand_2.accepted_plan_is_least tt s before after ran.answer ran.of.0 ran.of.1)

  place_zero : answer_place ran_accepted.answer ≡ 0
  place_zero =
      let ran = ran_accepted in
      (demand_1.of_plan tt s before after ran.answer ran.of.0).accepted_place ran.of.1

plan_stores : PlanStores
plan_stores list s before after stored h =
    let a : Result = record { returned = 0; stored = stored } in
    let ran = ran_accepted list s before after a h refl in
    let told : stored ≡ answer_numbers ran.answer = ran.tells.stores in
    let number = ran.of.1 in
    let place = place_zero list s before after a h refl in
    let total = sym (said_total ran.tells) ∙ (least list s before after a h refl).told in
    cc

-- ---- demand 3

begun : (list s : List ℕ) (before : Buffers) → AcceptedSheet s → Right from_c list before → Begun from_c list s before
begun list s before ok right =
    let found = plan_possible list s before in
    let zero = (plan_answered list s before found.after found.answer found.plan).accepts right ok in
    record {
      after = found.after;
      answer = found.answer;
      plan = found.plan;
      run = planned list s before found.after found.answer found.plan zero;
    }

pub demands : Demands
demands =
    record {
      first_demand = demand_1_from_c;
      second_demand = record { accepted_plan_is_least = least };
      third_demand = record { begins = begun; of_report_in_run = report_in_run };
      plan_stores = plan_stores;
    }
