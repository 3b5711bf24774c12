-- Demand 3 of the calls from C. A run of calls is one of operations: a call that ran the operation is its step, and one
-- with a wrong list for the answer is none.
-- Assumes nothing.
use Rattle.std.proofs.Common.{ℕ, ◌≡◌, ap, sym, ◌∙◌, inl, inr, List, length, get_or}
use Rattle.std.proofs.lemmas.Bool.{cases_eq}
use Rattle.terms.specs.Answer.{answer_number}
use Rattle.sheet.specs.Format.{trains_of}
use Rattle.planner.specs.Buffers.{Buffers}
use Rattle.demands.specs.Calling.{Right, operations}
use Rattle.demands.specs.Runs.{InRun, planned, reported, refused_with_other_cells, refused_with_other_sheet}
use Rattle.demands.specs.Runs.{refused_plan, Agrees, ReportInRun}
use Rattle.demands.proofs.Answered.{all_right}
use Rattle.demands.proofs.Runs.{run_accepted, run_refusals, demand_3}
use Rattle.oblachura.specs.Calls.{PlanCall, lent, ReportCall}
use Rattle.oblachura.specs.Demands.{Result, from_c}
use Rattle.oblachura.proofs.Call.{call_told}
use Rattle.oblachura.proofs.Answered.{said_total, ten_not_zero, Ran, plan_ran, plan_kept, report_ran}
use Rattle.oblachura.proofs.Answered.{sheet_kept, report_kept}

-- the cells of equal buffers
same_cells : {after before : Buffers} → after ≡ before → after.cells ≡ before.cells
same_cells = ap (λ (b : Buffers). b.cells)

-- ---- a run of calls is a run of operations

run_of_operations : {s cells : List ℕ} → InRun from_c s cells → InRun operations s cells
run_of_operations (planned list s before after a h zero) = elim (cases_eq (length list) 3) [
  | inl long ↦
      let ran = plan_ran list s before after a h long in
      planned tt s before after ran.answer ran.of (sym ran.tells.number ∙ zero)
  | inr other ↦ ten_not_zero (plan_kept list s before after a h other).0 zero
]
run_of_operations (reported list s i v before t after a run h) = elim (cases_eq (length list) 3) [
  | inl long ↦
      let ran = report_ran list s i v before t after a h long in
      reported tt s i v before t after ran.answer (run_of_operations run) ran.of
  | inr other ↦
      rw (
        sheet_kept list s i v before t after a h other,
        same_cells (report_kept list s i v before t after a h other).1,
      ) (run_of_operations run)
]
run_of_operations (refused_with_other_cells list s cells i v before t after a run h refused) =
    elim (cases_eq (length list) 3) [
      | inl long ↦
          let ran = report_ran list s i v before t after a h long in
          refused_with_other_cells tt s cells i v before t after ran.answer (run_of_operations run) ran.of
          (λ zero. refused (ran.tells.number ∙ zero))
      | inr other ↦ rw (sheet_kept list s i v before t after a h other) (run_of_operations run)
    ]
run_of_operations (refused_with_other_sheet list s u i v before t after a run h refused) =
    elim (cases_eq (length list) 3) [
      | inl long ↦
          let ran = report_ran list u i v before t after a h long in
          refused_with_other_sheet tt s u i v before t after ran.answer (run_of_operations run) ran.of
          (λ zero. refused (ran.tells.number ∙ zero))
      | inr other ↦ rw (same_cells (report_kept list u i v before t after a h other).1) (run_of_operations run)
    ]
run_of_operations (refused_plan list s u before after a run h refused) = elim (cases_eq (length list) 3) [
  | inl long ↦
      let ran = plan_ran list u before after a h long in
      refused_plan tt s u before after ran.answer (run_of_operations run) ran.of
      (λ zero. refused (ran.tells.number ∙ zero))
  | inr other ↦ rw (same_cells (plan_kept list u before after a h other).1) (run_of_operations run)
]

-- ---- one report of it

module _ (list s : List ℕ) (i v : ℕ) (before : Buffers) (t : List ℕ) (after : Buffers) (a : Result)
    (run : InRun from_c s before.cells)
    (h : ReportCall i v (lent s before) list (lent t after) a.stored a.returned) where
  -- the operation was run
  module _ (long : length list ≡ 3) where
    step : Ran a (ReportInRun operations tt s i v before t after)
    step =
        let ran = report_ran list s i v before t after a h long in
        record {
          answer = ran.answer;
          tells = ran.tells;
          of = demand_3.of_report_in_run tt s i v before t after ran.answer (run_of_operations run) ran.of;
        }

    zero_of : a.returned ≡ 0 → answer_number step.answer ≡ 0
    zero_of zero = sym step.tells.number ∙ zero

    agrees : (b b' : Buffers) (y : List ℕ) (a' : Result) (zero : a.returned ≡ 0) → Right from_c y b
        → PlanCall t b y b' a'.stored a'.returned → Agrees from_c (trains_of t) after a b' a'
    agrees b b' y a' zero right plan =
        let ran = plan_ran y t b b' a' plan right.beside in
        let same = step.of.fresh (zero_of zero) tt b b' ran.answer (all_right right.buffers)
        ran.of in
        record {
          accepted = ran.tells.number ∙ same.accepted;
          total = said_total step.tells ∙ same.total ∙ sym (said_total ran.tells);
          decisions = same.decisions;
          delays = same.delays;
          cells = same.cells;
        }

    told_in_run : ReportInRun from_c list s i v before t after a
    told_in_run =
        record {
          accepts = λ right least most small.
              step.tells.number ∙ step.of.accepts (all_right right.buffers) least most small;
          accepted_only = λ zero.
              let told = step.of.accepted_only (zero_of zero) in
              (record { beside = long; buffers = told.0.buffers }, told.1, told.2, told.3);
          refusals = step.of.refusals;
          fresh = λ zero y b b' a'. agrees b b' y a' zero;
          plan = λ zero.
              call_told long step.answer (step.of.plan (zero_of zero)) (step.tells.number, step.tells.stores);
          field = λ zero. step.of.field (zero_of zero);
          rows = step.of.rows;
          refused = λ refused. step.of.refused (λ zero. refused (step.tells.number ∙ zero));
          stands = step.of.stands;
        }

  -- nothing was done
  module _ (other : ¬ (length list ≡ 3)) where
    abbrev never : {A : Type 0} → a.returned ≡ 0 → A
    never = ten_not_zero (report_kept list s i v before t after a h other).0

    unlisted_in_run : ReportInRun from_c list s i v before t after a
    unlisted_in_run =
        let sheet = sheet_kept list s i v before t after a h other in
        let cells = same_cells (report_kept list s i v before t after a h other).1 in
        record {
          accepts = λ right. absurd (other right.beside);
          accepted_only = never;
          refusals = run_refusals s i v before (run_of_operations run);
          fresh = never;
          plan = never;
          field = never;
          rows = λ p unused. ap (λ (c : List ℕ). get_or c p 0) cells;
          refused = λ refused. (sheet, cells);
          stands = rw sheet (run_accepted (run_of_operations run));
        }

  pub report_in_run : ReportInRun from_c list s i v before t after a
  report_in_run = elim (cases_eq (length list) 3) [
    | inl long ↦ told_in_run long
    | inr other ↦ unlisted_in_run other
  ]
