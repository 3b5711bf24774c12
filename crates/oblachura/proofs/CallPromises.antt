-- The promises of the four calls from C hold, each by the operation's own.
-- Assumes nothing.
use Rattle.std.proofs.Common.{ℕ, ◌≡◌, ap, sym, ◌∙◌, inl, inr, List, ◌∷◌, [], length}
use Rattle.std.proofs.lemmas.Bool.{cases_eq}
use Rattle.terms.specs.Verdict.{Verdict, number_in, place_in}
use Rattle.terms.specs.Answer.{Answer, answer_number, answer_carries}
use Rattle.terms.proofs.Checks.{fine_or_refused, if_fine_lem, if_refused}
use Rattle.line.specs.Line.{line_from}
use Rattle.writer.proofs.Outcome.{write_one, write_tells}
use Rattle.reader.proofs.Stored.{read_one, read_tells}
use Rattle.prepare.specs.LineOf.{line_of}
use Rattle.planner.specs.Buffers.{Buffers}
use Rattle.planner.specs.Outcome.{Outcome}
use Rattle.planner.specs.Plan.{plan_verdict, Plan}
use Rattle.planner.specs.Report.{report_verdict}
use Rattle.planner.proofs.Outcome.{outcome_number, outcome_place, refused_carries}
use Rattle.demands.proofs.Demands.{demand_2}
use Rattle.oblachura.specs.AnswerNumbers.{answer_numbers}
use Rattle.oblachura.specs.Calls.{PlanCall, Lent, ReportLeaves, ReportCall}
use Rattle.oblachura.specs.CallPromises.{plan_brings, report_brings, Refuses, CallPromises}
use Rattle.oblachura.proofs.Call.{call_one, call_returns}
use Rattle.oblachura.proofs.Refused.{kept_refuses, outcome_refuses}
use Rattle.oblachura.proofs.Demands.{demands}

plan_refuses : (s : List ℕ) (before : Buffers) (list : List ℕ) (after : Buffers) (stored : List ℕ) (r : ℕ)
    → PlanCall s before list after stored r → Refuses before after r
plan_refuses s before list after stored r h = elim (cases_eq (length list) 3) [
  | inl long ↦ let t = h.told long in outcome_refuses _ _ t.answer t.returns t.done
  | inr other ↦ let w = h.wrong_list other in kept_refuses w.returns w.kept
]

report_refuses : (i v : ℕ) (before : Lent) (list : List ℕ) (after : Lent) (stored : List ℕ) (r : ℕ)
    → ReportCall i v before list after stored r
    → Refuses before.buffers after.buffers r × (¬ (r ≡ 0) → after.sheet ≡ before.sheet)
report_refuses i v before list after stored r h = elim (cases_eq (length list) 3) [
  | inl long ↦
      let t = h.told long in (
        outcome_refuses _ _ t.answer t.returns t.done.outcome,
        λ not-zero. elim (fine_or_refused (report_verdict before.sheet i v before.buffers)) [
          | inl fine ↦ absurd (not-zero (t.returns ∙ outcome_number _ _ _ _ _ t.done.outcome ∙ ap number_in fine))
          | inr (q, e) ↦ t.done.kept q e
        ],
      )
  | inr other ↦
      let w = h.wrong_list other in (
        kept_refuses w.returns (ap (λ (x : Lent). x.buffers) w.kept),
        λ not-zero. ap (λ (x : Lent). x.sheet) w.kept,
      )
]

-- ---- what is stored behind number and place

plan_brings_lem : (s : List ℕ) (before after : Buffers) (a : Answer) → Plan s before after a
    → answer_carries a ∷ [] ≡ plan_brings s before after
plan_brings_lem s before after a h = elim (fine_or_refused (plan_verdict s before)) [
  | inl fine ↦
      let least = demand_2.accepted_plan_is_least tt s before after a h
      (outcome_number _ _ _ _ a h ∙ ap number_in fine) in
      ap (λ (x : ℕ). x ∷ []) (least.told ∙ if_fine_lem _ _ _ (sym fine))
  | inr (r, e) ↦ ap (λ (x : ℕ). x ∷ []) (refused_carries _ _ _ _ a h r e ∙ if_refused _ _ _ (sym e))
]

report_brings_lem : (i v : ℕ) (before after : Lent) (a : Answer) → ReportLeaves i v before after a
    → answer_carries a ∷ [] ≡ report_brings i v before after
unfolding line_of line_from
report_brings_lem i v before after a h = elim (fine_or_refused (report_verdict before.sheet i v before.buffers)) [
  | inl fine ↦
      ap (λ (x : ℕ). x ∷ []) ((h.outcome.accepted fine).settled.total ∙ if_fine_lem _ _ _ (sym fine))
  | inr (r, e) ↦
      ap (λ (x : ℕ). x ∷ []) (refused_carries _ _ _ _ a h.outcome r e ∙ if_refused _ _ _ (sym e))
]

-- number and place are those of the checks
outcome_tells : (checks : Verdict) (Stored : ℕ → Type 0) (before after : Buffers) (a : Answer) (brought : List ℕ)
    → Outcome checks Stored before after a → answer_carries a ∷ [] ≡ brought
    → (answer_number a ≡ number_in checks) × (answer_numbers a ≡ number_in checks ∷ place_in checks ∷ brought)
outcome_tells checks Stored before after a brought h brings =
    let number = outcome_number checks Stored before after a h in
    let place = outcome_place checks Stored before after a h in
    (number, λ k. number k ∷ place k ∷ brings k)

pub call_promises : CallPromises
call_promises =
    record {
      demands = demands;
      one_read = λ s before list. call_one (read_one s before);
      one_write = λ G before list. call_one (write_one G before);
      read_returns = λ s before list after stored r.
          call_returns _ _ (λ a g.
          let told = read_tells g in
          (told.number, λ k. told.number k ∷ told.place k ∷ told.trains k ∷ told.period k ∷ []));
      write_returns = λ G before list after stored r.
          call_returns _ _ (λ a g.
          let told = write_tells g in
          (told.number, λ k. told.number k ∷ told.place k ∷ told.long k ∷ []));
      plan_returns = λ s before list after stored r.
          call_returns _ _ (λ a g. outcome_tells _ _ _ _ a _ g (plan_brings_lem s before after a g));
      report_returns = λ i v before list after stored r.
          call_returns _ _ (λ a g. outcome_tells _ _ _ _ a _ g.outcome (report_brings_lem i v before after a g));
      plan_refuses = plan_refuses;
      report_refuses = report_refuses;
    }
