-- Demand 1 of one call from C, from that of the operation. A call either ran the operation, whose answer it returned
-- and stored, or had a wrong list for the answer, returned 10 and left everything as it was.
-- Assumes nothing.
use Rattle.std.proofs.Common.{ℕ, le_trans, le_of_eq, arith, ◌≡◌, ap, sym, ◌∙◌, inl, inr, List, length}
use Rattle.lists.specs.Run.{nth}
use Rattle.std.proofs.lemmas.Bool.{cases_eq}
use Rattle.terms.specs.declared.Refusal.{Refusal}
use Rattle.terms.specs.Verdict.{Verdict}
use Rattle.terms.specs.Answer.{Answer, answer_number, answer_place, answer_carries}
use Rattle.planner.specs.Buffers.{Buffers}
use Rattle.planner.specs.Plan.{Plan}
use Rattle.planner.specs.Report.{Report}
use Rattle.demands.specs.Calling.{operations}
use Rattle.demands.specs.Answered.{Carries, Answered, PlanAnswered, ReportAnswered}
use Rattle.demands.proofs.Answered.{all_right}
use Rattle.demands.proofs.Demands.{demand_1}
use Rattle.oblachura.specs.AnswerNumbers.{answer_numbers}
use Rattle.oblachura.specs.Calls.{PlanCall, Lent, lent, ReportCall}
use Rattle.oblachura.specs.Demands.{Result, from_c}

-- ---- a call and the answer of the operation

-- what is returned and stored is what the answer carries
pub record Says (a : Result) (b : Answer) : Type 0 where
  pub number : a.returned ≡ answer_number b
  pub stores : a.stored ≡ answer_numbers b

said_place : {a : Result} {b : Answer} → Says a b → nth a.stored 2 ≡ answer_place b
said_place s = ap (λ (l : List ℕ). nth l 2) s.stores

pub said_total : {a : Result} {b : Answer} → Says a b → nth a.stored 3 ≡ answer_carries b
said_total s = ap (λ (l : List ℕ). nth l 3) s.stores

carries : {a : Result} {b : Answer} {r : Refusal} → Says a b → Carries operations r b → Carries from_c r a
carries s h =
    record {
      number = s.number ∙ h.number;
      place = said_place s ∙ h.place;
      total = said_total s ∙ h.total;
    }

-- 10 is not 0
pub ten_not_zero : {A : Type 0} {r : ℕ} → r ≡ 10 → r ≡ 0 → A
ten_not_zero ten zero = absurd (omega (arith, ten, zero))

-- ---- demand 1

-- what the operation tells that was run, if it was
pub record Ran (a : Result) (Of : Answer → Type 0) : Type 0 where
  pub answer : Answer
  pub tells : Says a answer
  pub of : Of answer

module _ (list : List ℕ) {checks : Verdict} {Passes : Type 0} {m last : ℕ} {before after : Buffers} {a : Result}
    (ran : length list ≡ 3 → Ran a (Answered operations checks Passes m last tt before after))
    (kept : ¬ (length list ≡ 3) → (a.returned ≡ 10) × (after ≡ before)) where
  listed : a.returned ≡ 0 → length list ≡ 3
  listed zero = elim (cases_eq (length list) 3) [
    | inl long ↦ long
    | inr other ↦ ten_not_zero (kept other).0 zero
  ]

  -- an accepted call, as the operation's
  ran_zero : (zero : a.returned ≡ 0) → answer_number (ran (listed zero)).answer ≡ 0
  ran_zero zero = sym (ran (listed zero)).tells.number ∙ zero

  answered : Answered from_c checks Passes m last list before after a
  answered =
      record {
        accepts = λ right ok.
            let run = ran right.beside in
            run.tells.number ∙ run.of.accepts (all_right right.buffers) ok;
        accepted_only = λ zero.
            let told = (ran (listed zero)).of.accepted_only (ran_zero zero) in
            (record { beside = listed zero; buffers = told.0.buffers }, told.1);
        accepted_place = λ zero.
            said_place (ran (listed zero)).tells ∙ (ran (listed zero)).of.accepted_place (ran_zero zero);
        refuses = λ long r e. carries (ran long).tells ((ran long).of.refuses tt r e);
        blanks = λ right refused.
            let run = ran right.beside in
            run.of.blanks (all_right right.buffers) (λ zero. refused (run.tells.number ∙ zero));
        untouched = λ wrong. elim (cases_eq (length list) 3) [
          | inl long ↦
              let same = (ran long).of.untouched (λ right.
              wrong (record { beside = long; buffers = right.buffers })) in
              ((ran long).tells.number ∙ same.0, same.1)
          | inr other ↦ kept other
        ];
        others = λ zero. (ran (listed zero)).of.others (ran_zero zero);
        lengths = elim (cases_eq (length list) 3) [
          | inl long ↦ (ran long).of.lengths
          | inr other ↦
              let same = (kept other).1 in
              record {
                cells = ap (λ (b : Buffers). length b.cells) same;
                decisions = ap (λ (b : Buffers). length b.decisions) same;
                delays = ap (λ (b : Buffers). length b.delays) same;
              }
        ];
        most = λ long. le_trans (le_of_eq (said_total (ran long).tells)) ((ran long).of.most tt);
      }

-- ---- a call of plan

module _ (list s : List ℕ) (before after : Buffers) (a : Result)
    (h : PlanCall s before list after a.stored a.returned) where
  pub plan_ran : length list ≡ 3 → Ran a (Plan s before after)
  plan_ran long =
      let t = h.told long in
      record { answer = t.answer; tells = record { number = t.returns; stores = t.stores }; of = t.done }

  pub plan_kept : ¬ (length list ≡ 3) → (a.returned ≡ 10) × (after ≡ before)
  plan_kept other = let w = h.wrong_list other in (w.returns, w.kept)

  pub plan_answered : PlanAnswered from_c list s before after a
  plan_answered =
      answered list
      (λ long. let run = plan_ran long in
      record {
        answer = run.answer;
        tells = run.tells;
        of = demand_1.of_plan tt s before after run.answer run.of;
      })
      plan_kept

-- ---- a call of report

module _ (list s : List ℕ) (i v : ℕ) (before : Buffers) (t : List ℕ) (after : Buffers) (a : Result)
    (h : ReportCall i v (lent s before) list (lent t after) a.stored a.returned) where
  pub report_ran : length list ≡ 3 → Ran a (Report s i v before t after)
  report_ran long =
      let told = h.told long in
      record {
        answer = told.answer;
        tells = record { number = told.returns; stores = told.stores };
        of = told.done;
      }

  pub sheet_kept : ¬ (length list ≡ 3) → t ≡ s
  sheet_kept other = ap (λ (x : Lent). x.sheet) (h.wrong_list other).kept

  pub report_kept : ¬ (length list ≡ 3) → (a.returned ≡ 10) × (after ≡ before)
  report_kept other = let w = h.wrong_list other in (w.returns, ap (λ (x : Lent). x.buffers) w.kept)

  operation_answered : length list ≡ 3 → Ran a (ReportAnswered operations tt s i v before t after)
  operation_answered long =
      let run = report_ran long in
      record {
        answer = run.answer;
        tells = run.tells;
        of = demand_1.of_report tt s i v before t after run.answer run.of;
      }

  pub report_answered : ReportAnswered from_c list s i v before t after a
  report_answered =
      record {
        answered = answered list
            (λ long. let run = operation_answered long in
            record { answer = run.answer; tells = run.tells; of = run.of.answered })
            report_kept;
        no_train = λ right ok n.
            let run = operation_answered right.beside in
            carries run.tells (run.of.no_train (all_right right.buffers) ok n);
        too_late = λ right ok b c late.
            let run = operation_answered right.beside in
            carries run.tells (run.of.too_late (all_right right.buffers) ok b c late);
        over = λ right ok b c d k f.
            let run = operation_answered right.beside in
            carries run.tells (run.of.over (all_right right.buffers) ok b c d k f);
        sheet = λ refused. elim (cases_eq (length list) 3) [
          | inl long ↦
              let run = operation_answered long in
              run.of.sheet (λ zero. refused (run.tells.number ∙ zero))
          | inr other ↦ sheet_kept other
        ];
        sheet_length = elim (cases_eq (length list) 3) [
          | inl long ↦ (operation_answered long).of.sheet_length
          | inr other ↦ ap length (sheet_kept other)
        ];
      }
