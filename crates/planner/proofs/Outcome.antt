-- What a call answers, refused and accepted; and that the promises leave nothing open: plans agree on the trains in
-- use, and nothing else of them is shown; a report's sheet and cells are determined, and the rest is read off them.
-- Assumes nothing.
use Rattle.std.proofs.Common.{◌≡◌, ap, sym, subst, ◌∙◌, false, true≢false, List, ◌⊎◌, inl, inr, ℕ, ◌≤◌, length}
use Rattle.std.proofs.Common.{replicate}
use Rattle.std.specs.Prelude.{if◌then◌else◌, Ok, Err}
use Rattle.lists.specs.Run.{padded}
use Rattle.std.proofs.lemmas.Bool.{cases_Bool, cond-true, cond-false}
use Rattle.lists.proofs.Run.{padded_same}
use Rattle.bits.proofs.Puts.{put_unique}
use Rattle.terms.specs.declared.Refusal.{Refusal}
use Rattle.terms.specs.Verdict.{Verdict, Fine, number_in, place_in}
use Rattle.terms.specs.Answer.{Answer, answer_number, answer_place, answer_carries, answer_of}
use Rattle.terms.specs.Refusal.{blanks_of}
use Rattle.terms.proofs.Checks.{refused_not_fine, fine_or_refused}
use Rattle.terms.proofs.Answers.{answer_number_lem, answer_place_lem}
use Rattle.line.specs.Line.{Line, line_from}
use Rattle.line.specs.Policy.{Policy, arrival}
use Rattle.line.specs.Cells.{Book, book_of, decide}
use Rattle.line.proofs.Days.{lines_alike_refl, same_days, same_total}
use Rattle.line.proofs.Plan.{plan_one}
use Rattle.line.proofs.Worked.{decided_total, decided_is_plan}
use Rattle.sheet.specs.Numbers.{numbers_of}
use Rattle.sheet.proofs.Amend.{replaced_accepted}
use Rattle.cells.specs.Place.{table_of}
use Rattle.cells.specs.Shown.{shown}
use Rattle.cells.proofs.Written.{rows_worked_one}
use Rattle.cells.proofs.Shown.{shown_same}
use Rattle.prepare.specs.LineOf.{line_of}
use Rattle.planner.specs.Buffers.{Buffers, RightLengths, RefusedFor}
use Rattle.planner.specs.Settled.{Settled}
use Rattle.planner.specs.Outcome.{Outcome}
use Rattle.planner.specs.Plan.{plan_verdict, Planned, Plan}
use Rattle.planner.specs.Report.{report_verdict, Reported, Report}
use Rattle.planner.proofs.Settles.{buffers_one}
use Rattle.planner.proofs.Refusals.{accepted_of_plan, accepted_of_report}

-- ---- what a call answers

module _ (checks : Verdict) (Stored : ℕ → Type 0) (before after : Buffers) where
  pub outcome_accepted : {n : ℕ} → Fine ≡ checks → Stored n → Outcome checks Stored before after (Ok n)
  outcome_accepted {n} e stored =
      record {
        answer = ap (λ (v : Verdict). answer_of v n) e;
        accepted = λ f. stored;
        refused = λ r f. refused_not_fine (sym (e ∙ f));
      }

  pub outcome_refused : (r : Refusal) → Err r ≡ checks → RefusedFor r before after
      → Outcome checks Stored before after (Err r)
  outcome_refused r e left =
      record {
        answer = ap (λ (v : Verdict). answer_of v 0) e;
        accepted = λ f. refused_not_fine (e ∙ f);
        refused = λ q f.
            let both : Err r ≡ Err q = e ∙ f in
            let same : r ≡ q = cc in
            subst (λ (x : Refusal). RefusedFor x before after) same left;
      }

  -- in the paper's numbers
  module _ (a : Answer) (h : Outcome checks Stored before after a) where
    pub outcome_number : answer_number a ≡ number_in checks
    outcome_number = ap answer_number h.answer ∙ answer_number_lem checks _

    pub outcome_place : answer_place a ≡ place_in checks
    outcome_place = ap answer_place h.answer ∙ answer_place_lem checks _

    pub refused_carries : (r : Refusal) → checks ≡ Err r → answer_carries a ≡ 0
    refused_carries r e = ap answer_carries (h.answer ∙ ap (λ (v : Verdict). answer_of v (answer_carries a)) e)

-- with every row worked it is a plan
pub settled_planned : (L : Line) (t : ℕ) (before after : Buffers) (n : ℕ) → t ≡ L.trains
    → Settled (book_of L) t before after n → Planned L before after n
settled_planned L t before after n all settled =
    let S = rw all at settled in
    let worked = S.cells.worked in
    record {
      policy = decide (book_of L) (table_of L.trains after.cells);
      plan = decided_is_plan L _ _ worked;
      costs = S.total ∙ sym (decided_total L _ _ worked);
      decisions = S.walked.decisions;
      delays = S.walked.delays;
      cells = S.cells;
    }

-- buffers of the right lengths are blanked by 64; a refusal that does not blank asks for no length
pub refused_for : (r : Refusal) (before after : Buffers) → RightLengths before ⊎ (blanks_of r ≡ false)
    → after.decisions ≡ (if blanks_of r then replicate (length before.decisions) 2 else before.decisions)
    → after.delays ≡ (if blanks_of r then replicate (length before.delays) 0 else before.delays)
    → after.cells ≡ before.cells
    → RefusedFor r before after
refused_for r before after right decisions delays cells =
    record {
      blanked = λ blanks. elim right [
        | inl long ↦ record {
          decisions = decisions ∙ cond-true _ _ _ blanks ∙ ap (λ (n : ℕ). replicate n 2) long.decisions;
          delays = delays ∙ cond-true _ _ _ blanks ∙ ap (λ (n : ℕ). replicate n 0) long.delays;
          cells = cells;
        }
        | inr not ↦ absurd (true≢false (sym blanks ∙ not))
      ];
      kept = λ not.
          buffers_one after before cells (decisions ∙ cond-false _ _ _ not) (delays ∙ cond-false _ _ _ not);
    }

-- a refusal of any kind leaves the cells
pub refused_cells : (r : Refusal) (before after : Buffers) → RefusedFor r before after → after.cells ≡ before.cells
refused_cells r before after left = elim (cases_Bool (blanks_of r)) [
  | inl blanks ↦ (left.blanked blanks).cells
  | inr keeps ↦ ap (λ (b : Buffers). b.cells) (left.kept keeps)
]

-- ---- two outcomes that keep one promise are equal

-- two plans of one line show the same, whatever cells they were lent
pub planned_same : (L : Line) (before after before' after' : Buffers) (n n' : ℕ) → Planned L before after n
    → Planned L before' after' n'
    → (n ≡ n') × (after.decisions ≡ after'.decisions) × (after.delays ≡ after'.delays)
planned_same L before after before' after' n n' P Q =
    let same = plan_one L P.policy Q.policy P.plan Q.plan in
    let lines = lines_alike_refl 1 L in
    let days = same_days L L P.policy Q.policy lines same in (
      P.costs ∙ same_total L L P.policy Q.policy lines same ∙ sym Q.costs,
      P.decisions ∙ shown_same L.trains P.policy Q.policy same ∙ sym Q.decisions,
      P.delays ∙ padded_same 64 L.trains _ _ days.arrival ∙ sym Q.delays,
    )

module _ (before after after' : Buffers) where
  planned_one : (L : Line) (n n' : ℕ) → L.trains ≤ 64 → Planned L before after n → Planned L before after' n'
      → (n ≡ n') × (after ≡ after')
  planned_one L n n' few P Q =
      let same = planned_same L before after before after' n n' P Q in
      let cells = rows_worked_one (book_of L) L.trains _ _ _ few P.cells Q.cells in
      (same.0, buffers_one after after' cells same.1 same.2)

  settled_one : (B : Book) (t n n' : ℕ) → B.trains ≤ 64 → Settled B t before after n → Settled B t before after' n'
      → (n ≡ n') × (after ≡ after')
  settled_one B t n n' few P Q =
      let same = rows_worked_one B t _ _ _ few P.cells Q.cells in
      let read : List ℕ → Policy = λ cells. decide B (table_of B.trains cells) in (
        P.total ∙ ap (λ (c : List ℕ). table_of B.trains c 1 1) same ∙ sym Q.total,
        buffers_one after after' same
            (P.walked.decisions ∙ ap (λ (c : List ℕ). shown B.trains (read c)) same ∙ sym Q.walked.decisions)
            (P.walked.delays ∙ ap (λ (c : List ℕ). padded 64 B.trains (arrival B.running (read c))) same
            ∙ sym Q.walked.delays),
      )

  refused_for_one : (r : Refusal) → RefusedFor r before after → RefusedFor r before after' → after ≡ after'
  refused_for_one r P Q = elim (cases_Bool (blanks_of r)) [
    | inl blanks ↦
        let p = P.blanked blanks in
        let q = Q.blanked blanks in
        buffers_one after after' (p.cells ∙ sym q.cells) (p.decisions ∙ sym q.decisions)
        (p.delays ∙ sym q.delays)
    | inr keeps ↦ P.kept keeps ∙ sym (Q.kept keeps)
  ]

-- answers by the same checks are equal if they carry the same
answers_one : (checks : Verdict) (a a' : Answer) → a ≡ answer_of checks (answer_carries a)
    → a' ≡ answer_of checks (answer_carries a') → answer_carries a ≡ answer_carries a' → a ≡ a'
answers_one checks a a' p q same = p ∙ ap (answer_of checks) same ∙ sym q

pub plan_outcome_one : (s : List ℕ) (before after after' : Buffers) (a a' : Answer) → Plan s before after a
    → Plan s before after' a' → (a ≡ a') × (after ≡ after')
unfolding line_of line_from
plan_outcome_one s before after after' a a' P Q = elim (fine_or_refused (plan_verdict s before)) [
  | inl e ↦
      let few = (accepted_of_plan s before e).1.numbers.trains_most in
      let one = planned_one before after after' _ _ _ few (P.accepted e) (Q.accepted e) in
      (answers_one (plan_verdict s before) a a' P.answer Q.answer one.0, one.1)
  | inr (r, e) ↦ (
    answers_one (plan_verdict s before) a a' P.answer Q.answer
        (refused_carries _ _ _ _ _ P r e ∙ sym (refused_carries _ _ _ _ _ Q r e)),
    refused_for_one before after after' r (P.refused r e) (Q.refused r e),
  )
]

-- an accepted report replaces one field, which leaves one sheet
module _ (s : List ℕ) (i v : ℕ) (before : Buffers) (t t' : List ℕ) (after after' : Buffers) where
  reported_one : (n n' : ℕ) → (numbers_of t).trains ≤ 64 → Reported s i v before t after n
      → Reported s i v before t' after' n' → (n ≡ n') × (t ≡ t') × (after ≡ after')
  unfolding line_of line_from
  reported_one n n' few P Q =
      let same = put_unique P.sheet.put Q.sheet.put P.sheet.bytes Q.sheet.bytes in
      let settled = subst (λ (u : List ℕ). Settled (book_of (line_of (numbers_of u))) i before after' n')
      (sym same) Q.settled in
      let left = settled_one before after after' (book_of (line_of (numbers_of t))) i _ _ few P.settled settled in
      (left.0, same, left.1)

  pub report_outcome_one : (a a' : Answer) → Report s i v before t after a → Report s i v before t' after' a'
      → (a ≡ a') × (t ≡ t') × (after ≡ after')
  report_outcome_one a a' P Q = elim (fine_or_refused (report_verdict s i v before)) [
    | inl e ↦
        let told = accepted_of_report s i v before e in
        let report = told.2 in
        let reported = P.outcome.accepted e in
        let range = (replaced_accepted s t i v told.1 report.least report.most reported.sheet
        report.delay).numbers in
        let one = reported_one _ _ range.trains_most reported (Q.outcome.accepted e) in
        let same = answers_one (report_verdict s i v before) a a' P.outcome.answer Q.outcome.answer one.0 in
        (same, one.1, one.2)
    | inr (r, e) ↦ (
      answers_one (report_verdict s i v before) a a' P.outcome.answer Q.outcome.answer
          (refused_carries _ _ _ _ _ P.outcome r e ∙ sym (refused_carries _ _ _ _ _ Q.outcome r e)),
      P.kept r e ∙ sym (Q.kept r e),
      refused_for_one before after after' r (P.outcome.refused r e) (Q.outcome.refused r e),
    )
  ]
