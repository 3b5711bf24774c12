-- Demand 3 of the operations, from their contracts alone. In a run the sheet is always accepted and the cells in use
-- are its plan's; so no cell is over the limit, and rows 1 to a train worked anew are the whole plan of the sheet as it
-- then stands.
-- Assumes nothing.
use Rattle.std.proofs.Common.{◌≡◌, refl, sym, ap, subst, ◌∙◌, List, inl, inr, ℕ, ◌+◌, ◌≤◌, le_trans, arith, get_or}
use Rattle.terms.specs.declared.Refusal.{Refusal}
use Rattle.std.specs.Prelude.{Ok, Err}
use Rattle.terms.specs.Verdict.{Verdict, Fine, number_in}
use Rattle.terms.specs.Answer.{Answer, answer_number, answer_carries, answer_of}
use Rattle.terms.proofs.Checks.{refused_not_fine, fine_or_refused}
use Rattle.terms.proofs.Refusing.{Only, only_of, only_then}
use Rattle.line.specs.Line.{Line, line_from}
use Rattle.line.specs.Cells.{Table, Book, book_of, Worked}
use Rattle.line.proofs.Alike.{books_of_lines}
use Rattle.line.proofs.Tables.{worked_one, reworked_is_worked}
use Rattle.line.proofs.Bounds.{cell_le}
use Rattle.line.proofs.Totals.{range_of_line}
use Rattle.sheet.specs.Format.{trains_of}
use Rattle.sheet.specs.Numbers.{numbers_of}
use Rattle.sheet.specs.Checks.{sheet_verdict}
use Rattle.sheet.specs.Accepted.{AcceptedSheet}
use Rattle.sheet.proofs.Facts.{fine_of_accepted}
use Rattle.sheet.proofs.Meaning.{same_sym}
use Rattle.sheet.proofs.Amend.{replaced_numbers, replaced_accepted}
use Rattle.cells.specs.Place.{table_of, InUse}
use Rattle.cells.specs.Limits.{CellsInRange}
use Rattle.cells.proofs.Places.{table_in}
use Rattle.cells.proofs.Limited.{fine_of_later}
use Rattle.prepare.specs.LineOf.{line_of}
use Rattle.prepare.proofs.Lines.{line_in_range, lines_after}
use Rattle.planner.specs.ReportChecks.{report_checks, own_verdict, Reportable}
use Rattle.planner.specs.Buffers.{Buffers, RightLengths}
use Rattle.planner.specs.Settled.{Settled}
use Rattle.planner.specs.Outcome.{Outcome}
use Rattle.planner.specs.Plan.{plan_verdict, Planned, Plan}
use Rattle.planner.specs.Report.{report_verdict, Reported, Report}
use Rattle.planner.proofs.Refusals.{buffers_refusal, checks_right, accepted_of_plan}
use Rattle.planner.proofs.Refusals.{after_lengths_verdict, fine_of_facts}
use Rattle.planner.proofs.Refusals.{accepted_of_report}
use Rattle.planner.proofs.Outcome.{outcome_accepted, outcome_number, settled_planned, refused_cells, planned_same}
use Rattle.demands.specs.Calling.{Right, operations}
use Rattle.demands.specs.Runs.{InRun, planned, reported, refused_with_other_cells, refused_with_other_sheet}
use Rattle.demands.specs.Runs.{refused_plan, Agrees, OfItself, ReportInRun, Begun, Demand3}
use Rattle.demands.proofs.Answered.{all_right, fine_of_zero, zero_of_fine, plan_answered, report_answered}
use Rattle.demands.proofs.Possible.{plan_possible}

-- ---- what stands in a run: an accepted sheet, and the cells in use of its plan

record Standing (s cells : List ℕ) : Type 0 where
  ok : AcceptedSheet s
  old : Table
  worked : Worked (book_of (line_of (numbers_of s))) (trains_of s) old (table_of (trains_of s) cells)

-- no cell in use is over the limit
within : (s cells : List ℕ) → Standing s cells → CellsInRange (trains_of s) cells
unfolding line_of line_from
within s cells h k l a b c =
    let L = line_of (numbers_of s) in
    cell_le (book_of L) (range_of_line L (line_in_range (numbers_of s) h.ok.numbers)) k a (trains_of s) _ _ h.worked
    (omega arith) l b c

planned_stands : (s : List ℕ) (before after : Buffers) (a : Answer) → Plan s before after a → answer_number a ≡ 0
    → Standing s after.cells
unfolding plan_verdict line_of line_from
planned_stands s before after a h zero =
    let fine = fine_of_zero (sheet_verdict s) _ before after a h zero in
    record {
      ok = (accepted_of_plan s before fine).1;
      old = table_of (trains_of s) before.cells;
      worked = (h.accepted fine).cells.worked;
    }

-- ---- rows worked anew up to a train are a whole plan, where the later rows are worked already

whole_settled : (B : Book) (i : ℕ) (before after : Buffers) (n : ℕ) → i ≤ B.trains → Settled B i before after n
    → Worked B B.trains (table_of B.trains before.cells) (table_of B.trains after.cells)
    → Settled B B.trains before after n
whole_settled B i before after n most settled worked =
    record {
      cells = record {
        long = settled.cells.long;
        worked = worked;
        others = λ p unused. settled.cells.others p (λ u.
            unused (record {
              row = u.row;
              least = u.least;
              most = le_trans u.most most;
              cell = u.cell;
            }));
      };
      walked = settled.walked;
      total = settled.total;
    }

-- two plans of one line agree in all that is in use
planned_agrees : (L : Line) (before after b b' : Buffers) (a a' : Answer) → answer_number a' ≡ 0
    → Planned L before after (answer_carries a) → Planned L b b' (answer_carries a')
    → Agrees operations L.trains after a b' a'
planned_agrees L before after b b' a a' zero P Q =
    let same = planned_same L before after b b' _ _ P Q in
    record {
      accepted = zero;
      total = same.0;
      decisions = same.1;
      delays = same.2;
      cells = λ k l u v w.
          sym (table_in L.trains after.cells k l w)
          ∙ worked_one (book_of L) L.trains _ _ _ _ P.cells.worked Q.cells.worked
          (λ i j x y z. absurd (omega arith)) k l u v (omega arith)
          ∙ table_in L.trains b'.cells k l w;
    }

-- a refused call, with whatever checks, leaves the cells
cells_kept : {checks : Verdict} {Stored : ℕ → Type 0} {before after : Buffers} {a : Answer}
    → Outcome checks Stored before after a → ¬ (answer_number a ≡ 0) → after.cells ≡ before.cells
cells_kept {checks} h refused = elim (fine_or_refused checks) [
  | inl fine ↦ absurd (refused (outcome_number _ _ _ _ _ h ∙ ap number_in fine))
  | inr (r, e) ↦ refused_cells r _ _ (h.refused r e)
]

-- ---- one report

module _ (s : List ℕ) (i v : ℕ) (before : Buffers) (standing : Standing s before.cells) where
  -- neither the sheet nor the later rows refuse
  refusals : (r : Refusal) → report_verdict s i v before ≡ Err r → OfItself i r
  unfolding report_verdict own_verdict report_checks
  refusals =
      let P : Refusal → Type 0 = OfItself i in
      let silent : (w : Verdict) → w ≡ Fine → Only P w = λ w fine r e. refused_not_fine (sym e ∙ fine) in
      let later = fine_of_later (trains_of s) i before.cells
      (λ k l x y z. within s before.cells standing k l (omega arith) y z) in
      only_then P _ _ (λ r e. inl (sym (buffers_refusal before r e)))
      (only_then P (sheet_verdict s) _ (silent _ (fine_of_accepted s standing.ok))
      (only_then P _ _ (only_of P _ (inr (inr (inl refl)), (inr (inr (inl refl)), (inr (inr (inr refl)), tt))))
      (silent _ later)))

module _ (s : List ℕ) (i v : ℕ) (before : Buffers) (t : List ℕ) (after : Buffers) (a : Answer)
    (standing : Standing s before.cells) (h : Report s i v before t after a) where
  checked : answer_number a ≡ 0 → report_verdict s i v before ≡ Fine
  unfolding report_verdict
  checked = fine_of_zero (after_lengths_verdict s i v before.cells) _ before after a h.outcome

  zero : report_verdict s i v before ≡ Fine → answer_number a ≡ 0
  unfolding report_verdict
  zero = zero_of_fine (after_lengths_verdict s i v before.cells) _ before after a h.outcome

  accepts : RightLengths before → 1 ≤ i → i ≤ trains_of s → v ≤ 1440 → answer_number a ≡ 0
  unfolding report_verdict
  accepts right least most small =
      let report : Reportable (trains_of s) i v before.cells
      = record {
        least = least;
        most = most;
        delay = small;
        later = λ k l x y z. within s before.cells standing k l (omega arith) y z;
      } in
      zero
      (checks_right before (after_lengths_verdict s i v before.cells) right
      ∙ fine_of_facts s i v before.cells standing.ok report)

  refused_keeps : ¬ (answer_number a ≡ 0) → (t ≡ s) × (after.cells ≡ before.cells)
  refused_keeps refused = elim (fine_or_refused (report_verdict s i v before)) [
    | inl fine ↦ absurd (refused (zero fine))
    | inr (r, e) ↦ (h.kept r e, refused_cells r _ _ (h.outcome.refused r e))
  ]

  -- an accepted one
  module _ (fine : report_verdict s i v before ≡ Fine) where
    told : RightLengths before × AcceptedSheet s × Reportable (trains_of s) i v before.cells
    told = accepted_of_report s i v before fine

    done : Reported s i v before t after (answer_carries a)
    done = h.outcome.accepted fine

    abbrev L : Line
    L = line_of (numbers_of t)

    ok : AcceptedSheet t
    ok = replaced_accepted s t i v told.1 told.2.least told.2.most done.sheet told.2.delay

    trains : trains_of t ≡ trains_of s
    trains = (replaced_numbers s t i v told.1 told.2.least told.2.most done.sheet).trains

    whole : (old : Table) → Worked (book_of L) (trains_of t) old (table_of (trains_of t) after.cells)
    unfolding line_of line_from
    whole old =
        let same = same_sym _ _ (replaced_numbers s t i v told.1 told.2.least told.2.most done.sheet) in
        let before_it = subst (λ (m : ℕ).
        Worked (book_of (line_of (numbers_of s))) (trains_of s) standing.old (table_of m before.cells))
        (sym trains) standing.worked in
        reworked_is_worked i _ (book_of L) _ _ _ (books_of_lines (i + 1) _ _ (lines_after _ _ i v same)) before_it
        done.settled.cells.worked old

    is_planned : Planned L before after (answer_carries a)
    unfolding line_of line_from
    is_planned =
        settled_planned L (trains_of t) before after (answer_carries a) refl
        (whole_settled (book_of L) i before after _ (omega (arith, trains, told.2.most)) done.settled (whole _))

    accepted : a ≡ Ok (answer_carries a)
    accepted = h.outcome.answer ∙ ap (λ (c : Verdict). answer_of c (answer_carries a)) fine

    is_plan : Plan t before after a
    unfolding plan_verdict
    is_plan =
        subst (Plan t before after) (sym accepted)
        (outcome_accepted _ _ before after
        (sym (checks_right before (sheet_verdict t) told.0 ∙ fine_of_accepted t ok)) is_planned)

    fresh : (b b' : Buffers) (a' : Answer) → RightLengths b → Plan t b b' a'
        → Agrees operations (trains_of t) after a b' a'
    unfolding plan_verdict line_of line_from
    fresh b b' a' right plan =
        let fine' = checks_right b (sheet_verdict t) right ∙ fine_of_accepted t ok in
        planned_agrees L before after b b' a a' (outcome_number _ _ _ _ a' plan ∙ ap number_in fine') is_planned
        (plan.accepted fine')

    rows_only : (p : ℕ) → ¬ (InUse (trains_of s) i p) → get_or after.cells p 0 ≡ get_or before.cells p 0
    unfolding line_of line_from
    rows_only p unused =
        done.settled.cells.others p (subst (λ (m : ℕ). ¬ (InUse m i p)) (sym trains) unused)

    reported_stands : Standing t after.cells
    reported_stands = record { ok = ok; old = table_of (trains_of t) before.cells; worked = whole _ }

  stands : Standing t after.cells
  stands = elim (fine_or_refused (report_verdict s i v before)) [
    | inl fine ↦ reported_stands fine
    | inr (r, e) ↦ rw (h.kept r e, refused_cells r _ _ (h.outcome.refused r e)) standing
  ]

  in_run : ReportInRun operations tt s i v before t after a
  in_run =
      record {
        accepts = λ right. accepts right.buffers;
        accepted_only = λ e.
            let told = accepted_of_report s i v before (checked e) in
            (all_right told.0, told.2.least, told.2.most, told.2.delay);
        refusals = refusals s i v before standing;
        fresh = λ e y b b' a' right. fresh (checked e) b b' a' right.buffers;
        plan = λ e. is_plan (checked e);
        field = λ e. (h.outcome.accepted (checked e)).sheet;
        rows = λ p unused. elim (fine_or_refused (report_verdict s i v before)) [
          | inl fine ↦ rows_only fine p unused
          | inr (r, e) ↦ ap (λ (c : List ℕ). get_or c p 0) (refused_cells r _ _ (h.outcome.refused r e))
        ];
        refused = refused_keeps;
        stands = stands.ok;
      }

-- ---- every run

standing_in_run : {s cells : List ℕ} → InRun operations s cells → Standing s cells
standing_in_run (planned x s before after a h zero) = planned_stands s before after a h zero
standing_in_run (reported x s i v before t after a run h) = stands s i v before t after a (standing_in_run run) h
standing_in_run (refused_with_other_cells x s cells i v before t after a run h refused) =
    rw ((report_answered s i v before t after a h).sheet refused) (standing_in_run run)
standing_in_run (refused_with_other_sheet x s other i v before t after a run h refused) =
    rw (cells_kept h.outcome refused) (standing_in_run run)
standing_in_run (refused_plan x s other before after a run h refused) =
    rw (cells_kept h refused) (standing_in_run run)

-- plan accepts the sheet of a run, and a report in it is refused for itself alone
pub run_accepted : {s cells : List ℕ} → InRun operations s cells → AcceptedSheet s
run_accepted run = (standing_in_run run).ok

pub run_refusals : (s : List ℕ) (i v : ℕ) (before : Buffers) → InRun operations s before.cells → (r : Refusal)
    → report_verdict s i v before ≡ Err r → OfItself i r
run_refusals s i v before run = refusals s i v before (standing_in_run run)

begin : (s : List ℕ) (lent : Buffers) → AcceptedSheet s → Right operations tt lent → Begun operations tt s lent
begin s lent ok right =
    let found = plan_possible s lent in
    let zero = (plan_answered s lent found.after found.answer found.plan).accepts right ok in
    record {
      after = found.after;
      answer = found.answer;
      plan = found.plan;
      run = planned tt s lent found.after found.answer found.plan zero;
    }

pub demand_3 : Demand3 operations
demand_3 =
    record {
      begins = λ x. begin;
      of_report_in_run = λ x s i v before t after a run. in_run s i v before t after a (standing_in_run run);
    }
