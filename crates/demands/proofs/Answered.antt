-- Demand 1 of one call of an operation: what follows from an outcome of checks that begin with the lengths of the
-- buffers, once for plan and report; and what an accepted plan and an accepted report leave.
-- Assumes nothing.
use Rattle.std.proofs.Common.{◌≡◌, refl, sym, ap, subst, ◌∙◌, true, List, inl, inr, ℕ, ◌≤◌, zero-le, le_trans, le_of_eq}
use Rattle.std.proofs.Common.{le_refl, arith, length, get_or}
use lib.ListN.{length-replicate}
use Rattle.lists.proofs.Run.{padded_length}
use Rattle.terms.specs.declared.Refusal.{Refusal}
use Rattle.terms.specs.declared.ListFault.TheVariants.{BufferLength}
use Rattle.terms.specs.declared.Refusal.TheVariants.{OfList}
use Rattle.std.specs.Prelude.{Err}
use Rattle.terms.specs.Verdict.{Verdict, Fine, ◌and_then◌, number_in, place_in}
use Rattle.terms.specs.Answer.{Answer, answer_number, answer_place, answer_carries}
use Rattle.terms.specs.Refusal.{blanks_of}
use Rattle.terms.proofs.Checks.{fine_or_refused}
use Rattle.terms.proofs.Refusing.{zero_is_fine}
use Rattle.line.specs.Line.{Line, line_from}
use Rattle.line.specs.Cells.{book_of}
use Rattle.line.specs.Ranges.{limit, LineInRange}
use Rattle.line.proofs.Bounds.{cell_le}
use Rattle.line.proofs.Totals.{total_le, range_of_line}
use Rattle.sheet.specs.Format.{trains_of}
use Rattle.sheet.specs.Numbers.{numbers_of}
use Rattle.sheet.specs.Checks.{sheet_verdict}
use Rattle.sheet.specs.Accepted.{AcceptedSheet}
use Rattle.sheet.proofs.Facts.{accepted_of_fine, fine_of_accepted}
use Rattle.sheet.proofs.Refusals.{sheet_refusal_blanks}
use Rattle.sheet.proofs.Amend.{replaced_numbers, replaced_accepted}
use Rattle.cells.specs.Place.{InUse}
use Rattle.cells.proofs.Shown.{shown_length}
use Rattle.prepare.specs.LineOf.{line_of}
use Rattle.prepare.proofs.Lines.{line_in_range}
use Rattle.planner.specs.ReportChecks.{Reportable}
use Rattle.planner.proofs.Reportable.{own_no_train, own_too_late, own_over}
use Rattle.planner.specs.Buffers.{Buffers, RightLengths, Blanked}
use Rattle.planner.specs.Settled.{Settled}
use Rattle.planner.proofs.Outcome.{outcome_number, outcome_place, refused_carries}
use Rattle.planner.specs.Buffers.{buffers_verdict}
use Rattle.planner.specs.Outcome.{Outcome}
use Rattle.planner.specs.Plan.{plan_verdict, Planned, Plan}
use Rattle.planner.specs.Report.{report_verdict, Reported, Report}
use Rattle.planner.proofs.Refusals.{right_of_fine, checks_right, checks_wrong, checks_fine, after_lengths_verdict}
use Rattle.planner.proofs.Refusals.{facts_of_fine, fine_of_facts, after_lengths_blanks, own_decides}
use Rattle.demands.specs.Calling.{Right, operations}
use Rattle.demands.specs.Answered.{SameLengths, Carries, Answered, PlanAnswered, ReportAnswered}

-- an operation is lent nothing beside its buffers
pub all_right : {b : Buffers} → RightLengths b → Right operations tt b
all_right right = record { beside = tt; buffers = right }

-- what an accepted call leaves: lengths as stated, nothing written but rows 1 to last, a total within the limit
record Left (m last : ℕ) (before after : Buffers) (n : ℕ) : Type 0 where
  lengths : RightLengths after
  others : (p : ℕ) → ¬ (InUse m last p) → get_or after.cells p 0 ≡ get_or before.cells p 0
  most : n ≤ limit

-- ---- from the outcome

-- the lengths, then the checks w
module _ (w : Verdict) (Stored : ℕ → Type 0) (before after : Buffers) (a : Answer)
    (h : Outcome (buffers_verdict before and_then w) Stored before after a) where
  abbrev checks : Verdict
  checks = buffers_verdict before and_then w

  number : answer_number a ≡ number_in checks
  number = outcome_number checks Stored before after a h

  place : answer_place a ≡ place_in checks
  place = outcome_place checks Stored before after a h

  -- accepted is the verdict of no check
  pub fine_of_zero : answer_number a ≡ 0 → checks ≡ Fine
  fine_of_zero e = zero_is_fine _ (sym number ∙ e)

  pub zero_of_fine : checks ≡ Fine → answer_number a ≡ 0
  zero_of_fine fine = number ∙ ap number_in fine

  refused_by : (r : Refusal) → checks ≡ Err r → Carries operations r a
  refused_by r e =
      record {
        number = number ∙ ap number_in e;
        place = place ∙ ap place_in e;
        total = refused_carries checks Stored before after a h r e;
      }

  -- with buffers of other lengths it writes nothing
  nothing_written : checks ≡ Err (OfList BufferLength) → after ≡ before
  nothing_written e = (h.refused (OfList BufferLength) e).kept refl

  module _ (Passes : Type 0) (m last : ℕ) (passes : w ≡ Fine → Passes) (fine_of : Passes → w ≡ Fine)
      (blank : (r : Refusal) → w ≡ Err r → blanks_of r ≡ true)
      (left : RightLengths before → w ≡ Fine → Stored (answer_carries a) → Left m last before after (answer_carries a))
    where
      left_when : checks ≡ Fine → Left m last before after (answer_carries a)
      left_when fine = let both = checks_fine before w fine in left both.0 both.1 (h.accepted fine)

      -- with buffers of the right lengths a refusal is one of w's, and such a one blanks
      blanked : RightLengths before → (r : Refusal) → checks ≡ Err r → Blanked before after
      blanked right r e = (h.refused r e).blanked (blank r (sym (checks_right before w right) ∙ e))

      right_after : RightLengths before → RightLengths after
      right_after right = elim (fine_or_refused checks) [
        | inl fine ↦ (left_when fine).lengths
        | inr (r, e) ↦
            let blank = blanked right r e in
            record {
              cells = ap length blank.cells ∙ right.cells;
              decisions = ap length blank.decisions ∙ length-replicate {A = ℕ} 64 2;
              delays = ap length blank.delays ∙ length-replicate {A = ℕ} 64 0;
            }
      ]

      lengths_kept : SameLengths before after
      lengths_kept = elim (fine_or_refused (buffers_verdict before)) [
        | inl fine ↦
            let right = right_of_fine before fine in
            let later = right_after right in
            record {
              cells = later.cells ∙ sym right.cells;
              decisions = later.decisions ∙ sym right.decisions;
              delays = later.delays ∙ sym right.delays;
            }
        | inr (r, e) ↦
            let same = nothing_written (checks_wrong before w r e) in
            record {
              cells = ap (λ (b : Buffers). length b.cells) same;
              decisions = ap (λ (b : Buffers). length b.decisions) same;
              delays = ap (λ (b : Buffers). length b.delays) same;
            }
      ]

      blanks_when_refused : RightLengths before → ¬ (answer_number a ≡ 0) → Blanked before after
      blanks_when_refused right refused = elim (fine_or_refused checks) [
        | inl fine ↦ absurd (refused (zero_of_fine fine))
        | inr (r, e) ↦ blanked right r e
      ]

      untouched_when_wrong : ¬ (RightLengths before) → (answer_number a ≡ 10) × (after ≡ before)
      untouched_when_wrong wrong = elim (fine_or_refused (buffers_verdict before)) [
        | inl fine ↦ absurd (wrong (right_of_fine before fine))
        | inr (r, e) ↦
            let ten = checks_wrong before w r e in
            (number ∙ ap number_in ten, nothing_written ten)
      ]

      total_most : answer_carries a ≤ limit
      total_most = elim (fine_or_refused checks) [
        | inl fine ↦ (left_when fine).most
        | inr (r, e) ↦ rw (refused_by r e).total zero-le
      ]

      answered : Answered operations checks Passes m last tt before after a
      answered =
          record {
            accepts = λ right ok. zero_of_fine (checks_right before w right.buffers ∙ fine_of ok);
            accepted_only = λ e.
                let both = checks_fine before w (fine_of_zero e) in
                (all_right both.0, passes both.1);
            accepted_place = λ e. place ∙ ap place_in (fine_of_zero e);
            refuses = λ fits. refused_by;
            blanks = λ right. blanks_when_refused right.buffers;
            untouched = λ wrong. untouched_when_wrong (λ right. wrong (all_right right));
            others = λ e. (left_when (fine_of_zero e)).others;
            lengths = lengths_kept;
            most = λ fits. total_most;
          }

-- ---- of a plan

planned_left : (L : Line) (before after : Buffers) (n : ℕ) → LineInRange L → RightLengths before
    → Planned L before after n → Left L.trains L.trains before after n
planned_left L before after n range right plan =
    record {
      lengths = record {
        cells = plan.cells.long ∙ right.cells;
        decisions = ap length plan.decisions ∙ shown_length _ plan.policy;
        delays = ap length plan.delays ∙ padded_length 64 _ _;
      };
      others = plan.cells.others;
      most = le_trans (le_of_eq plan.costs) (total_le L range plan.policy);
    }

pub plan_answered : (s : List ℕ) (before after : Buffers) (a : Answer) → Plan s before after a
    → PlanAnswered operations tt s before after a
unfolding plan_verdict line_of line_from
plan_answered s before after a h =
    answered (sheet_verdict s) _ before after a h (AcceptedSheet s) _ _ (accepted_of_fine s) (fine_of_accepted s)
    (sheet_refusal_blanks s)
    (λ right fine. planned_left (line_of (numbers_of s)) before after _
    (line_in_range (numbers_of s) (accepted_of_fine s fine).numbers) right)

-- ---- of a report

settled_left : (L : Line) (i : ℕ) (before after : Buffers) (n : ℕ) → LineInRange L → 1 ≤ i → i ≤ L.trains
    → RightLengths before → Settled (book_of L) i before after n → Left L.trains i before after n
settled_left L i before after n range least most right settled =
    record {
      lengths = record {
        cells = settled.cells.long ∙ right.cells;
        decisions = ap length settled.walked.decisions ∙ shown_length _ _;
        delays = ap length settled.walked.delays ∙ padded_length 64 _ _;
      };
      others = settled.cells.others;
      most = le_trans (le_of_eq settled.total)
          (cell_le (book_of L) (range_of_line L range) 1 (le_refl 1) i _ _ settled.cells.worked least 1 (le_refl 1)
          (omega arith));
    }

module _ (s : List ℕ) (i v : ℕ) (before : Buffers) (t : List ℕ) (after : Buffers) (a : Answer) where
  reported_left : RightLengths before → AcceptedSheet s → Reportable (trains_of s) i v before.cells
      → Reported s i v before t after (answer_carries a) → Left (trains_of s) i before after (answer_carries a)
  unfolding line_of line_from
  reported_left right ok report reported =
      let same = replaced_numbers s t i v ok report.least report.most reported.sheet in
      let range = (replaced_accepted s t i v ok report.least report.most reported.sheet report.delay
      ).numbers in
      subst (λ (m : ℕ). Left m i before after (answer_carries a)) same.trains
      (settled_left (line_of (numbers_of t)) i before after _ (line_in_range (numbers_of t) range) report.least
      (omega (arith, report.most, same.trains)) right reported.settled)

  module _ (h : Report s i v before t after a) where
    abbrev w : Verdict
    w = after_lengths_verdict s i v before.cells

    told : Answered operations (report_verdict s i v before)
        (AcceptedSheet s × Reportable (trains_of s) i v before.cells) (trains_of s) i tt before after a
    unfolding report_verdict
    told =
        answered w _ before after a h.outcome _ _ _ (facts_of_fine s i v before.cells)
        (λ both. fine_of_facts s i v before.cells both.0 both.1) (after_lengths_blanks s i v before.cells)
        (λ right fine. let both = facts_of_fine s i v before.cells fine in
        reported_left right both.0 both.1)

    pub report_answered : ReportAnswered operations tt s i v before t after a
    unfolding report_verdict
    report_answered =
        let own = own_decides s i v before in
        record {
          answered = told;
          no_train = λ right ok n. told.refuses tt _ (own right.buffers ok ∙ own_no_train _ i v _ n);
          too_late = λ right ok a b late. told.refuses tt _ (own right.buffers ok ∙ own_too_late _ i v _ a b late);
          over = λ right ok a b c k f. told.refuses tt _ (own right.buffers ok ∙ own_over _ i v _ a b c k f);
          sheet = λ refused. elim (fine_or_refused (report_verdict s i v before)) [
            | inl fine ↦ absurd (refused (zero_of_fine w _ before after a h.outcome fine))
            | inr (r, e) ↦ h.kept r e
          ];
          sheet_length = elim (fine_or_refused (report_verdict s i v before)) [
            | inl fine ↦ (h.outcome.accepted fine).sheet.put.long
            | inr (r, e) ↦ ap length (h.kept r e)
          ];
        }
