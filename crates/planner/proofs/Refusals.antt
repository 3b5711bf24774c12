-- What the checks of plan and of report tell: the lengths of the buffers come first and are refused for their length
-- alone; what follows them tells of the sheet and of the report.
-- Assumes nothing.
use Rattle.std.proofs.Common.{◌≡◌, refl, sym, ap, ◌∙◌, true, false, List, ◌⊎◌, inl, inr, ℕ, rules}
use Rattle.terms.specs.declared.ListFault.TheVariants.{BufferLength}
use Rattle.terms.specs.declared.Refusal.{Refusal}
use Rattle.terms.specs.declared.Refusal.TheVariants.{OfList}
use Rattle.std.specs.Prelude.{Err}
use Rattle.terms.specs.Verdict.{Verdict, Fine, ◌and_then◌}
use Rattle.terms.specs.Refusal.{blanks_of}
use Rattle.terms.proofs.Checks.{fine_or_refused, then_stop, then_pass, then_fine, fine_then}
use Rattle.terms.proofs.Checks.{passed_of_fine, fine_of_passed}
use Rattle.terms.proofs.Refusing.{only_refused, only_of, only_then}
use Rattle.sheet.specs.Format.{trains_of}
use Rattle.sheet.specs.Checks.{sheet_verdict}
use Rattle.sheet.specs.Accepted.{AcceptedSheet}
use Rattle.sheet.proofs.Facts.{accepted_of_fine, fine_of_accepted}
use Rattle.sheet.proofs.Refusals.{sheet_refusal_blanks}
use Rattle.cells.specs.Place.{cell_count}
use Rattle.planner.specs.Buffers.{Buffers, RightLengths, buffer_lengths_verdict, buffers_verdict}
use Rattle.planner.specs.Plan.{plan_verdict}
use Rattle.planner.specs.ReportChecks.{own_verdict, Reportable}
use Rattle.planner.specs.Report.{report_verdict}
use Rattle.planner.proofs.Reportable.{reportable_of_fine, fine_of_reportable, own_refusal_blanks}

-- ---- the buffers

pub cells_of_fine : (cells decisions delays : ℕ) → buffer_lengths_verdict cells decisions delays ≡ Fine
    → cells ≡ cell_count
unfolding buffer_lengths_verdict
cells_of_fine cells decisions delays e = (passed_of_fine _ e).0

pub right_of_fine : (b : Buffers) → buffers_verdict b ≡ Fine → RightLengths b
unfolding buffer_lengths_verdict
right_of_fine b e = let passed = passed_of_fine _ e in search rules

fine_of_right : (b : Buffers) → RightLengths b → buffers_verdict b ≡ Fine
unfolding buffer_lengths_verdict
fine_of_right b h = fine_of_passed _ (search rules)

pub buffers_refusal : (b : Buffers) (r : Refusal) → buffers_verdict b ≡ Err r → OfList BufferLength ≡ r
unfolding buffer_lengths_verdict
buffers_refusal b = only_of _ _ (inr refl, (inr refl, (inr refl, tt)))

-- the lengths, then the checks w
module _ (b : Buffers) (w : Verdict) where
  -- with buffers of the right lengths the checks that follow decide
  pub checks_right : RightLengths b → buffers_verdict b and_then w ≡ w
  checks_right right = sym (then_pass _ w _ (fine_of_right b right) refl)

  -- with others they are refused for their length
  pub checks_wrong : (r : Refusal) → buffers_verdict b ≡ Err r
      → buffers_verdict b and_then w ≡ Err (OfList BufferLength)
  checks_wrong r e =
      sym (then_stop (buffers_verdict b) w refl (sym e)) ∙ ap Err (sym (buffers_refusal b r e))

  pub checks_fine : buffers_verdict b and_then w ≡ Fine → RightLengths b × (w ≡ Fine)
  checks_fine fine = let both = then_fine _ w fine in (right_of_fine b both.0, both.1)

  -- the buffers have the right lengths, or the refusal writes nothing
  pub right_or_unwritten : (r : Refusal) → buffers_verdict b and_then w ≡ Err r
      → RightLengths b ⊎ (blanks_of r ≡ false)
  right_or_unwritten r e = elim (fine_or_refused (buffers_verdict b)) [
    | inl fine ↦ inl (right_of_fine b fine)
    | inr (q, wrong) ↦
        inr (only_refused (λ (x : Refusal). blanks_of x ≡ false) (OfList BufferLength) refl r
        (sym (checks_wrong q wrong) ∙ e))
  ]

-- ---- plan

pub accepted_of_plan : (s : List ℕ) (b : Buffers) → plan_verdict s b ≡ Fine → RightLengths b × AcceptedSheet s
unfolding plan_verdict
accepted_of_plan s b fine =
    let both = checks_fine b (sheet_verdict s) fine in
    (both.0, accepted_of_fine s both.1)

-- ---- report

module _ (s : List ℕ) (i v : ℕ) (cells : List ℕ) where
  -- what follows the lengths
  abbrev pub after_lengths_verdict : Verdict
  after_lengths_verdict = sheet_verdict s and_then own_verdict (trains_of s) i v cells

  pub facts_of_fine : after_lengths_verdict ≡ Fine → AcceptedSheet s × Reportable (trains_of s) i v cells
  facts_of_fine e =
      let both = then_fine (sheet_verdict s) _ e in
      (accepted_of_fine s both.0, reportable_of_fine _ i v cells both.1)

  pub fine_of_facts : AcceptedSheet s → Reportable (trains_of s) i v cells → after_lengths_verdict ≡ Fine
  fine_of_facts ok h = fine_then (fine_of_accepted s ok) (fine_of_reportable _ i v cells h)

  pub after_lengths_blanks : (r : Refusal) → after_lengths_verdict ≡ Err r → blanks_of r ≡ true
  after_lengths_blanks =
      only_then (λ (r : Refusal). blanks_of r ≡ true) (sheet_verdict s) _ (sheet_refusal_blanks s)
      (own_refusal_blanks (trains_of s) i v cells)

-- with buffers and a sheet that are right the report's own checks decide
pub own_decides : (s : List ℕ) (i v : ℕ) (b : Buffers) → RightLengths b → AcceptedSheet s
    → report_verdict s i v b ≡ own_verdict (trains_of s) i v b.cells
unfolding report_verdict
own_decides s i v b right ok =
    checks_right b (after_lengths_verdict s i v b.cells) right
    ∙ sym (then_pass (sheet_verdict s) _ _ (fine_of_accepted s ok) refl)

pub accepted_of_report : (s : List ℕ) (i v : ℕ) (b : Buffers) → report_verdict s i v b ≡ Fine
    → RightLengths b × AcceptedSheet s × Reportable (trains_of s) i v b.cells
unfolding report_verdict
accepted_of_report s i v b fine =
    let both = checks_fine b (after_lengths_verdict s i v b.cells) fine in
    let told = facts_of_fine s i v b.cells both.1 in
    (both.0, told.0, told.1)
