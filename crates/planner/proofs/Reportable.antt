-- The checks of a report find nothing exactly where the plain facts hold, what they find is said in plain facts too,
-- and whatever it is blanks.
-- Assumes nothing.
use Rattle.std.proofs.Common.{◌≡◌, refl, sym, true, List, ◌⊎◌, inl, inr, ℕ, ◌≤◌, ◌<◌, rules, arith}
use Rattle.terms.specs.declared.ReportFault.TheVariants.{NoSuchTrain, NewDelay, CellOverLimit}
use Rattle.terms.specs.declared.Refusal.{Refusal}
use Rattle.terms.specs.declared.Refusal.TheVariants.{OfReport}
use Rattle.std.specs.Prelude.{Err}
use Rattle.terms.specs.Verdict.{Fine}
use Rattle.terms.specs.Refusal.{train, blanks_of}
use Rattle.terms.proofs.Checks.{then_stop, then_pass, then_fine, fine_then, hit, miss, passed_of_fine, fine_of_passed}
use Rattle.terms.proofs.Refusing.{only_of, only_then}
use Rattle.cells.specs.Limits.{FirstOver}
use Rattle.cells.proofs.Limited.{later_of_fine, fine_of_later, later_over, later_blanks}
use Rattle.planner.specs.ReportChecks.{report_checks, own_verdict, Reportable}

module _ (m i v : ℕ) (cells : List ℕ) where
  pub reportable_of_fine : own_verdict m i v cells ≡ Fine → Reportable m i v cells
  unfolding own_verdict report_checks
  reportable_of_fine e =
      let both = then_fine _ _ e in
      let own = passed_of_fine _ both.0 in
      let later = later_of_fine m i cells both.1 in
      search rules

  pub fine_of_reportable : Reportable m i v cells → own_verdict m i v cells ≡ Fine
  unfolding own_verdict report_checks
  fine_of_reportable h = fine_then (fine_of_passed _ (search rules)) (fine_of_later m i cells h.later)

  -- ---- each refusal, where the checks before it pass

  pub own_no_train : (i < 1) ⊎ (m < i) → own_verdict m i v cells ≡ Err (OfReport NoSuchTrain)
  unfolding own_verdict report_checks
  own_no_train (inl l) = sym (then_stop _ _ refl (hit _ _ _ _ l))
  own_no_train (inr l) = sym (then_stop _ _ refl (miss _ _ _ _ _ (omega arith) (hit _ _ _ _ l)))

  pub own_too_late : 1 ≤ i → i ≤ m → 1440 < v → own_verdict m i v cells ≡ Err (OfReport (NewDelay (train i)))
  unfolding own_verdict report_checks
  own_too_late a b late = sym (then_stop _ _ refl (miss _ _ _ _ _ a (miss _ _ _ _ _ b (hit _ _ _ _ late))))

  pub own_over : 1 ≤ i → i ≤ m → v ≤ 1440 → (k : ℕ) → FirstOver m i cells k
      → own_verdict m i v cells ≡ Err (OfReport (CellOverLimit (train k)))
  unfolding own_verdict report_checks
  own_over a b small k h =
      sym (then_pass _ _ _ (fine_of_passed _ (a, (b, (small, tt)))) (sym (later_over m i cells k h)))

  pub own_refusal_blanks : (r : Refusal) → own_verdict m i v cells ≡ Err r → blanks_of r ≡ true
  unfolding own_verdict report_checks
  own_refusal_blanks =
      let Blanks : Refusal → Type 0 = λ r. blanks_of r ≡ true in
      only_then Blanks _ _ (only_of Blanks _ (inr refl, (inr refl, (inr refl, tt)))) (later_blanks m i cells)
