-- The refusals that a sheet can meet: each blanks in a plan and in a report, and none is 13, which is write's alone,
-- because a driving time of a sheet has 10 bits.
-- Assumes nothing.
use Rattle.std.proofs.Common.{◌≡◌, sym, ap, ◌∙◌, true, false, true≢false, List, inl, inr, ℕ, ◌+◌, ◌-◌, ◌*◌, ◌≤◌, rules}
use Rattle.std.proofs.Common.{arith, eqb}
use Rattle.bits.proofs.Fields.{field_lt}
use Rattle.terms.specs.declared.Refusal.{Refusal}
use Rattle.std.specs.Prelude.{Err}
use Rattle.terms.specs.Refusal.{number_of, blanks_of}
use Rattle.terms.specs.Verdict.{number_in}
use Rattle.terms.proofs.Checks.{fine_or_refused}
use Rattle.terms.proofs.Refusing.{Only, only_of, only_then, only_first}
use Rattle.sheet.specs.Format.{driving_of, entry}
use Rattle.sheet.specs.Checks.{ranges_verdict, train_checks, train_verdict, passengers_verdict, numbers_verdict}
use Rattle.sheet.specs.Checks.{head_verdict, filling_verdict, body_verdict, sheet_verdict}

driving_fits : (s : List ℕ) (i : ℕ) → driving_of s i ≤ 1023
unfolding entry
driving_fits s i = omega (arith, field_lt s (30 + 33 * (i - 1)) 10)

-- a sheet's refusal blanks, and its number is not 13
abbrev Told : Refusal → Type 0
Told r = (blanks_of r ≡ true) × (eqb (number_of r) 13 ≡ false)

pub sheet_refusal : (s : List ℕ) → Only Told (sheet_verdict s)
unfolding sheet_verdict head_verdict ranges_verdict body_verdict numbers_verdict train_verdict train_checks
    passengers_verdict filling_verdict
sheet_refusal s =
    only_then Told _ _
    (only_then Told _ _ (only_of Told _ (search (rules, inr)))
    (only_then Told _ _ (only_of Told _ (search (rules, inr))) (only_of Told _ (search (rules, inr)))))
    (only_then Told _ _
    (only_then Told _ _
    (only_first Told _ _ _ (λ i. let fits = driving_fits s i in only_of Told _ (search (rules, inl, inr))))
    (only_first Told _ _ _ (λ f. only_of Told _ (search (rules, inr)))))
    (only_of Told _ (search (rules, inr))))

pub sheet_refusal_blanks : (s : List ℕ) (r : Refusal) → sheet_verdict s ≡ Err r → blanks_of r ≡ true
sheet_refusal_blanks s r e = (sheet_refusal s r e).0

pub sheet_never_13 : (s : List ℕ) → number_in (sheet_verdict s) ≡ 13 → ⊥
sheet_never_13 s e = elim (fine_or_refused (sheet_verdict s)) [
  | inl fine ↦ omega (arith, e, ap number_in fine)
  | inr (r, refused) ↦
      let q = (sheet_refusal s r refused).1 in
      let same = sym (ap number_in refused) ∙ e in
      absurd (true≢false (sym (ap (λ (n : ℕ). eqb n 13) same) ∙ q))
]
