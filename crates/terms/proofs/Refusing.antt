-- Which refusals checks can give: what holds of each that they name holds of the one that they give. And what
-- the numbers of the refusals tell.
--   Only P v   whatever the verdict v refuses for, P holds of it
--   Each P checks   of each check, P holds of what it refuses for, or it passes
-- Assumes nothing.
use Rattle.std.proofs.Common.{◌≡◌, refl, sym, ◌∙◌, true, false, List, [], ◌∷◌, ◌⊎◌, inl, inr, ℕ, zero, suc, ◌+◌, arith}
use Rattle.lists.specs.Run.{run_of}
use Rattle.terms.specs.declared.ListFault.TheVariants.{BufferLength, ListLength}
use Rattle.terms.specs.declared.HeadFault.TheVariants.{NoHead, TrainCount, Period, TooShort, TooLong}
use Rattle.terms.specs.declared.TrainFault.TheVariants.{Departure, Driving, SourceDelay, Slack}
use Rattle.terms.specs.declared.ReportFault.TheVariants.{NoSuchTrain, NewDelay, CellOverLimit}
use Rattle.terms.specs.declared.Refusal.{Refusal}
use Rattle.terms.specs.declared.Refusal.TheVariants.{OfList, OfHead, OfTrain, Passengers, Filling, OfReport}
use Rattle.std.specs.Prelude.{Ok, Err}
use Rattle.terms.specs.Verdict.{Verdict, Fine, Check, verdict_of, ◌and_then◌, first_of, number_in}
use Rattle.terms.specs.Refusal.{number_of, blanks_of}
use Rattle.terms.proofs.Checks.{Passes, refusal_of, refused_not_fine, check_or_rest}

module _ (P : Refusal → Type 0) where
  abbrev pub Only : Verdict → Type 0
  Only v = (r : Refusal) → v ≡ Err r → P r

  pub only_fine : Only Fine
  only_fine r e = refused_not_fine (sym e)

  pub only_refused : (q : Refusal) → P q → Only (Err q)
  only_refused q h r e = let same : q ≡ r = cc in rw same at h

  abbrev pub Each : List Check → Type 0
  Each [] = Unit {0}
  Each (c ∷ rest) = (Passes c ⊎ P (refusal_of c)) × Each rest

  pub only_of : (checks : List Check) → Each checks → Only (verdict_of checks)
  unfolding verdict_of
  only_of [] each r e = only_fine r e
  only_of (c ∷ rest) each r e = elim (check_or_rest c rest) [
    | inl (fails, refused) ↦ elim each.0 [
      | inl passes ↦ absurd (fails passes)
      | inr holds ↦ only_refused (refusal_of c) holds r (sym refused ∙ e)
    ]
    | inr (passes, same) ↦ only_of rest each.1 r (sym same ∙ e)
  ]

  pub only_then : (v w : Verdict) → Only v → Only w → Only (v and_then w)
  unfolding ◌and_then◌
  only_then (Ok u) w f g = g
  only_then (Err q) w f g = f

  pub only_first : (f : ℕ → Verdict) (i n : ℕ) → ((j : ℕ) → Only (f j)) → Only (first_of f i n)
  unfolding first_of run_of
  only_first f i zero h = only_fine
  only_first f i (suc n) h = only_then (f i) (first_of f (i + 1) n) (h i) (only_first f (i + 1) n h)

-- ---- numbers

-- a refusal's number is not 0; it is 10 where the refusal writes nothing, and another where it blanks
abbrev Numbered : Refusal → Type 0
Numbered r =
    ¬ (number_of r ≡ 0)
    × (((number_of r ≡ 10) × (blanks_of r ≡ false)) ⊎ (¬ (number_of r ≡ 10) × (blanks_of r ≡ true)))

pub numbered : (r : Refusal) → Numbered r
numbered (OfList BufferLength) = (λ e. omega arith, inl (refl, refl))
numbered (OfList ListLength) = (λ e. omega arith, inl (refl, refl))
numbered (OfHead NoHead) = (λ e. omega arith, inr (λ e. omega arith, refl))
numbered (OfHead TrainCount) = (λ e. omega arith, inr (λ e. omega arith, refl))
numbered (OfHead Period) = (λ e. omega arith, inr (λ e. omega arith, refl))
numbered (OfHead TooShort) = (λ e. omega arith, inr (λ e. omega arith, refl))
numbered (OfHead TooLong) = (λ e. omega arith, inr (λ e. omega arith, refl))
numbered (OfTrain t Departure) = (λ e. omega arith, inr (λ e. omega arith, refl))
numbered (OfTrain t Driving) = (λ e. omega arith, inr (λ e. omega arith, refl))
numbered (OfTrain t SourceDelay) = (λ e. omega arith, inr (λ e. omega arith, refl))
numbered (OfTrain t Slack) = (λ e. omega arith, inr (λ e. omega arith, refl))
numbered (Passengers f) = (λ e. omega arith, inr (λ e. omega arith, refl))
numbered Filling = (λ e. omega arith, inr (λ e. omega arith, refl))
numbered (OfReport NoSuchTrain) = (λ e. omega arith, inr (λ e. omega arith, refl))
numbered (OfReport (NewDelay t)) = (λ e. omega arith, inr (λ e. omega arith, refl))
numbered (OfReport (CellOverLimit t)) = (λ e. omega arith, inr (λ e. omega arith, refl))

-- number 0 is that of no refusal
pub zero_is_fine : (v : Verdict) → number_in v ≡ 0 → v ≡ Fine
zero_is_fine (Ok u) e = refl
zero_is_fine (Err r) e = absurd ((numbered r).0 e)
