-- The answer by a verdict, whatever it brings: each tells the other, and what the answer carries is what the verdict
-- says.
-- Assumes nothing.
use Rattle.std.proofs.Common.{◌≡◌, refl, ap, ℕ, Ok, Err}
use Rattle.terms.specs.declared.Refusal.{Refusal}
use Rattle.terms.specs.Verdict.{Verdict, Fine, if_fine, number_in, place_in}
use Rattle.terms.specs.Answer.{answer_number, answer_place, answer_carries, answer_of}

module _ {A : Type 0} where
  -- a verdict that refuses is the answer
  pub answer_refused : (v : Verdict) (x : A) {r : Refusal} → Err r ≡ v → Err r ≡ answer_of v x
  answer_refused v x e = ap (λ (w : Verdict). answer_of w x) e

  -- a verdict that is fine answers what it brings
  pub answer_accepted : (v : Verdict) {x y : A} → Fine ≡ v → x ≡ y → Ok x ≡ answer_of v y
  answer_accepted (Ok u) e p = ap (λ (z : A). Ok z) p
  answer_accepted (Err r) e p = cc

  -- an answer that accepts tells that the verdict is fine
  pub accepted_answer : (v : Verdict) (y : A) {x : A} → Ok x ≡ answer_of v y → (v ≡ Fine) × (x ≡ y)
  accepted_answer (Ok u) y e = (refl, cc)
  accepted_answer (Err r) y e = cc

  -- and one that refuses tells for what
  pub refused_answer : (v : Verdict) (y : A) {r : Refusal} → Err r ≡ answer_of v y → v ≡ Err r
  refused_answer (Ok u) y e = cc
  refused_answer (Err r) y e = cc

  pub answer_number_lem : (v : Verdict) (x : A) → answer_number (answer_of v x) ≡ number_in v
  answer_number_lem (Ok u) x = refl
  answer_number_lem (Err r) x = refl

  pub answer_place_lem : (v : Verdict) (x : A) → answer_place (answer_of v x) ≡ place_in v
  answer_place_lem (Ok u) x = refl
  answer_place_lem (Err r) x = refl

pub answer_carries_lem : (v : Verdict) (n : ℕ) → answer_carries (answer_of v n) ≡ if_fine v n 0
answer_carries_lem (Ok u) n = refl
answer_carries_lem (Err r) n = refl
