-- The answer of read by its verdict: m and T where it is fine.
-- Assumes nothing.
use Rattle.std.proofs.Common.{◌≡◌, refl, ap, ap₂, ℕ, Ok, Err}
use Rattle.terms.specs.declared.Head.{Head}
use Rattle.terms.specs.Verdict.{Verdict, Fine, if_fine}
use Rattle.terms.specs.Answer.{head}
use Rattle.terms.proofs.Answers.{answer_accepted, accepted_answer}
use Rattle.reader.specs.Reading.{read_trains, read_period, reading_of}

pub reading_accepted : (v : Verdict) {m m' T T' : ℕ} → Fine ≡ v → m ≡ m' → T ≡ T'
    → Ok (head m T) ≡ reading_of v m' T'
reading_accepted v e p q = answer_accepted v e (ap₂ head p q)

-- an answer that accepts tells that the verdict is fine
pub accepted_reading : (v : Verdict) (m T : ℕ) {h : Head} → Ok h ≡ reading_of v m T
    → (v ≡ Fine) × (h.trains ≡ m) × (h.period ≡ T)
accepted_reading v m T e =
    let told = accepted_answer v (head m T) e in
    (told.0, ap (λ (g : Head). g.trains) told.1, ap (λ (g : Head). g.period) told.1)

pub read_trains_lem : (v : Verdict) (m T : ℕ) → read_trains (reading_of v m T) ≡ if_fine v m 0
read_trains_lem (Ok u) m T = refl
read_trains_lem (Err r) m T = refl

pub read_period_lem : (v : Verdict) (m T : ℕ) → read_period (reading_of v m T) ≡ if_fine v T 0
read_period_lem (Ok u) m T = refl
read_period_lem (Err r) m T = refl
