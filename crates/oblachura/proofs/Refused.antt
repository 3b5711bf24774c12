-- What a plan or a report leaves that is refused: on 10 everything as it was, on any other number blanks.
-- Assumes nothing.
use Rattle.std.proofs.Common.{ℕ, arith, ◌≡◌, ap, sym, ◌∙◌, inl, inr}
use Rattle.terms.specs.declared.Refusal.{Refusal}
use Rattle.terms.specs.Verdict.{Verdict, number_in}
use Rattle.terms.specs.Answer.{Answer, answer_number}
use Rattle.terms.specs.Refusal.{number_of}
use Rattle.terms.proofs.Checks.{fine_or_refused}
use Rattle.terms.proofs.Refusing.{numbered}
use Rattle.planner.specs.Buffers.{Buffers, RefusedFor}
use Rattle.planner.specs.Outcome.{Outcome}
use Rattle.planner.proofs.Outcome.{outcome_number}
use Rattle.oblachura.specs.CallPromises.{Refuses}

module _ {before after : Buffers} {r : ℕ} where
  pub kept_refuses : r ≡ 10 → after ≡ before → Refuses before after r
  kept_refuses ten same = record { ten = λ e. same; blanks = λ not-zero other. absurd (other ten) }

  refused_refuses : (q : Refusal) → r ≡ number_of q → RefusedFor q before after → Refuses before after r
  refused_refuses q number left = elim (numbered q).1 [
    | inl (ten, keeps) ↦ kept_refuses (number ∙ ten) (left.kept keeps)
    | inr (other, blanks) ↦
        record {
          ten = λ e. absurd (other (sym number ∙ e));
          blanks = λ not-zero not_ten. left.blanked blanks;
        }
  ]

  pub outcome_refuses : (checks : Verdict) (Stored : ℕ → Type 0) (a : Answer) → r ≡ answer_number a
      → Outcome checks Stored before after a → Refuses before after r
  outcome_refuses checks Stored a returns h =
      let number = returns ∙ outcome_number _ _ _ _ a h in
      elim (fine_or_refused checks) [
        | inl fine ↦
            let zero : r ≡ 0 = number ∙ ap number_in fine in
            record { ten = λ e. absurd (omega (arith, e, zero)); blanks = λ not-zero other. absurd (not-zero zero) }
        | inr (q, e) ↦ refused_refuses q (number ∙ ap number_in e) (h.refused q e)
      ]
