-- What write leaves, refused and accepted; and that its promise leaves nothing open.
-- Assumes nothing.
use Rattle.std.proofs.Common.{◌≡◌, refl, sym, ap, ap₂, ◌∙◌, List, ◌++◌, ⊎_elim, ℕ, length, drop, take-append-drop}
use Rattle.std.proofs.Common.{take_at, drop_at}
use Rattle.terms.specs.declared.Refusal.{Refusal}
use Rattle.std.specs.Prelude.{Ok, Err}
use Rattle.terms.specs.Verdict.{Verdict, Fine}
use Rattle.terms.specs.Answer.{Answer, answer_number, answer_place, answer_carries, answer_of}
use Rattle.terms.proofs.Checks.{refused_not_fine, fine_or_refused}
use Rattle.terms.proofs.Answers.{answer_number_lem, answer_place_lem, answer_carries_lem}
use Rattle.sheet.specs.Format.{bytes_of}
use Rattle.sheet.specs.Accepted.{SheetOf}
use Rattle.sheet.proofs.Meaning.{sheet_of_one}
use Rattle.writer.specs.Write.{Given, numbers_given, write_verdict, Write, WriteTells}

module _ (G : Given) (before : List ℕ) where
  -- a refusal changes nothing
  pub write_refused : {r : Refusal} → Err r ≡ write_verdict (length before) G
      → Write G before before (Err r)
  write_refused e =
      record {
        answer = ap (λ (v : Verdict). answer_of v (bytes_of G.trains)) e;
        sheet = λ fine. refused_not_fine (e ∙ fine);
        rest = λ fine. refl;
        unchanged = λ r q. refl;
      }

  -- the sheet stands in the first n bytes, and the rest is what it was
  pub write_accepted : {n : ℕ} {first : List ℕ} → n ≡ bytes_of G.trains → Fine ≡ write_verdict (length before) G
      → SheetOf (numbers_given G) first → Write G before (first ++ drop n before) (Ok n)
  write_accepted {n} {first} p e h =
      let long : length first ≡ bytes_of G.trains = h.long in
      record {
        answer = ap (λ (k : ℕ). Ok k) p ∙ ap (λ (v : Verdict). answer_of v (bytes_of G.trains)) e;
        sheet = λ fine. rw (take_at first (drop n before) (bytes_of G.trains) long) h;
        rest = λ fine. drop_at first (drop n before) (bytes_of G.trains) long ∙ ap (λ (k : ℕ). drop k before) p;
        unchanged = λ r q. refused_not_fine (sym q ∙ sym e);
      }

-- two outcomes that keep write's promise are equal
pub write_one : (G : Given) (before after after' : List ℕ) (a a' : Answer) → Write G before after a
    → Write G before after' a'
    → (a ≡ a') × (after ≡ after')
write_one G before after after' a a' g h =
    let n : ℕ = bytes_of G.trains in (
      g.answer ∙ sym h.answer,
      ⊎_elim
          (λ fine.
          sym (take-append-drop n after)
          ∙ ap₂ (λ (x y : List ℕ). x ++ y) (sheet_of_one _ _ _ (g.sheet fine) (h.sheet fine))
          (g.rest fine ∙ sym (h.rest fine))
          ∙ take-append-drop n after')
          (λ refused. g.unchanged refused.0 refused.1 ∙ sym (h.unchanged refused.0 refused.1))
          (fine_or_refused (write_verdict (length before) G)),
    )

-- what the answer carries, in the paper's numbers
pub write_tells : {G : Given} {before after : List ℕ} {a : Answer} → Write G before after a → WriteTells G before a
write_tells {G} {before} h =
    let checks : Verdict = write_verdict (length before) G in
    record {
      number = ap answer_number h.answer ∙ answer_number_lem checks (bytes_of G.trains);
      place = ap answer_place h.answer ∙ answer_place_lem checks (bytes_of G.trains);
      long = ap answer_carries h.answer ∙ answer_carries_lem checks (bytes_of G.trains);
    }
