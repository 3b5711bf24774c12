-- What a sheet taken apart leaves, for those who call `decode`; and that its promise leaves nothing open.
-- Assumes nothing.
use Rattle.std.proofs.Common.{◌≡◌, refl, sym, ap, ◌∙◌, List, inl, inr, ℕ, ◌≤◌, arith}
use Rattle.terms.specs.declared.Refusal.{Refusal}
use Rattle.std.specs.Prelude.{Err}
use Rattle.terms.specs.Verdict.{Fine}
use Rattle.reader.specs.Reading.{Reading, reading_of}
use Rattle.terms.proofs.Checks.{fine_or_refused, refused_not_fine, then_stop, then_pass, then_fine}
use Rattle.sheet.specs.Format.{trains_of, period_of, bytes_of}
use Rattle.sheet.specs.Numbers.{Lists, numbers_of, numbers_in}
use Rattle.sheet.specs.Checks.{head_verdict, body_verdict, sheet_verdict}
use Rattle.sheet.specs.Accepted.{Lengths, SameNumbers}
use Rattle.sheet.proofs.Facts.{headed_of_fine}
use Rattle.reader.specs.Decoded.{HeadRead, ColumnsRead, Decoded}
use Rattle.terms.proofs.Answers.{answer_refused, refused_answer}
use Rattle.reader.proofs.Columns.{columns_lengths, columns_numbers, columns_one}

-- ---- for those who call it

module _ (s : List ℕ) (before after : Lists) (a : Reading) (h : Decoded s before after a) where
  -- lengths are kept, whatever the answer
  pub decoded_lengths : {n k : ℕ} → Lengths n k before → Lengths n k after
  decoded_lengths long = elim (fine_or_refused (head_verdict s)) [
    | inl fine ↦ columns_lengths s before after (h.filled fine) long
    | inr (q, refused) ↦ rw (h.kept q refused) long
  ]

  -- an accepted sheet stands in the lists
  pub decoded_columns : sheet_verdict s ≡ Fine → ColumnsRead s before after
  unfolding sheet_verdict
  decoded_columns fine = h.filled (then_fine _ _ fine).0

  -- so that they hold its numbers
  pub decoded_numbers : (m T : ℕ) → m ≡ trains_of s → T ≡ period_of s → sheet_verdict s ≡ Fine
      → SameNumbers (numbers_in m T after) (numbers_of s)
  decoded_numbers m T trains period fine =
      columns_numbers s before after (decoded_columns fine) m T trains period

-- two results that keep decode's promise are equal
pub decode_one : (s : List ℕ) (before after after' : Lists) (a a' : Reading) → Decoded s before after a
    → Decoded s before after' a' → (a ≡ a') × (after ≡ after')
decode_one s before after after' a a' g h = (
  g.answer ∙ sym h.answer,
  elim (fine_or_refused (head_verdict s)) [
    | inl fine ↦ columns_one s before after (g.filled fine) after' (h.filled fine)
    | inr (q, refused) ↦ g.kept q refused ∙ sym (h.kept q refused)
  ],
)

-- ---- its two ends

module _ (s : List ℕ) (before : Lists) {a : Reading} where
  -- a head that is refused
  pub decoded_head_refused : {r : Refusal} → a ≡ Err r
      → a ≡ reading_of (head_verdict s) (trains_of s) (period_of s) → Decoded s before before a
  unfolding sheet_verdict
  decoded_head_refused p e =
      let refused = refused_answer (head_verdict s) _ (sym p ∙ e) in
      record {
        answer = p ∙ answer_refused _ _ (then_stop _ _ refl (sym refused));
        filled = λ fine. refused_not_fine (sym refused ∙ fine);
        kept = λ q r. refl;
      }

  -- a head that passed: the body decides
  pub decoded_body : (after : Lists) → head_verdict s ≡ Fine
      → a ≡ reading_of (body_verdict s) (trains_of s) (period_of s) → ColumnsRead s before after
      → Decoded s before after a
  unfolding sheet_verdict
  decoded_body after fine e columns =
      record {
        answer = e ∙ ap (λ v. reading_of v (trains_of s) (period_of s)) (then_pass (head_verdict s) _ _ fine refl);
        filled = λ _. columns;
        kept = λ q refused. refused_not_fine (sym refused ∙ fine);
      }

-- a head that passed has at most 64 trains
pub trains_of_fine : (s : List ℕ) (m : ℕ) → head_verdict s ≡ Fine → m ≡ trains_of s → m ≤ 64
trains_of_fine s m fine e = let h = headed_of_fine s fine in omega (arith, e, h.ranges.trains_most)

-- and the length that m demands
pub head_of_fine : (s : List ℕ) (m : ℕ) → head_verdict s ≡ Fine → m ≡ trains_of s → HeadRead s m
head_of_fine s m fine e =
    let h = headed_of_fine s fine in
    record {
      trains = e;
      least = omega (arith, e, h.ranges.trains_least);
      long = h.long ∙ ap bytes_of (sym e);
    }
