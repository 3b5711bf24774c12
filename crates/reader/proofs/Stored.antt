-- What read leaves, refused and accepted; what its answer carries; and that its promise leaves nothing open.
-- Assumes nothing.
use Rattle.std.proofs.Common.{◌≡◌, refl, sym, ap, subst, ◌∙◌, List, ℕ, replicate}
use Rattle.lists.proofs.Fill.{filled_padded}
use Rattle.terms.specs.declared.Refusal.{Refusal}
use Rattle.std.specs.Prelude.{Ok, Err}
use Rattle.terms.specs.Verdict.{Verdict}
use Rattle.reader.specs.Reading.{Reading, read_trains, read_period, reading_of}
use Rattle.terms.proofs.Checks.{if_fine_lem, if_refused, then_pass}
use Rattle.sheet.specs.Format.{trains_of, period_of}
use Rattle.sheet.specs.Numbers.{Lists, lists}
use Rattle.sheet.specs.Checks.{sheet_verdict}
use Rattle.sheet.specs.Accepted.{Lengths}
use Rattle.sheet.proofs.Facts.{fine_of_lengths}
use Rattle.terms.specs.Answer.{answer_number, answer_place}
use Rattle.reader.specs.Decoded.{Decoded}
use Rattle.reader.specs.Read.{read_verdict, Read, ReadTells}
use Rattle.terms.specs.declared.Head.{Head}
use Rattle.terms.proofs.Answers.{answer_refused, accepted_answer, refused_answer, answer_number_lem, answer_place_lem}
use Rattle.reader.proofs.ReadingOf.{read_trains_lem, read_period_lem}
use Rattle.reader.proofs.Decoded.{decoded_columns}

-- a refusal changes nothing
pub read_refused : (s : List ℕ) (before : Lists) {a : Reading} {r : Refusal} → a ≡ Err r
    → Err r ≡ read_verdict s before → Read s before before a
read_refused s before p e =
    record {
      answer = p ∙ answer_refused _ _ e;
      departures = if_refused _ _ _ e;
      driving = if_refused _ _ _ e;
      delays = if_refused _ _ _ e;
      passengers = if_refused _ _ _ e;
    }

-- four lists of zeros, as read lends them to decode
abbrev pub zeros : Lists
zeros = lists (replicate 64 0) (replicate 64 0) (replicate 64 0) (replicate 2080 0)

-- ---- where the lent lists have their lengths

module _ (s : List ℕ) (before : Lists) (room : Lengths 64 2080 before) where
  -- the sheet decides
  sheet_decides : sheet_verdict s ≡ read_verdict s before
  unfolding read_verdict
  sheet_decides = then_pass _ _ _ (fine_of_lengths _ _ _ _ room) refl

  -- it is refused
  pub read_of_refused : {a : Reading} {r : Refusal} → a ≡ reading_of (sheet_verdict s) (trains_of s) (period_of s)
      → a ≡ Err r → Read s before before a
  read_of_refused e p =
      read_refused s before p (sym (refused_answer (sheet_verdict s) _ (sym p ∙ e)) ∙ sheet_decides)

  -- it is accepted, and what was decoded into lists of zeros is copied
  pub read_of_accepted : {a : Reading} {h : Head} (got after : Lists) → Decoded s zeros got a → a ≡ Ok h
      → after ≡ got → Read s before after a
  read_of_accepted {a} got after h p same =
      let fine = (accepted_answer (sheet_verdict s) _ (sym p ∙ h.answer)).0 in
      let e = sym fine ∙ sheet_decides in
      let columns = decoded_columns s zeros got a h fine in
      subst (λ (L : Lists). Read s before L a) (sym same)
      (record {
        answer = h.answer ∙ ap (λ (v : Verdict). reading_of v (trains_of s) (period_of s)) sheet_decides;
        departures = filled_padded _ 64 _ columns.departures ∙ if_fine_lem _ _ _ e;
        driving = filled_padded _ 64 _ columns.driving ∙ if_fine_lem _ _ _ e;
        delays = filled_padded _ 64 _ columns.delays ∙ if_fine_lem _ _ _ e;
        passengers = filled_padded _ 2080 _ columns.passengers ∙ if_fine_lem _ _ _ e;
      })

-- ---- what its promise fixes

pub read_tells : {s : List ℕ} {before after : Lists} {a : Reading} → Read s before after a → ReadTells s before a
read_tells {s} {before} h =
    let v : Verdict = read_verdict s before in
    record {
      number = ap answer_number h.answer ∙ answer_number_lem v _;
      place = ap answer_place h.answer ∙ answer_place_lem v _;
      trains = ap read_trains h.answer ∙ read_trains_lem v (trains_of s) (period_of s);
      period = ap read_period h.answer ∙ read_period_lem v (trains_of s) (period_of s);
    }

-- two outcomes that keep read's promise are equal
pub read_one : (s : List ℕ) (before after after' : Lists) (a a' : Reading) → Read s before after a
    → Read s before after' a' → (a ≡ a') × (after ≡ after')
read_one s before after after' a a' g h = (
  g.answer ∙ sym h.answer,
  λ i. record {
    departures = (g.departures ∙ sym h.departures) i;
    driving = (g.driving ∙ sym h.driving) i;
    delays = (g.delays ∙ sym h.delays) i;
    passengers = (g.passengers ∙ sym h.passengers) i;
  },
)
