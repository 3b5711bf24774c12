-- The definitions against the bytes that document 01 prints: sheet A holds
-- its numbers and is accepted; the three lengths. The checker computes both.
-- Assumes nothing.
use Rattle.std.proofs.Common.{◌≡◌, refl, subst, ℕ, ◌≤◌, arith}
use Rattle.lists.specs.Choice.{if_below}
use Rattle.lists.specs.Run.{run_of}
use Rattle.bits.specs.Field.{bit_at, field_of}
use Rattle.bits.proofs.Bytes.{bytes_tested}
use Rattle.terms.specs.Verdict.{Fine, verdict_of, ◌and_then◌, first_of}
use Rattle.sheet.specs.Format.{entry, bits_of, bytes_of, pairs_of}
use Rattle.sheet.specs.Numbers.{numbers_of}
use Rattle.sheet.specs.Checks.{ranges_verdict, earliest_of, train_checks, train_verdict, passengers_verdict}
use Rattle.sheet.specs.Checks.{numbers_verdict, head_verdict, filling_verdict, body_verdict, sheet_verdict}
use Rattle.sheet.specs.Accepted.{SheetOf}
use Rattle.sheet.specs.SheetA.{numbers_a, sheet_a}

-- a statement about each train of one, or each field of one, is one about 1
only_one : (P : ℕ → Type 0) → P 1 → (i : ℕ) → 1 ≤ i → i ≤ 1 → P i
only_one P p i a b = let e : 1 ≡ i = omega arith in subst P e p

pub sheet_a_lem : SheetOf numbers_a sheet_a
unfolding bit_at field_of entry bits_of bytes_of pairs_of
sheet_a_lem =
    record {
      bytes = bytes_tested sheet_a tt;
      long = refl;
      numbers = record {
        trains = refl;
        period = refl;
        departure = only_one (λ (i : ℕ). (numbers_of sheet_a).times.departure i ≡ numbers_a.times.departure i) refl;
        driving = only_one (λ (i : ℕ). (numbers_of sheet_a).times.driving i ≡ numbers_a.times.driving i) refl;
        delay = only_one (λ (i : ℕ). (numbers_of sheet_a).times.delay i ≡ numbers_a.times.delay i) refl;
        passengers = only_one (λ (f : ℕ). (numbers_of sheet_a).passengers f ≡ numbers_a.passengers f) refl;
      };
      filling = refl;
    }

pub sheet_a_accepted : sheet_verdict sheet_a ≡ Fine
unfolding sheet_verdict head_verdict ranges_verdict body_verdict numbers_verdict train_verdict train_checks earliest_of
    passengers_verdict filling_verdict verdict_of ◌and_then◌ first_of run_of if_below bit_at
    field_of entry bits_of bytes_of
    pairs_of
sheet_a_accepted = refl

-- 9 bytes for m = 1, 26 for m = 3, 3,907 for m = 64
pub three_lengths : (bytes_of 1 ≡ 9) × (bytes_of 3 ≡ 26) × (bytes_of 64 ≡ 3907)
unfolding bits_of bytes_of
three_lengths = (refl, refl, refl)
