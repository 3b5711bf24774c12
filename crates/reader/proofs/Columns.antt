-- The columns of a sheet: their fields lie within the sheet, and lists into which they were read keep their lengths,
-- hold the sheet's numbers, and are the only such lists.
-- Assumes nothing.
use Rattle.std.proofs.Common.{◌≡◌, sym, ◌∙◌, List, take, length, ⊎_elim, ℕ, ◌+◌, ◌-◌, ◌≤◌, ◌<◌, arith, ext_get_or}
use Rattle.lists.specs.Filled.{Filled}
use Rattle.std.proofs.lemmas.Bool.{cases_lt}
use Rattle.std.proofs.lemmas.List.{length-take-le}
use Rattle.sheet.specs.Format.{trains_of, period_of, passenger_column, pairs_of}
use Rattle.sheet.specs.Numbers.{Lists, numbers_of, numbers_in}
use Rattle.sheet.specs.Checks.{Room}
use Rattle.sheet.specs.Accepted.{Lengths, SameNumbers}
use Rattle.sheet.proofs.Lengths.{layout, bytes_bits, pairs_le, train_within, passengers_within}
use Rattle.reader.specs.Decoded.{ColumnRoom, HeadRead, Body, ColumnsRead}

-- ---- the sheet

module _ (s : List ℕ) (m : ℕ) (most : m ≤ 64) (h : HeadRead s m) where
  -- the column of the trains whose first field is the w bits from bit a
  pub train_room : (a w : ℕ) (l : List ℕ) → a + w ≤ 51 → w ≤ 16 → length l ≡ 64
      → ColumnRoom s (record { first = a; step = 33; width = w }) (length (take m l))
  train_room a w l end narrow e =
      let b = bytes_bits m in
      let long = h.long in
      rw (length-take-le m l (rw e most))
      (record { within = λ k c. train_within s m a w k (omega (arith, layout m)) most end narrow c })

  -- the column of the passengers
  pub passenger_room : (l : List ℕ) → length l ≡ 2080
      → ColumnRoom s (passenger_column m) (length (take (pairs_of m) l))
  passenger_room l e =
      let b = bytes_bits m in
      let long = h.long in
      rw (length-take-le (pairs_of m) l (rw e (pairs_le m most)))
      (record { within = λ k c. passengers_within s m k (omega arith) most c })

-- the lists have room for what the checks of m trains read
pub body_room : (s : List ℕ) (m : ℕ) (L : Lists) → m ≤ 64 → Body s m L → Lengths 64 2080 L → Room m L
body_room s m L most h long =
    record {
      trains = record {
        least = h.head.least;
        most = most;
        departures = rw long.departures most;
        driving = rw long.driving most;
        delays = rw long.delays most;
      };
      passengers = rw long.passengers (pairs_le m most);
    }

-- ---- the lists

-- two lists that are filled alike are equal
filled_one : {A : Type 0} {d : A} {f : ℕ → A} {n : ℕ} {old new new' : List A} → Filled d f n old new
    → Filled d f n old new' → new ≡ new'
filled_one {d = d} {n = n} {new = new} {new' = new'} g h =
    ext_get_or d new new' (g.long ∙ sym h.long)
    (λ k b.
    ⊎_elim
    (λ (l : k < n). g.filled k l ∙ sym (h.filled k l))
    (λ (l : n ≤ k). g.others k l ∙ sym (h.others k l))
    (cases_lt k n))

module _ (s : List ℕ) (before after : Lists) (h : ColumnsRead s before after) where
  -- lengths are kept
  pub columns_lengths : {n k : ℕ} → Lengths n k before → Lengths n k after
  columns_lengths long =
      record {
        departures = h.departures.long ∙ long.departures;
        driving = h.driving.long ∙ long.driving;
        delays = h.delays.long ∙ long.delays;
        passengers = h.passengers.long ∙ long.passengers;
      }

  -- the lists hold the sheet's numbers
  pub columns_numbers : (m T : ℕ) → m ≡ trains_of s → T ≡ period_of s
      → SameNumbers (numbers_in m T after) (numbers_of s)
  columns_numbers m T trains period =
      record {
        trains = trains;
        period = period;
        departure = λ i a b. h.departures.filled (i - 1) (omega arith);
        driving = λ i a b. h.driving.filled (i - 1) (omega arith);
        delay = λ i a b. h.delays.filled (i - 1) (omega arith);
        passengers = λ f a b. h.passengers.filled (f - 1) (omega arith);
      }

  -- no other lists do
  pub columns_one : (after' : Lists) → ColumnsRead s before after' → after ≡ after'
  columns_one after' g =
      λ i. record {
        departures = filled_one h.departures g.departures i;
        driving = filled_one h.driving g.driving i;
        delays = filled_one h.delays g.delays i;
        passengers = filled_one h.passengers g.passengers i;
      }
