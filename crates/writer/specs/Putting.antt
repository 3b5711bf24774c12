-- What the steps of writing a sheet need and leave; write's own promise stands in Write.
--   PutRoom, ColumnPut    a column
--   HeadRoom, HeadPut     m and T
--   TimesRoom, TimesPut   the three columns of the trains
--   FillingPut            the bits behind the last field
--   Writable              what the whole needs; what it leaves is SheetOf (sheet/specs/Accepted)
-- Assumes nothing.
use Rattle.std.specs.Prelude.{ℕ, ◌+◌, ◌-◌, ◌*◌, ◌^◌, ◌≤◌, ◌<◌, ◌≡◌, List, ◌⊎◌, length, get_or}
use Rattle.lists.specs.Run.{nth}
use Rattle.bits.specs.Field.{field_of, Apart, Within, Put}
use Rattle.sheet.specs.declared.format.Column.{Column}
use Rattle.sheet.specs.Format.{trains_of, period_of, entry, departure_of, driving_of}
use Rattle.sheet.specs.Format.{delay_of, bits_of, bytes_of, pairs_of}
use Rattle.sheet.specs.Accepted.{Lengths, InRange}
use Rattle.writer.specs.Write.{Given, numbers_given}

-- the numbers of the list fit the column, and the column the sheet
pub record PutRoom (s : List ℕ) (c : Column) (l : List ℕ) : Type 0 where
  pub spaced : c.width ≤ c.step
  pub within : (k : ℕ) → k < length l → Within s (c.first + c.step * k) c.width
  pub small : (k : ℕ) → k < length l → get_or l k 0 < 2 ^ c.width

-- t is s with the first n numbers of the list in the column, and every field apart from them as it was
pub record ColumnPut (s : List ℕ) (c : Column) (n : ℕ) (l t : List ℕ) : Type 0 where
  pub long : length t ≡ length s
  pub holds : (k : ℕ) → k < n → entry t c k ≡ get_or l k 0
  pub others : (a w : ℕ) → ((k : ℕ) → k < n → Apart a w (c.first + c.step * k) c.width)
      → field_of t a w ≡ field_of s a w

-- the sheet has room for m and T, and they fit their fields
pub record HeadRoom (s : List ℕ) (m T : ℕ) : Type 0 where
  pub room : 18 ≤ 8 * length s
  pub trains : m ≤ 64
  pub period : T ≤ 1440

-- t holds m and T; of what stands behind them nothing is said, because every field is put after them
pub record HeadPut (s : List ℕ) (m T : ℕ) (t : List ℕ) : Type 0 where
  pub long : length t ≡ length s
  pub trains : trains_of t ≡ m
  pub period : period_of t ≡ T

-- the times of trains 1 to m are the lists d, r and y, fit their fields, and the sheet has room for them
pub record TimesRoom (s : List ℕ) (m : ℕ) (d r y : List ℕ) : Type 0 where
  pub most : m ≤ 64
  pub room : 18 + 33 * m ≤ 8 * length s
  pub departures : length d ≡ m
  pub driving : length r ≡ m
  pub delays : length y ≡ m
  pub departure : (i : ℕ) → 1 ≤ i → i ≤ m → nth d i ≤ 2879
  pub drive : (i : ℕ) → 1 ≤ i → i ≤ m → nth r i ≤ 1023
  pub delay : (i : ℕ) → 1 ≤ i → i ≤ m → nth y i ≤ 1440

-- t is s with those times; what lies before and behind them is as it was
pub record TimesPut (s : List ℕ) (m : ℕ) (d r y t : List ℕ) : Type 0 where
  pub long : length t ≡ length s
  pub departure : (i : ℕ) → 1 ≤ i → i ≤ m → departure_of t i ≡ nth d i
  pub driving : (i : ℕ) → 1 ≤ i → i ≤ m → driving_of t i ≡ nth r i
  pub delay : (i : ℕ) → 1 ≤ i → i ≤ m → delay_of t i ≡ nth y i
  pub others : (a w : ℕ) → (a + w ≤ 18) ⊎ (18 + 33 * m ≤ a) → field_of t a w ≡ field_of s a w

-- t is s with the bits behind the last field 0
abbrev pub FillingPut : ℕ → List ℕ → List ℕ → Type 0
FillingPut m s t = Put s (bits_of m) (8 * bytes_of m - bits_of m) 0 t

-- lists of the right lengths, numbers in range, and as many bytes as the sheet has
pub record Writable (G : Given) (s : List ℕ) : Type 0 where
  pub long : length s ≡ bytes_of G.trains
  pub lengths : Lengths G.trains (pairs_of G.trains) G.lists
  pub range : InRange (numbers_given G)
