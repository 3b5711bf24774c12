-- Where the fields of a sheet stand. Document 01, "The bit sheet": fields are packed most significant bit first, with
-- no gaps. Trains and passenger fields count from 1, bits and bytes from 0; s is a sheet, a list of bytes, and m its
-- number of trains.
--   trains_of s, period_of s    m and T of the sheet
--   Column                      fields of one width at equal distances: `width` bits from bit `first`, and every `step`
--   departure_column, driving_column, delay_column, passenger_column m     the four columns behind the head
--   entry s c k                 the number in place k, from 0, of the column c
--   departure_of s i, driving_of s i, delay_of s i     the times of train i
--   passengers_of s f           the passengers of field f
--   bits_of m, bytes_of m, pairs_of m     the bits, the bytes and the passenger fields of a sheet of m trains
--   filling_of s                the filling bits, as one number
-- Assumes nothing.
use Rattle.std.specs.Prelude.{ℕ, ◌+◌, ◌-◌, ◌*◌, ◌/◌, List, length}
use Rattle.bits.specs.Field.{field_of}
use Rattle.sheet.specs.declared.format.Column.{Column}

-- m in 7 bits, T in 11
abbrev pub trains_of : List ℕ → ℕ
trains_of s = field_of s 0 7

abbrev pub period_of : List ℕ → ℕ
period_of s = field_of s 7 11

-- then for each train departure in 12, driving time in 10, source delay in 11
abbrev pub departure_column : Column
departure_column = record { first = 18; step = 33; width = 12 }

abbrev pub driving_column : Column
driving_column = record { first = 30; step = 33; width = 10 }

abbrev pub delay_column : Column
delay_column = record { first = 40; step = 33; width = 11 }

-- then passengers in 14 bits each
abbrev pub passenger_column : ℕ → Column
passenger_column m = record { first = 18 + 33 * m; step = 14; width = 14 }

unfoldable pub entry : List ℕ → Column → ℕ → ℕ
entry s c k = field_of s (c.first + c.step * k) c.width

abbrev pub departure_of : List ℕ → ℕ → ℕ
departure_of s i = entry s departure_column (i - 1)

abbrev pub driving_of : List ℕ → ℕ → ℕ
driving_of s i = entry s driving_column (i - 1)

abbrev pub delay_of : List ℕ → ℕ → ℕ
delay_of s i = entry s delay_column (i - 1)

abbrev pub passengers_of : List ℕ → ℕ → ℕ
passengers_of s f = entry s (passenger_column (trains_of s)) (f - 1)

-- there are 7m² + 40m + 18 bits, then zero bits up to a whole byte
unfoldable pub bits_of : ℕ → ℕ
bits_of m = 7 * (m * m) + 40 * m + 18

unfoldable pub bytes_of : ℕ → ℕ
bytes_of m = (bits_of m + 7) / 8

unfoldable pub pairs_of : ℕ → ℕ
pairs_of m = m * (m + 1) / 2

-- the filling bits, as one number
abbrev pub filling_of : List ℕ → ℕ
filling_of s = field_of s (bits_of (trains_of s)) (8 * length s - bits_of (trains_of s))
