-- Fields of bits in a list of bytes. Document 01, "The bit sheet": fields are packed most significant bit first.
-- Bit 0 is the most significant bit of byte 0, bit 8 that of byte 1.
--   bit_at s i        bit i of the bytes s; past their end it is 0
--   field_of s at w   the number in the w bits from bit at, the first the most significant
--   Put s at w v t    t is s with v in those bits and every other bit as it was; of lists of bytes there is one such t
-- Assumes nothing.
use Rattle.std.specs.Prelude.{ℕ, zero, suc, ◌+◌, ◌-◌, ◌*◌, ◌/◌, ◌%◌, ◌^◌, ◌≤◌, ◌<◌, ◌≡◌, List, ◌⊎◌, length, get_or}

unfoldable pub bit_at : List ℕ → ℕ → ℕ
bit_at s i = get_or s (i / 8) 0 / 2 ^ (7 - i % 8) % 2

unfoldable pub field_of : List ℕ → ℕ → ℕ → ℕ
field_of s at zero = 0
field_of s at (suc w) = field_of s at w * 2 + bit_at s (at + w)

-- the v bits from bit a and the w bits from bit b have none in common
abbrev pub Apart : ℕ → ℕ → ℕ → ℕ → Type 0
Apart a v b w = (a + v ≤ b) ⊎ (b + w ≤ a)

pub record Put (s : List ℕ) (at w v : ℕ) (t : List ℕ) : Type 0 where
  pub long : length t ≡ length s
  pub holds : field_of t at w ≡ v
  pub others : (i : ℕ) → Apart i 1 at w → bit_at t i ≡ bit_at s i

-- y is the byte x with its bit of weight 2 ^ k replaced by b
pub record BitPut (x k b y : ℕ) : Type 0 where
  pub holds : y / 2 ^ k % 2 ≡ b
  pub others : (j : ℕ) → (j ≡ k → ⊥) → y / 2 ^ j % 2 ≡ x / 2 ^ j % 2

-- a field that code can reach: it lies within the bytes, is at most 16 bits wide and starts below bit 2 ^ 32
pub record Within (s : List ℕ) (at w : ℕ) : Type 0 where
  pub inside : at + w ≤ 8 * length s
  pub narrow : w ≤ 16
  pub near : at < 2 ^ 32

-- each number is below 256, as a slice of bytes has it
abbrev pub Bytes : List ℕ → Type 0
Bytes s = (i : ℕ) → get_or s i 0 < 256
