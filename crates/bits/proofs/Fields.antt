-- Laws of fields, once over the width: one bit more, the range, two fields side by side, and fields against bits.
-- Assumes nothing.
use Rattle.std.proofs.Common.{◌≡◌, refl, ap₂, List, inl, inr, ℕ, zero, suc, ◌+◌, ◌*◌, ◌^◌, ◌≤◌, ◌<◌, mod-lt}
use Rattle.std.proofs.Common.{pow-suc, add-suc, add-zero, add_assoc, mul_assoc, not-suc-le-zero}
use Rattle.std.proofs.Common.{lt_of_lt_of_le, add-one, arith, lit<, length, pow_mono}
use Rattle.std.proofs.lemmas.Bool.{cases_lt}
use Rattle.bits.specs.Field.{bit_at, field_of, Within}

pub bit_lt : (s : List ℕ) (i : ℕ) → bit_at s i < 2
unfolding bit_at
bit_lt s i = mod-lt _ (lit< tt)

pub field_none : (s : List ℕ) (at : ℕ) → field_of s at 0 ≡ 0
unfolding field_of
field_none s at = refl

-- one bit more, as a loop that counts the bits has it
pub field_more : (s : List ℕ) (at w : ℕ) → field_of s at (w + 1) ≡ field_of s at w * 2 + bit_at s (at + w)
unfolding field_of
field_more s at w = rw add-one

-- one bit is a field
pub field_bit : (s : List ℕ) (i : ℕ) → field_of s i 1 ≡ bit_at s i
unfolding field_of
field_bit s i = rw (add-zero i) (omega arith)

-- a field of w bits is below 2 ^ w
pub field_lt : (s : List ℕ) (at w : ℕ) → field_of s at w < 2 ^ w
unfolding field_of
field_lt s at zero = lit< tt
field_lt s at (suc w) = rw pow-suc (omega (arith, field_lt s at w, bit_lt s (at + w)))

-- so one that code can reach is below 2 ^ 16
pub field_small : (s : List ℕ) (at w : ℕ) → w ≤ 16 → field_of s at w < 65536
field_small s at w l = lt_of_lt_of_le (field_lt s at w) (pow_mono l)

-- two fields side by side are one
pub field_split : (s : List ℕ) (at v w : ℕ) → field_of s at (v + w) ≡ field_of s at v * 2 ^ w + field_of s (at + v) w
unfolding field_of
field_split s at v zero = rw (add-zero v) (omega arith)
field_split s at v (suc w) =
    rw (add-suc v w, field_split s at v w, pow-suc 2 w, add_assoc at v w, ← mul_assoc (field_of s at v) (2 ^ w) 2)
    (omega arith)

-- bytes that agree on the bits of a field hold the same number there
pub field_same : (s t : List ℕ) (at w : ℕ) → ((i : ℕ) → i < w → bit_at s (at + i) ≡ bit_at t (at + i))
    → field_of s at w ≡ field_of t at w
unfolding field_of
field_same s t at zero h = refl
field_same s t at (suc w) h =
    ap₂ (λ (a b : ℕ). a * 2 + b) (field_same s t at w (λ i l. h i (omega arith))) (h w (omega arith))

-- and the other way round
pub same_bits : (s t : List ℕ) (at w : ℕ) → field_of s at w ≡ field_of t at w
    → (i : ℕ) → i < w → bit_at s (at + i) ≡ bit_at t (at + i)
unfolding field_of
same_bits s t at zero e i l = absurd (not-suc-le-zero l)
same_bits s t at (suc w) e i l = elim (cases_lt i w) [
  | inl r ↦ same_bits s t at w (omega (arith, bit_lt s (at + w), bit_lt t (at + w))) i r
  | inr r ↦
      let last : i ≡ w = omega arith in
      rw last (omega (arith, bit_lt s (at + w), bit_lt t (at + w)))
]

-- a field lies as well within other bytes of the same length
pub within_same : {s t : List ℕ} {at w : ℕ} → Within s at w → length t ≡ length s → Within t at w
within_same h e = record { inside = omega (arith, h.inside); narrow = h.narrow; near = h.near }

-- what a loop that reads a field bit by bit needs
pub ruleset reading = (field_none, field_more, field_small, bit_lt)
