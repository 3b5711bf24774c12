-- One bit of one byte replaced, and bytes against their bits: lists of bytes of one length with equal bits are equal.
-- Assumes nothing.
use Rattle.std.proofs.Common.{◌≡◌, refl, sym, subst, ◌∙◌, Bool, true, false, ◌&&◌, List, [], ◌∷◌, ℕ, zero, suc, ◌+◌, ◌-◌, ◌*◌}
use Rattle.std.proofs.Common.{◌/◌, ◌%◌, ◌^◌, ◌≤◌, ◌<◌, mod-lt, div-one, zero-add, arith, T, ltb, ltb→lt, lit<, lit≤}
use Rattle.std.proofs.Common.{length, get_or, shr-shr, ext_get_or, lt_of_le_of_lt, inl, inr, w8, bit_and, bit_or}
use Rattle.std.specs.Int.Bits.{or_zero_r}
use lib.Pow.{are_bytes}
use Rattle.std.proofs.lemmas.Nat.{and_le_l, or_of_8}
use Rattle.std.proofs.lemmas.Nat.Bits.{bit_at_clear_same, bit_at_clear_other, bit_at_set_same, bit_at_set_other}
use Rattle.std.proofs.lemmas.Nat.Bits.{bit_at_above}
use Rattle.std.proofs.lemmas.Bool.{cases_lt}
use Rattle.bits.specs.Field.{bit_at, field_of, BitPut, Bytes}
use Rattle.bits.proofs.Fields.{field_same, same_bits}

-- ---- one bit of one byte cleared or set, as `byte & !(1 << k)` and `byte | 1 << k` compute it

module _ (x k b : ℕ) (byte : x < 256) (within : k < 8) where
  pub bit_cleared : b ≡ 0 → BitPut x k b (bit_and x (255 - 1 * 2 ^ k % 256))
  bit_cleared e =
      record {
        holds = bit_at_clear_same w8 x k within ∙ sym e;
        others = λ j ne. elim (cases_lt j 8) [
          | inl l ↦ bit_at_clear_other w8 x k within j l ne
          | inr l ↦ bit_at_above _ 8 j (lt_of_le_of_lt (and_le_l x _) byte) l ∙ sym (bit_at_above x 8 j byte l)
        ];
      }

  pub bit_set : b ≡ 1 → BitPut x k b (bit_or x (1 * 2 ^ k % 256))
  bit_set e =
      record {
        holds = bit_at_set_same w8 x k within ∙ sym e;
        others = λ j ne. bit_at_set_other w8 x k within j ne;
      }

-- the bit cleared, and then set where it becomes 1
pub bit_replaced : (x k b : ℕ) → x < 256 → k < 8 → b < 2
    → BitPut x k b (bit_or (bit_and x (255 - 1 * 2 ^ k % 256)) (b * 2 ^ k % 256))
bit_replaced x k zero byte within bit =
    let none : 0 * 2 ^ k % 256 ≡ 0 = omega arith in
    rw (none, or_zero_r (bit_and x (255 - 1 * 2 ^ k % 256))) (bit_cleared x k 0 byte within refl)
bit_replaced x k (suc zero) byte within bit =
    let cleared = bit_cleared x k 0 byte within refl in
    let done = bit_set (bit_and x (255 - 1 * 2 ^ k % 256)) k 1 (lt_of_le_of_lt (and_le_l x _) byte) within refl in
    record {
      holds = done.holds;
      others = λ j ne. done.others j ne ∙ cleared.others j ne;
    }
bit_replaced x k (suc (suc b)) byte within bit = absurd (omega (arith, bit))

-- so there is a byte with the one bit replaced
pub record BytePut (x k b : ℕ) : Type 0 where
  pub byte : ℕ
  pub small : byte < 256
  pub put : BitPut x k b byte

pub byte_put : (x k b : ℕ) → x < 256 → k < 8 → b < 2 → BytePut x k b
byte_put x k b byte within bit =
    record {
      byte = _;
      small = or_of_8 _ _ (lt_of_le_of_lt (and_le_l x _) byte) (mod-lt (b * 2 ^ k) (lit< tt));
      put = bit_replaced x k b byte within bit;
    }

-- ---- whole bytes

byte_part : (s : List ℕ) (q k : ℕ) → get_or s q 0 < 256 → k ≤ 8 → field_of s (8 * q) k ≡ get_or s q 0 / 2 ^ (8 - k)
unfolding field_of bit_at
byte_part s q zero h l = omega arith
byte_part s q (suc k) h l =
    let d : ℕ = 7 - k in
    let a : (8 * q + k) / 8 ≡ q = omega arith in
    let b : (8 * q + k) % 8 ≡ k = omega arith in
    let e : 8 - k ≡ d + 1 = omega arith in
    let f : 8 - suc k ≡ d = omega arith in
    rw (byte_part s q k h (omega arith), a, b, e, f, ← shr-shr (get_or s q 0) d 1) (omega arith)

-- the eight bits of a byte are the byte
byte_field : (s : List ℕ) (q : ℕ) → get_or s q 0 < 256 → field_of s (8 * q) 8 ≡ get_or s q 0
byte_field s q h = byte_part s q 8 h (lit≤ tt) ∙ div-one (get_or s q 0)

-- lists of bytes of one length with equal bits are equal
pub bytes_ext : (s t : List ℕ) → Bytes s → Bytes t → length s ≡ length t
    → ((i : ℕ) → i < 8 * length s → bit_at s i ≡ bit_at t i) → s ≡ t
bytes_ext s t hs ht e h =
    ext_get_or 0 s t e
    (λ q l.
    sym (byte_field s q (hs q))
    ∙ field_same s t (8 * q) 8 (λ i m. h (8 * q + i) (omega arith))
    ∙ byte_field t q (ht q))

-- and so are those that hold the same number as one field
pub bytes_same : (s t : List ℕ) → Bytes s → Bytes t → length s ≡ length t
    → field_of s 0 (8 * length s) ≡ field_of t 0 (8 * length s) → s ≡ t
bytes_same s t hs ht e f =
    bytes_ext s t hs ht e
    (λ i l. subst (λ (j : ℕ). bit_at s j ≡ bit_at t j) (zero-add i) (same_bits s t 0 (8 * length s) f i l))

-- ---- a given list of bytes, by a test that is computed

both : (a b : Bool) → T (a && b) → T a × T b
both true true t = (tt, tt)
both true false t = absurd t
both false b t = absurd t

pub bytes_tested : (s : List ℕ) → T (are_bytes s) → Bytes s
bytes_tested [] t i = lit< tt
bytes_tested (x ∷ s) t zero = ltb→lt x 256 (both (ltb x 256) (are_bytes s) t).0
bytes_tested (x ∷ s) t (suc i) = bytes_tested s (both (ltb x 256) (are_bytes s) t).1 i
