-- Laws of a field that is put: fields apart from it stay, one bit, one bit more in front; and for a number that fits
-- there is a result, and only one.
-- Assumes nothing.
use Rattle.std.proofs.Common.{◌≡◌, refl, sym, ap₂, subst, ◌∙◌, List, inl, inr, ℕ, zero, suc, ◌+◌, ◌-◌, ◌*◌, ◌/◌}
use Rattle.std.proofs.Common.{◌%◌, ◌^◌, ◌≤◌, ◌<◌, mod-lt, div-add-mod', arith, pow_pos, shr_lt, length, get_or, set}
use Rattle.std.proofs.Common.{length-set, get_or-set_same, get_or-set_other}
use Rattle.std.proofs.lemmas.Bool.{cases_lt, cases_eq}
use Rattle.bits.specs.Field.{bit_at, field_of, Apart, Put, BitPut, Bytes}
use Rattle.bits.proofs.Fields.{field_none, field_bit, field_split, field_same, same_bits}
use Rattle.bits.proofs.Bytes.{byte_put, bytes_ext}

-- every field that lies apart from the one put is as it was
pub put_apart : {s t : List ℕ} {at w v : ℕ} → Put s at w v t → (a u : ℕ) → Apart a u at w
    → field_of t a u ≡ field_of s a u
put_apart {s} {t} {at} {w} h a u o =
    field_same t s a u
    (λ i l. h.others (a + i) (elim o [ inl p ↦ inl (omega arith) | inr p ↦ inr (omega arith) ]))

-- nothing is put
pub put_none : (s : List ℕ) (at : ℕ) → Put s at 0 0 s
put_none s at = record { long = refl; holds = field_none s at; others = λ i o. refl }

-- one bit of a byte is one bit of the bytes
pub put_one : (s : List ℕ) (i b y : ℕ) → i < 8 * length s → BitPut (get_or s (i / 8) 0) (7 - i % 8) b y
    → Put s i 1 b (set s (i / 8) y)
unfolding bit_at
put_one s i b y l h =
    record {
      long = length-set s (i / 8) y;
      holds = field_bit (set s (i / 8) y) i ∙ rw (get_or-set_same s (i / 8) y 0 (omega arith)) h.holds;
      others = λ j o.
          let ne : j ≡ i → ⊥ = λ q. elim o [ inl p ↦ omega arith | inr p ↦ omega arith ] in
          elim (cases_eq (j / 8) (i / 8)) [
            | inl e ↦ rw (e, get_or-set_same s (i / 8) y 0 (omega arith)) (h.others (7 - j % 8) (λ q. ne (omega arith)))
            | inr n ↦ rw (get_or-set_other s (i / 8) (j / 8) y 0 n) refl
          ];
    }

-- one bit more in front of a field that was put
pub put_more : {s t u : List ℕ} (at : ℕ) {w x b : ℕ} → Put s (at + 1) w x t → Put t at 1 b u
    → Put s at (1 + w) (b * 2 ^ w + x) u
put_more {s} {t} {u} at {w} g h =
    record {
      long = h.long ∙ g.long;
      holds = field_split u at 1 w
          ∙ ap₂ (λ (m n : ℕ). m * 2 ^ w + n) h.holds (put_apart h (at + 1) w (inr (omega arith)) ∙ g.holds);
      others = λ i o.
          h.others i (elim o [ inl p ↦ inl p | inr p ↦ inr (omega arith) ])
          ∙ g.others i (elim o [ inl p ↦ inl (omega arith) | inr p ↦ inr (omega arith) ]);
    }

-- what was put determines the bytes
pub put_unique : {s t u : List ℕ} {at w v : ℕ} → Put s at w v t → Put s at w v u → Bytes t → Bytes u → t ≡ u
put_unique {s} {t} {u} {at} {w} g h bt bu =
    bytes_ext t u bt bu (g.long ∙ sym h.long)
    (λ i l.
    let away : Apart i 1 at w → bit_at t i ≡ bit_at u i = λ o. g.others i o ∙ sym (h.others i o) in
    elim (cases_lt i at) [
      | inl p ↦ away (inl (omega arith))
      | inr p ↦ elim (cases_lt i (at + w)) [
        | inl q ↦
            let e : at + (i - at) ≡ i = omega arith in
            subst (λ (j : ℕ). bit_at t j ≡ bit_at u j) e
            (same_bits t u at w (g.holds ∙ sym h.holds) (i - at) (omega arith))
        | inr q ↦ away (inr q)
      ]
    ])

-- ---- a number that fits its field can be put

bytes_set : (s : List ℕ) (q y : ℕ) → Bytes s → q < length s → y < 256 → Bytes (set s q y)
bytes_set s q y bytes room small i = elim (cases_eq i q) [
  | inl e ↦ rw (e, get_or-set_same s q y 0 room) small
  | inr n ↦ rw (get_or-set_other s q i y 0 n) (bytes i)
]

pub record Puttable (s : List ℕ) (at w v : ℕ) : Type 0 where
  pub result : List ℕ
  pub bytes : Bytes result
  pub put : Put s at w v result

-- one bit more in front
puttable_more : (s : List ℕ) (at k b x : ℕ) → b < 2 → at < 8 * length s → Puttable s (at + 1) k x
    → Puttable s at (1 + k) (b * 2 ^ k + x)
puttable_more s at k b x bit room low =
    let t = low.result in
    let in_sheet : at < 8 * length t = omega (arith, low.put.long) in
    let byte = byte_put (get_or t (at / 8) 0) (7 - at % 8) b (low.bytes (at / 8)) (omega arith) bit in
    record {
      result = set t (at / 8) _;
      bytes = bytes_set t (at / 8) _ low.bytes (omega arith) byte.small;
      put = put_more at low.put (put_one t at b _ in_sheet byte.put);
    }

pub puttable : (s : List ℕ) (at w v : ℕ) → Bytes s → at + w ≤ 8 * length s → v < 2 ^ w → Puttable s at w v
puttable s at zero v bytes room fits =
    let none : 0 ≡ v = omega arith in
    record { result = s; bytes = bytes; put = subst (λ (x : ℕ). Put s at 0 x s) none (put_none s at) }
puttable s at (suc k) v bytes room fits =
    let one : suc k ≡ 1 + k = omega arith in
    let bit = shr_lt 1 k (subst (λ (w : ℕ). v < 2 ^ w) one fits) in
    let low = puttable s (at + 1) k (v % 2 ^ k) bytes (omega arith) (mod-lt v (pow_pos k)) in
    rw one (subst (Puttable s at (1 + k)) (div-add-mod' v (2 ^ k)) (puttable_more s at k _ _ bit (omega arith) low))
