-- Laws of a sheet's lengths: its fields fill its bits, its bytes hold them with at most seven more, both are small,
-- each field lies within the sheet, and two columns have no bit in common.
-- Assumes nothing.
use Rattle.std.proofs.Common.{◌≡◌, refl, List, inl, inr, ⊎_elim, ℕ, zero, suc, ◌+◌, ◌-◌, ◌*◌, ◌%◌, ◌≤◌, ◌<◌, mul-le-mul}
use Rattle.std.proofs.Common.{mul-add, suc-mul, mul-suc, mul-one, arith, lit≤, length}
use Rattle.std.proofs.lemmas.Bool.{cases_lt}
use Rattle.bits.specs.Field.{Apart, Within}
use Rattle.sheet.specs.Format.{bits_of, bytes_of, pairs_of}

pub square : (m : ℕ) → m ≤ 64 → m * m ≤ 4096
square m h = mul-le-mul h h

even : (m : ℕ) → m * (m + 1) % 2 ≡ 0
even zero = refl
even (suc m) =
    let e : suc m * (suc m + 1) ≡ m * (m + 1) + 2 * (m + 1) = simp (mul-add, suc-mul, mul-suc, mul-one) (omega arith) in
    omega (arith, e, even m)

pub pairs_twice : (m : ℕ) → 2 * pairs_of m ≡ m * m + m
unfolding pairs_of
pairs_twice m = omega (arith, even m, mul-add m m 1)

pub pairs_le : (m : ℕ) → m ≤ 64 → pairs_of m ≤ 2080
pairs_le m h = omega (arith, pairs_twice m, square m h)

-- the head, the trains and the passengers fill the sheet's bits
pub layout : (m : ℕ) → 18 + 33 * m + 14 * pairs_of m ≡ bits_of m
unfolding bits_of
layout m = omega (arith, pairs_twice m)

pub bits_le : (m : ℕ) → m ≤ 64 → bits_of m ≤ 31250
unfolding bits_of
bits_le m h = omega (arith, square m h)

-- a whole byte is begun, never more
pub bytes_bits : (m : ℕ) → (bits_of m ≤ 8 * bytes_of m) × (8 * bytes_of m ≤ bits_of m + 7)
unfolding bytes_of
bytes_bits m = omega arith

pub bytes_le : (m : ℕ) → m ≤ 64 → bytes_of m ≤ 3907
bytes_le m h = let b = bytes_bits m in omega (arith, bits_le m h)

-- ---- the fields lie within the sheet, and those of two columns have no bit in common

-- w bits of a train, those of train 1 standing from bit a on
pub train_within : (s : List ℕ) (m a w k : ℕ) → 18 + 33 * m ≤ 8 * length s → m ≤ 64 → a + w ≤ 51 → w ≤ 16 → k < m
    → Within s (a + 33 * k) w
train_within s m a w k room most end narrow l = record { inside = omega arith; narrow = narrow; near = omega arith }

pub passengers_within : (s : List ℕ) (m k : ℕ) → bits_of m ≤ 8 * length s → m ≤ 64 → k < pairs_of m
    → Within s (18 + 33 * m + 14 * k) 14
passengers_within s m k room most l =
    record { inside = omega (arith, layout m); narrow = lit≤ tt; near = omega (arith, pairs_le m most) }

pub filling_within : (s : List ℕ) (m : ℕ) → length s ≡ bytes_of m → m ≤ 64
    → Within s (bits_of m) (8 * bytes_of m - bits_of m)
filling_within s m long most =
    let b = bytes_bits m in
    record { inside = omega arith; narrow = omega arith; near = omega (arith, bits_le m most) }

-- fields of trains i + 1 and j + 1 in two columns
pub trains_apart : (a v b w i j : ℕ) → a + v ≤ b → b + w ≤ a + 33 → Apart (a + 33 * i) v (b + 33 * j) w
trains_apart a v b w i j h k =
    ⊎_elim (λ (l : j < i). inr (omega arith)) (λ (l : i ≤ j). inl (omega arith)) (cases_lt j i)
