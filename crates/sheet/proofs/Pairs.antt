-- The passenger fields 1 to m(m+1)/2 and the pairs of stations correspond one to one, in the order of document 01.
-- Assumes nothing.
use Rattle.std.proofs.Common.{◌≡◌, refl, sym, ap, ◌∙◌, ◌⊎◌, inl, inr, ⊎_elim, ℕ, zero, suc, ◌+◌, ◌-◌, ◌*◌, ◌/◌, ◌≤◌}
use Rattle.std.proofs.Common.{◌<◌, not-suc-le-zero, mul-suc, suc-mul, mul-add, mul-one, arith}
use Rattle.std.proofs.lemmas.Bool.{cases_lt}
use Rattle.sheet.specs.Format.{pairs_of}
use Rattle.sheet.specs.Pairs.{IsPair, fields_up_to, field_of_pair}
use Rattle.sheet.proofs.Lengths.{pairs_twice}

-- twice the fields of stations 1 to k, with the square of k
fields_twice : (m k : ℕ) → k ≤ m → 2 * fields_up_to m k + k * k ≡ 2 * (m * k) + k
unfolding fields_up_to
fields_twice m zero l = omega arith
fields_twice m (suc k) l = omega (arith, fields_twice m k (omega arith), mul-suc m k, mul-suc (suc k) k, suc-mul k k)

-- the fields of stations 1 to k without counting them one station after the other
pub fields_closed : (m k : ℕ) → k ≤ m → k * (2 * m + 1 - k) ≡ 2 * fields_up_to m k
fields_closed m k l =
    let whole : 2 * m + 1 - k + k ≡ 2 * m + 1 = omega arith in
    let product : k * (2 * m + 1) ≡ 2 * (m * k) + k = simp (mul-add, mul-one) (omega arith) in
    omega (arith, fields_twice m k l, mul-add k (2 * m + 1 - k) k, ap (λ (n : ℕ). k * n) whole, product)

pub field_closed : (m k i j : ℕ) → k ≡ i - 1 → k ≤ m → k * (2 * m + 1 - k) / 2 + (j - i) ≡ field_of_pair m i j
unfolding field_of_pair
field_closed m k i j e l =
    let half : k * (2 * m + 1 - k) / 2 ≡ fields_up_to m k = omega (arith, fields_closed m k l) in
    ap (λ (n : ℕ). n + (j - i)) (half ∙ ap (fields_up_to m) e)

-- the fields of stations 1 to m are all fields
pub fields_all : (m : ℕ) → fields_up_to m m ≡ pairs_of m
fields_all m = omega (arith, fields_twice m m (omega arith), pairs_twice m)

fields_next : (m i : ℕ) → 1 ≤ i → fields_up_to m i ≡ fields_up_to m (i - 1) + (m - (i - 1))
unfolding fields_up_to
fields_next m zero l = absurd (not-suc-le-zero l)
fields_next m (suc k) l = let e : suc k - 1 ≡ k = omega arith in rw e refl

-- a later station has no fewer fields before it
fields_le : (m k n : ℕ) → fields_up_to m k ≤ fields_up_to m (n + k)
unfolding fields_up_to
fields_le m k zero = let e : 0 + k ≡ k = omega arith in rw e (omega arith)
fields_le m k (suc n) = let e : suc n + k ≡ suc (n + k) = omega arith in rw e (omega (arith, fields_le m k n))

pub fields_mono : (m k n : ℕ) → k ≤ n → fields_up_to m k ≤ fields_up_to m n
fields_mono m k n l = let e : n - k + k ≡ n = omega arith in rw e at (fields_le m k (n - k))

-- the field of a pair lies after those of earlier stations and within those of its own
module _ (m i j : ℕ) (p : IsPair m i j) where
  pub pair_after : fields_up_to m (i - 1) < field_of_pair m i j
  unfolding field_of_pair
  pair_after = omega (arith, p.apart)

  pub pair_within : field_of_pair m i j ≤ fields_up_to m i
  unfolding field_of_pair
  pair_within = omega (arith, fields_next m i p.least, p.most, p.least)

  -- every pair has one of the fields 1 to m(m+1)/2
  pub pair_has_field : (1 ≤ field_of_pair m i j) × (field_of_pair m i j ≤ pairs_of m)
  pair_has_field =
      let later = fields_mono m i m (omega (arith, p.apart, p.most)) in
      (omega (arith, pair_after), omega (arith, pair_within, later, fields_all m))

-- by boarding station, within it by leaving station
pub pairs_in_order : (m i j i' j' : ℕ) → IsPair m i j → IsPair m i' j' → (i < i') ⊎ ((i ≡ i') × (j < j'))
    → field_of_pair m i j < field_of_pair m i' j'
unfolding field_of_pair
pairs_in_order m i j i' j' p q o =
    ⊎_elim
    (λ (l : i < i'). omega (arith, pair_within m i j p, fields_mono m i (i' - 1) (omega arith), pair_after m i' j' q))
    (λ (e : (i ≡ i') × (j < j')).
    omega (arith, ap (λ (k : ℕ). fields_up_to m (k - 1)) e.0, e.0, e.1, p.apart, q.apart))
    o

-- no two pairs have the same field
pub pairs_apart : (m i j i' j' : ℕ) → IsPair m i j → IsPair m i' j' → field_of_pair m i j ≡ field_of_pair m i' j'
    → (i ≡ i') × (j ≡ j')
pairs_apart m i j i' j' p q e =
    let ordered = pairs_in_order m i j i' j' p q in
    let reversed = pairs_in_order m i' j' i j q p in
    ⊎_elim
    (λ (l : i < i'). omega (arith, ordered (inl l)))
    (λ (l : i' ≤ i).
    ⊎_elim
    (λ (k : i' < i). omega (arith, reversed (inl k)))
    (λ (k : i ≤ i').
    let s : i ≡ i' = omega arith in
    ⊎_elim
    (λ (a : j < j'). omega (arith, ordered (inr (s, a))))
    (λ (a : j' ≤ j).
    ⊎_elim
    (λ (b : j' < j). omega (arith, reversed (inr (sym s, b))))
    (λ (b : j ≤ j'). (s, omega arith))
    (cases_lt j' j))
    (cases_lt j j'))
    (cases_lt i' i))
    (cases_lt i i')

-- the pair of a field
pub record PairOf (m f : ℕ) : Type 0 where
  pub boards : ℕ
  pub leaves : ℕ
  pub pair : IsPair m boards leaves
  pub field : field_of_pair m boards leaves ≡ f

fields_pair : (m k f : ℕ) → k ≤ m → 1 ≤ f → f ≤ fields_up_to m k → PairOf m f
unfolding fields_up_to field_of_pair
fields_pair m zero f l a b = let no_way : ⊥ = omega arith in absurd no_way
fields_pair m (suc k) f l a b =
    ⊎_elim
    (λ (c : fields_up_to m k < f).
    let e : suc k - 1 ≡ k = omega arith in
    record {
      boards = suc k;
      leaves = suc k + (f - fields_up_to m k);
      pair = record { least = omega arith; apart = omega arith; most = omega arith };
      field = rw e (omega arith);
    })
    (λ (c : f ≤ fields_up_to m k). fields_pair m k f (omega arith) a c)
    (cases_lt (fields_up_to m k) f)

-- every field 1 to m(m+1)/2 is that of a pair
pub field_has_pair : (m f : ℕ) → 1 ≤ f → f ≤ pairs_of m → PairOf m f
field_has_pair m f a b = fields_pair m m f (omega arith) a (omega (arith, fields_all m))
