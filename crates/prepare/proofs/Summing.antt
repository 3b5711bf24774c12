-- The sums of a line, column by column: in the column of train l each is that of the next station and one pair more.
--   ColumnTo n l sums v k   the columns before l stand there, and in that of l the sums of stations k + 1 to l, of
--                           which v was stored last; n are the passengers by pair
-- Assumes nothing.
use Rattle.std.proofs.Common.{◌≡◌, sym, ◌∙◌, List, inl, inr, ℕ, ◌+◌, ◌-◌, ◌*◌, ◌≤◌, ◌<◌, le_refl, arith, length, set}
use Rattle.std.proofs.Common.{length-set, get_or-set_same, get_or-set_other}
use Rattle.std.proofs.lemmas.Bool.{cases_eq}
use Rattle.line.specs.Sum.{sum◌from◌to◌}
use Rattle.line.proofs.Sums.{sum_over, over_none, over_first}
use Rattle.cells.specs.Sums.{sums_count, place_of_sum, leaving_in}
use Rattle.cells.proofs.Places.{place_of_sum_one}
use Rattle.prepare.specs.Prepared.{HoldsSums}

pub record ColumnTo (n : ℕ → ℕ → ℕ) (l : ℕ) (sums : List ℕ) (v k : ℕ) : Type 0 where
  pub most : k ≤ l
  pub long : length sums ≡ sums_count
  pub before : HoldsSums (l - 1) n sums
  pub last : v ≡ sum (λ i. n i (l + 1)) from (k + 1) to l
  pub small : v ≤ (l - k) * 10000
  pub summed : (i : ℕ) → k < i → i ≤ l → leaving_in sums i l ≡ sum (λ j. n j (l + 1)) from i to l

module _ (n : ℕ → ℕ → ℕ) (l : ℕ) (sums : List ℕ) where
  -- no station of train l is summed yet
  pub column_start : (k : ℕ) → k ≡ l → length sums ≡ sums_count → HoldsSums (l - 1) n sums → ColumnTo n l sums 0 k
  column_start k e long H =
      record {
        most = omega arith;
        long = long;
        before = H;
        last = sym (sum_over _ (k + 1) l ∙ over_none (k + 1) (l + 1) _ (omega arith));
        small = omega arith;
        summed = λ i a b. absurd (omega arith);
      }

  -- every station is
  pub column_end : (v k : ℕ) → ColumnTo n l sums v k → k ≡ 0 → HoldsSums l n sums
  column_end v k C e =
      record {
        leaving = λ i t a b c. elim (cases_eq t l) [
          | inl same ↦ rw same (C.summed i (omega arith) (omega arith))
          | inr not ↦ C.before.leaving i t a b (omega arith)
        ];
      }

-- the sum of station k and train l is stored
module _ (n : ℕ → ℕ → ℕ) (l : ℕ) (sums : List ℕ) (v k p u : ℕ) (C : ColumnTo n l sums v k) (first : 1 ≤ k)
    (few : l ≤ 64) (at : p ≡ place_of_sum k l) (room : p < 4096) (e : u ≡ n k (l + 1)) (most : u ≤ 10000) where
  -- the list then
  after : List ℕ
  after = set sums p (v + u)

  -- other stations and trains are as they were
  stored_other : (i t : ℕ) → 1 ≤ i → 1 ≤ t → t ≤ l → (i ≡ k → ¬ (t ≡ l)) → leaving_in after i t ≡ leaving_in sums i t
  unfolding leaving_in after
  stored_other i t a b c not =
      get_or-set_other sums p (place_of_sum i t) (v + u) 0
      (λ same.
      let one = place_of_sum_one i t k l b (omega arith) (omega arith) few (same ∙ at) in
      not (omega arith) one.1)

  -- what was stored last and one pair more
  next_sum : v + u ≡ sum (λ i. n i (l + 1)) from k to l
  next_sum =
      omega (
        arith,
        sum_over (λ i. n i (l + 1)) k l,
        sum_over (λ i. n i (l + 1)) (k + 1) l,
        over_first k (l + 1) (λ i. n i (l + 1)) (omega arith),
      )

  -- stands in its place
  stored_here : leaving_in after k l ≡ v + u
  unfolding leaving_in after
  stored_here = rw (sym at) (get_or-set_same sums p (v + u) 0 (omega (arith, C.long)))

  -- so that one station more is summed
  pub column_next : ColumnTo n l (set sums p (v + u)) (v + u) (k - 1)
  unfolding after
  column_next =
      let back : k - 1 + 1 ≡ k = omega arith in
      record {
        most = omega arith;
        long = length-set sums p (v + u) ∙ C.long;
        before = record {
          leaving = λ i t a b c.
              stored_other i t a (omega arith) (omega arith) (λ x y. omega arith) ∙ C.before.leaving i t a b c;
        };
        last = rw back next_sum;
        small = omega arith;
        summed = λ i a b. elim (cases_eq i k) [
          | inl same ↦ rw same (stored_here ∙ next_sum)
          | inr not ↦
              stored_other i l (omega arith) (omega arith) (le_refl l) (λ x y. not x) ∙ C.summed i (omega arith) b
        ];
      }
