-- The sum of a list, worked from the last place down: at each place, what stands from there on is added once more,
-- so that no place is multiplied. `Worked` is the invariant, with laws for the start, a turn and the end.
-- Assumes nothing.
use Rattle.std.proofs.Common.{◌≡◌, refl, ap, sym, ◌∙◌, List, [], ◌∷◌, ◌++◌, map, ℕ, ◌+◌, arith, length}
use Rattle.std.proofs.Common.{append_assoc, append-nil}
use Rattle.std.proofs.Math.Nat.{add-mul, one-mul}
use Rattle.records.specs.Weighed.{cut, weighed, sum_of}

-- what stands at all places, without the weights
unfoldable pub summed : List ℕ → ℕ
summed [] = 0
summed (x ∷ xs) = x + summed xs

-- counted from one place further on, each place weighs once more
weighed_suc : (k : ℕ) (xs : List ℕ) → weighed (k + 1) xs ≡ weighed k xs + summed xs
unfolding weighed summed
weighed_suc k [] = refl
weighed_suc k (x ∷ xs) = omega (arith, weighed_suc (k + 1) xs, add-mul k 1 x, one-mul x)

weighed_cons : (x : ℕ) (xs : List ℕ) → weighed 1 (x ∷ xs) ≡ weighed 1 xs + summed (x ∷ xs)
unfolding weighed summed
weighed_cons x xs = omega (arith, weighed_suc 1 xs)

cut_add : (a b : ℕ) {x y : ℕ} → x ≡ cut a → y ≡ cut b → cut (x + y) ≡ cut (a + b)
cut_add a b p q = omega arith

-- total and tail are the two sums of the places behind those that are left
pub record Worked {A : Type 0} (value : A → ℕ) (xs left : List A) (total tail : ℕ) : Type 0 where
  pub passed : List A
  pub parts : xs ≡ left ++ passed
  pub weight : total ≡ sum_of (map value passed)
  pub rest : tail ≡ cut (summed (map value passed))

module _ {A : Type 0} {value : A → ℕ} {xs : List A} where
  pub worked_none : {left : List A} → left ≡ xs → Worked value xs left 0 0
  unfolding weighed summed
  worked_none e = record { passed = []; parts = sym e ∙ sym (append-nil _); weight = refl; rest = refl }

  -- one place more in front
  pub worked_more : {left before : List A} (x : A) {v total tail t u : ℕ} → left ≡ before ++ (x ∷ []) → v ≡ value x
      → Worked value xs left total tail → (u ≡ cut (tail + v)) × (t ≡ cut (total + u)) → Worked value xs before t u
  unfolding summed
  worked_more {before = before} x {u = u} e held w new =
      let behind : List ℕ = map value w.passed in
      let together : u ≡ cut (summed (value x ∷ behind)) = omega (arith, new.0, w.rest, held) in
      record {
        passed = x ∷ w.passed;
        parts = w.parts ∙ ap (λ (ys : List A). ys ++ w.passed) e ∙ append_assoc before (x ∷ []) w.passed;
        weight = rw (weighed_cons (value x) behind) (new.1 ∙ cut_add (weighed 1 behind) _ w.weight together);
        rest = together;
      }

  pub worked_all : {left : List A} {total tail : ℕ} → length left ≡ 0 → Worked value xs left total tail
      → total ≡ sum_of (map value xs)
  worked_all {left = []} e w = w.weight ∙ ap (λ (ys : List A). sum_of (map value ys)) (sym w.parts)
  worked_all {left = y ∷ ys} e w = absurd (omega arith)
