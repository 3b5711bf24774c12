-- A part of a list put back: the length, and what stands before, in and after the part.
--   splice xs a ys   xs with ys in the place of as many elements from place a on
-- Assumes nothing.
use Rattle.std.proofs.Common.{◌≡◌, List, ◌++◌, ℕ, ◌+◌, ◌≤◌, ◌<◌, rules, length, get_or, take, drop}
use Rattle.std.proofs.lemmas.List.{places}

abbrev pub splice : {A : Type 0} → List A → ℕ → List A → List A
splice xs a ys = take a xs ++ (ys ++ drop (length ys) (drop a xs))

module _ {A : Type 0} (xs : List A) (a : ℕ) (ys : List A) (fits : a + length ys ≤ length xs) where
  pub length_splice : length (splice xs a ys) ≡ length xs
  length_splice = search (rules, places)

  pub splice_before : (i : ℕ) (d : A) → i < a → get_or (splice xs a ys) i d ≡ get_or xs i d
  splice_before i d l = search (rules, places)

  pub splice_in : (i : ℕ) (d : A) → i < length ys → get_or (splice xs a ys) (a + i) d ≡ get_or ys i d
  splice_in i d l = search (rules, places)

  pub splice_after : (i : ℕ) (d : A) → a + length ys ≤ i → get_or (splice xs a ys) i d ≡ get_or xs i d
  splice_after i d l = search (rules, places)
