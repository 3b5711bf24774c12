-- What a test of two numbers chooses.
-- Assumes nothing.
use Rattle.std.proofs.Common.{◌≡◌, refl, ℕ, ◌≤◌, ◌<◌, lt-ltb, le-ltb, eq-eqb, ne_eqb}
use Rattle.lists.specs.Choice.{if_below, if_same}

module _ {A : Type 0} {a b : ℕ} (x y : A) where
  pub below_yes : a < b → if_below a b x y ≡ x
  unfolding if_below
  below_yes h = rw (lt-ltb a b h) refl

  pub below_no : b ≤ a → if_below a b x y ≡ y
  unfolding if_below
  below_no h = rw (le-ltb a b h) refl

  pub same_yes : a ≡ b → if_same a b x y ≡ x
  unfolding if_same
  same_yes h = rw (eq-eqb a b h) refl

  pub same_no : (a ≡ b → ⊥) → if_same a b x y ≡ y
  unfolding if_same
  same_no h = rw (ne_eqb a b h) refl
