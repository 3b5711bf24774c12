-- Laws of a list by train or station, counted from 1, that a loop fills in either direction.
--   Held xs f a b   entries a to b - 1 of xs are those of f
-- Assumes nothing.
use Rattle.std.proofs.Common.{◌≡◌, ap, ◌∙◌, List, inl, inr, ℕ, ◌-◌, ◌≤◌, ◌<◌, arith, length, get_or, set}
use Rattle.std.proofs.Common.{get_or-set_same, get_or-set_other}
use Rattle.std.proofs.lemmas.Bool.{cases_eq}
use Rattle.lists.specs.Run.{nth}

abbrev pub Held : List ℕ → (ℕ → ℕ) → ℕ → ℕ → Type 0
Held xs f a b = (l : ℕ) → a ≤ l → l < b → nth xs l ≡ f l

-- place k of a list that begins with entry 1
pub nth_index : (xs : List ℕ) (k i : ℕ) → k ≡ i - 1 → get_or xs k 0 ≡ nth xs i
nth_index xs k i e = ap (λ (j : ℕ). get_or xs j 0) e

module _ (xs : List ℕ) (k i v : ℕ) (at : k ≡ i - 1) (least : 1 ≤ i) where
  pub nth_set : k < length xs → nth (set xs k v) i ≡ v
  nth_set b = rw at (get_or-set_same xs (i - 1) v 0 (omega arith))

  pub nth_set_other : (l : ℕ) → 1 ≤ l → ¬ (l ≡ i) → nth (set xs k v) l ≡ nth xs l
  nth_set_other l a n = get_or-set_other xs k (l - 1) v 0 (λ e. n (omega arith))

  -- entry i is stored, and the others were there
  pub held_set : (f : ℕ → ℕ) (a b : ℕ) → 1 ≤ a → k < length xs → v ≡ f i
      → ((l : ℕ) → a ≤ l → l < b → ¬ (l ≡ i) → nth xs l ≡ f l) → Held (set xs k v) f a b
  held_set f a b pos room e others l u w = elim (cases_eq l i) [
    | inl same ↦ rw same (nth_set room ∙ e)
    | inr not ↦ nth_set_other l (omega arith) not ∙ others l u w not
  ]
