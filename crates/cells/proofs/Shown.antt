-- Decision bytes: 64 of them, read off a policy at trains 2 to m alone.
-- Assumes nothing.
use Rattle.std.proofs.Common.{◌≡◌, sym, ap, ◌∙◌, inl, inr, ℕ, ◌≤◌, length}
use Rattle.lists.specs.Choice.{if_below}
use Rattle.lists.proofs.Choice.{below_no}
use Rattle.std.proofs.lemmas.Bool.{cases_lt}
use Rattle.lists.proofs.Run.{padded_length, padded_same}
use Rattle.line.specs.Policy.{Decision, Policy}
use Rattle.cells.specs.Shown.{byte_of, shown}

pub shown_length : (m : ℕ) (p : Policy) → length (shown m p) ≡ 64
unfolding shown
shown_length m p = padded_length 64 m _

pub shown_same : (m : ℕ) (p q : Policy) → ((i : ℕ) → 2 ≤ i → i ≤ m → p i ≡ q i) → shown m p ≡ shown m q
unfolding shown
shown_same m p q same =
    padded_same 64 m _ _ (λ i a b. elim (cases_lt 1 i) [
      | inl u ↦ ap (λ (d : Decision). if_below 1 i (byte_of d) 0) (same i u b)
      | inr u ↦ below_no _ _ u ∙ sym (below_no _ _ u)
    ])
