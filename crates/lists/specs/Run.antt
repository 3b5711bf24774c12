-- Runs of places, and lists counted from 1.
--   run_of step done f i n   step (f i) (step (f (i + 1)) (.. done)): the work still to do at the n places from i
--   listed f i n             the list of f i, f (i + 1), .., n of them
--   padded size n f          the list of f 1, f 2, .., f n and then 0, size places in all
--   nth l i                  place i of a list, counted from 1
-- Assumes nothing.
use Rattle.std.specs.Prelude.{ℕ, zero, suc, ◌+◌, ◌-◌, List, [], ◌∷◌, get_or}
use Rattle.lists.specs.Choice.{if_below}

unfoldable pub run_of : {A B : Type 0} → (A → B → B) → B → (ℕ → A) → ℕ → ℕ → B
run_of step done f i zero = done
run_of step done f i (suc n) = step (f i) (run_of step done f (i + 1) n)

unfoldable pub listed : {A : Type 0} → (ℕ → A) → ℕ → ℕ → List A
listed f i n = run_of ◌∷◌ [] f i n

unfoldable pub padded : ℕ → ℕ → (ℕ → ℕ) → List ℕ
padded size n f = listed (λ (i : ℕ). if_below n i 0 (f i)) 1 size

abbrev pub nth : List ℕ → ℕ → ℕ
nth l i = get_or l (i - 1) 0
