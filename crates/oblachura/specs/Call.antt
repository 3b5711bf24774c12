-- A call from C around an operation. Document 01, "Four operations": such a call returns the refusal number and stores
-- the answer's numbers in a lent list; a list of another length is 10 and nothing is written.
--   Told number numbers Done stored r        the operation ran and answered: its number is returned, its numbers stored
--   WrongList before list after stored r     the list has another length
--   Call n number numbers Leaves before list after stored r
--       one or the other, where the list is to have n numbers; list and stored are that list before and after the
--       call, before and after everything else that is lent to be written, and r is what the call returns
-- Assumes nothing.
use Rattle.std.specs.Prelude.{ℕ, ◌≡◌, List, length}
use Rattle.terms.specs.declared.ListFault.TheVariants.{BufferLength}
use Rattle.terms.specs.declared.Refusal.TheVariants.{OfList}
use Rattle.terms.specs.Refusal.{number_of}

-- Done a: what the operation promises where it answers a
pub record Told {A : Type 0} (number : A → ℕ) (numbers : A → List ℕ) (Done : A → Type 0) (stored : List ℕ) (r : ℕ)
    : Type 0 where
  pub answer : A
  pub done : Done answer
  pub returns : r ≡ number answer
  pub stores : stored ≡ numbers answer

pub record WrongList {X : Type 0} (before : X) (list : List ℕ) (after : X) (stored : List ℕ) (r : ℕ) : Type 0 where
  pub returns : r ≡ number_of (OfList BufferLength)
  pub stores : stored ≡ list
  pub kept : after ≡ before

-- Leaves after a: what the operation promises of what it leaves, where it answers a
pub record Call {X A : Type 0} (n : ℕ) (number : A → ℕ) (numbers : A → List ℕ) (Leaves : X → A → Type 0)
    (before : X) (list : List ℕ) (after : X) (stored : List ℕ) (r : ℕ) : Type 0 where
  pub told : length list ≡ n → Told number numbers (Leaves after) stored r
  pub wrong_list : ¬ (length list ≡ n) → WrongList before list after stored r
