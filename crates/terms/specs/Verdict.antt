-- Checks in their order: each refuses by name or lets the next one speak. Document 01, "Numbers of refusal, in the
-- order of checking".
--   Verdict, Fine             what a check says: nothing, which is fine, or for what it refuses
--   refuse r when a below b   the check that refuses for r where a is less than b
--   refuse r unless a is b    the check that refuses for r where a differs from b
--   verdict_of checks         what the first check of a list says that refuses; fine if none does
--   v and_then w              what v says if it refuses, else what w says
--   first_of f i n            the first refusal of f i, f (i + 1), .., n of them
--   if_fine v x y             x where the verdict v is fine, y where it refuses
--   number_in v, place_in v   the paper's number and place of a verdict; 0 and 0 where it is fine
-- Assumes nothing.
use Rattle.std.specs.Prelude.{ℕ, List, [], ◌∷◌, Result, Ok, Err}
use Rattle.lists.specs.Choice.{if_below, if_same}
use Rattle.lists.specs.Run.{run_of}
use Rattle.terms.specs.declared.Refusal.{Refusal}
use Rattle.terms.specs.Refusal.{number_of, place_of}

abbrev pub Verdict : Type 0
Verdict = Result (Unit {0}) Refusal

abbrev pub Fine : Verdict
Fine = Ok tt

infixr 20 ◌and_then◌
infix 30 refuse◌when◌below◌ refuse◌unless◌is◌
pub data Check : Type 0 where
  refuse◌when◌below◌ : Refusal → ℕ → ℕ → Check
  refuse◌unless◌is◌ : Refusal → ℕ → ℕ → Check

unfoldable pub verdict_of : List Check → Verdict
verdict_of [] = Fine
verdict_of ((refuse r when a below b) ∷ rest) = if_below a b (Err r) (verdict_of rest)
verdict_of ((refuse r unless a is b) ∷ rest) = if_same a b (verdict_of rest) (Err r)

unfoldable pub ◌and_then◌ : Verdict → Verdict → Verdict
Ok u and_then w = w
Err r and_then w = Err r

unfoldable pub first_of : (ℕ → Verdict) → ℕ → ℕ → Verdict
first_of f i n = run_of ◌and_then◌ Fine f i n

abbrev pub if_fine : {A : Type 0} → Verdict → A → A → A
if_fine (Ok u) x y = x
if_fine (Err r) x y = y

abbrev pub number_in : Verdict → ℕ
number_in (Ok u) = 0
number_in (Err r) = number_of r

abbrev pub place_in : Verdict → ℕ
place_in (Ok u) = 0
place_in (Err r) = place_of r
