-- What plan and report have in common: the answer by their checks, and what a refusal leaves. Document 01, "Four
-- operations" and "Numbers of refusal".
--   Outcome checks Stored before after a   what the checks say of the answer a and of what is left; Stored n is what
--                                          an accepted call leaves that answers the total n
-- Assumes nothing.
use Rattle.std.specs.Prelude.{ℕ, ◌≡◌, Err}
use Rattle.terms.specs.declared.Refusal.{Refusal}
use Rattle.terms.specs.Verdict.{Verdict, Fine}
use Rattle.terms.specs.Answer.{Answer, answer_carries, answer_of}
use Rattle.planner.specs.Buffers.{Buffers, RefusedFor}

pub record Outcome (checks : Verdict) (Stored : ℕ → Type 0) (before after : Buffers) (a : Answer) : Type 0 where
  -- a total where every check passes, else the refusal of the first that fails
  pub answer : a ≡ answer_of checks (answer_carries a)
  pub accepted : checks ≡ Fine → Stored (answer_carries a)
  pub refused : (r : Refusal) → checks ≡ Err r → RefusedFor r before after
