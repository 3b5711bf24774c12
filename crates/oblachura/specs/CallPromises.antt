-- What a program in C may rely on, whatever keeps the four contracts: the three demands; that nothing is left open;
-- that 0 is returned exactly where the operation accepts; what is stored; and that what a display must not paint is not
-- there, or is what stood there before. Document 01, "Numbers of refusal" and "What the contracts have to say".
--   One Leaves                   no two differing results: Leaves after stored r says what a call leaves and returns
--   Returns n list checks brought stored r     what is returned and stored, by the length of the list and by the checks
--   read_brings, write_brings, plan_brings, report_brings     what each call stores behind number and place
--   Refuses before after r       what a plan or a report leaves that returned another number than 0
--   CallPromises                 all of it, of each call
-- Assumes nothing.
use Rattle.std.specs.Prelude.{ℕ, ◌≡◌, List, ◌∷◌, [], length}
use Rattle.terms.specs.Verdict.{Verdict, Fine, if_fine, number_in, place_in}
use Rattle.line.specs.Policy.{total}
use Rattle.sheet.specs.Format.{trains_of, period_of, bytes_of}
use Rattle.sheet.specs.Numbers.{Lists, numbers_of}
use Rattle.writer.specs.Write.{Given, write_verdict}
use Rattle.reader.specs.Read.{read_verdict}
use Rattle.cells.specs.Place.{table_of}
use Rattle.cells.specs.Shown.{policy_in}
use Rattle.prepare.specs.LineOf.{line_of}
use Rattle.planner.specs.Buffers.{Buffers, Blanked}
use Rattle.planner.specs.Plan.{plan_verdict}
use Rattle.planner.specs.Report.{report_verdict}
use Rattle.oblachura.specs.Calls.{ReadCall, WriteCall, PlanCall, Lent, ReportCall}
use Rattle.oblachura.specs.Demands.{Demands}

abbrev pub One : {X : Type 0} → (X → List ℕ → ℕ → Type 0) → Type 0
One {X} Leaves = (after after' : X) (stored stored' : List ℕ) (r r' : ℕ) → Leaves after stored r
    → Leaves after' stored' r' → (after ≡ after') × (stored ≡ stored') × (r ≡ r')

-- brought: what is to stand behind number and place
pub record Returns (n : ℕ) (list : List ℕ) (checks : Verdict) (brought stored : List ℕ) (r : ℕ) : Type 0 where
  -- the number of the first check that fails, 0 where all pass
  pub listed : length list ≡ n → r ≡ number_in checks
  -- that number is stored too, then its place and what is brought
  pub stores : length list ≡ n → stored ≡ number_in checks ∷ place_in checks ∷ brought
  -- a list of another length is 10, and is not written
  pub wrong_list : ¬ (length list ≡ n) → (r ≡ 10) × (stored ≡ list)
  -- and 0 in no other case
  pub zero : r ≡ 0 → (length list ≡ n) × (checks ≡ Fine)

-- what an accepted call brings; refused ones carry 0
abbrev pub read_brings : List ℕ → Lists → List ℕ
read_brings s before =
    if_fine (read_verdict s before) (trains_of s) 0 ∷ if_fine (read_verdict s before) (period_of s) 0 ∷ []

abbrev pub write_brings : Given → List ℕ → List ℕ
write_brings G before = if_fine (write_verdict (length before) G) (bytes_of G.trains) 0 ∷ []

-- the total of the decisions that it left
abbrev pub plan_brings : List ℕ → Buffers → Buffers → List ℕ
plan_brings s before after =
    if_fine (plan_verdict s before) (total (line_of (numbers_of s)) (policy_in after.decisions)) 0 ∷ []

-- cell (1, 1) as it left it
abbrev pub report_brings : ℕ → ℕ → Lent → Lent → List ℕ
report_brings i v before after =
    if_fine (report_verdict before.sheet i v before.buffers)
    (table_of (trains_of after.sheet) after.buffers.cells 1 1) 0
    ∷ []

pub record Refuses (before after : Buffers) (r : ℕ) : Type 0 where
  -- on 10 the buffers still hold what they held
  pub ten : r ≡ 10 → after ≡ before
  -- any other refusal blanks the decisions and the delays, and changes no cell
  pub blanks : ¬ (r ≡ 0) → ¬ (r ≡ 10) → Blanked before after

pub record CallPromises : Type 0 where
  -- Of plan and report the three demands; the first says that they leave nothing open.
  pub demands : Demands
  pub one_read : (s : List ℕ) (before : Lists) (list : List ℕ) → One (ReadCall s before list)
  pub one_write : (G : Given) (before list : List ℕ) → One (WriteCall G before list)
  pub read_returns : (s : List ℕ) (before : Lists) (list : List ℕ) (after : Lists) (stored : List ℕ) (r : ℕ)
      → ReadCall s before list after stored r → Returns 4 list (read_verdict s before) (read_brings s before) stored r
  pub write_returns : (G : Given) (before list after stored : List ℕ) (r : ℕ)
      → WriteCall G before list after stored r
      → Returns 3 list (write_verdict (length before) G) (write_brings G before) stored r
  pub plan_returns : (s : List ℕ) (before : Buffers) (list : List ℕ) (after : Buffers) (stored : List ℕ) (r : ℕ)
      → PlanCall s before list after stored r
      → Returns 3 list (plan_verdict s before) (plan_brings s before after) stored r
  pub report_returns : (i v : ℕ) (before : Lent) (list : List ℕ) (after : Lent) (stored : List ℕ) (r : ℕ)
      → ReportCall i v before list after stored r
      → Returns 3 list (report_verdict before.sheet i v before.buffers) (report_brings i v before after) stored r
  pub plan_refuses : (s : List ℕ) (before : Buffers) (list : List ℕ) (after : Buffers) (stored : List ℕ) (r : ℕ)
      → PlanCall s before list after stored r → Refuses before after r
  pub report_refuses : (i v : ℕ) (before : Lent) (list : List ℕ) (after : Lent) (stored : List ℕ) (r : ℕ)
      → ReportCall i v before list after stored r
      → Refuses before.buffers after.buffers r × (¬ (r ≡ 0) → after.sheet ≡ before.sheet)
