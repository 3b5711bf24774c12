-- Demand 1: every sheet of bytes and every report gets an answer. The statements are about what plan and report
-- promise, called in any way (Calling), so they hold of whatever keeps the promises. That no arithmetic spills and no
-- place outside is read is what the proofs of the functions show.
--   SameLengths before after  every list has the length that it had
--   Carries C r a             the answer a carries number and place of the refusal r, and 0 for the total
--   Answered C checks Passes m last x before after a     what demand 1 says of one call of plan or report
--   PlanAnswered, ReportAnswered     of one plan, and of one report
--   PlanPossible, ReportPossible     an outcome that the promise allows
--   Demand1 C                 the demand
-- Everywhere x is what is lent beside sheet and buffers.
-- Assumes nothing.
use Rattle.std.specs.Prelude.{ℕ, ◌≤◌, ◌<◌, ◌≡◌, List, ◌⊎◌, length, get_or, Err}
use Rattle.bits.specs.Field.{Bytes}
use Rattle.terms.specs.declared.Refusal.{Refusal}
use Rattle.terms.specs.declared.ReportFault.TheVariants.{NoSuchTrain, NewDelay, CellOverLimit}
use Rattle.terms.specs.declared.Refusal.TheVariants.{OfReport}
use Rattle.terms.specs.Verdict.{Verdict}
use Rattle.terms.specs.Refusal.{train, number_of, place_of}
use Rattle.line.specs.Ranges.{limit}
use Rattle.sheet.specs.Format.{trains_of}
use Rattle.sheet.specs.Accepted.{AcceptedSheet}
use Rattle.cells.specs.Place.{InUse}
use Rattle.cells.specs.Limits.{FirstOver}
use Rattle.planner.specs.ReportChecks.{Reportable}
use Rattle.planner.specs.Buffers.{Buffers, Blanked}
use Rattle.planner.specs.Plan.{plan_verdict}
use Rattle.planner.specs.Report.{report_verdict}
use Rattle.demands.specs.Calling.{Calling, Right}

pub record SameLengths (before after : Buffers) : Type 0 where
  pub cells : length after.cells ≡ length before.cells
  pub decisions : length after.decisions ≡ length before.decisions
  pub delays : length after.delays ≡ length before.delays

pub record Carries (C : Calling) (r : Refusal) (a : C.Result) : Type 0 where
  pub number : C.number a ≡ number_of r
  pub place : C.place a ≡ place_of r
  pub total : C.total a ≡ 0

-- Of a call with these checks; Passes says in plain facts what those after the lengths ask for. The line has m trains,
-- and rows 1 to last are worked.
pub record Answered (C : Calling) (checks : Verdict) (Passes : Type 0) (m last : ℕ) (x : C.Beside)
    (before after : Buffers) (a : C.Result) : Type 0 where
  -- Accepted, that is number 0, exactly when every check passes.
  pub accepts : Right C x before → Passes → C.number a ≡ 0
  pub accepted_only : C.number a ≡ 0 → Right C x before × Passes
  pub accepted_place : C.number a ≡ 0 → C.place a ≡ 0
  -- Bad input is refused by number, in a fixed order of checks: for the first check that fails.
  pub refuses : C.Fits x → (r : Refusal) → checks ≡ Err r → Carries C r a
  -- A refused plan or report, its buffers being of the right length, blanks the decisions and the delays, and changes
  -- no working cell.
  pub blanks : Right C x before → ¬ (C.number a ≡ 0) → Blanked before after
  -- With another length the number is 10 and nothing at all is written.
  pub untouched : ¬ (Right C x before) → (C.number a ≡ 10) × (after ≡ before)
  -- Of the working cells only those in use of rows 1 to last are written.
  pub others : C.number a ≡ 0 → (p : ℕ) → ¬ (InUse m last p) → get_or after.cells p 0 ≡ get_or before.cells p 0
  pub lengths : SameLengths before after
  -- No total can pass 1,916,928,000,000 passenger-minutes.
  pub most : C.Fits x → C.total a ≤ limit

-- The sheet is lent to plan to be read.
abbrev pub PlanAnswered : (C : Calling) → C.Beside → List ℕ → Buffers → Buffers → C.Result → Type 0
PlanAnswered C x s before after a =
    Answered C (plan_verdict s before) (AcceptedSheet s) (trains_of s) (trains_of s) x before after a

pub record ReportAnswered (C : Calling) (x : C.Beside) (s : List ℕ) (i v : ℕ) (before : Buffers) (t : List ℕ)
    (after : Buffers) (a : C.Result) : Type 0 where
  pub answered : Answered C (report_verdict s i v before)
      (AcceptedSheet s × Reportable (trains_of s) i v before.cells) (trains_of s) i x before after a
  -- Its own refusals, where buffers and sheet are right: 11; then 6, at the train; then 12, at the first row after the
  -- train with a cell in use over the limit.
  pub no_train : Right C x before → AcceptedSheet s → (i < 1) ⊎ (trains_of s < i) → Carries C (OfReport NoSuchTrain) a
  pub too_late : Right C x before → AcceptedSheet s → 1 ≤ i → i ≤ trains_of s → 1440 < v
      → Carries C (OfReport (NewDelay (train i))) a
  pub over : Right C x before → AcceptedSheet s → 1 ≤ i → i ≤ trains_of s → v ≤ 1440 → (k : ℕ)
      → FirstOver (trains_of s) i before.cells k → Carries C (OfReport (CellOverLimit (train k))) a
  -- A refused report does not change the sheet, and no report changes its length.
  pub sheet : ¬ (C.number a ≡ 0) → t ≡ s
  pub sheet_length : length t ≡ length s

pub record PlanPossible (C : Calling) (x : C.Beside) (s : List ℕ) (before : Buffers) : Type 0 where
  pub after : Buffers
  pub answer : C.Result
  pub plan : C.plan x s before after answer

pub record ReportPossible (C : Calling) (x : C.Beside) (s : List ℕ) (i v : ℕ) (before : Buffers) : Type 0 where
  pub sheet : List ℕ
  pub after : Buffers
  pub answer : C.Result
  pub report : C.report x s i v before sheet after answer

pub record Demand1 (C : Calling) : Type 0 where
  -- Every sheet of bytes and every report gets an answer, with any buffers: the promises can always be kept.
  pub every_sheet : (x : C.Beside) (s : List ℕ) (before : Buffers) → PlanPossible C x s before
  pub every_report : (x : C.Beside) (s : List ℕ) → Bytes s → (i v : ℕ) (before : Buffers)
      → ReportPossible C x s i v before
  -- And no two: whatever keeps a promise leaves the same answer, sheet, cells, decisions and delays.
  pub one_plan : (x : C.Beside) (s : List ℕ) (before after after' : Buffers) (a a' : C.Result)
      → C.plan x s before after a → C.plan x s before after' a' → (a ≡ a') × (after ≡ after')
  pub one_report : (x : C.Beside) (s : List ℕ) (i v : ℕ) (before : Buffers) (t t' : List ℕ) (after after' : Buffers)
      (a a' : C.Result) → C.report x s i v before t after a → C.report x s i v before t' after' a'
      → (a ≡ a') × (t ≡ t') × (after ≡ after')
  pub of_plan : (x : C.Beside) (s : List ℕ) (before after : Buffers) (a : C.Result) → C.plan x s before after a
      → PlanAnswered C x s before after a
  pub of_report : (x : C.Beside) (s : List ℕ) (i v : ℕ) (before : Buffers) (t : List ℕ) (after : Buffers)
      (a : C.Result) → C.report x s i v before t after a → ReportAnswered C x s i v before t after a
