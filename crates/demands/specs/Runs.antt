-- Demand 3: after any run of reports, what a fresh plan would say. The statements are about what plan and report
-- promise, called in any way (Calling). Each call may be lent any decisions and delays, of any length, and a report any
-- train and delay.
--   InRun C s cells             sheet and working cells as they may stand after an accepted plan and a run of reports
--   Agrees C m after a after' a'     two accepted calls agree in total, decisions, delays and working cells in use
--   OfItself i r                the refusal r is for the report itself: its buffers, its train or its delay
--   ReportInRun C x s i v before t after a     what demand 3 says of one report of a run
--   Begun C x s lent            an accepted plan of the sheet s, with which a run begins
--   Demand3 C                   the demand
-- Everywhere x is what is lent beside sheet and buffers.
-- Assumes nothing.
use Rattle.std.specs.Prelude.{ℕ, ◌≤◌, ◌≡◌, List, ◌⊎◌, get_or, Err}
use Rattle.terms.specs.declared.Refusal.{Refusal}
use Rattle.terms.specs.declared.ListFault.TheVariants.{BufferLength}
use Rattle.terms.specs.declared.ReportFault.TheVariants.{NoSuchTrain, NewDelay}
use Rattle.terms.specs.declared.Refusal.TheVariants.{OfList, OfReport}
use Rattle.terms.specs.Refusal.{train}
use Rattle.sheet.specs.Format.{trains_of}
use Rattle.sheet.specs.Accepted.{AcceptedSheet, DelayReplaced}
use Rattle.cells.specs.Place.{place, InUse}
use Rattle.planner.specs.Buffers.{Buffers}
use Rattle.planner.specs.Report.{report_verdict}
use Rattle.demands.specs.Calling.{Calling, Right}

-- Nobody else writes the sheet or the working cells: each report finds them as the call before it left them.
pub data InRun (C : Calling) : List ℕ → List ℕ → Type 0 where
  -- Let a plan be accepted
  planned : (x : C.Beside) (s : List ℕ) (before after : Buffers) (a : C.Result) → C.plan x s before after a
      → C.number a ≡ 0 → InRun C s after.cells
  -- and any run of delay reports follow, some perhaps refused.
  reported : (x : C.Beside) (s : List ℕ) (i v : ℕ) (before : Buffers) (t : List ℕ) (after : Buffers) (a : C.Result)
      → InRun C s before.cells → C.report x s i v before t after a → InRun C t after.cells
  -- A refused one may have been lent the sheet of the run with other cells, of any length,
  refused_with_other_cells : (x : C.Beside) (s cells : List ℕ) (i v : ℕ) (before : Buffers) (t : List ℕ)
      (after : Buffers) (a : C.Result) → InRun C s cells → C.report x s i v before t after a → ¬ (C.number a ≡ 0)
      → InRun C t cells
  -- or the cells of the run with another sheet; and so may a refused plan.
  refused_with_other_sheet : (x : C.Beside) (s other : List ℕ) (i v : ℕ) (before : Buffers) (t : List ℕ)
      (after : Buffers) (a : C.Result) → InRun C s before.cells → C.report x other i v before t after a
      → ¬ (C.number a ≡ 0) → InRun C s after.cells
  refused_plan : (x : C.Beside) (s other : List ℕ) (before after : Buffers) (a : C.Result)
      → InRun C s before.cells → C.plan x other before after a → ¬ (C.number a ≡ 0) → InRun C s after.cells

pub record Agrees (C : Calling) (m : ℕ) (after : Buffers) (a : C.Result) (after' : Buffers) (a' : C.Result)
    : Type 0 where
  pub accepted : C.number a' ≡ 0
  pub total : C.total a ≡ C.total a'
  pub decisions : after.decisions ≡ after'.decisions
  pub delays : after.delays ≡ after'.delays
  pub cells : (k l : ℕ) → 1 ≤ k → k ≤ l → l ≤ m
      → get_or after.cells (place m k l) 0 ≡ get_or after'.cells (place m k l) 0

abbrev pub OfItself : ℕ → Refusal → Type 0
OfItself i r = (r ≡ OfList BufferLength) ⊎ (r ≡ OfReport NoSuchTrain) ⊎ (r ≡ OfReport (NewDelay (train i)))

pub record ReportInRun (C : Calling) (x : C.Beside) (s : List ℕ) (i v : ℕ) (before : Buffers) (t : List ℕ)
    (after : Buffers) (a : C.Result) : Type 0 where
  -- A report of a run is accepted exactly when its buffers, its train and its delay are right; neither the sheet nor
  -- the working cells are ever the reason of a refusal.
  pub accepts : Right C x before → 1 ≤ i → i ≤ trains_of s → v ≤ 1440 → C.number a ≡ 0
  pub accepted_only : C.number a ≡ 0 → Right C x before × (1 ≤ i) × (i ≤ trains_of s) × (v ≤ 1440)
  pub refusals : (r : Refusal) → report_verdict s i v before ≡ Err r → OfItself i r
  -- After each accepted report the decisions, delays, total and working cells in use are those of a fresh plan from the
  -- sheet as it now stands, whatever cells and buffers that plan is lent.
  pub fresh : C.number a ≡ 0 → (y : C.Beside) (b b' : Buffers) (a' : C.Result) → Right C y b
      → C.plan y t b b' a' → Agrees C (trains_of t) after a b' a'
  -- The report itself leaves what plan, lent the same buffers, would leave; so demand 2 holds of it.
  pub plan : C.number a ≡ 0 → C.plan x t before after a
  -- Only that train's delay field and the cells for boardings at or before that train may have changed.
  pub field : C.number a ≡ 0 → DelayReplaced s i v t
  pub rows : (p : ℕ) → ¬ (InUse (trains_of s) i p) → get_or after.cells p 0 ≡ get_or before.cells p 0
  -- A refused report changes neither sheet nor working cells,
  pub refused : ¬ (C.number a ≡ 0) → (t ≡ s) × (after.cells ≡ before.cells)
  -- and after every report plan accepts the sheet as it stands.
  pub stands : AcceptedSheet t

pub record Begun (C : Calling) (x : C.Beside) (s : List ℕ) (lent : Buffers) : Type 0 where
  pub after : Buffers
  pub answer : C.Result
  pub plan : C.plan x s lent after answer
  pub run : InRun C s after.cells

pub record Demand3 (C : Calling) : Type 0 where
  -- Every accepted sheet begins a run, so that the rest is not said of nothing.
  pub begins : (x : C.Beside) (s : List ℕ) (lent : Buffers) → AcceptedSheet s → Right C x lent → Begun C x s lent
  pub of_report_in_run : (x : C.Beside) (s : List ℕ) (i v : ℕ) (before : Buffers) (t : List ℕ) (after : Buffers)
      (a : C.Result) → InRun C s before.cells → C.report x s i v before t after a
      → ReportInRun C x s i v before t after a
