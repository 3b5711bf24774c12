-- The useless versions of plan and report. Document 01, "What the contracts have to say": each of them breaks the
-- contract, on sheet B with buffers of the right lengths.
--   RefusesAllBreaks     one that refuses all sheets: sheet B is never refused
--   SameDecisionsBreak   one with the same decisions for all lines: those on sheet B differ from those on B with T 13,
--   AllKeepBreaks        and are not keep throughout
--   DoesNothingBreaks    one that does nothing: whatever cells, decisions and delays were, they do not all stay so,
--                        unless they were the plan's already;
--   DecisionsStayBreak   nor do decisions alone that are not the plan's,
--   StaysBlankBreaks     nor blank ones
--   RepeatsPlanBreaks    one that plans honestly and then merely repeats its plan at each report: after b4 the report
--                        of b7 leaves other decisions, other delays and another total than the plan
--   WritesEarlyBreaks    one that writes the sheet before it tests 12: with a later cell over the limit the report of
--                        b7 is refused with 12, at the first such row, and leaves sheet B as it was
-- Assumes nothing.
use Rattle.std.specs.Prelude.{ℕ, ◌≡◌, List, replicate, Err}
use Rattle.lists.specs.Run.{nth, padded}
use Rattle.terms.specs.declared.Refusal.{Refusal}
use Rattle.terms.specs.declared.ReportFault.TheVariants.{CellOverLimit}
use Rattle.terms.specs.declared.Refusal.TheVariants.{OfReport}
use Rattle.terms.specs.Refusal.{train}
use Rattle.terms.specs.Answer.{Answer}
use Rattle.line.specs.Policy.{Keep}
use Rattle.line.specs.Cases.{b4}
use Rattle.cells.specs.Shown.{shown}
use Rattle.cells.specs.Limits.{FirstOver}
use Rattle.planner.specs.Buffers.{Buffers, RightLengths}
use Rattle.planner.specs.Plan.{Plan}
use Rattle.planner.specs.Report.{Report}
use Rattle.demands.specs.Calling.{operations}
use Rattle.demands.specs.Answered.{Carries}
use Rattle.demands.specs.Sheets.{sheet_b, sheet_b13, decision_bytes, Held, ReportAfterB4}

abbrev pub RefusesAllBreaks : Type 0
RefusesAllBreaks =
    (before after : Buffers) (r : Refusal)
    → RightLengths before
    → ¬ (Plan sheet_b before after (Err r))

abbrev pub SameDecisionsBreak : Type 0
SameDecisionsBreak =
    (before after before' after' : Buffers) (a a' : Answer)
    → RightLengths before
    → RightLengths before'
    → Plan sheet_b before after a
    → Plan sheet_b13 before' after' a'
    → ¬ (after.decisions ≡ after'.decisions)

abbrev pub AllKeepBreaks : Type 0
AllKeepBreaks =
    (before after : Buffers) (a : Answer)
    → RightLengths before
    → Plan sheet_b before after a
    → ¬ (after.decisions ≡ shown 3 (λ (i : ℕ). Keep))

abbrev pub DoesNothingBreaks : Type 0
DoesNothingBreaks =
    (b : Buffers) (a : Answer)
    → RightLengths b
    → ¬ (Held 3 b4 b)
    → ¬ (Plan sheet_b b b a)

abbrev pub DecisionsStayBreak : Type 0
DecisionsStayBreak =
    (before after : Buffers) (a : Answer)
    → RightLengths before
    → ¬ (before.decisions ≡ padded 64 3 (nth (decision_bytes b4)))
    → Plan sheet_b before after a
    → ¬ (after.decisions ≡ before.decisions)

abbrev pub StaysBlankBreaks : Type 0
StaysBlankBreaks =
    (before after : Buffers) (a : Answer)
    → RightLengths before
    → before.decisions ≡ replicate 64 2
    → Plan sheet_b before after a
    → ¬ (after.decisions ≡ before.decisions)

abbrev pub RepeatsPlanBreaks : Type 0
RepeatsPlanBreaks =
    (after4 : Buffers) (a4 : Answer) (t : List ℕ) (before after : Buffers) (a : Answer)
    → ReportAfterB4 after4 a4 t before after a
    → ¬ (after.decisions ≡ after4.decisions) × ¬ (after.delays ≡ after4.delays) × ¬ (a ≡ a4)

abbrev pub WritesEarlyBreaks : Type 0
WritesEarlyBreaks =
    (before after : Buffers) (t : List ℕ) (a : Answer) (k : ℕ)
    → RightLengths before
    → FirstOver 3 1 before.cells k
    → Report sheet_b 1 5 before t after a
    → Carries operations (OfReport (CellOverLimit (train k))) a × (t ≡ sheet_b)
