-- The checks that are a report's own. Document 01, "Numbers of refusal, in the order of checking": 11, 6 and 12.
--   report_checks m i v       11 and 6 for a report of v minutes for train i
--   own_verdict m i v cells   11, 6, 12 for that report
--   Reportable m i v cells    none of them
-- Assumes nothing.
use Rattle.std.specs.Prelude.{ℕ, ◌≤◌, List, [], ◌∷◌}
use Rattle.terms.specs.declared.ReportFault.TheVariants.{NoSuchTrain, NewDelay}
use Rattle.terms.specs.declared.Refusal.TheVariants.{OfReport}
use Rattle.terms.specs.Verdict.{Verdict, Check, refuse◌when◌below◌, verdict_of, ◌and_then◌}
use Rattle.terms.specs.Refusal.{train}
use Rattle.cells.specs.Limits.{LaterInRange, later_verdict}

-- train is 0 or over m; new delay over 1,440
unfoldable pub report_checks : ℕ → ℕ → ℕ → List Check
report_checks m i v =
    (refuse (OfReport NoSuchTrain) when i below 1)
    ∷ (refuse (OfReport NoSuchTrain) when m below i)
    ∷ (refuse (OfReport (NewDelay (train i))) when 1440 below v)
    ∷ []

-- these, then the later rows
unfoldable pub own_verdict : ℕ → ℕ → ℕ → List ℕ → Verdict
own_verdict m i v cells = verdict_of (report_checks m i v) and_then later_verdict m cells i

-- none of them, as plain facts
pub record Reportable (m i v : ℕ) (cells : List ℕ) : Type 0 where
  pub least : 1 ≤ i
  pub most : i ≤ m
  pub delay : v ≤ 1440
  pub later : LaterInRange m i cells
