-- All that is promised of plan and report, and what read and write answer, in one record: the three demands, and
-- document 01, "What the contracts have to say" and its last paragraph.
--   Promises   that record
-- Assumes nothing.
use Rattle.std.specs.Prelude.{ℕ, List}
use Rattle.terms.specs.Answer.{Answer}
use Rattle.reader.specs.Reading.{Reading}
use Rattle.sheet.specs.Numbers.{Lists}
use Rattle.writer.specs.Write.{Given, Write, WriteTells}
use Rattle.reader.specs.Read.{Read, ReadTells}
use Rattle.demands.specs.Calling.{operations}
use Rattle.demands.specs.Answered.{Demand1}
use Rattle.demands.specs.Least.{Demand2}
use Rattle.demands.specs.OneMeaning.{OneMeaning}
use Rattle.demands.specs.Runs.{Demand3}
use Rattle.demands.specs.Sheets.{AnswersA, AnswersB, AnswersB13, AnswersB7, AnswersB8}
use Rattle.demands.specs.Useless.{RefusesAllBreaks, SameDecisionsBreak, AllKeepBreaks, DoesNothingBreaks}
use Rattle.demands.specs.Useless.{DecisionsStayBreak, StaysBlankBreaks, RepeatsPlanBreaks, WritesEarlyBreaks}

pub record Promises : Type 0 where
  pub first_demand : Demand1 operations
  pub second_demand : Demand2 operations
  pub one_meaning : OneMeaning
  pub third_demand : Demand3 operations
  -- of read and write the answer in the paper's numbers; of plan and report the first demand has it
  pub read_tells : (s : List ℕ) (before after : Lists) (a : Reading) → Read s before after a → ReadTells s before a
  pub write_tells : (G : Given) (before after : List ℕ) (a : Answer) → Write G before after a → WriteTells G before a
  -- cases a, b4, b6, b7 and b8
  pub plan_a : AnswersA
  pub plan_b4 : AnswersB
  pub plan_b6 : AnswersB13
  pub report_b7 : AnswersB7
  pub report_b8 : AnswersB8
  -- useless versions
  pub refuses_all : RefusesAllBreaks
  pub same_decisions : SameDecisionsBreak
  pub all_keep : AllKeepBreaks
  pub does_nothing : DoesNothingBreaks
  pub decisions_stay : DecisionsStayBreak
  pub stays_blank : StaysBlankBreaks
  pub repeats_plan : RepeatsPlanBreaks
  pub writes_early : WritesEarlyBreaks
