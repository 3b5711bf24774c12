-- What the calls from C return and leave: those of read, write, plan and report, each with the list for its answer.
-- Document 01, "Four operations".
--   ReadCall s before list after stored r       before, after: the four lists
--   WriteCall G before list after stored r      before, after: the lent bytes
--   PlanCall s before list after stored r       before, after: cells, decisions and delays
--   Lent, lent s b                              a sheet and these three
--   ReportLeaves i v before after a             what the report that train i has the source delay v now leaves
--   ReportCall i v before list after stored r   before, after: sheet, cells, decisions and delays
-- list and stored are the list for the answer before and after the call, r is what the call returns.
-- Assumes nothing.
use Rattle.std.specs.Prelude.{ℕ, List}
use Rattle.terms.specs.Answer.{Answer, answer_number}
use Rattle.sheet.specs.Numbers.{Lists}
use Rattle.writer.specs.Write.{Given, Write}
use Rattle.reader.specs.Read.{Read}
use Rattle.planner.specs.Buffers.{Buffers}
use Rattle.planner.specs.Plan.{Plan}
use Rattle.planner.specs.Report.{Report}
use Rattle.oblachura.specs.AnswerNumbers.{read_numbers, answer_numbers}
use Rattle.oblachura.specs.Call.{Call}

-- number, place, m and T
abbrev pub ReadCall : List ℕ → Lists → List ℕ → Lists → List ℕ → ℕ → Type 0
ReadCall s before = Call 4 answer_number read_numbers (Read s before) before

-- number, place and length
abbrev pub WriteCall : Given → List ℕ → List ℕ → List ℕ → List ℕ → ℕ → Type 0
WriteCall G before = Call 3 answer_number answer_numbers (Write G before) before

-- number, place and total
abbrev pub PlanCall : List ℕ → Buffers → List ℕ → Buffers → List ℕ → ℕ → Type 0
PlanCall s before = Call 3 answer_number answer_numbers (Plan s before) before

pub record Lent : Type 0 where
  pub sheet : List ℕ
  pub buffers : Buffers

abbrev pub lent : List ℕ → Buffers → Lent
lent s b = record { sheet = s; buffers = b }

abbrev pub ReportLeaves : ℕ → ℕ → Lent → Lent → Answer → Type 0
ReportLeaves i v before after = Report before.sheet i v before.buffers after.sheet after.buffers

abbrev pub ReportCall : ℕ → ℕ → Lent → List ℕ → Lent → List ℕ → ℕ → Type 0
ReportCall i v before = Call 3 answer_number answer_numbers (ReportLeaves i v before) before
