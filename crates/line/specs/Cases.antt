-- Document 01, "Sums to check by hand": the cases a, b1 to b8, c, d as one table under one claim.
--   reported    source delays with that of one train replaced
--   Case        a line and the answer printed for a policy, for the plan or for a report
--   Holds       what a case says of its line
--   table       the cases, in document 01's order
--   CasesHold   the claim: each case of the table holds, and the slacks are as printed
-- Assumes nothing.
use Rattle.std.specs.Prelude.{ℕ, ◌-◌, ◌≡◌}
use mathlib.Core.List.{List, [], ◌∷◌, Memᴰ}
use Rattle.lists.specs.Choice.{if_same}
use Rattle.lists.specs.Run.{nth}
use Rattle.line.specs.Line.{Line, line_from}
use Rattle.line.specs.Policy.{Decision, Keep, Go}
use Rattle.line.specs.Answers.{Rows, CaseAnswer, table_from, PolicyAnswer, PlanAnswer, WorkedAnswer}

-- train t reported at y
abbrev pub reported : ℕ → ℕ → (ℕ → ℕ) → ℕ → ℕ
reported t y delay i = if_same i t y (delay i)

-- Train t is reported at y, on a line by its source delays, over the rows of an answer before: that leaves the plan of
-- the line as it then is. Over rows that no plan left, nothing but the rule fixes what it leaves.
pub data Case : Type 0 where
  policy plan : Line → CaseAnswer → Case
  report : ℕ → ℕ → ((ℕ → ℕ) → Line) → (ℕ → ℕ) → CaseAnswer → CaseAnswer → Case
  rework : ℕ → Rows → Line → CaseAnswer → Case

-- a plan works every row, so that none before is read
abbrev pub Holds : Case → Type 0
Holds (policy L x) = PolicyAnswer L x
Holds (plan L x) = PlanAnswer L x × WorkedAnswer L L.trains [] x
Holds (report t y line delay before x) =
    PlanAnswer (line (reported t y delay)) x × WorkedAnswer (line (reported t y delay)) t before.rows x
Holds (rework t before L x) = WorkedAnswer L t before x

-- ---- the lines

-- the pair (i, j) is entry j - i of row i
abbrev line_in : ℕ → ℕ → List ℕ → List ℕ → (ℕ → ℕ) → List (List ℕ) → Line
line_in m T departures driving delay passengers =
    line_from m T (nth departures) (nth driving) delay (λ i j. table_from passengers i (j - 1))

abbrev pub line_a : Line
line_a = line_in 1 10 (10 ∷ []) (15 ∷ []) (nth (7 ∷ [])) ((3 ∷ []) ∷ [])

abbrev pub line_b : ℕ → (ℕ → ℕ) → Line
line_b T delay =
    line_in 3 T (10 ∷ 30 ∷ 55 ∷ []) (15 ∷ 20 ∷ 12 ∷ []) delay
    ((4 ∷ 6 ∷ 5 ∷ []) ∷ (10 ∷ 2 ∷ []) ∷ (20 ∷ []) ∷ [])

abbrev pub delays_b : ℕ → ℕ
delays_b = nth (9 ∷ 3 ∷ 0 ∷ [])

abbrev pub delays_b7 : ℕ → ℕ
delays_b7 = reported 1 5 delays_b

abbrev pub delays_b8 : ℕ → ℕ
delays_b8 = reported 2 6 delays_b7

-- lines C and D: two trains, slack 0
abbrev line_c : Line
line_c = line_in 2 10 (0 ∷ 0 ∷ []) (0 ∷ 0 ∷ []) (nth (5 ∷ 0 ∷ [])) ((0 ∷ 1 ∷ []) ∷ (1 ∷ []) ∷ [])

abbrev line_d : Line
line_d = line_in 2 1 (0 ∷ 0 ∷ []) (0 ∷ 0 ∷ []) (nth (0 ∷ 10 ∷ [])) ((0 ∷ 1 ∷ []) ∷ (0 ∷ []) ∷ [])

-- ---- the table

abbrev answer : List Decision → List ℕ → ℕ → Rows → CaseAnswer
answer ds delays n rows = record { decisions = ds; delays = delays; total = n; rows = rows }

abbrev pub a : CaseAnswer
a = answer [] (7 ∷ []) 21 ((21 ∷ []) ∷ [])

abbrev pub b4 : CaseAnswer
b4 = answer (Go ∷ Keep ∷ []) (9 ∷ 3 ∷ 0 ∷ []) 176 ((176 ∷ 140 ∷ 54 ∷ []) ∷ (30 ∷ 0 ∷ []) ∷ (0 ∷ []) ∷ [])

abbrev b5 : CaseAnswer
b5 = answer (Go ∷ Keep ∷ []) (9 ∷ 3 ∷ 0 ∷ []) 198 ((198 ∷ 162 ∷ 54 ∷ []) ∷ (30 ∷ 0 ∷ []) ∷ (0 ∷ []) ∷ [])

abbrev pub b6 : CaseAnswer
b6 = answer (Keep ∷ Keep ∷ []) (9 ∷ 7 ∷ 2 ∷ []) 202 ((202 ∷ 166 ∷ 54 ∷ []) ∷ (30 ∷ 0 ∷ []) ∷ (0 ∷ []) ∷ [])

abbrev pub b7 : CaseAnswer
b7 = answer (Keep ∷ Keep ∷ []) (5 ∷ 3 ∷ 0 ∷ []) 68 ((68 ∷ 48 ∷ 0 ∷ []) ∷ (30 ∷ 0 ∷ []) ∷ (0 ∷ []) ∷ [])

abbrev pub b8 : CaseAnswer
b8 = answer (Keep ∷ Keep ∷ []) (5 ∷ 6 ∷ 1 ∷ []) 143 ((143 ∷ 123 ∷ 27 ∷ []) ∷ (80 ∷ 20 ∷ []) ∷ (0 ∷ []) ∷ [])

-- rows 2 and 3 as no plan of line B leaves them
abbrev foreign : Rows
foreign = (40 ∷ 7 ∷ []) ∷ (0 ∷ []) ∷ []

-- Document 01 prints every total, the decisions of all cases but d, the delays of b4, b7 and b8, the rows of b4, row 1
-- of b7 and rows 1 and 2 of b8. The other decisions, delays and rows were worked by hand, and so was the last case,
-- which is not in document 01: train 1 of line B reported at 9, as it was, over foreign rows. The total is cell (1, 1),
-- and not the 176 that the decisions cost.
abbrev pub table : List Case
table =
    -- b1, b2, b3 with keep and with go
    policy (line_b 10 delays_b) (answer (Keep ∷ Keep ∷ []) (9 ∷ 7 ∷ 2 ∷ []) 202 [])
    ∷ policy (line_b 10 delays_b) (answer (Keep ∷ Go ∷ []) (9 ∷ 7 ∷ 0 ∷ []) 218 [])
    ∷ policy (line_b 10 delays_b) (answer (Go ∷ Keep ∷ []) (9 ∷ 3 ∷ 0 ∷ []) 176 [])
    ∷ policy (line_b 10 delays_b) (answer (Go ∷ Go ∷ []) (9 ∷ 3 ∷ 0 ∷ []) 176 [])
    -- b4 to b8
    ∷ plan (line_b 10 delays_b) b4
    ∷ plan (line_b 12 delays_b) b5
    ∷ plan (line_b 13 delays_b) b6
    ∷ report 1 5 (line_b 10) delays_b b4 b7
    ∷ report 2 6 (line_b 10) delays_b7 b7 b8
    -- c: both policies, and the plan
    ∷ policy line_c (answer (Keep ∷ []) (5 ∷ 5 ∷ []) 10 [])
    ∷ policy line_c (answer (Go ∷ []) (5 ∷ 0 ∷ []) 10 [])
    ∷ plan line_c (answer (Keep ∷ []) (5 ∷ 5 ∷ []) 10 ((10 ∷ 10 ∷ []) ∷ (0 ∷ []) ∷ []))
    -- d
    ∷ plan line_d (answer (Keep ∷ []) (0 ∷ 10 ∷ []) 10 ((10 ∷ 10 ∷ []) ∷ (0 ∷ []) ∷ []))
    -- a
    ∷ plan line_a a
    -- not in document 01
    ∷ rework 1 ([] ∷ foreign) (line_b 10 delays_b)
    (answer (Go ∷ Keep ∷ []) (9 ∷ 3 ∷ 0 ∷ []) 186 ((186 ∷ 150 ∷ 54 ∷ []) ∷ foreign))
    ∷ []

pub record CasesHold : Type 0 where
  pub each : (c : Case) → Memᴰ c table → Holds c
  -- Line B: both slacks are 5, whatever T and the delays. Lines C and D: slack 0.
  pub slacks_b : (T : ℕ) (delay : ℕ → ℕ) → ((line_b T delay).running.slack 2 ≡ 5)
      × ((line_b T delay).running.slack 3 ≡ 5)
  pub slack_c : line_c.running.slack 2 ≡ 0
  pub slack_d : line_d.running.slack 2 ≡ 0
