-- Sheet B of document 01, "Sums to check by hand"; what plan answers on sheets A, B and B with T 13 (cases a, b4 and
-- b6), and what two reports answer after the plan of B (cases b7 and b8).
--   sheet_b, sheet_b13           the bytes of sheet B, by the layout of "The bit sheet", and of B with T 13
--   decision_bytes x             the decisions of the case x as bytes
--   Held m x b                   m trains: decision bytes, delays and cells in use of b are those of the case x, the
--                                other bytes and delays 0
--   Leaves m x after a           that, and the answer is the total of the case x
--   Answers s m x                plan leaves that on the sheet s, whatever buffers of the right lengths held before
--   AnswersA, AnswersB, AnswersB13     of cases a, b4 and b6
--   ReportAfterB4                the report of case b7, after the plan of case b4
--   AnswersB7, AnswersB8         of cases b7 and b8
-- Assumes nothing.
use Rattle.std.specs.Prelude.{ℕ, ◌≤◌, ◌≡◌, List, [], ◌∷◌, map, get_or, Ok}
use Rattle.lists.specs.Run.{nth, padded}
use Rattle.terms.specs.Answer.{Answer}
use Rattle.line.specs.Answers.{table_from, CaseAnswer}
use Rattle.line.specs.Cases.{a as case_a, b4, b6, b7, b8}
use Rattle.sheet.specs.SheetA.{sheet_a}
use Rattle.cells.specs.Place.{place}
use Rattle.cells.specs.Shown.{byte_of}
use Rattle.planner.specs.Buffers.{Buffers, RightLengths}
use Rattle.planner.specs.Plan.{Plan}
use Rattle.planner.specs.Report.{Report}

-- m 3, T 10; departures 10, 30, 55; driving 15, 20, 12; delays 9, 3, 0; passengers 1-2: 4, 1-3: 6, 1-4: 5, 2-3: 10,
-- 2-4: 2, 3-4: 20
abbrev pub sheet_b : List ℕ
sheet_b =
    0x06 ∷ 0x02 ∷ 0x80 ∷ 0x28 ∷ 0x0f ∷ 0x01 ∷ 0x20 ∷ 0x3c ∷ 0x0a ∷ 0x00 ∷ 0x30 ∷ 0x37 ∷ 0x03
    ∷ 0x00 ∷ 0x00 ∷ 0x00 ∷ 0x80 ∷ 0x03 ∷ 0x00 ∷ 0x0a ∷ 0x00 ∷ 0x50 ∷ 0x00 ∷ 0x40 ∷ 0x0a ∷ 0x00 ∷ []

abbrev pub sheet_b13 : List ℕ
sheet_b13 =
    0x06 ∷ 0x03 ∷ 0x40 ∷ 0x28 ∷ 0x0f ∷ 0x01 ∷ 0x20 ∷ 0x3c ∷ 0x0a ∷ 0x00 ∷ 0x30 ∷ 0x37 ∷ 0x03
    ∷ 0x00 ∷ 0x00 ∷ 0x00 ∷ 0x80 ∷ 0x03 ∷ 0x00 ∷ 0x0a ∷ 0x00 ∷ 0x50 ∷ 0x00 ∷ 0x40 ∷ 0x0a ∷ 0x00 ∷ []

-- 0 for train 1, then the decisions of the case
abbrev pub decision_bytes : CaseAnswer → List ℕ
decision_bytes x = 0 ∷ map byte_of x.decisions

pub record Held (m : ℕ) (x : CaseAnswer) (b : Buffers) : Type 0 where
  pub decisions : b.decisions ≡ padded 64 m (nth (decision_bytes x))
  pub delays : b.delays ≡ padded 64 m (nth x.delays)
  pub cells : (k l : ℕ) → 1 ≤ k → k ≤ l → l ≤ m → get_or b.cells (place m k l) 0 ≡ table_from x.rows k l

pub record Leaves (m : ℕ) (x : CaseAnswer) (after : Buffers) (a : Answer) : Type 0 where
  pub answer : a ≡ Ok x.total
  pub held : Held m x after

abbrev pub Answers : List ℕ → ℕ → CaseAnswer → Type 0
Answers s m x =
    (before after : Buffers) (a : Answer) → RightLengths before → Plan s before after a → Leaves m x after a

abbrev pub AnswersA : Type 0
AnswersA = Answers sheet_a 1 case_a

abbrev pub AnswersB : Type 0
AnswersB = Answers sheet_b 3 b4

abbrev pub AnswersB13 : Type 0
AnswersB13 = Answers sheet_b13 3 b6

-- ---- b7: b4, then train 1 reported at 5; b8: b7, then train 2 at 6

-- Sheet B is planned, and then train 1 is reported at 5, with buffers of the right lengths.
pub record ReportAfterB4 (after4 : Buffers) (a4 : Answer) (t : List ℕ) (before after : Buffers) (a : Answer)
    : Type 0 where
  pub lent : Buffers
  pub lent_right : RightLengths lent
  pub plan : Plan sheet_b lent after4 a4
  -- nobody else wrote the cells
  pub cells : before.cells ≡ after4.cells
  pub right : RightLengths before
  pub report : Report sheet_b 1 5 before t after a

abbrev pub AnswersB7 : Type 0
AnswersB7 =
    (after4 : Buffers) (a4 : Answer) (t : List ℕ) (before after : Buffers) (a : Answer)
    → ReportAfterB4 after4 a4 t before after a
    → Leaves 3 b7 after a

-- Then train 2 is reported at 6.
abbrev pub AnswersB8 : Type 0
AnswersB8 =
    (after4 : Buffers) (a4 : Answer) (t : List ℕ) (before7 after7 : Buffers) (a7 : Answer)
    (u : List ℕ) (before after : Buffers) (a : Answer)
    → ReportAfterB4 after4 a4 t before7 after7 a7
    → before.cells ≡ after7.cells
    → RightLengths before
    → Report t 2 6 before u after a
    → Leaves 3 b8 after a
