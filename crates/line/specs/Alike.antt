-- Document 01, "Row k depends on trains k to m alone": two lines, two books and two days alike from train k to the
-- last. Nothing is asked of station k, neither slack nor period nor a miss: the run that begins there waits for nobody.
--   RunningAlike k m R S   trains k to m run alike
--   DaysAlike k m D E      they arrive alike, and miss the same transfers
--   LinesAlike k L M       the lines L and M are alike from train k to their last
--   BooksAlike k A B       and so are the books A and B
-- Assumes nothing.
use Rattle.std.specs.Prelude.{ℕ, ◌+◌, ◌≤◌, ◌<◌, ◌≡◌}
use Rattle.line.specs.Line.{Running, Line}
use Rattle.line.specs.Policy.{Day}
use Rattle.line.specs.Cells.{Book}

pub record RunningAlike (k m : ℕ) (R S : Running) : Type 0 where
  pub slack : (s : ℕ) → k < s → s ≤ m → R.slack s ≡ S.slack s
  pub arrive : (i x : ℕ) → k ≤ i → i ≤ m → R.arrive i x ≡ S.arrive i x

pub record DaysAlike (k m : ℕ) (D E : Day) : Type 0 where
  pub arrival : (i : ℕ) → k ≤ i → i ≤ m → D.arrival i ≡ E.arrival i
  pub missed : (s : ℕ) → k < s → s ≤ m → D.missed s ≡ E.missed s

pub record LinesAlike (k : ℕ) (L M : Line) : Type 0 where
  pub trains : L.trains ≡ M.trains
  pub running : RunningAlike k L.trains L.running M.running
  pub period : (s : ℕ) → k < s → s ≤ L.trains → L.period s ≡ M.period s
  pub passengers : (i j : ℕ) → k ≤ i → i < j → j ≤ L.trains + 1 → L.passengers i j ≡ M.passengers i j

pub record BooksAlike (k : ℕ) (A B : Book) : Type 0 where
  pub trains : A.trains ≡ B.trains
  pub running : RunningAlike k A.trains A.running B.running
  pub period : (s : ℕ) → k < s → s ≤ A.trains → A.period s ≡ B.period s
  pub leaving : (i l : ℕ) → k ≤ i → i ≤ l → l ≤ A.trains → A.leaving i l ≡ B.leaving i l
  pub aboard : (i l : ℕ) → k ≤ i → i < l → l ≤ A.trains → A.aboard i l ≡ B.aboard i l
