-- A worked table gives the plan, and each of its cells is what document 01 says that it is.
-- Assumes nothing.
use Rattle.std.proofs.Common.{◌≡◌, ap, sym, ◌∙◌, inl, inr, ℕ, ◌+◌, ◌-◌, ◌≤◌, ◌<◌, le_of_eq, le_antisymm, arith}
use Rattle.line.specs.Line.{Running, Line}
use Rattle.line.specs.Policy.{Decision, Keep, Policy, day_of, pairs_total, total}
use Rattle.line.specs.Plan.{FirstDifference, IsPlan}
use Rattle.line.specs.Cells.{Table, Along, IsCell, Book, book_of, Worked, choice, policy_by, decide}
use Rattle.line.proofs.Following.{keep_or_go, first_on_time}
use Rattle.line.proofs.Days.{policies_alike, run_alike_refl}
use Rattle.line.proofs.Starts.{start_of, start_alike}
use Rattle.line.proofs.Decided.{Obeys, obeys_along, obeys_does, cells_obey, from_cell, from_cell_obeys}
use Rattle.line.proofs.Least.{least_of_all, follows_attains, keeps_as_cells}
use Rattle.line.proofs.Tables.{worked_table, worked_exists}

-- under any policy the run from train 1 begins on time
along_first : (R : Running) (p : Policy) → Along R p 1 1
along_first R p = record { on_time = first_on_time R p; maintained = λ s u v. absurd (omega arith) }

module _ (L : Line) (c d : Table) (W : Worked (book_of L) L.trains c d) where
  abbrev R : Running
  R = L.running

  abbrev B : Book
  B = book_of L

  -- a rule that obeys the cells attains its cell
  attains : (k l : ℕ) (rule : ℕ → ℕ → Decision) → 1 ≤ k → k ≤ l → l ≤ L.trains + 1 → Obeys B d k l rule
      → pairs_total L (day_of R (policy_by rule)) k l ≡ d k l
  attains k l rule pos a b obeys =
      follows_attains L c d W (policy_by rule) k l pos a b (obeys_along B d k l rule pos obeys)
      (λ s u v w. obeys_does B d k l rule pos obeys s u v)

  -- ---- the cells mean what document 01 says

  pub cell_means : (k l : ℕ) → 1 ≤ k → k ≤ l → l ≤ L.trains + 1 → IsCell L k l (d k l)
  cell_means k l pos a b =
      let obeys = from_cell_obeys B d k l pos in
      record {
        policy = policy_by (from_cell B d k l);
        along = obeys_along B d k l _ pos obeys;
        attained = attains k l _ pos a b obeys;
        least = λ p on. least_of_all L c d W p k l pos a b on;
      }

  -- ---- the decided policy is the plan

  abbrev plan : Policy
  plan = decide B d

  -- no policy's total is less than cell (1, 1),
  pub cell_least : (q : Policy) → d 1 1 ≤ total L q
  unfolding total
  cell_least q = least_of_all L c d W q 1 1 (omega arith) (omega arith) (omega arith) (along_first R q)

  -- which is the decided policy's total
  pub decided_total : total L plan ≡ d 1 1
  unfolding total decide
  decided_total = attains 1 1 _ (omega arith) (omega arith) (omega arith) (cells_obey B d)

  -- it does what the cells say on its own runs
  decided_does : (s : ℕ) → 1 < s → plan s ≡ choice B d (start_of (day_of R plan) 1 s) s
  unfolding decide
  decided_does s u = obeys_does B d 1 1 _ (omega arith) (cells_obey B d) s u (omega arith)

  -- up to the first difference another policy has the same runs
  same_runs : (q : Policy) (t : ℕ) → FirstDifference L.trains plan q t
      → start_of (day_of R plan) 1 t ≡ start_of (day_of R q) 1 t
  same_runs q t first =
      let days = policies_alike 1 (t - 1) R R plan q (omega arith) (run_alike_refl 1 (t - 1) R)
      (first_on_time R plan ∙ sym (first_on_time R q))
      (λ s u v. first.alike s (omega arith) (omega (arith, first.from_two))) in
      start_alike (day_of R plan) (day_of R q) 1 t first.from_two (λ s u v. days.missed s u (omega arith))

  -- where one of the same total keeps at the first difference, so does the decided policy
  decided_keeps : (q : Policy) → total L q ≡ total L plan → (t : ℕ) → FirstDifference L.trains plan q t
      → q t ≡ Keep → plan t ≡ Keep
  unfolding total
  decided_keeps q e t first keep =
      decided_does t first.from_two
      ∙ ap (λ (j : ℕ). choice B d j t) (same_runs q t first)
      ∙ keeps_as_cells L c d W q 1 1 (omega arith) (omega arith) (omega arith) (along_first R q)
      (le_of_eq (e ∙ decided_total)) t (omega (arith, first.from_two)) first.in_line keep

  pub decided_is_plan : IsPlan L plan
  decided_is_plan =
      record {
        least = λ q. rw decided_total (cell_least q);
        tie = λ q e t first. elim (keep_or_go (plan t)) [
          | inl keep ↦ keep
          | inr go ↦ elim (keep_or_go (q t)) [
            | inl keep ↦ decided_keeps q e t first keep
            | inr gone ↦ absurd (first.differ (go ∙ sym gone))
          ]
        ];
      }

-- a cell is one number
pub cell_one : (L : Line) (k l x y : ℕ) → IsCell L k l x → IsCell L k l y → x ≡ y
cell_one L k l x y X Y =
    le_antisymm
    (rw Y.attained at (X.least Y.policy Y.along))
    (rw X.attained at (Y.least X.policy X.along))

-- every line has a plan
pub plan_exists : (L : Line) → IsPlan L (decide (book_of L) (worked_table (book_of L) L.trains (λ k l. 0)))
plan_exists L = decided_is_plan L _ _ (worked_exists (book_of L) L.trains (λ k l. 0))
