-- From what is printed for a line to what plan leaves on a sheet of that line: the plan is one, and so is what a cell
-- means.
-- Assumes nothing.
use Rattle.std.proofs.Common.{◌≡◌, refl, sym, ap, subst, ◌∙◌, List, [], ◌∷◌, map, inl, inr, ℕ, zero, suc, ◌+◌, ◌-◌, ◌≤◌}
use Rattle.std.proofs.Common.{◌<◌, arith, length, get_or}
use Rattle.lists.specs.Choice.{if_below}
use Rattle.lists.specs.Run.{listed, padded, nth}
use Rattle.lists.proofs.Choice.{below_yes, below_no}
use Rattle.std.proofs.lemmas.Bool.{cases_lt}
use Rattle.lists.proofs.Run.{listed_each, listed_padded, padded_same}
use Rattle.std.specs.Prelude.{Ok}
use Rattle.terms.specs.Verdict.{Verdict, Fine}
use Rattle.terms.specs.Answer.{Answer, answer_carries, answer_of}
use Rattle.line.specs.Line.{Line, line_from}
use Rattle.line.specs.Policy.{Decision, Keep, Policy, arrival, total}
use Rattle.line.specs.Cells.{Table, book_of, Worked}
use Rattle.line.specs.Alike.{LinesAlike}
use Rattle.line.specs.Answers.{Rows, policy_from, table_from, PlanAnswer, CaseAnswer}
use Rattle.line.proofs.Days.{same_days, same_total}
use Rattle.line.proofs.Alike.{books_of_lines}
use Rattle.line.proofs.Tables.{worked_for_alike}
use Rattle.line.proofs.Worked.{cell_means, cell_one}
use Rattle.line.proofs.Plan.{plan_one, plan_alike}
use Rattle.line.proofs.Base.{base_alike}
use Rattle.sheet.specs.Numbers.{numbers_of}
use Rattle.sheet.specs.Checks.{sheet_verdict}
use Rattle.cells.specs.Place.{place, table_of}
use Rattle.cells.specs.Shown.{byte_of, shown}
use Rattle.cells.proofs.Places.{table_in}
use Rattle.cells.proofs.Shown.{shown_same}
use Rattle.prepare.specs.LineOf.{line_of}
use Rattle.planner.specs.Buffers.{Buffers, RightLengths}
use Rattle.planner.specs.Plan.{plan_verdict, Planned, Plan}
use Rattle.planner.proofs.Refusals.{checks_right}
use Rattle.demands.specs.Sheets.{decision_bytes, Leaves}

-- ---- two tables that are equal at a few pairs, since the lists of their values are

-- the values at the pairs k ≤ l ≤ n, row by row
unfoldable pub pair_rows : ℕ → Table → Rows
pair_rows n f = listed (λ k. listed (f k) k (n + 1 - k)) 1 n

same_pairs : (f g : Table) (n : ℕ) → pair_rows n f ≡ pair_rows n g → (k l : ℕ) → 1 ≤ k → k ≤ l → l ≤ n → f k l ≡ g k l
unfolding pair_rows
same_pairs f g n e k l u v w =
    listed_each 0 (f k) (g k) k (n + 1 - k) (listed_each [] _ _ 1 n e k u (omega arith)) l v (omega arith)

-- ---- lines whose numbers are equal as lists are alike

pub lines_same : (m T : ℕ) (d d' r r' y y' : ℕ → ℕ) (n n' : ℕ → ℕ → ℕ)
    → listed d 1 m ≡ listed d' 1 m
    → listed r 1 m ≡ listed r' 1 m
    → listed y 1 m ≡ listed y' 1 m
    → pair_rows m (λ i t. n i (t + 1)) ≡ pair_rows m (λ i t. n' i (t + 1))
    → LinesAlike 1 (line_from m T d r y n) (line_from m T d' r' y' n')
lines_same m T d d' r r' y y' n n' departures driving delays passengers =
    base_alike 1 m T d d' r r' y y' n n' (omega arith)
    (λ i a b. listed_each 0 d d' 1 m departures i a (omega arith))
    (λ i a b. listed_each 0 r r' 1 m driving i a (omega arith))
    (λ i a b. listed_each 0 y y' 1 m delays i a (omega arith))
    (λ i j a b c.
    let e : j - 1 + 1 ≡ j = omega arith in
    subst (λ (x : ℕ). n i x ≡ n' i x) e (same_pairs _ _ m passengers i (j - 1) a (omega arith) (omega arith)))

-- ---- decisions in a list, shown as bytes

byte_at : (ds : List Decision) (k : ℕ) → k < length ds → byte_of (get_or ds k Keep) ≡ get_or (map byte_of ds) k 0
byte_at [] k h = absurd (omega arith)
byte_at (d ∷ ds) zero h = refl
byte_at (d ∷ ds) (suc k) h = byte_at ds k (omega arith)

-- 0 for train 1, then the decisions
byte_of_decision : (ds : List Decision) (i : ℕ) → 1 ≤ i → i ≤ length ds + 1
    → if_below 1 i (byte_of (policy_from ds i)) 0 ≡ nth (0 ∷ map byte_of ds) i
byte_of_decision ds i a b = elim (cases_lt 1 i) [
  | inl u ↦
      let e : i - 1 ≡ suc (i - 2) = omega arith in
      below_yes _ _ u ∙ byte_at ds (i - 2) (omega arith) ∙ ap (λ (k : ℕ). get_or (0 ∷ map byte_of ds) k 0) (sym e)
  | inr u ↦
      let e : i - 1 ≡ 0 = omega arith in
      below_no _ _ u ∙ ap (λ (k : ℕ). get_or (0 ∷ map byte_of ds) k 0) (sym e)
]

-- ---- what plan leaves on a sheet whose line is M, where x is printed for M

module _ (s : List ℕ) (M : Line) (x : CaseAnswer) (fine : sheet_verdict s ≡ Fine)
    (alike : LinesAlike 1 (line_of (numbers_of s)) M) (print : PlanAnswer M x)
    (before after : Buffers) (a : Answer) (right : RightLengths before) (h : Plan s before after a) where
  abbrev L : Line
  L = line_of (numbers_of s)

  abbrev q : Policy
  q = policy_from x.decisions

  passed : plan_verdict s before ≡ Fine
  unfolding plan_verdict
  passed = checks_right before (sheet_verdict s) right ∙ fine

  plan : Planned L before after (answer_carries a)
  plan = h.accepted passed

  -- the plan is one, and it is printed
  agrees : (i : ℕ) → 2 ≤ i → i ≤ L.trains → plan.policy i ≡ q i
  agrees i u v =
      plan_one M plan.policy q
      (plan_alike L M plan.policy plan.policy alike (λ j y z. refl) plan.plan)
      print.plan i u (omega (arith, alike.trains))

  total_is : total L plan.policy ≡ x.total
  total_is = same_total L M plan.policy q alike agrees ∙ print.policy.costs

  decisions_are : after.decisions ≡ padded 64 M.trains (nth (decision_bytes x))
  unfolding shown
  decisions_are =
      plan.decisions ∙ shown_same L.trains plan.policy q agrees ∙ ap (λ (m : ℕ). shown m q) alike.trains
      ∙ padded_same 64 M.trains _ _
      (λ i u v. byte_of_decision x.decisions i u (omega (arith, print.policy.decided)))

  delays_are : after.delays ≡ padded 64 M.trains (nth x.delays)
  delays_are =
      plan.delays ∙ padded_same 64 L.trains _ _ (same_days L M plan.policy q alike agrees).arrival
      ∙ ap (λ (m : ℕ). padded 64 m (arrival M.running q)) alike.trains
      ∙ listed_padded 64 M.trains _ _ print.policy.delays

  -- both are what the cell means on M
  cells_are : (k l : ℕ) → 1 ≤ k → k ≤ l → l ≤ M.trains
      → get_or after.cells (place M.trains k l) 0 ≡ table_from x.rows k l
  cells_are k l u v w =
      let anew = worked_for_alike L.trains (book_of L) (book_of M) _ _ (books_of_lines 1 L M alike)
      plan.cells.worked in
      let worked = subst (λ (t : ℕ). Worked (book_of M) t (table_of t before.cells) (table_of t after.cells))
      alike.trains anew in
      sym (table_in M.trains after.cells k l w)
      ∙ cell_one M k l _ _ (cell_means M _ _ worked k l u v (omega arith)) (print.cells k l u v w)

  pub leaves : Leaves M.trains x after a
  leaves =
      record {
        answer =
            h.answer ∙ ap (λ (v : Verdict). answer_of v (answer_carries a)) passed
            ∙ ap Ok (plan.costs ∙ total_is);
        held = record { decisions = decisions_are; delays = delays_are; cells = cells_are };
      }
