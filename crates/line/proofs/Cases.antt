-- Document 01's cases. What is printed is computed anew: delays and totals by following the decisions, the plan by
-- listing all policies, the cells by the rule. General laws say that what is computed so is what the case claims.
-- Assumes nothing.
use Rattle.std.proofs.Common.{◌≡◌, refl, ap, sym, ◌∙◌, List, [], ◌∷◌, map, ℕ, zero, suc, ◌-◌, ◌<◌, arith, length}
use Rattle.std.proofs.Common.{get_or}
use mathlib.Core.List.{Memᴰ}
use Rattle.lists.specs.Choice.{if_below, if_same}
use Rattle.lists.specs.Run.{run_of, listed}
use Rattle.lists.proofs.Run.{listed_length}
use Rattle.line.specs.Sum.{sum◌from◌to◌}
use Rattle.line.specs.Line.{Line, line_from}
use Rattle.line.specs.Policy.{arrival, excess, departure, missed, at_first_missed, counts, pairs_total, total}
use Rattle.line.specs.Cells.{leaving, aboard, run_from, excess_on, arrival_on, keep_cost, go_cost, cell_by, choice}
use Rattle.line.specs.Cells.{begins, policy_by, decide, book_of}
use Rattle.line.specs.Answers.{Rows, CaseAnswer, policy_from, table_from, PolicyAnswer, PlanAnswer, WorkedAnswer}
use Rattle.line.specs.Cases.{reported, Case, policy, plan, report, rework, Holds, line_a, a, table, CasesHold}
use Rattle.line.proofs.Worked.{cell_means}
use Rattle.line.proofs.Listing.{better, first_least, first_least_length, first_least_is_plan}
use Rattle.line.proofs.Rows.{rows_of, reworked, reworked_in_use, reworked_worked}

-- ---- what is computed for the answer x

module _ (L : Line) (x : CaseAnswer) where
  abbrev arrivals : List ℕ
  arrivals = listed (arrival L.running (policy_from x.decisions)) 1 L.trains

  abbrev followed : CaseAnswer
  followed =
      record {
        decisions = listed (policy_from x.decisions) 2 (L.trains - 1);
        delays = arrivals;
        total = total L (policy_from x.decisions);
        rows = x.rows;
      }

  -- all m rows are worked, so that nothing is read of rows before
  abbrev planned : CaseAnswer
  planned =
      record {
        decisions = first_least L (L.trains - 1) [];
        delays = arrivals;
        total = total L (policy_from x.decisions);
        rows = reworked (book_of L) L.trains [] x.rows;
      }

  abbrev worked : ℕ → Rows → CaseAnswer
  worked t before =
      record {
        decisions = listed (decide (book_of L) (table_from x.rows)) 2 (L.trains - 1);
        delays = arrivals;
        total = table_from x.rows 1 1;
        rows = reworked (book_of L) t before x.rows;
      }

abbrev computed : Case → List CaseAnswer
computed (policy L x) = followed L x ∷ []
computed (plan L x) = planned L x ∷ worked L x L.trains [] ∷ []
computed (report t y line delay before x) =
    planned (line (reported t y delay)) x ∷ worked (line (reported t y delay)) x t before.rows ∷ []
computed (rework t before L x) = worked L x t before ∷ []

abbrev printed : Case → List CaseAnswer
printed (policy L x) = x ∷ []
printed (plan L x) = x ∷ x ∷ []
printed (report t y line delay before x) = x ∷ x ∷ []
printed (rework t before L x) = x ∷ []

-- ---- what is computed as printed holds

module _ (L : Line) (x : CaseAnswer) where
  followed_holds : followed L x ≡ x → PolicyAnswer L x
  followed_holds e =
      record {
        decided = ap (λ y. length y.decisions) (sym e) ∙ listed_length _ 2 (L.trains - 1);
        delays = ap (λ y. y.delays) e;
        costs = ap (λ y. y.total) e;
      }

  planned_holds : planned L x ≡ x → PlanAnswer L x
  planned_holds e =
      let found = ap (λ y. y.decisions) e in
      let rows = ap (λ y. y.rows) e in
      record {
        policy = record {
          decided = ap length (sym found) ∙ first_least_length L;
          delays = ap (λ y. y.delays) e;
          costs = ap (λ y. y.total) e;
        };
        plan = rw found at (first_least_is_plan L);
        cells = λ k l a b c.
            cell_means L _ _ (reworked_worked (book_of L) L.trains [] x.rows rows) k l a b (omega arith);
      }

  worked_holds : (t : ℕ) (before : Rows) → worked L x t before ≡ x → WorkedAnswer L t before x
  worked_holds t before e =
      let rows = ap (λ y. y.rows) e in
      record {
        in_use = reworked_in_use (book_of L) t before x.rows rows;
        worked = reworked_worked (book_of L) t before x.rows rows;
        decisions = ap (λ y. y.decisions) e;
        delays = ap (λ y. y.delays) e;
        corner = ap (λ y. y.total) e;
      }

case_holds : (c : Case) → computed c ≡ printed c → Holds c
case_holds (policy L x) e = followed_holds L x (cc)
case_holds (plan L x) e = (planned_holds L x (cc), worked_holds L x L.trains [] (cc))
case_holds (report t y line delay before x) e =
    let L = line (reported t y delay) in
    (planned_holds L x (cc), worked_holds L x t before.rows (cc))
case_holds (rework t before L x) e = worked_holds L x t before (cc)

each_holds : (c : Case) (cs : List Case) → Memᴰ c cs → map computed cs ≡ map printed cs → Holds c
each_holds c cs (Memᴰ.head e) same = case_holds c (cc)
each_holds c cs (Memᴰ.tail {xs = others} m) same = each_holds c others m (cc)

-- ---- the numbers

numbers : map computed table ≡ map printed table
unfolding if_below if_same run_of listed sum◌from◌to◌ line_from arrival excess departure missed at_first_missed counts
    pairs_total total leaving aboard run_from excess_on arrival_on keep_cost go_cost cell_by
    choice begins policy_by decide
    better first_least rows_of
numbers = refl

pub cases : CasesHold
unfolding line_from
cases =
    record {
      each = λ c m. each_holds c table m numbers;
      slacks_b = λ T delay. (refl, refl);
      slack_c = refl;
      slack_d = refl;
    }

-- each case by its place in the table, from 0
listed_at : (cs : List Case) (n : ℕ) (d : Case) → n < length cs → Memᴰ (get_or cs n d) cs
listed_at [] n d h = absurd (omega arith)
listed_at (c ∷ cs) zero d h = Memᴰ.head refl
listed_at (c ∷ cs) (suc n) d h = Memᴰ.tail (listed_at cs n d (omega arith))

pub case_at : (n : ℕ) → n < length table → Holds (get_or table n (plan line_a a))
case_at n h = cases.each _ (listed_at table n _ h)
