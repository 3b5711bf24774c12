-- The contracts can be kept for every sheet of bytes, every report and all buffers. Where no check fails, the cells in
-- use of the rows to be worked are those of the worked table, and the others stay; the rest is read off.
-- Assumes nothing.
use Rattle.std.proofs.Common.{◌≡◌, refl, sym, ap, ap₂, ◌∙◌, List, ◌⊎◌, inl, inr, ℕ, ◌+◌, ◌≤◌, ◌<◌, le_refl, arith}
use Rattle.std.proofs.Common.{length, get_or, replicate}
use lib.ListN.{get_or-eq_default}
use Rattle.std.specs.Prelude.{if◌then◌else◌, Ok, Err}
use Rattle.std.proofs.lemmas.Bool.{cond-false, cases_lt}
use Rattle.lists.specs.Run.{listed, padded}
use Rattle.lists.proofs.Run.{listed_length, listed_at}
use Rattle.bits.specs.Field.{Bytes}
use Rattle.bits.proofs.Puts.{puttable}
use Rattle.terms.specs.declared.Refusal.{Refusal}
use Rattle.terms.specs.Verdict.{Fine}
use Rattle.terms.specs.Refusal.{blanks_of}
use Rattle.terms.proofs.Checks.{refused_not_fine, fine_or_refused}
use Rattle.line.specs.Line.{line_from}
use Rattle.line.specs.Policy.{Policy, arrival}
use Rattle.line.specs.Cells.{Table, Book, book_of, Worked, decide}
use Rattle.line.proofs.Alike.{books_alike_refl, cell_by_alike}
use Rattle.line.proofs.Tables.{worked_table, worked_exists}
use Rattle.sheet.specs.Numbers.{numbers_of}
use Rattle.sheet.specs.Format.{trains_of}
use Rattle.sheet.specs.Accepted.{AcceptedSheet, DelayReplaced}
use Rattle.sheet.proofs.Amend.{replaced_accepted}
use Rattle.cells.specs.Place.{cell_count, place, table_of, InUse, RowsWorked}
use Rattle.cells.specs.Shown.{shown}
use Rattle.cells.proofs.Places.{place_lt, place_one, in_use_or_not, table_in, table_past}
use Rattle.prepare.specs.LineOf.{line_of}
use Rattle.planner.specs.Buffers.{Buffers, buffers, RefusedFor}
use Rattle.planner.specs.Settled.{Settled}
use Rattle.planner.specs.Plan.{plan_verdict}
use Rattle.planner.specs.Report.{report_verdict}
use Rattle.planner.proofs.Refusals.{accepted_of_plan, accepted_of_report}
use Rattle.planner.proofs.Replacing.{delay_room}
use Rattle.planner.proofs.Outcome.{outcome_accepted, outcome_refused, settled_planned}
use Rattle.demands.specs.Calling.{operations}
use Rattle.demands.specs.Answered.{PlanPossible, ReportPossible}

-- ---- the cells with rows 1 to t worked

module _ (B : Book) (few : B.trains ≤ 64) (t : ℕ) (old : List ℕ) where
  abbrev m : ℕ
  m = B.trains

  abbrev table : Table
  table = worked_table B t (table_of m old)

  -- what belongs in place p, in use or not
  put : (p : ℕ) → InUse m t p ⊎ ¬ (InUse m t p) → ℕ
  put p (inl u) = table u.row u.cell.column
  put p (inr n) = get_or old p 0

  worked_cells : List ℕ
  worked_cells = listed (λ p. put p (in_use_or_not m t p few)) 0 cell_count

  cells_long : length worked_cells ≡ cell_count
  unfolding worked_cells
  cells_long = listed_length _ 0 cell_count

  cell_there : (p : ℕ) → p < cell_count → get_or worked_cells p 0 ≡ put p (in_use_or_not m t p few)
  unfolding worked_cells
  cell_there p l =
      let e : 0 + p ≡ p = omega arith in
      listed_at _ 0 0 cell_count p l ∙ ap (λ (q : ℕ). put q (in_use_or_not m t q few)) e

  -- a cell of the line has the table's number, in a row that is worked and in one that stands
  put_used : (k l : ℕ) → 1 ≤ k → k ≤ l → l ≤ m → (x : InUse m t (place m k l) ⊎ ¬ (InUse m t (place m k l)))
      → put (place m k l) x ≡ table k l
  unfolding put
  put_used k l a b c (inl u) =
      let same = place_one m k l u.row u.cell.column few a b c u.least u.cell.run u.cell.last
      u.cell.stands in
      ap₂ table (sym same.0) (sym same.1)
  put_used k l a b c (inr n) = elim (cases_lt t k) [
    | inl later ↦ sym (table_in m old k l c) ∙ sym ((worked_exists B t (table_of m old)).stand k l later b c)
    | inr most ↦
        absurd (n (record {
          row = k;
          least = a;
          most = most;
          cell = record { column = l; run = b; last = c; stands = refl };
        }))
  ]

  put_unused : (p : ℕ) (x : InUse m t p ⊎ ¬ (InUse m t p)) → ¬ (InUse m t p) → put p x ≡ get_or old p 0
  unfolding put
  put_unused p (inl u) n = absurd (n u)
  put_unused p (inr u) n = refl

  used : (k l : ℕ) → 1 ≤ k → k ≤ l → l ≤ m → table_of m worked_cells k l ≡ table k l
  used k l a b c =
      table_in m worked_cells k l c ∙ cell_there (place m k l) (place_lt m k l a b c few) ∙ put_used k l a b c _

  others : length old ≡ cell_count → (p : ℕ) → ¬ (InUse m t p) → get_or worked_cells p 0 ≡ get_or old p 0
  others long p n = elim (cases_lt p cell_count) [
    | inl l ↦ cell_there p l ∙ put_unused p _ n
    | inr l ↦
        get_or-eq_default worked_cells 0 (omega (arith, cells_long))
        ∙ sym (get_or-eq_default old 0 (omega (arith, long)))
  ]

  -- the cell after (k, l), in use or past the last
  next : (k l : ℕ) → 1 ≤ k → k ≤ l → l ≤ m → table k (l + 1) ≡ table_of m worked_cells k (l + 1)
  next k l a b c = elim (cases_lt m (l + 1)) [
    | inl x ↦
        let e : m + 1 ≡ l + 1 = omega arith in
        ap (table k) (sym e) ∙ (worked_exists B t (table_of m old)).last k ∙ sym (table_past m worked_cells k (l + 1) x)
    | inr x ↦ sym (used k (l + 1) a (omega arith) x)
  ]

  table_worked : Worked B t (table_of m old) (table_of m worked_cells)
  table_worked =
      record {
        last = λ k. table_past m worked_cells k (m + 1) (omega arith);
        anew = λ k l a b c d.
            used k l a c d
            ∙ (worked_exists B t (table_of m old)).anew k l a b c d
            ∙ cell_by_alike k B B a (books_alike_refl k B) table (table_of m worked_cells) l c d (next k l a c d)
            (λ u. sym (used l l (omega arith) (le_refl l) d));
        stand = λ k l a b c. used k l (omega arith) b c ∙ (worked_exists B t (table_of m old)).stand k l a b c;
      }

  rows_worked : length old ≡ cell_count → RowsWorked B t old worked_cells
  rows_worked long = record { long = cells_long ∙ sym long; worked = table_worked; others = others long }

-- ---- what is settled

record Settleable (B : Book) (t : ℕ) (before : Buffers) : Type 0 where
  after : Buffers
  total : ℕ
  settled : Settled B t before after total

settleable : (B : Book) (t : ℕ) (before : Buffers) → B.trains ≤ 64 → length before.cells ≡ cell_count
    → Settleable B t before
settleable B t before few long =
    let cells = worked_cells B few t before.cells in
    let read : Policy = decide B (table_of B.trains cells) in
    record {
      after = buffers cells (shown B.trains read) (padded 64 B.trains (arrival B.running read));
      total = table_of B.trains cells 1 1;
      settled = record {
        cells = rows_worked B few t before.cells long;
        walked = record { decisions = refl; delays = refl };
        total = refl;
      };
    }

-- ---- what a refusal leaves

blanks_for : Refusal → Buffers → Buffers
blanks_for r b = if blanks_of r then buffers b.cells (replicate 64 2) (replicate 64 0) else b

refuses : (r : Refusal) (before : Buffers) → RefusedFor r before (blanks_for r before)
unfolding blanks_for
refuses r before =
    record {
      blanked = λ yes.
          rw yes (record { decisions = refl; delays = refl; cells = refl });
      kept = λ no. cond-false _ _ _ no;
    }

-- ---- plan

pub plan_possible : (s : List ℕ) (before : Buffers) → PlanPossible operations tt s before
unfolding line_of line_from
plan_possible s before = elim (fine_or_refused (plan_verdict s before)) [
  | inl fine ↦
      let told = accepted_of_plan s before fine in
      let L = line_of (numbers_of s) in
      let done = settleable (book_of L) L.trains before told.1.numbers.trains_most told.0.cells in
      record {
        after = done.after;
        answer = Ok done.total;
        plan = outcome_accepted _ _ before _ (sym fine)
            (settled_planned L _ before done.after done.total refl done.settled);
      }
  | inr (r, e) ↦
      record {
        after = blanks_for r before;
        answer = Err r;
        plan = outcome_refused _ _ before _ r (sym e) (refuses r before);
      }
]

-- ---- report

module _ (s : List ℕ) (bytes : Bytes s) (i v : ℕ) (before : Buffers) where
  -- the new delay can be put into an accepted sheet
  amendable : AcceptedSheet s → 1 ≤ i → i ≤ trains_of s → v ≤ 1440 → (t : List ℕ) × DelayReplaced s i v t
  amendable ok least most small =
      let room = delay_room s i v ok least most small in
      let found = puttable s _ 11 v bytes room.within.inside (omega arith) in
      (found.result, record { bytes = found.bytes; put = found.put })

  when_fine : report_verdict s i v before ≡ Fine → ReportPossible operations tt s i v before
  unfolding line_of line_from
  when_fine fine =
      let told = accepted_of_report s i v before fine in
      let report = told.2 in
      let (t, put) = amendable told.1 report.least report.most report.delay in
      let ok = replaced_accepted s t i v told.1 report.least report.most put report.delay in
      let done = settleable (book_of (line_of (numbers_of t))) i before ok.numbers.trains_most told.0.cells in
      record {
        sheet = t;
        after = done.after;
        answer = Ok done.total;
        report = record {
          outcome = outcome_accepted _ _ before _ (sym fine) (record { sheet = put; settled = done.settled });
          kept = λ r e. refused_not_fine (sym e ∙ fine);
        };
      }

  pub report_possible : ReportPossible operations tt s i v before
  report_possible = elim (fine_or_refused (report_verdict s i v before)) [
    | inl fine ↦ when_fine fine
    | inr (r, e) ↦
        record {
          sheet = s;
          after = blanks_for r before;
          answer = Err r;
          report = record {
            outcome = outcome_refused _ _ before _ r (sym e) (refuses r before);
            kept = λ q f. refl;
          };
        }
  ]
