-- A policy that is read off cells, whatever they hold: its runs are those by which it was read off, because the cells
-- go only where there is an excess, so that each go is a miss and begins a run.
-- Assumes nothing.
use Rattle.std.proofs.Common.{◌≡◌, refl, ap, sym, ◌∙◌, inl, inr, true, ℕ, zero, suc, ◌+◌, ◌-◌, ◌≤◌, ◌<◌, le_refl}
use Rattle.std.proofs.Common.{le_of_eq, eq-or-lt_of_le, arith}
use Rattle.lists.specs.Choice.{if_below}
use Rattle.lists.proofs.Choice.{below_yes, below_no}
use Rattle.std.proofs.lemmas.Bool.{cases_lt}
use Rattle.lists.proofs.Induction.{up}
use Rattle.line.specs.Line.{Running}
use Rattle.line.specs.Policy.{Decision, Keep, Go, Policy, arrival, excess, departure, missed, Day, day_of}
use Rattle.line.specs.Cells.{Table, Along, Book, arrival_on, choice, under, begins, policy_by, decide}
use Rattle.line.proofs.Following.{keep_or_go, keep_not_go, first_on_time, go_departs, keep_maintains, go_misses}
use Rattle.line.proofs.Starts.{start_of, start_le, start_earlier, start_missed, start_maintained, start_second}
use Rattle.line.proofs.Along.{start_arrives, start_excess}
use Rattle.line.proofs.Choices.{choice_no_excess, choice_go, choice_start}

-- a policy that goes where the cells go misses there
pub goes_missed : (B : Book) (c : Table) (p : Policy) (k : ℕ) → 1 ≤ k → departure B.running p k ≡ 0
    → (s : ℕ) → k ≤ s → choice B c (start_of (day_of B.running p) k s) s ≡ Go → p s ≡ Go
    → missed B.running p s ≡ true
goes_missed B c p k pos on_time s a go same =
    elim (eq-or-lt_of_le (start_le (day_of B.running p) k s a).1) [
      | inl e ↦ keep_not_go (sym (choice_start B c _ s (le_of_eq (sym e))) ∙ go)
      | inr l ↦
          go_misses B.running p s same
          (rw (start_excess B.running p k pos on_time s a l) (choice_go B c _ s go).2)
    ]

-- ---- rules

module _ {b : Decision} (x y : ℕ) where
  under_keep : b ≡ Keep → under b x y ≡ x
  under_keep e = rw e

  under_go : b ≡ Go → under b x y ≡ y
  under_go e = rw e

module _ (rule : ℕ → ℕ → Decision) where
  pub begins_next : (i : ℕ) → begins rule (i + 1) ≡ under (rule (begins rule i) (i + 1)) (begins rule i) (i + 1)
  begins_next i = let e : i + 1 ≡ suc i = omega arith in rw e (unfold begins in refl)

  pub policy_by_next : (i : ℕ) → policy_by rule (i + 1) ≡ rule (begins rule i) (i + 1)
  unfolding policy_by
  policy_by_next i = let e : i + 1 - 1 ≡ i = omega arith in ap (λ (j : ℕ). rule (begins rule j) (i + 1)) e

  -- The first run begins with train 1.
  pub begins_first : begins rule 1 ≡ 1
  unfolding begins
  begins_first = either (rule 1 1)
    where
      either : (b : Decision) → under b 1 1 ≡ 1
      either Keep = refl
      either Go = refl

  -- the run of train i begins with one of trains 1 to i
  pub begins_le : (i : ℕ) → 1 ≤ i → (1 ≤ begins rule i) × (begins rule i ≤ i)
  begins_le i a =
      up (λ (j : ℕ). (1 ≤ begins rule j) × (begins rule j ≤ j)) 1 i a
      (le_of_eq (sym begins_first), le_of_eq begins_first)
      (λ j u v h. elim (keep_or_go (rule (begins rule j) (j + 1))) [
        | inl keep ↦ let e = begins_next j ∙ under_keep _ _ keep in omega arith
        | inr go ↦ let e = begins_next j ∙ under_go _ _ go in omega arith
      ])

-- The rule lets train k depart with delay 0 and begin a run, keeps that run up to station l, and from there on does
-- what the cells say.
pub record Obeys (B : Book) (c : Table) (k l : ℕ) (rule : ℕ → ℕ → Decision) : Type 0 where
  pub on_time : departure B.running (policy_by rule) k ≡ 0
  pub first : begins rule k ≡ k
  pub before : (j s : ℕ) → k < s → s < l → rule j s ≡ Keep
  pub after : (j s : ℕ) → k < s → l ≤ s → rule j s ≡ choice B c j s

module _ (B : Book) (c : Table) (k l : ℕ) (rule : ℕ → ℕ → Decision) (pos : 1 ≤ k) (obeys : Obeys B c k l rule) where
  abbrev R : Running
  R = B.running

  abbrev p : Policy
  p = policy_by rule

  abbrev D : Day
  D = day_of B.running (policy_by rule)

  pub obeys_along : Along R p k l
  unfolding policy_by
  obeys_along =
      record { on_time = obeys.on_time; maintained = λ s u v. keep_maintains R p s (obeys.before _ s u v) }

  -- a go of the rule is a miss, on runs that are its policy's
  rule_go_misses : (s : ℕ) → k < s → (j : ℕ) → j ≡ start_of D k s → rule j s ≡ Go → p s ≡ Go → missed R p s ≡ true
  rule_go_misses s a j e go same = elim (cases_lt s l) [
    | inl x ↦ keep_not_go (sym (obeys.before j s a x) ∙ go)
    | inr x ↦
        let chosen = ap (λ (i : ℕ). choice B c i s) (sym e) ∙ sym (obeys.after j s a x) ∙ go in
        goes_missed B c p k pos obeys.on_time s (omega arith) chosen same
  ]

  -- the run of train i under the rule is that of its policy, which reaches station i + 1
  pub begins_start : (i : ℕ) → k ≤ i → begins rule i ≡ start_of D k (i + 1)
  begins_start i u =
      up (λ (j : ℕ). begins rule j ≡ start_of D k (j + 1)) k i u (obeys.first ∙ sym (start_second D k))
      (λ j v w e. begins_next rule j ∙ (elim (keep_or_go (rule (begins rule j) (j + 1))) [
        | inl keep ↦
            under_keep _ _ keep ∙ e
            ∙ sym (start_maintained D k (j + 1) (keep_maintains R p (j + 1) (policy_by_next rule j ∙ keep)))
        | inr go ↦
            let missed = rule_go_misses (j + 1) (omega arith) (begins rule j) e go (policy_by_next rule j ∙ go) in
            under_go _ _ go ∙ sym (start_missed D k (j + 1) (omega arith) missed)
      ]))

  -- so the policy does what the cells say on its own runs
  pub obeys_does : (s : ℕ) → k < s → l ≤ s → p s ≡ choice B c (start_of D k s) s
  unfolding policy_by
  obeys_does s u v =
      let here : s - 1 + 1 ≡ s = omega arith in
      obeys.after (begins rule (s - 1)) s u v
      ∙ ap (λ (j : ℕ). choice B c j s) (begins_start (s - 1) (omega arith) ∙ ap (start_of D k) here)

-- ---- the two rules that are followed

module _ (B : Book) (c : Table) where
  -- what the cells say, from train 1 on
  pub cells_obey : Obeys B c 1 1 (choice B c)
  cells_obey =
      record {
        on_time = first_on_time B.running (policy_by (choice B c));
        first = begins_first (choice B c);
        before = λ j s u v. absurd (omega arith);
        after = λ j s u v. refl;
      }

  -- go up to train k, keep up to station l, and then what the cells say
  pub from_cell : ℕ → ℕ → ℕ → ℕ → Decision
  from_cell k l j s = if_below k s (if_below s l Keep (choice B c j s)) Go

  goes_at : (k l j : ℕ) → from_cell k l j k ≡ Go
  unfolding from_cell
  goes_at k l j = below_no _ _ (le_refl k)

  begins_at : (k l : ℕ) → 1 ≤ k → begins (from_cell k l) k ≡ k
  begins_at zero l pos = absurd (omega arith)
  begins_at (suc k) l pos = unfold begins in under_go _ _ (goes_at (suc k) l _)

  pub from_cell_obeys : (k l : ℕ) → 1 ≤ k → Obeys B c k l (from_cell k l)
  unfolding from_cell
  from_cell_obeys k l pos =
      record {
        on_time = go_departs B.running (policy_by (from_cell k l)) k (unfold policy_by in goes_at k l _);
        first = begins_at k l pos;
        before = λ j s u v. below_yes _ _ u ∙ below_yes _ _ v;
        after = λ j s u v. below_yes _ _ u ∙ below_no _ _ v;
      }

-- ---- what is read off any cells

module _ (B : Book) (c : Table) where
  abbrev decided : Policy
  decided = decide B c

  -- each train arrives as on the run that it is on,
  pub decided_arrives : (i : ℕ) → 1 ≤ i
      → arrival B.running decided i ≡ arrival_on B.running (begins (choice B c) i) i
  unfolding decide
  decided_arrives i a =
      start_arrives B.running decided 1 (omega arith) (cells_obey B c).on_time i a
      ∙ ap (λ (j : ℕ). arrival_on B.running j i)
      (sym (begins_start B c 1 1 (choice B c) (omega arith) (cells_obey B c) i a))

  -- and a station with excess 0 shows keep
  pub decided_shows_keep : (s : ℕ) → 2 ≤ s → excess B.running decided s ≡ 0 → decided s ≡ Keep
  unfolding decide
  decided_shows_keep s a none =
      let run = cells_obey B c in
      let late = start_excess B.running decided 1 (omega arith) run.on_time s (omega arith)
      (start_earlier _ 1 s a) in
      obeys_does B c 1 1 (choice B c) (omega arith) run s a (omega arith) ∙ choice_no_excess B c _ s (sym late ∙ none)
