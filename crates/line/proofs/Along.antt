-- The run from train k, and a policy along its own runs: it is late and arrives as the run does on which it rides.
-- Assumes nothing.
use Rattle.std.proofs.Common.{◌≡◌, sym, ◌∙◌, inl, inr, ℕ, ◌+◌, ◌-◌, ◌≤◌, ◌<◌, le_refl, arith}
use Rattle.std.proofs.lemmas.Bool.{cases_Bool}
use Rattle.lists.proofs.Choice.{below_yes, below_no}
use Rattle.lists.proofs.Induction.{up}
use Rattle.line.specs.Line.{Running}
use Rattle.line.specs.Policy.{Keep, Go, Policy, arrival, excess, departure, missed, Day, day_of}
use Rattle.line.specs.Cells.{Along, run_from, excess_on, arrival_on}
use Rattle.line.proofs.Following.{arrival_departed, excess_next, keep_departs, go_departs, missed_when}
use Rattle.line.proofs.Following.{maintained_departs}
use Rattle.line.proofs.Days.{arrivals_alike, excesses_alike, run_alike_refl}
use Rattle.line.proofs.Starts.{start_of, start_le, start_first, start_missed, start_maintained, start_before}
use Rattle.line.proofs.Starts.{start_clear}

-- ---- the run from train k

module _ (R : Running) (k : ℕ) where
  run_goes : (i : ℕ) → i ≤ k → run_from k i ≡ Go
  unfolding run_from
  run_goes i l = below_no Keep Go l

  run_keeps : (i : ℕ) → k < i → run_from k i ≡ Keep
  unfolding run_from
  run_keeps i l = below_yes Keep Go l

  -- it begins on time
  pub excess_on_start : (l : ℕ) → l ≤ k → excess_on R k l ≡ 0
  unfolding excess_on
  excess_on_start l h = go_departs R (run_from k) l (run_goes l h)

  excess_on_keeps : (l : ℕ) → k < l → excess_on R k l ≡ excess R (run_from k) l
  unfolding excess_on
  excess_on_keeps l h = keep_departs R (run_from k) l (run_keeps l h)

  -- and goes on: the excess is what the slack leaves of the arrival delay
  pub excess_on_next : (l : ℕ) → k ≤ l → excess_on R k (l + 1) ≡ arrival_on R k l - R.slack (l + 1)
  unfolding arrival_on
  excess_on_next l h = excess_on_keeps (l + 1) (omega arith) ∙ excess_next R (run_from k) l

  pub arrival_on_departed : (l : ℕ) → 1 ≤ l → arrival_on R k l ≡ R.arrive l (excess_on R k l)
  unfolding arrival_on excess_on
  arrival_on_departed l h = arrival_departed R (run_from k) l h

  -- a policy along that run is late as it is, and arrives as it does
  module _ (p : Policy) (l : ℕ) (pos : 1 ≤ k) (on : Along R p k l) where
    first_departs_alike : departure R p k ≡ departure R (run_from k) k
    first_departs_alike = on.on_time ∙ sym (go_departs R (run_from k) k (run_goes k (le_refl k)))

    departs_alike : (n : ℕ) → n < l → (s : ℕ) → k < s → s ≤ n → excess R p s ≡ excess R (run_from k) s
        → departure R p s ≡ departure R (run_from k) s
    departs_alike n b s c d e =
        maintained_departs R p s (on.maintained s c (omega arith)) ∙ e
        ∙ sym (keep_departs R (run_from k) s (run_keeps s c))

    pub along_arrives : (n : ℕ) → k ≤ n → n < l → arrival R p n ≡ arrival_on R k n
    unfolding arrival_on
    along_arrives n a b =
        arrivals_alike k n R R p (run_from k) pos (run_alike_refl k n R) first_departs_alike
        n a (le_refl n) (departs_alike n b)

    pub along_excess : k < l → excess R p l ≡ excess_on R k l
    along_excess h =
        excesses_alike k l R R p (run_from k) pos (run_alike_refl k l R) first_departs_alike
        (l - 1) l (omega arith) (omega arith) (omega arith) (departs_alike (l - 1) (omega arith))
        ∙ sym (excess_on_keeps l h)

-- ---- a policy along its own runs, train k departing with delay 0

module _ (R : Running) (p : Policy) (k : ℕ) (pos : 1 ≤ k) (on_time : departure R p k ≡ 0) where
  abbrev D : Day
  D = day_of R p

  abbrev start : ℕ → ℕ
  start s = start_of (day_of R p) k s

  pub along_start : (s : ℕ) → k ≤ s → Along R p (start s) s
  along_start s l = record { on_time = departs s l; maintained = start_clear D k s l }
    where
      departs : (s : ℕ) → k ≤ s → departure R p (start s) ≡ 0
      departs s l =
          up (λ (j : ℕ). departure R p (start j) ≡ 0) k s l
          (rw (start_first D k) on_time)
          (λ j a b e. elim (cases_Bool (missed R p j)) [
            | inl m ↦ rw (start_missed D k j a m) (go_departs R p j (missed_when R p j m).0)
            | inr m ↦ rw (start_maintained D k j m) e
          ])

  pub start_arrives : (s : ℕ) → k ≤ s → arrival R p s ≡ arrival_on R (start (s + 1)) s
  start_arrives s a =
      let next = start_le D k (s + 1) (omega arith) in
      along_arrives R (start (s + 1)) p (s + 1) (omega arith) (along_start (s + 1) (omega arith)) s
      (start_before D k s a) (omega arith)

  pub start_excess : (s : ℕ) → k ≤ s → start s < s → excess R p s ≡ excess_on R (start s) s
  start_excess s a l =
      let begin = start_le D k s a in
      along_excess R (start s) p s (omega arith) (along_start s a) l
