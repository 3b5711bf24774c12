-- What comes of a policy, sentence by sentence of document 01.
-- Assumes nothing.
use Rattle.std.proofs.Common.{◌≡◌, refl, ap, ◌⊎◌, inl, inr, true, false, ℕ, zero, suc, ◌+◌, ◌-◌, ◌≤◌, ◌<◌, arith}
use Rattle.line.specs.Line.{Running}
use Rattle.line.specs.Policy.{Decision, Keep, Go, Policy, departs, misses, arrival, excess, departure, missed}

pub keep_or_go : (b : Decision) → (b ≡ Keep) ⊎ (b ≡ Go)
keep_or_go Keep = inl refl
keep_or_go Go = inr refl

pub keep_not_go : {A : Type 0} → Keep ≡ Go → A
keep_not_go e = cc

module _ (R : Running) (p : Policy) where
  -- Train 1 departs with delay 0: whatever the slack and the policy.
  pub first_on_time : departure R p 1 ≡ 0
  unfolding departure excess arrival
  first_on_time = either (p 1) _ (omega arith)
    where
      either : (b : Decision) (e : ℕ) → e ≡ 0 → departs b e ≡ 0
      either Keep e h = h
      either Go e h = refl

  -- A train arrives by its departure delay.
  pub arrival_departed : (i : ℕ) → 1 ≤ i → arrival R p i ≡ R.arrive i (departure R p i)
  unfolding arrival departure excess
  arrival_departed zero l = absurd (omega arith)
  arrival_departed (suc i) l = let e : suc i - 1 ≡ i = omega arith in rw e

  -- The excess is what the slack leaves of the arrival delay.
  pub excess_next : (i : ℕ) → excess R p (i + 1) ≡ arrival R p i - R.slack (i + 1)
  unfolding excess
  excess_next i = let e : i + 1 - 1 ≡ i = omega arith in ap (λ (j : ℕ). arrival R p j - R.slack (i + 1)) e

module _ (R : Running) (p : Policy) (s : ℕ) where
  -- Under keep the train departs late by exactly the excess, and the transfer is maintained.
  pub keep_departs : p s ≡ Keep → departure R p s ≡ excess R p s
  unfolding departure
  keep_departs e = rw e

  pub keep_maintains : p s ≡ Keep → missed R p s ≡ false
  unfolding missed
  keep_maintains e = rw e

  -- Under go it departs with delay 0.
  pub go_departs : p s ≡ Go → departure R p s ≡ 0
  unfolding departure
  go_departs e = rw e

  -- A station with excess 0 maintains its transfer under either decision.
  pub no_excess_maintains : excess R p s ≡ 0 → missed R p s ≡ false
  unfolding missed
  no_excess_maintains e = rw e (either (p s))
    where
      either : (b : Decision) → misses b 0 ≡ false
      either Keep = refl
      either Go = refl

  -- Where the transfer is maintained the train departs late by the excess, whatever the decision.
  pub maintained_departs : missed R p s ≡ false → departure R p s ≡ excess R p s
  unfolding missed departure
  maintained_departs = either (p s) (excess R p s)
    where
      either : (b : Decision) (e : ℕ) → misses b e ≡ false → departs b e ≡ e
      either Keep e h = refl
      either Go zero h = refl
      either Go (suc e) h = cc

  -- A transfer is missed under go, with an excess.
  pub missed_when : missed R p s ≡ true → (p s ≡ Go) × (0 < excess R p s)
  unfolding missed
  missed_when = either (p s) (excess R p s)
    where
      either : (b : Decision) (e : ℕ) → misses b e ≡ true → (b ≡ Go) × (0 < e)
      either Keep e h = cc
      either Go zero h = cc
      either Go (suc e) h = (refl, omega arith)

  pub go_misses : p s ≡ Go → 0 < excess R p s → missed R p s ≡ true
  unfolding missed
  go_misses e = rw e (late (excess R p s))
    where
      late : (e : ℕ) → 0 < e → misses Go e ≡ true
      late zero l = absurd (omega arith)
      late (suc e) l = refl
