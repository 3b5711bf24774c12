-- Where runs begin: those who board at station k or later ride on the run that began with the last missed train, or
-- with train k.
--   start_of D k s   the first train of the run that reaches station s
-- Assumes nothing.
use Rattle.std.proofs.Common.{◌≡◌, ap, sym, ◌∙◌, Bool, true, false, true≢false, inl, inr, ℕ, zero, suc, ◌+◌, ◌-◌, ◌≤◌}
use Rattle.std.proofs.Common.{◌<◌, max, le_refl, eq-or-lt_of_le, arith}
use Rattle.std.specs.Prelude.{if◌then◌else◌}
use Rattle.std.proofs.lemmas.Bool.{cond-true, cond-false, cases_Bool}
use Rattle.lists.proofs.Induction.{up}
use Rattle.line.specs.Policy.{Day}
use Rattle.line.proofs.Passengers.{Clear}

-- the last station before s that is missed, or 0
unfoldable pub last_missed : Day → ℕ → ℕ
last_missed D zero = 0
last_missed D (suc s) = if D.missed s then s else last_missed D s

unfoldable pub start_of : Day → ℕ → ℕ → ℕ
start_of D k s = max k (last_missed D s)

pub clear_next : (D : Day) (i s : ℕ) → Clear D i s → D.missed s ≡ false → Clear D i (s + 1)
clear_next D i s clear m r a b = elim (eq-or-lt_of_le b) [
  | inl e ↦ let same : r ≡ s = omega arith in ap D.missed same ∙ m
  | inr c ↦ clear r a (omega arith)
]

module _ (D : Day) where
  last_le : (s : ℕ) → last_missed D s ≤ s
  unfolding last_missed
  last_le zero = le_refl 0
  last_le (suc s) = either (D.missed s) (last_le s)
    where
      either : (b : Bool) {x : ℕ} → x ≤ s → (if b then s else x) ≤ suc s
      either true h = omega arith
      either false h = omega arith

  last_next : (s : ℕ) → last_missed D (s + 1) ≡ (if D.missed s then s else last_missed D s)
  unfolding last_missed
  last_next s = let e : s + 1 ≡ suc s = omega arith in ap (last_missed D) e

module _ (D : Day) (k : ℕ) where
  pub start_le : (s : ℕ) → k ≤ s → (k ≤ start_of D k s) × (start_of D k s ≤ s)
  unfolding start_of
  start_le s l = let u : last_missed D s ≤ s = last_le D s in omega arith

  pub start_first : start_of D k k ≡ k
  start_first = let b = start_le k (le_refl k) in omega arith

  -- a miss begins the next run
  pub start_missed : (s : ℕ) → k ≤ s → D.missed s ≡ true → start_of D k (s + 1) ≡ s
  unfolding start_of
  start_missed s l m = let e : last_missed D (s + 1) ≡ s = last_next D s ∙ cond-true _ _ _ m in omega arith

  pub start_maintained : (s : ℕ) → D.missed s ≡ false → start_of D k (s + 1) ≡ start_of D k s
  unfolding start_of
  start_maintained s m =
      let e : last_missed D (s + 1) ≡ last_missed D s = last_next D s ∙ cond-false _ _ _ m in omega arith

  -- train s is on a run that begins with it or before
  pub start_before : (s : ℕ) → k ≤ s → start_of D k (s + 1) ≤ s
  start_before s l = elim (cases_Bool (D.missed s)) [
    | inl m ↦ omega (arith, start_missed s l m)
    | inr m ↦ omega (arith, start_maintained s m, start_le s l)
  ]

  pub start_earlier : (s : ℕ) → k < s → start_of D k s < s
  start_earlier s l =
      let here : s - 1 + 1 ≡ s = omega arith in
      let before = rw here at (start_before (s - 1) (omega arith)) in
      omega arith

  -- nothing is missed on the run that reaches s
  pub start_clear : (s : ℕ) → k ≤ s → Clear D (start_of D k s) s
  start_clear s l =
      up (λ (j : ℕ). Clear D (start_of D k j) j) k s l
      (λ r a b. absurd (omega (arith, start_first)))
      (λ j a b clear r c d. elim (cases_Bool (D.missed j)) [
        | inl m ↦ absurd (omega (arith, start_missed j a m))
        | inr m ↦ clear_next D (start_of D k j) j clear m r (omega (arith, start_maintained j m)) d
      ])

  -- where nothing is missed after k, the run from k goes on
  pub start_through : (s : ℕ) → k ≤ s → Clear D k s → start_of D k s ≡ k
  start_through s l clear =
      up (λ (j : ℕ). start_of D k j ≡ k) k s l start_first
      (λ j a b e. elim (cases_Bool (D.missed j)) [
        | inr m ↦ start_maintained j m ∙ e
        | inl m ↦ start_missed j a m ∙ elim (eq-or-lt_of_le a) [
          | inl same ↦ sym same
          | inr c ↦ absurd (true≢false (sym m ∙ clear j c b))
        ]
      ])

  -- the station after k is reached by train k
  pub start_second : start_of D k (k + 1) ≡ k
  start_second = start_through (k + 1) (omega arith) (λ s a b. absurd (omega arith))

-- days alike after k have the same runs
pub start_alike : (D E : Day) (k s : ℕ) → k < s → ((r : ℕ) → k < r → r < s → D.missed r ≡ E.missed r)
    → start_of D k s ≡ start_of E k s
start_alike D E k s l same =
    up (λ (j : ℕ). start_of D k j ≡ start_of E k j) (k + 1) s (omega arith) (start_second D k ∙ sym (start_second E k))
    (λ j a b e. elim (cases_Bool (D.missed j)) [
      | inl m ↦ start_missed D k j (omega arith) m
          ∙ sym (start_missed E k j (omega arith) (sym (same j (omega arith) b) ∙ m))
      | inr m ↦ start_maintained D k j m ∙ e ∙ sym (start_maintained E k j (sym (same j (omega arith) b) ∙ m))
    ])
