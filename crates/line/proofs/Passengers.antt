-- What passengers count: who is dropped and who is not; and the sums of passengers.
-- Assumes nothing.
use Rattle.std.proofs.Common.{◌≡◌, refl, ap, sym, subst, ◌∙◌, Bool, true, false, ℕ, ◌+◌, ◌-◌, ◌*◌, ◌≤◌, ◌<◌, arith}
use Rattle.std.specs.Prelude.{if◌then◌else◌}
use Rattle.lists.specs.Run.{run_of}
use Rattle.std.proofs.lemmas.Bool.{cond-true, cond-false}
use Rattle.lists.proofs.Run.{run_next, run_none}
use Rattle.lists.proofs.Induction.{down}
use Rattle.line.specs.Line.{Line}
use Rattle.line.specs.Policy.{Day, at_first_missed, dropped, counts, pairs_total}
use Rattle.line.specs.Sum.{sum◌from◌to◌}
use Rattle.line.specs.Cells.{leaving, aboard}
use Rattle.line.proofs.Sums.{over, sum_over, sum_below, over_split, over_same}

-- no transfer at a station strictly between i and j is missed
abbrev pub Clear : Day → ℕ → ℕ → Type 0
Clear D i j = (s : ℕ) → i < s → s < j → D.missed s ≡ false

-- ---- the first missed station, of those between i and t + 1

module _ {A : Type 0} (D : Day) (f : ℕ → A) (none : A) where
  abbrev ask : ℕ → A → A
  ask s later = if D.missed s then f s else later

  -- there is none between t and t + 1
  first_none : (t : ℕ) → at_first_missed D t (t + 1) f none ≡ none
  unfolding at_first_missed
  first_none t = run_none ask none (λ s. s) (t + 1) (t + 1 - 1 - t) (omega arith)

  first_next : (i t : ℕ) → i < t
      → at_first_missed D i (t + 1) f none
      ≡ (if D.missed (i + 1) then f (i + 1) else at_first_missed D (i + 1) (t + 1) f none)
  unfolding at_first_missed
  first_next i t l =
      let e : t + 1 - 1 - i - 1 ≡ t + 1 - 1 - (i + 1) = omega arith in
      run_next ask none (λ s. s) (i + 1) (t + 1 - 1 - i) (omega arith)
      ∙ ap (λ (n : ℕ). ask (i + 1) (run_of ask none (λ s. s) (i + 1 + 1) n)) e

  first_clear : (i n t : ℕ) → i ≤ n → n ≤ t → Clear D i (n + 1)
      → at_first_missed D i (t + 1) f none ≡ at_first_missed D n (t + 1) f none
  first_clear i n t l u clear =
      down (λ (h : ℕ). at_first_missed D h (t + 1) f none ≡ at_first_missed D n (t + 1) f none) i n l refl
      (λ h a b e.
      first_next h t (omega arith)
      ∙ cond-false _ _ _ (clear (h + 1) (omega arith) (omega arith))
      ∙ e)

-- ---- document 01's words

module _ (D : Day) where
  -- A pair is dropped when a transfer at any station strictly between is missed,
  pub dropped_when : (i s j : ℕ) → i < s → s < j → D.missed s ≡ true → dropped D i j ≡ true
  dropped_when i s j l u m =
      let here : s - 1 + 1 ≡ s = omega arith in
      let last : j - 1 + 1 ≡ j = omega arith in
      subst (λ (h : ℕ). dropped D i h ≡ true) last
      (missed_drops i (s - 1) (j - 1) (omega arith) (omega arith) (ap D.missed here ∙ m))
    where
      either : (x y : Bool) → y ≡ true → (if x then true else y) ≡ true
      either true y e = refl
      either false y e = e

      missed_drops : (i n t : ℕ) → i ≤ n → n < t → D.missed (n + 1) ≡ true → dropped D i (t + 1) ≡ true
      missed_drops i n t l u m = unfold dropped in
          down (λ (h : ℕ). at_first_missed D h (t + 1) (λ s. true) false ≡ true) i n l
          (first_next D _ false n t u ∙ cond-true _ _ _ m)
          (λ h a b e. first_next D _ false h t (omega arith) ∙ either (D.missed (h + 1)) _ e)

  -- and only then.
  pub not_dropped_when : (i j : ℕ) → i < j → Clear D i j → dropped D i j ≡ false
  unfolding dropped
  not_dropped_when i j l clear =
      let last : j - 1 + 1 ≡ j = omega arith in
      subst (λ (h : ℕ). dropped D i h ≡ false) last
      (first_clear D (λ s. true) false i (j - 1) (j - 1) (omega arith) (omega arith) (λ s u v. clear s u (omega arith))
      ∙ first_none D (λ s. true) false (j - 1))

module _ (L : Line) (D : Day) where
  -- who boards the last train counts its delay
  pub counts_last : (t : ℕ) → counts L D t (t + 1) ≡ D.arrival t
  unfolding counts
  counts_last t = let e : t + 1 - 1 ≡ t = omega arith in first_none D _ _ t ∙ ap D.arrival e

  -- who boards an earlier one comes to the next station
  pub counts_next : (i t : ℕ) → i < t
      → counts L D i (t + 1) ≡ (if D.missed (i + 1) then L.period (i + 1) else counts L D (i + 1) (t + 1))
  unfolding counts
  counts_next i t l = first_next D _ _ i t l

  -- With the period T everywhere, each passenger of a dropped pair counts T, and each other the delay of the last
  -- train.
  pub counts_one_period : (T i t : ℕ) → i ≤ t → ((s : ℕ) → i < s → s ≤ t → L.period s ≡ T)
      → counts L D i (t + 1) ≡ (if dropped D i (t + 1) then T else D.arrival t)
  unfolding dropped
  counts_one_period T i t l same =
      down (λ (h : ℕ). counts L D h (t + 1) ≡ (if dropped D h (t + 1) then T else D.arrival t)) i t l
      (counts_last t ∙ ap (λ (x : Bool). if x then T else D.arrival t) (sym (first_none D _ false t)))
      (λ h a b e.
      counts_next h t b
      ∙ either (D.missed (h + 1)) _ (same (h + 1) (omega arith) (omega arith)) e
      ∙ ap (λ (x : Bool). if x then T else D.arrival t) (sym (first_next D _ false h t b)))
    where
      either : (x y : Bool) {c d : ℕ} → c ≡ T → d ≡ (if y then T else D.arrival t)
          → (if x then c else d) ≡ (if (if x then true else y) then T else D.arrival t)
      either true y e f = e
      either false y e f = f

  -- one who misses nothing counts the delay of the last train
  pub counts_clear : (i t : ℕ) → i ≤ t → Clear D i (t + 1) → counts L D i (t + 1) ≡ D.arrival t
  unfolding counts
  counts_clear i t l clear = first_clear D _ _ i t t l (omega arith) clear ∙ counts_last t

  -- one who first misses at station l counts the period there
  pub counts_missed : (i l t : ℕ) → i < l → l ≤ t → Clear D i l → D.missed l ≡ true
      → counts L D i (t + 1) ≡ L.period l
  unfolding counts
  counts_missed i l t a b clear m =
      let here : l - 1 + 1 ≡ l = omega arith in
      first_clear D _ _ i (l - 1) t (omega arith) (omega arith) (λ s u v. clear s u (omega arith))
      ∙ counts_next (l - 1) t (omega arith) ∙ cond-true _ _ _ (ap D.missed here ∙ m) ∙ ap L.period here

-- ---- the sums of passengers, written with the end outside

pub pairs_over : (L : Line) (D : Day) (k l : ℕ) → pairs_total L D k l
    ≡ over l (L.trains + 1) (λ t. over k (t + 1) (λ i. L.passengers i (t + 1) * counts L D i (t + 1)))
unfolding pairs_total sum◌from◌to◌ over
pairs_over L D k l = refl

pub leaving_over : (L : Line) (k l : ℕ) → leaving L k l ≡ over k (l + 1) (λ i. L.passengers i (l + 1))
unfolding leaving sum◌from◌to◌ over
leaving_over L k l = refl

pub aboard_over : (L : Line) (k l : ℕ) → 1 ≤ l
    → aboard L k l ≡ over l (L.trains + 1) (λ t. over k l (λ i. L.passengers i (t + 1)))
unfolding aboard
aboard_over L k l pos = sum_over _ l L.trains ∙ over_same l (L.trains + 1) _ _ (λ t a b. sum_below _ k l pos)

-- those aboard at l, by those who leave: having boarded at k or later, less those who boarded at l or later
pub aboard_leaving : (L : Line) (k l : ℕ) → 1 ≤ l → k ≤ l
    → aboard L k l ≡ sum (λ t. leaving L k t - leaving L l t) from l to L.trains
aboard_leaving L k l pos a =
    aboard_over L k l pos
    ∙ over_same l (L.trains + 1) _ _
    (λ t u v.
    let parted = over_split k l (t + 1) (λ i. L.passengers i (t + 1)) a (omega arith) in
    omega (arith, parted, leaving_over L k t, leaving_over L l t))
    ∙ sym (sum_over _ l L.trains)
