-- Laws of sums, and of a sum against what falls along it. `over a b f` has the end b outside: f a + .. + f (b - 1).
-- Assumes nothing.
use Rattle.std.proofs.Common.{◌≡◌, refl, ap, ◌∙◌, ℕ, ◌+◌, ◌-◌, ◌*◌, ◌≤◌, ◌<◌, le_refl, arith}
use Rattle.lists.specs.Run.{run_of}
use Rattle.lists.proofs.Run.{run_next, run_none, run_same}
use Rattle.lists.proofs.Induction.{down}
use Rattle.line.specs.Sum.{sum◌from◌to◌}

unfoldable pub over : ℕ → ℕ → (ℕ → ℕ) → ℕ
over a b f = run_of ◌+◌ 0 f a (b - a)

pub sum_over : (f : ℕ → ℕ) (a b : ℕ) → sum f from a to b ≡ over a (b + 1) f
unfolding sum◌from◌to◌ over
sum_over f a b = refl

-- up to the number before l
pub sum_below : (f : ℕ → ℕ) (a l : ℕ) → 1 ≤ l → sum f from a to (l - 1) ≡ over a l f
unfolding sum◌from◌to◌ over
sum_below f a l h = let e : l - 1 + 1 - a ≡ l - a = omega arith in ap (run_of ◌+◌ 0 f a) e

pub over_none : (a b : ℕ) (f : ℕ → ℕ) → b ≤ a → over a b f ≡ 0
unfolding over
over_none a b f l = run_none ◌+◌ 0 f a (b - a) (omega arith)

pub over_first : (a b : ℕ) (f : ℕ → ℕ) → a < b → over a b f ≡ f a + over (a + 1) b f
unfolding over
over_first a b f l =
    let e : b - a - 1 ≡ b - (a + 1) = omega arith in
    run_next ◌+◌ 0 f a (b - a) (omega arith) ∙ ap (λ (n : ℕ). f a + run_of ◌+◌ 0 f (a + 1) n) e

pub over_same : (a b : ℕ) (f g : ℕ → ℕ) → ((i : ℕ) → a ≤ i → i < b → f i ≡ g i) → over a b f ≡ over a b g
unfolding over
over_same a b f g h = run_same ◌+◌ 0 f g a (b - a) (λ i l u. h i l (omega arith))

pub over_zero : (a b : ℕ) (f : ℕ → ℕ) → a ≤ b → ((i : ℕ) → a ≤ i → i < b → f i ≡ 0) → over a b f ≡ 0
over_zero a b f l h =
    down (λ (i : ℕ). over i b f ≡ 0) a b l (over_none b b f (le_refl b))
    (λ i v w e. omega (arith, e, h i v w, over_first i b f w))

pub over_split : (a b c : ℕ) (f : ℕ → ℕ) → a ≤ b → b ≤ c → over a c f ≡ over a b f + over b c f
over_split a b c f l u =
    down (λ (i : ℕ). over i c f ≡ over i b f + over b c f) a b l
    (omega (arith, over_none b b f (le_refl b)))
    (λ i v w e. omega (arith, e, over_first i b f w, over_first i c f (omega arith)))

pub over_add : (a b : ℕ) (f g : ℕ → ℕ) → a ≤ b → over a b (λ i. f i + g i) ≡ over a b f + over a b g
over_add a b f g l =
    down (λ (i : ℕ). over i b (λ j. f j + g j) ≡ over i b f + over i b g) a b l
    (let none : (h : ℕ → ℕ) → over b b h ≡ 0 = λ h. over_none b b h (le_refl b) in
    omega (arith, none f, none g, none (λ j. f j + g j)))
    (λ i v w e. omega (arith, e, over_first i b f w, over_first i b g w, over_first i b (λ j. f j + g j) w))

pub over_scale : (a b : ℕ) (f : ℕ → ℕ) (x : ℕ) → a ≤ b → over a b (λ i. f i * x) ≡ over a b f * x
over_scale a b f x l =
    down (λ (i : ℕ). over i b (λ j. f j * x) ≡ over i b f * x) a b l
    (rw (over_none b b f (le_refl b), over_none b b (λ j. f j * x) (le_refl b)) (omega arith))
    (λ i v w e. rw (over_first i b f w, over_first i b (λ j. f j * x) w, e) (omega arith))

-- a factor that is the same at every place
pub over_times : (a b : ℕ) (f g : ℕ → ℕ) (x : ℕ) → a ≤ b → ((i : ℕ) → a ≤ i → i < b → g i ≡ x)
    → over a b (λ i. f i * g i) ≡ over a b f * x
over_times a b f g x l h =
    over_same a b _ (λ i. f i * x) (λ i v w. ap (λ (y : ℕ). f i * y) (h i v w)) ∙ over_scale a b f x l

pub over_le : (a b : ℕ) (f g : ℕ → ℕ) → a ≤ b → ((i : ℕ) → a ≤ i → i < b → f i ≤ g i) → over a b f ≤ over a b g
over_le a b f g l h =
    down (λ (i : ℕ). over i b f ≤ over i b g) a b l
    (omega (arith, over_none b b f (le_refl b), over_none b b g (le_refl b)))
    (λ i v w e. omega (arith, e, h i v w, over_first i b f w, over_first i b g w))

-- ---- a number that falls, place by place, by no more than the summand: φ i ≤ f i + φ (i + 1)

module _ (a b : ℕ) (f φ : ℕ → ℕ) (l : a ≤ b) where
  pub falls_equal : ((i : ℕ) → a ≤ i → i < b → φ i ≡ f i + φ (i + 1)) → φ a ≡ over a b f + φ b
  falls_equal h =
      down (λ (i : ℕ). φ i ≡ over i b f + φ b) a b l
      (omega (arith, over_none b b f (le_refl b)))
      (λ i v w e. omega (arith, e, h i v w, over_first i b f w))

  pub falls_within : ((i : ℕ) → a ≤ i → i < b → φ i ≤ f i + φ (i + 1)) → φ a ≤ over a b f + φ b
  falls_within h =
      down (λ (i : ℕ). φ i ≤ over i b f + φ b) a b l
      (omega (arith, over_none b b f (le_refl b)))
      (λ i v w e. omega (arith, e, h i v w, over_first i b f w))

-- where it falls by the whole sum, it falls by the summand at each place
pub falls_each : (a b : ℕ) (f φ : ℕ → ℕ) → ((i : ℕ) → a ≤ i → i < b → φ i ≤ f i + φ (i + 1)) → over a b f + φ b ≤ φ a
    → (i : ℕ) → a ≤ i → i < b → f i + φ (i + 1) ≤ φ i
falls_each a b f φ h e i v w =
    omega (
      arith,
      falls_within a i f φ v (λ j x y. h j x (omega arith)),
      falls_within (i + 1) b f φ (omega arith) (λ j x y. h j (omega arith) y),
      over_split a i b f v (omega arith),
      over_first i b f w,
    )
