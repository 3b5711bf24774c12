-- A verdict that is fine, in plain facts: the chain of checks and `Accepted` say the same.
-- Assumes nothing.
use Rattle.std.proofs.Common.{◌≡◌, List, ℕ, ◌≤◌, zero-le, rules, arith, length}
use Rattle.terms.specs.declared.Refusal.{Refusal}
use Rattle.terms.specs.Verdict.{Fine}
use Rattle.terms.proofs.Checks.{then_fine, fine_then, passed_of_fine, fine_of_passed, first_fine, fine_first}
use Rattle.sheet.specs.Format.{trains_of, period_of, bytes_of}
use Rattle.sheet.specs.Numbers.{Numbers, Lists, numbers_of}
use Rattle.sheet.specs.Checks.{lengths_verdict, ranges_verdict, train_checks, train_verdict, passengers_verdict}
use Rattle.sheet.specs.Checks.{numbers_verdict}
use Rattle.sheet.specs.Checks.{head_verdict, filling_verdict, body_verdict, sheet_verdict}
use Rattle.sheet.specs.Accepted.{Lengths, TrainInRange, InRange, AcceptedSheet}
use Rattle.sheet.proofs.Lengths.{layout, bytes_bits}

-- ---- the lists

pub lengths_of_fine : (r : Refusal) (n k : ℕ) (L : Lists) → lengths_verdict r n k L ≡ Fine → Lengths n k L
unfolding lengths_verdict
lengths_of_fine r n k L e = let passed = passed_of_fine _ e in search rules

pub fine_of_lengths : (r : Refusal) (n k : ℕ) (L : Lists) → Lengths n k L → lengths_verdict r n k L ≡ Fine
unfolding lengths_verdict
fine_of_lengths r n k L h = fine_of_passed _ (search rules)

-- ---- the numbers

pub record Ranges (m T : ℕ) : Type 0 where
  pub trains_least : 1 ≤ m
  pub trains_most : m ≤ 64
  pub period_least : 1 ≤ T
  pub period_most : T ≤ 1440

pub ranges_of_fine : (m T : ℕ) → ranges_verdict m T ≡ Fine → Ranges m T
unfolding ranges_verdict
ranges_of_fine m T e = let passed = passed_of_fine _ e in search rules

pub fine_of_ranges : (m T : ℕ) → Ranges m T → ranges_verdict m T ≡ Fine
unfolding ranges_verdict
fine_of_ranges m T h = fine_of_passed _ (search rules)

train_of_fine : (N : Numbers) (i : ℕ) → train_verdict N.times i ≡ Fine → TrainInRange N i
unfolding train_verdict train_checks
train_of_fine N i e = let passed = passed_of_fine _ e in search rules

fine_of_train : (N : Numbers) (i : ℕ) → TrainInRange N i → train_verdict N.times i ≡ Fine
unfolding train_verdict train_checks
fine_of_train N i h = fine_of_passed _ (search rules)

passengers_of_fine : (p : ℕ → ℕ) (f : ℕ) → passengers_verdict p f ≡ Fine → p f ≤ 10000
unfolding passengers_verdict
passengers_of_fine p f e = (passed_of_fine _ e).0

fine_of_passengers : (p : ℕ → ℕ) (f : ℕ) → p f ≤ 10000 → passengers_verdict p f ≡ Fine
unfolding passengers_verdict
fine_of_passengers p f l = fine_of_passed _ (search rules)

module _ (N : Numbers) where
  pub in_range_of_fine : Ranges N.trains N.period → numbers_verdict N.trains N.times N.passengers ≡ Fine
      → InRange N
  unfolding numbers_verdict
  in_range_of_fine r e =
      let both = then_fine _ _ e in
      record {
        trains_least = r.trains_least;
        trains_most = r.trains_most;
        period_least = r.period_least;
        period_most = r.period_most;
        train = λ i a b. train_of_fine N i (first_fine _ 1 _ both.0 i a (omega arith));
        passengers = λ f a b. passengers_of_fine N.passengers f (first_fine _ 1 _ both.1 f a (omega arith));
      }

  pub ranges_of_in_range : InRange N → Ranges N.trains N.period
  ranges_of_in_range h =
      record {
        trains_least = h.trains_least;
        trains_most = h.trains_most;
        period_least = h.period_least;
        period_most = h.period_most;
      }

  pub fine_of_in_range : InRange N → numbers_verdict N.trains N.times N.passengers ≡ Fine
  unfolding numbers_verdict
  fine_of_in_range h =
      fine_then (fine_first _ 1 _ (λ i a b. fine_of_train N i (h.train i a (omega arith))))
      (fine_first _ 1 _ (λ f a b. fine_of_passengers N.passengers f (h.passengers f a (omega arith))))

-- ---- the sheet

pub record Headed (s : List ℕ) : Type 0 where
  pub room : 3 ≤ length s
  pub ranges : Ranges (trains_of s) (period_of s)
  pub long : length s ≡ bytes_of (trains_of s)

pub headed_of_fine : (s : List ℕ) → head_verdict s ≡ Fine → Headed s
unfolding head_verdict
headed_of_fine s e =
    let a = then_fine _ _ e in
    let b = then_fine _ _ a.1 in
    let long = passed_of_fine _ b.1 in
    record {
      room = (passed_of_fine _ a.0).0;
      ranges = ranges_of_fine _ _ b.0;
      long = omega arith;
    }

fine_of_headed : (s : List ℕ) → Headed s → head_verdict s ≡ Fine
unfolding head_verdict
fine_of_headed s h =
    fine_then (fine_of_passed _ (search rules))
    (fine_then (fine_of_ranges _ _ h.ranges) (fine_of_passed _ (search rules)))

-- accepted exactly when the chain of checks finds nothing
pub accepted_of_fine : (s : List ℕ) → sheet_verdict s ≡ Fine → AcceptedSheet s
unfolding sheet_verdict body_verdict filling_verdict
accepted_of_fine s e =
    let a = then_fine _ _ e in
    let b = then_fine _ _ a.1 in
    let h = headed_of_fine s a.0 in
    let none = passed_of_fine _ b.1 in
    record {
      long = h.long;
      numbers = in_range_of_fine (numbers_of s) h.ranges b.0;
      filling = omega arith;
    }

pub fine_of_accepted : (s : List ℕ) → AcceptedSheet s → sheet_verdict s ≡ Fine
unfolding sheet_verdict body_verdict filling_verdict
fine_of_accepted s h =
    let b = bytes_bits (trains_of s) in
    let l = h.long in
    fine_then
    (fine_of_headed s
    (record {
      room = omega (arith, layout (trains_of s));
      ranges = ranges_of_in_range (numbers_of s) h.numbers;
      long = l;
    }))
    (fine_then (fine_of_in_range (numbers_of s) h.numbers) (fine_of_passed _ (rw h.filling zero-le, tt)))
