-- A sheet has one meaning: two sheets of the same numbers are equal bit for bit, and a sheet is accepted exactly
-- when its numbers are in range. The fields are joined one after the other until they are the whole sheet.
-- Assumes nothing.
use Rattle.std.proofs.Common.{◌≡◌, refl, sym, ap, ap₂, ◌∙◌, List, ⊎_elim, ℕ, zero, suc, ◌+◌, ◌-◌, ◌*◌, ◌^◌, ◌≤◌, ◌<◌}
use Rattle.std.proofs.Common.{mul-suc, mul-zero, zero-add, arith, length, take, get_or-take, length-take-le}
use Rattle.lists.specs.Choice.{if_below}
use Rattle.lists.proofs.Choice.{below_no}
use Rattle.std.proofs.lemmas.Bool.{cases_lt}
use Rattle.lists.specs.Run.{nth}
use Rattle.lists.proofs.Run.{run_same}
use Rattle.bits.specs.Field.{field_of, Bytes}
use Rattle.bits.proofs.Fields.{field_none, field_split}
use Rattle.bits.proofs.Bytes.{bytes_same}
use Rattle.terms.specs.Verdict.{Verdict, Fine, ◌and_then◌, first_of}
use Rattle.sheet.specs.Format.{trains_of, entry, bits_of, bytes_of, pairs_of, filling_of}
use Rattle.sheet.specs.Numbers.{Numbers, numbers_of}
use Rattle.sheet.specs.Checks.{earliest_of, train_verdict, passengers_verdict, numbers_verdict}
use Rattle.sheet.specs.Accepted.{InRange, AcceptedSheet, SameNumbers, SheetOf}
use Rattle.sheet.proofs.Facts.{Ranges, in_range_of_fine, ranges_of_in_range, fine_of_in_range}
use Rattle.sheet.proofs.Lengths.{layout, bytes_bits}

-- ---- numbers that are the same

pub same_refl : (N : Numbers) → SameNumbers N N
same_refl N =
    record {
      trains = refl;
      period = refl;
      departure = λ i a b. refl;
      driving = λ i a b. refl;
      delay = λ i a b. refl;
      passengers = λ f a b. refl;
    }

-- two numberings that are the same as a third
pub same_both : (N M K : Numbers) → SameNumbers N K → SameNumbers M K → SameNumbers N M
same_both N M K g h =
    let e = h.trains in
    record {
      trains = g.trains ∙ sym h.trains;
      period = g.period ∙ sym h.period;
      departure = λ i a b. g.departure i a (omega arith) ∙ sym (h.departure i a (omega arith));
      driving = λ i a b. g.driving i a (omega arith) ∙ sym (h.driving i a (omega arith));
      delay = λ i a b. g.delay i a (omega arith) ∙ sym (h.delay i a (omega arith));
      passengers = λ f a b.
          let c : f ≤ pairs_of K.trains = rw e at b in
          g.passengers f a c ∙ sym (h.passengers f a c);
    }

pub same_sym : (N M : Numbers) → SameNumbers N M → SameNumbers M N
same_sym N M h = same_both M N M (same_refl M) h

earliest_same : (N M : Numbers) → SameNumbers N M → (i : ℕ) → 1 ≤ i → i ≤ M.trains
    → earliest_of N.times.departure N.times.driving i ≡ earliest_of M.times.departure M.times.driving i
unfolding earliest_of
earliest_same N M h i a b =
    ⊎_elim
    (λ (l : 1 < i).
    ap (λ (n : ℕ). if_below 1 i n 0)
    (ap₂ (λ (m n : ℕ). m + n)
    (h.departure (i - 1) (omega arith) (omega arith))
    (h.driving (i - 1) (omega arith) (omega arith))))
    (λ (l : i ≤ 1). below_no _ _ l ∙ sym (below_no _ _ l))
    (cases_lt 1 i)

train_verdict_same : (N M : Numbers) → SameNumbers N M → (i : ℕ) → 1 ≤ i → i ≤ M.trains
    → train_verdict N.times i ≡ train_verdict M.times i
unfolding train_verdict
train_verdict_same N M h i a b =
    rw (h.departure i a b, h.driving i a b, h.delay i a b, earliest_same N M h i a b) refl

passengers_verdict_same : (N M : Numbers) → SameNumbers N M → (f : ℕ) → 1 ≤ f → f ≤ pairs_of M.trains
    → passengers_verdict N.passengers f ≡ passengers_verdict M.passengers f
unfolding passengers_verdict
passengers_verdict_same N M h f a b = rw (h.passengers f a b) refl

-- the first n passengers of a list have the verdict of the list up to field n
pub passengers_first : (p : List ℕ) (n : ℕ) → n ≤ length p
    → first_of (passengers_verdict (nth (take n p))) 1 (length (take n p)) ≡ first_of (passengers_verdict (nth p)) 1 n
unfolding passengers_verdict first_of
passengers_first p n l =
    let long = length-take-le n p l in
    rw long
    (run_same ◌and_then◌ Fine _ _ 1 n (λ f a b. rw (get_or-take n p (f - 1) 0 (omega arith)) refl))

-- the same numbers have the same verdict
pub verdict_same : (N M : Numbers) → SameNumbers N M
    → numbers_verdict N.trains N.times N.passengers ≡ numbers_verdict M.trains M.times M.passengers
unfolding numbers_verdict first_of
verdict_same N M h =
    ap (λ (m : ℕ). numbers_verdict m N.times N.passengers) h.trains
    ∙ ap₂ (λ (v w : Verdict). v and_then w)
    (run_same ◌and_then◌ Fine _ _ 1 M.trains (λ i a b. train_verdict_same N M h i a (omega arith)))
    (run_same ◌and_then◌ Fine _ _ 1 (pairs_of M.trains) (λ f a b. passengers_verdict_same N M h f a (omega arith)))

pub in_range_same : (N M : Numbers) → SameNumbers N M → InRange M → InRange N
in_range_same N M h r =
    let ranges : Ranges N.trains N.period = rw (h.trains, h.period) (ranges_of_in_range M r) in
    in_range_of_fine N ranges (verdict_same N M h ∙ fine_of_in_range M r)

-- ---- two sheets that agree in every field

module _ (s t : List ℕ) where
  -- they hold the same number in the w bits from bit at
  abbrev Agree : ℕ → ℕ → Type 0
  Agree at w = field_of s at w ≡ field_of t at w

  agree_join : (at v w : ℕ) → Agree at v → Agree (at + v) w → Agree at (v + w)
  agree_join at v w a b = field_split s at v w ∙ ap₂ (λ (x y : ℕ). x * 2 ^ w + y) a b ∙ sym (field_split t at v w)

  agree_run : (at step n : ℕ) → ((k : ℕ) → k < n → Agree (at + step * k) step) → Agree at (step * n)
  agree_run at step zero h = rw (mul-zero step) (field_none s at ∙ sym (field_none t at))
  agree_run at step (suc n) h =
      rw (mul-suc step n)
      (agree_join at (step * n) step (agree_run at step n (λ k l. h k (omega arith))) (h n (omega arith)))

module _ (s t : List ℕ) (same : SameNumbers (numbers_of s) (numbers_of t)) where
  agree_train : (k : ℕ) → k < trains_of t → Agree s t (18 + 33 * k) 33
  unfolding entry
  agree_train k l =
      let e : k + 1 - 1 ≡ k = omega arith in
      let f : 18 + 33 * k + 12 ≡ 30 + 33 * k = omega arith in
      let g : 18 + 33 * k + 22 ≡ 40 + 33 * k = omega arith in
      let departure : Agree s t (18 + 33 * k) 12 = rw e at (same.departure (k + 1) (omega arith) (omega arith)) in
      let driving : Agree s t (30 + 33 * k) 10 = rw e at (same.driving (k + 1) (omega arith) (omega arith)) in
      let delay : Agree s t (40 + 33 * k) 11 = rw e at (same.delay (k + 1) (omega arith) (omega arith)) in
      agree_join s t (18 + 33 * k) 22 11 (agree_join s t (18 + 33 * k) 12 10 departure (rw f driving)) (rw g delay)

  agree_passengers : (k : ℕ) → k < pairs_of (trains_of t) → Agree s t (18 + 33 * trains_of t + 14 * k) 14
  unfolding entry
  agree_passengers k l =
      let e : k + 1 - 1 ≡ k = omega arith in
      rw (e, same.trains) at (same.passengers (k + 1) (omega arith) (omega arith))

  agree_fields : Agree s t 0 (bits_of (trains_of t))
  agree_fields =
      let m = trains_of t in
      let head : Agree s t 0 18 = agree_join s t 0 7 11 same.trains same.period in
      let trains : Agree s t 0 (18 + 33 * m) = agree_join s t 0 18 (33 * m) head (agree_run s t 18 33 m agree_train) in
      rw layout at
      (agree_join s t 0 (18 + 33 * m) (14 * pairs_of m) trains
      (rw zero-add (agree_run s t (18 + 33 * m) 14 (pairs_of m) agree_passengers)))

  pub same_sheet : Bytes s → Bytes t → length s ≡ bytes_of (trains_of t) → length t ≡ bytes_of (trains_of t)
      → filling_of s ≡ 0 → filling_of t ≡ 0 → s ≡ t
  same_sheet bs bt ls lt fs ft =
      let m = trains_of t in
      let b = bytes_bits m in
      let n : ℕ = 8 * length s - bits_of m in
      let e : bits_of m + n ≡ 8 * length s = omega arith in
      let gs : field_of s (bits_of m) n ≡ 0 = rw same.trains at fs in
      let gt : field_of t (bits_of m) n ≡ 0 = rw (lt ∙ sym ls) at ft in
      bytes_same s t bs bt (ls ∙ sym lt)
      (rw e at (agree_join s t 0 (bits_of m) n agree_fields (rw zero-add (gs ∙ sym gt))))

-- the sheet of given numbers is unique
pub sheet_of_one : (N : Numbers) (s t : List ℕ) → SheetOf N s → SheetOf N t → s ≡ t
sheet_of_one N s t g h =
    let e : bytes_of N.trains ≡ bytes_of (trains_of t) = ap bytes_of (sym h.numbers.trains) in
    same_sheet s t (same_both _ _ N g.numbers h.numbers) g.bytes h.bytes (g.long ∙ e) (h.long ∙ e)
    g.filling h.filling

-- an accepted sheet is the sheet of its numbers
pub sheet_of_accepted : (s : List ℕ) → Bytes s → AcceptedSheet s → SheetOf (numbers_of s) s
sheet_of_accepted s b h = record { bytes = b; long = h.long; numbers = same_refl (numbers_of s); filling = h.filling }

-- and the sheet of numbers in range is accepted
pub accepted_sheet_of : (N : Numbers) (s : List ℕ) → InRange N → SheetOf N s → AcceptedSheet s
accepted_sheet_of N s r h =
    record {
      long = h.long ∙ ap bytes_of (sym h.numbers.trains);
      numbers = in_range_same (numbers_of s) N h.numbers r;
      filling = h.filling;
    }
