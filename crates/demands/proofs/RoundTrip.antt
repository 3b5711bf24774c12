-- The round trips. What read leaves are the sheet's numbers and what write
-- leaves is the sheet of its numbers, and the sheet of given numbers is unique.
-- Assumes nothing.
use Rattle.terms.specs.Answer.{head, Answer, answer_of}
use Rattle.std.proofs.Common.{◌≡◌, refl, sym, ap, ap₂, subst, ◌∙◌, List, ℕ, ◌+◌, ◌-◌, ◌≤◌, arith, length, take}
use Rattle.std.proofs.Common.{ext_get_or, get_or-take, length-take-le}
use Rattle.lists.specs.Run.{nth, padded}
use Rattle.lists.proofs.Run.{padded_length, padded_nth}
use Rattle.bits.specs.Field.{Bytes}
use Rattle.std.specs.Prelude.{Ok}
use Rattle.terms.specs.Verdict.{Verdict, Fine}
use Rattle.reader.specs.Reading.{Reading, reading_of}
use Rattle.terms.proofs.Checks.{then_fine, fine_then}
use Rattle.terms.proofs.Answers.{accepted_answer}
use Rattle.sheet.specs.Format.{trains_of, period_of, departure_of, driving_of, delay_of}
use Rattle.sheet.specs.Format.{passengers_of, bytes_of, pairs_of}
use Rattle.sheet.specs.Numbers.{Lists, lists, numbers_of}
use Rattle.sheet.specs.Checks.{sheet_verdict}
use Rattle.sheet.specs.Accepted.{Lengths, AcceptedSheet, SameNumbers, SheetOf}
use Rattle.sheet.proofs.Lengths.{pairs_le}
use Rattle.sheet.proofs.Facts.{fine_of_lengths, accepted_of_fine, fine_of_accepted}
use Rattle.sheet.proofs.Meaning.{same_sym, in_range_same, sheet_of_one, sheet_of_accepted, accepted_sheet_of}
use Rattle.writer.specs.Write.{Given, numbers_given, write_verdict, Write, Accepts}
use Rattle.writer.proofs.Facts.{accepts_of_fine, fine_of_accepts}
use Rattle.reader.specs.Read.{read_verdict, Read}
use Rattle.reader.proofs.ReadingOf.{accepted_reading}
use Rattle.demands.specs.OneMeaning.{given_from, ReadThenWrite, WriteThenRead, EqualFields}

pub equal_fields : EqualFields
equal_fields s t bs bt fs ft same =
    let h = sheet_of_accepted s bs (accepted_of_fine s fs) in
    sheet_of_one (numbers_of t) s t
    (record { bytes = bs; long = h.long ∙ ap bytes_of same.trains; numbers = same; filling = h.filling })
    (sheet_of_accepted t bt (accepted_of_fine t ft))

-- ---- read, then write

-- the first n places of a list that read left, counted from 1
first_nth : (l : List ℕ) (size n : ℕ) (f : ℕ → ℕ) → l ≡ padded size n f → n ≤ size → (i : ℕ) → 1 ≤ i → i ≤ n
    → nth (take n l) i ≡ f i
first_nth l size n f e k i a b = get_or-take n l (i - 1) 0 (omega arith) ∙ padded_nth l size n f e k i a b

first_length : (l : List ℕ) (size n : ℕ) (f : ℕ → ℕ) → l ≡ padded size n f → n ≤ size → length (take n l) ≡ n
first_length l size n f e k = length-take-le n l (rw (e, padded_length size n f) k)

-- an accepted reading: the sheet is accepted, and the lists hold its fields
record Got (s : List ℕ) (after : Lists) (m T : ℕ) : Type 0 where
  ok : AcceptedSheet s
  trains : m ≡ trains_of s
  period : T ≡ period_of s
  departures : after.departures ≡ padded 64 (trains_of s) (departure_of s)
  driving : after.driving ≡ padded 64 (trains_of s) (driving_of s)
  delays : after.delays ≡ padded 64 (trains_of s) (delay_of s)
  passengers : after.passengers ≡ padded 2080 (pairs_of (trains_of s)) (passengers_of s)

got : (s : List ℕ) (before after : Lists) (m T : ℕ) → Read s before after (Ok (head m T)) → Got s after m T
unfolding read_verdict
got s before after m T h =
    let told = accepted_reading (read_verdict s before) _ _ h.answer in
    let fine = (then_fine _ (sheet_verdict s) told.0).1 in
    record {
      ok = accepted_of_fine s fine;
      trains = told.1;
      period = told.2;
      departures = rw told.0 at h.departures;
      driving = rw told.0 at h.driving;
      delays = rw told.0 at h.delays;
      passengers = rw told.0 at h.passengers;
    }

module _ (s : List ℕ) (after : Lists) (g : Got s after (trains_of s) (period_of s)) where
  abbrev again : Given
  again = given_from (trains_of s) (period_of s) after

  most : trains_of s ≤ 64
  most = g.ok.numbers.trains_most

  again_same : SameNumbers (numbers_given again) (numbers_of s)
  again_same =
      record {
        trains = refl;
        period = refl;
        departure = first_nth _ 64 _ (departure_of s) g.departures most;
        driving = first_nth _ 64 _ (driving_of s) g.driving most;
        delay = first_nth _ 64 _ (delay_of s) g.delays most;
        passengers = first_nth _ 2080 _ (passengers_of s) g.passengers (pairs_le _ most);
      }

  again_accepts : Accepts 3907 again
  again_accepts =
      record {
        room_is = refl;
        lengths = record {
          departures = first_length _ 64 _ (departure_of s) g.departures most;
          driving = first_length _ 64 _ (driving_of s) g.driving most;
          delays = first_length _ 64 _ (delay_of s) g.delays most;
          passengers = first_length _ 2080 _ (passengers_of s) g.passengers (pairs_le _ most);
        };
        range = in_range_same (numbers_given again) (numbers_of s) again_same g.ok.numbers;
      }

  -- the sheet is the sheet of what is written
  again_sheet : Bytes s → SheetOf (numbers_given again) s
  again_sheet b =
      record {
        bytes = b;
        long = g.ok.long;
        numbers = same_sym (numbers_given again) (numbers_of s) again_same;
        filling = g.ok.filling;
      }

  write_again : (buffer written : List ℕ) (w : Answer) → Bytes s → length buffer ≡ 3907 → Write again buffer written w
      → (w ≡ Ok (length s)) × (take (length s) written ≡ s)
  write_again buffer written w b e h =
      let long = g.ok.long in
      let fine : write_verdict (length buffer) again ≡ Fine
      = ap (λ (n : ℕ). write_verdict n again) e ∙ fine_of_accepts 3907 again again_accepts in (
        h.answer ∙ ap (λ (v : Verdict). answer_of v (bytes_of (trains_of s))) fine
            ∙ ap (λ (n : ℕ). Ok n) (sym long),
        ap (λ (n : ℕ). take n written) long ∙ sheet_of_one (numbers_given again) _ s (h.sheet fine) (again_sheet b),
      )

pub read_then_write : ReadThenWrite
read_then_write s before after m T buffer written w b h e k =
    let g = got s before after m T h in
    let g' : Got s after (trains_of s) (period_of s) = rw (g.trains, g.period) at g in
    write_again s after g' buffer written w b e (rw (g.trains, g.period) at k)

-- ---- write, then read

-- a list that read left begins with the list that was written
first_same : (l given : List ℕ) (size n : ℕ) (f : ℕ → ℕ) → l ≡ padded size n f → n ≤ size → length given ≡ n
    → ((i : ℕ) → 1 ≤ i → i ≤ n → f i ≡ nth given i) → take n l ≡ given
first_same l given size n f e k long same =
    let long' = first_length l size n f e k in
    ext_get_or 0 (take n l) given (long' ∙ sym long)
    (λ j b.
    let z : j + 1 - 1 ≡ j = omega arith in
    rw z at (first_nth l size n f e k (j + 1) (omega arith) (omega arith) ∙ same (j + 1) (omega arith) (omega arith)))

module _ (s : List ℕ) (before after : Lists) (a : Reading) (ok : AcceptedSheet s) (room : Lengths 64 2080 before)
    (h : Read s before after a) where
  read_fine : read_verdict s before ≡ Fine
  unfolding read_verdict
  read_fine = fine_then (fine_of_lengths _ _ _ _ room) (fine_of_accepted s ok)

  read_answer : a ≡ Ok (head (trains_of s) (period_of s))
  read_answer = h.answer ∙ ap (λ (v : Verdict). reading_of v (trains_of s) (period_of s)) read_fine

module _ (G : Given) (s : List ℕ) (after : Lists) (accepts : Accepts 3907 G) (sheet : SheetOf (numbers_given G) s)
    (g : Got s after (trains_of s) (period_of s)) where
  few : trains_of s ≤ 64
  few = g.ok.numbers.trains_most

  trains_back : trains_of s ≡ G.trains
  trains_back = sheet.numbers.trains

  departures_back : take (trains_of s) after.departures ≡ G.lists.departures
  departures_back =
      first_same _ _ 64 _ (departure_of s) g.departures few (accepts.lengths.departures ∙ sym trains_back)
      (λ i a b. sheet.numbers.departure i a (omega (arith, trains_back)))

  driving_back : take (trains_of s) after.driving ≡ G.lists.driving
  driving_back =
      first_same _ _ 64 _ (driving_of s) g.driving few (accepts.lengths.driving ∙ sym trains_back)
      (λ i a b. sheet.numbers.driving i a (omega (arith, trains_back)))

  delays_back : take (trains_of s) after.delays ≡ G.lists.delays
  delays_back =
      first_same _ _ 64 _ (delay_of s) g.delays few (accepts.lengths.delays ∙ sym trains_back)
      (λ i a b. sheet.numbers.delay i a (omega (arith, trains_back)))

  passengers_back : take (pairs_of (trains_of s)) after.passengers ≡ G.lists.passengers
  passengers_back =
      let pairs = ap pairs_of trains_back in
      first_same _ _ 2080 _ (passengers_of s) g.passengers (pairs_le _ few) (accepts.lengths.passengers ∙ sym pairs)
      (λ f a b. sheet.numbers.passengers f a (omega arith))

  lists_back : given_from (trains_of s) (period_of s) after ≡ G
  lists_back =
      λ i. record {
        trains = trains_back i;
        period = sheet.numbers.period i;
        lists = lists (departures_back i) (driving_back i) (delays_back i) (passengers_back i);
      }

module _ (G : Given) (buffer written : List ℕ) (n : ℕ) (h : Write G buffer written (Ok n)) where
  told : (write_verdict (length buffer) G ≡ Fine) × (n ≡ bytes_of G.trains)
  told = accepted_answer (write_verdict (length buffer) G) _ h.answer

  written_accepts : Accepts 3907 G
  written_accepts = let accepts = accepts_of_fine _ G told.0 in rw accepts.room_is at accepts

  written_sheet : SheetOf (numbers_given G) (take n written)
  written_sheet = rw told.1 (h.sheet told.0)

pub write_then_read : WriteThenRead
write_then_read G buffer written n before after a h room k =
    let s : List ℕ = take n written in
    let sheet = written_sheet G buffer written n h in
    let accepts = written_accepts G buffer written n h in
    let ok = accepted_sheet_of (numbers_given G) s accepts.range sheet in
    let m : trains_of s ≡ G.trains = sheet.numbers.trains in
    let T : period_of s ≡ G.period = sheet.numbers.period in
    let answer = read_answer s before after a ok room k in
    let g = got s before after (trains_of s) (period_of s) (subst (λ (r : Reading). Read s before after r) answer k) in
    (answer ∙ ap₂ (λ (x y : ℕ). Ok (head x y)) m T, rw (m, T) at (lists_back G s after accepts sheet g))
