-- The steps of writing, put together: what each step leaves
-- stays under the later ones, so that the result is the sheet.
-- Assumes nothing.
use Rattle.std.proofs.Common.{◌≡◌, ◌∙◌, List, inl, inr, ⊎_elim, ℕ, ◌+◌, ◌-◌, ◌*◌, ◌^◌, ◌≤◌, ◌<◌, arith, lit≤, length}
use Rattle.std.proofs.Common.{get_or}
use Rattle.bits.specs.Field.{field_of, Apart, Bytes}
use Rattle.bits.proofs.Puts.{put_apart}
use Rattle.sheet.specs.Format.{trains_of, departure_column, driving_column, delay_column}
use Rattle.sheet.specs.Format.{passenger_column, entry, bytes_of}
use Rattle.sheet.specs.Numbers.{numbers_of}
use Rattle.sheet.specs.Accepted.{SameNumbers, SheetOf}
use Rattle.sheet.proofs.Lengths.{layout, bytes_bits, train_within, passengers_within, trains_apart}
use Rattle.writer.specs.Write.{Given, numbers_given}
use Rattle.writer.specs.Putting.{PutRoom, ColumnPut, HeadRoom, HeadPut, TimesRoom, TimesPut, FillingPut, Writable}

-- ---- what the steps need

module _ (s t : List ℕ) (m : ℕ) (d r y : List ℕ) (h : TimesRoom s m d r y) (same : length t ≡ length s) where
  -- a column of the trains, `a` bits from the sheet's start and w bits wide
  train_column : (l : List ℕ) (a w : ℕ) → length l ≡ m → (18 ≤ a) × (a + w ≤ 51) × (w ≤ 16)
      → ((i : ℕ) → 1 ≤ i → i ≤ m → get_or l (i - 1) 0 < 2 ^ w)
      → PutRoom t (record { first = a; step = 33; width = w }) l
  train_column l a w long b small =
      let room = h.room in
      record {
        spaced = omega arith;
        within = λ k c. train_within t m a w k (omega arith) h.most b.1 b.2 (omega arith);
        small = λ k c. let e : k + 1 - 1 ≡ k = omega arith in rw e at (small (k + 1) (omega arith) (omega arith));
      }

  pub departures_room : PutRoom t departure_column d
  departures_room =
      train_column d 18 12 h.departures (omega arith) (λ i a b. omega (arith, h.departure i a b))

  pub driving_room : PutRoom t driving_column r
  driving_room = train_column r 30 10 h.driving (omega arith) (λ i a b. omega (arith, h.drive i a b))

  pub delays_room : PutRoom t delay_column y
  delays_room = train_column y 40 11 h.delays (omega arith) (λ i a b. omega (arith, h.delay i a b))

module _ (G : Given) (s t : List ℕ) (h : Writable G s) (same : length t ≡ length s) where
  pub head_room : HeadRoom t G.trains G.period
  head_room =
      let b = bytes_bits G.trains in
      let l = h.long in
      record {
        room = omega (arith, layout G.trains);
        trains = h.range.trains_most;
        period = h.range.period_most;
      }

  pub times_room : TimesRoom t G.trains G.lists.departures G.lists.driving G.lists.delays
  times_room =
      let b = bytes_bits G.trains in
      let l = h.long in
      record {
        most = h.range.trains_most;
        room = omega (arith, layout G.trains);
        departures = h.lengths.departures;
        driving = h.lengths.driving;
        delays = h.lengths.delays;
        departure = λ i a b. (h.range.train i a b).departure;
        drive = λ i a b. (h.range.train i a b).driving;
        delay = λ i a b. (h.range.train i a b).delay;
      }

  pub passengers_room : PutRoom t (passenger_column G.trains) G.lists.passengers
  passengers_room =
      let m = G.trains in
      let b = bytes_bits m in
      let l = h.long in
      let n = h.lengths.passengers in
      let most = h.range.trains_most in
      record {
        spaced = lit≤ tt;
        within = λ k c. passengers_within t m k (omega arith) most (omega arith);
        small = λ k c.
            let e : k + 1 - 1 ≡ k = omega arith in
            let in_range = h.range.passengers (k + 1) (omega arith) (omega arith) in
            omega (arith, rw e at in_range);
      }

-- ---- what the steps leave

module _ (m : ℕ) (d r y s t u v : List ℕ) where
  pub times_put : ColumnPut s departure_column m d t → ColumnPut t driving_column m r u → ColumnPut u delay_column m y v
      → TimesPut s m d r y v
  unfolding entry
  times_put f g h =
      record {
        long = h.long ∙ g.long ∙ f.long;
        departure = λ i a b.
            h.others _ _ (λ k c. trains_apart 18 12 40 11 (i - 1) k (lit≤ tt) (lit≤ tt))
            ∙ g.others _ _ (λ k c. trains_apart 18 12 30 10 (i - 1) k (lit≤ tt) (lit≤ tt))
            ∙ f.holds (i - 1) (omega arith);
        driving = λ i a b.
            h.others _ _ (λ k c. trains_apart 30 10 40 11 (i - 1) k (lit≤ tt) (lit≤ tt))
            ∙ g.holds (i - 1) (omega arith);
        delay = λ i a b. h.holds (i - 1) (omega arith);
        others = λ a w o.
            let away : (b x k : ℕ) → (18 ≤ b) × (b + x ≤ 51) → k < m → Apart a w (b + 33 * k) x = λ b x k z c.
            ⊎_elim (λ (l : a + w ≤ 18). inl (omega arith)) (λ (l : 18 + 33 * m ≤ a). inr (omega arith)) o in
            h.others a w (λ k c. away 40 11 k (omega arith) c)
            ∙ g.others a w (λ k c. away 30 10 k (omega arith) c)
            ∙ f.others a w (λ k c. away 18 12 k (omega arith) c);
      }

module _ (G : Given) (s t u v z : List ℕ) (ok : Writable G s) (head : HeadPut s G.trains G.period t)
    (times : TimesPut t G.trains G.lists.departures G.lists.driving G.lists.delays u)
    (counts : ColumnPut u (passenger_column G.trains) (length G.lists.passengers) G.lists.passengers v)
    (filling : FillingPut G.trains v z) where
  -- what stands before the passengers is what the times left
  before_counts : (a w : ℕ) → a + w ≤ 18 + 33 * G.trains → field_of z a w ≡ field_of u a w
  before_counts a w l =
      put_apart filling a w (inl (omega (arith, layout G.trains))) ∙ counts.others a w (λ k c. inl (omega arith))

  in_head : (a w : ℕ) → a + w ≤ 18 → field_of z a w ≡ field_of t a w
  in_head a w l = before_counts a w (omega arith) ∙ times.others a w (inl l)

  trains_put : trains_of z ≡ G.trains
  trains_put = in_head 0 7 (lit≤ tt) ∙ head.trains

  numbers_put : SameNumbers (numbers_of z) (numbers_given G)
  unfolding entry
  numbers_put =
      record {
        trains = trains_put;
        period = in_head 7 11 (lit≤ tt) ∙ head.period;
        departure = λ i a b. before_counts _ _ (omega arith) ∙ times.departure i a b;
        driving = λ i a b. before_counts _ _ (omega arith) ∙ times.driving i a b;
        delay = λ i a b. before_counts _ _ (omega arith) ∙ times.delay i a b;
        passengers = λ f a b.
            rw trains_put
            (put_apart filling _ _ (inl (omega (arith, layout G.trains)))
            ∙ counts.holds (f - 1) (omega (arith, ok.lengths.passengers)));
      }

  pub sheet_put : Bytes z → SheetOf (numbers_given G) z
  sheet_put bytes =
      let long : length z ≡ bytes_of G.trains = filling.long ∙ counts.long ∙ times.long ∙ head.long ∙ ok.long in
      record { bytes = bytes; long = long; numbers = numbers_put; filling = rw (trains_put, long) filling.holds }
