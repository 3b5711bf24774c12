-- The numbers of a line. Document 01, "The line and its numbers". Trains and passenger fields count from 1.
--   Times        departure, driving time and source delay by train
--   Numbers      m, T, the times, and the passengers by field
--   Lists        the same numbers as four lists, whose first places are train 1 and field 1
--   times_of s, numbers_of s             the numbers that a sheet holds
--   times_in d r y, numbers_in m T L     the numbers that lists hold
-- Assumes nothing.
use Rattle.std.specs.Prelude.{ℕ, List}
use Rattle.lists.specs.Run.{nth}
use Rattle.sheet.specs.Format.{trains_of, period_of, departure_of, driving_of, delay_of, passengers_of}

pub record Times : Type 0 where
  pub departure : ℕ → ℕ
  pub driving : ℕ → ℕ
  pub delay : ℕ → ℕ

pub record Numbers : Type 0 where
  pub trains : ℕ
  pub period : ℕ
  pub times : Times
  pub passengers : ℕ → ℕ

abbrev pub times_of : List ℕ → Times
times_of s = record { departure = departure_of s; driving = driving_of s; delay = delay_of s }

abbrev pub numbers_of : List ℕ → Numbers
numbers_of s = record { trains = trains_of s; period = period_of s; times = times_of s; passengers = passengers_of s }

pub record Lists : Type 0 where
  pub departures : List ℕ
  pub driving : List ℕ
  pub delays : List ℕ
  pub passengers : List ℕ

abbrev pub lists : List ℕ → List ℕ → List ℕ → List ℕ → Lists
lists d r y p = record { departures = d; driving = r; delays = y; passengers = p }

abbrev pub times_in : List ℕ → List ℕ → List ℕ → Times
times_in d r y = record { departure = nth d; driving = nth r; delay = nth y }

abbrev pub numbers_in : ℕ → ℕ → Lists → Numbers
numbers_in m T L =
    record {
      trains = m;
      period = T;
      times = times_in L.departures L.driving L.delays;
      passengers = nth L.passengers;
    }
