-- The line of a sheet's numbers: numbers in range give a line in range, and the same numbers from a train on give lines
-- alike from there, whatever the functions say past the last train and the last field.
-- Assumes nothing.
use Rattle.std.proofs.Common.{◌≡◌, ap, sym, subst, ◌∙◌, ℕ, ◌+◌, ◌≤◌, ◌<◌, arith}
use Rattle.lists.proofs.Choice.{same_no}
use Rattle.line.specs.Line.{line_from}
use Rattle.line.specs.Alike.{LinesAlike}
use Rattle.line.specs.Ranges.{LineInRange}
use Rattle.line.proofs.Base.{base_in_range, base_alike}
use Rattle.sheet.specs.Numbers.{Numbers}
use Rattle.sheet.specs.Accepted.{InRange, SameNumbers, with_delay}
use Rattle.sheet.specs.Pairs.{IsPair, field_of_pair, passengers_of_pair}
use Rattle.sheet.proofs.Pairs.{pair_has_field}
use Rattle.prepare.specs.LineOf.{line_of}

-- two stations of the line as a pair
pair : (m i j : ℕ) → 1 ≤ i → i < j → j ≤ m + 1 → IsPair m i j
pair m i j a b c = record { least = a; apart = b; most = c }

-- every pair has a field, and no field holds more than 10,000
pub line_in_range : (N : Numbers) → InRange N → LineInRange (line_of N)
unfolding line_of passengers_of_pair
line_in_range N h =
    base_in_range _ _ _ _ _ _ h.trains_most h.period_most (λ i a b. (h.train i a b).delay)
    (λ i j a b c.
    let field = pair_has_field N.trains i j (pair _ i j a b c) in
    h.passengers _ field.0 field.1)

-- ---- the same numbers

-- m gives a pair its field
pub passengers_same : (N M : Numbers) → SameNumbers N M → (i j : ℕ) → 1 ≤ i → i < j → j ≤ M.trains + 1
    → passengers_of_pair N i j ≡ passengers_of_pair M i j
unfolding passengers_of_pair
passengers_same N M same i j a b c =
    let field = pair_has_field M.trains i j (pair _ i j a b c) in
    ap (λ (m : ℕ). N.passengers (field_of_pair m i j)) same.trains ∙ same.passengers _ field.0 field.1

-- one source delay replaced: from the next train on nothing changed
module _ (N M : Numbers) (i v : ℕ) (same : SameNumbers (with_delay N i v) M) where
  -- lines of m and T apart from the other numbers, because those of N and M are equal but not the same term
  abbrev Alike : ℕ → ℕ → Type 0
  Alike m T =
      LinesAlike (i + 1)
      (line_from m T N.times.departure N.times.driving N.times.delay (passengers_of_pair N)) (line_of M)

  pub lines_after : LinesAlike (i + 1) (line_of N) (line_of M)
  unfolding line_of passengers_of_pair
  lines_after =
      subst (λ (m : ℕ). Alike m N.period) (sym same.trains)
      (subst (λ (T : ℕ). Alike M.trains T) (sym same.period)
      (base_alike (i + 1) M.trains M.period _ _ _ _ _ _ _ _ (omega arith)
      (λ j a b. same.departure j (omega arith) b)
      (λ j a b. same.driving j (omega arith) b)
      (λ j a b. sym (same_no _ _ (λ e. omega arith)) ∙ same.delay j (omega arith) b)
      (λ j l a b c. passengers_same _ M same j l (omega arith) b c)))

-- nothing replaced, since there is no train 0
pub lines_of_same : (N M : Numbers) → SameNumbers N M → LinesAlike 1 (line_of N) (line_of M)
lines_of_same N M same =
    lines_after N M 0 0
    (record {
      trains = same.trains;
      period = same.period;
      departure = same.departure;
      driving = same.driving;
      delay = λ j a b. same_no _ _ (λ e. omega arith) ∙ same.delay j a b;
      passengers = same.passengers;
    })
