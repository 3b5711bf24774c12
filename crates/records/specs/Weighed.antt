-- What a list holds, as one number.
--   cut n          n modulo 10^18
--   weighed k xs   each place times what stands there; the first place is k
--   sum_of xs      the same with places from 1, cut
-- Assumes nothing.
use Rattle.std.specs.Prelude.{ℕ, ◌+◌, ◌*◌, ◌%◌, List, [], ◌∷◌}

abbrev pub cut : ℕ → ℕ
cut n = n % 1000000000000000000

unfoldable pub weighed : ℕ → List ℕ → ℕ
weighed k [] = 0
weighed k (x ∷ xs) = k * x + weighed (k + 1) xs

abbrev pub sum_of : List ℕ → ℕ
sum_of xs = cut (weighed 1 xs)
