-- Sheet A of document 01, "The bit sheet": m 1, T 10, departure 10, driving 15, delay 7, passengers 3, and its bytes.
-- Assumes nothing.
use Rattle.std.specs.Prelude.{ℕ, List, [], ◌∷◌}
use Rattle.sheet.specs.Numbers.{Numbers, lists, numbers_in}

abbrev pub numbers_a : Numbers
numbers_a = numbers_in 1 10 (lists (10 ∷ []) (15 ∷ []) (7 ∷ []) (3 ∷ []))

abbrev pub sheet_a : List ℕ
sheet_a = 0x02 ∷ 0x02 ∷ 0x80 ∷ 0x28 ∷ 0x0f ∷ 0x00 ∷ 0xe0 ∷ 0x01 ∷ 0x80 ∷ []
