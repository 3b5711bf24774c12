-- Laws of a column that is put place by place.
-- Assumes nothing.
use Rattle.std.proofs.Common.{below_more, ◌≡◌, refl, ◌∙◌, List, inl, ℕ, ◌+◌, ◌*◌, ◌≤◌, ◌<◌, not-suc-le-zero}
use Rattle.std.proofs.Common.{mul-le-mul_left, mul-suc, arith, get_or}
use Rattle.bits.specs.Field.{Put}
use Rattle.bits.proofs.Puts.{put_apart}
use Rattle.sheet.specs.declared.format.Column.{Column}
use Rattle.sheet.specs.Format.{entry}
use Rattle.writer.specs.Putting.{ColumnPut}

pub column_none : (s : List ℕ) (c : Column) (l : List ℕ) → ColumnPut s c 0 l s
column_none s c l = record { long = refl; holds = λ k b. absurd (not-suc-le-zero b); others = λ a w h. refl }

-- an earlier place of a column ends before a later one begins
places_apart : (c : Column) (k n : ℕ) → c.width ≤ c.step → k < n
    → c.first + c.step * k + c.width ≤ c.first + c.step * n
places_apart c k n s l = omega (arith, mul-le-mul_left c.step l, mul-suc c.step k)

pub column_next : {s t u : List ℕ} {c : Column} {n v : ℕ} {l : List ℕ} → ColumnPut s c n l t → c.width ≤ c.step
    → v ≡ get_or l n 0 → Put t (c.first + c.step * n) c.width v u → ColumnPut s c (n + 1) l u
unfolding entry
column_next {s} {t} {u} {c} {n} {v} {l} g spaced same h =
    record {
      long = h.long ∙ g.long;
      holds = below_more _ _ (λ k a. put_apart h _ _ (inl (places_apart c k n spaced a)) ∙ g.holds k a)
          (h.holds ∙ same);
      others = λ a w o. put_apart h a w (o n (omega arith)) ∙ g.others a w (λ k b. o k (omega arith));
    }
