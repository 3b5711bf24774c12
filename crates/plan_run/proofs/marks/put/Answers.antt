-- A list with these marks is the one listed.
use Rattle.std.proofs.Common.{◌≡◌, ◌+◌, ◌*◌, ◌<◌, sym, ◌∙◌, arith}
use Rattle.std.proofs.lemmas.List.{ext_get_or}
use Rattle.lists.proofs.Run.{listed_length, listed_at}
use Rattle.plan_run.proofs.marks.put.Goals as goal

pub returns : goal.returns
returns c =
    let marked = c.loop-k.invariant in
    ext_get_or 0 _ _ (marked.long ∙ sym (listed_length _ 1 4100))
    (λ j b.
    let below : j < 4100 = omega (arith, marked.long) in
    let from : (j + 1) * 1000003 ≡ (1 + j) * 1000003 = omega arith in
    marked.marks j (omega (arith, marked.long)) ∙ from ∙ sym (listed_at _ 0 1 4100 j below))
