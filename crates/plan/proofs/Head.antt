-- A planned sheet is accepted, so it has a head: its first field lies within it and is a number of trains, at most 64.
-- Assumes nothing.
use Rattle.std.proofs.Common.{ℕ, ◌≤◌, arith, ◌≡◌, sym, ◌∙◌, List, Ok}
use Rattle.std.proofs.Math.Dec.{lit≤}
use Rattle.bits.specs.Field.{field_of, Within}
use Rattle.terms.proofs.Answers.{accepted_answer}
use Rattle.terms.specs.Answer.{Answer}
use Rattle.sheet.specs.Format.{trains_of}
use Rattle.sheet.specs.Accepted.{AcceptedSheet}
use Rattle.sheet.proofs.Lengths.{bytes_bits, layout}
use Rattle.planner.specs.Buffers.{Buffers}
use Rattle.planner.specs.Plan.{plan_verdict, Plan}
use Rattle.planner.proofs.Refusals.{accepted_of_plan}

pub sheet_accepted : (s : List ℕ) {before after : Buffers} {a : Answer} {n : ℕ} → Plan s before after a → a ≡ Ok n
    → AcceptedSheet s
sheet_accepted s {before} plan accepted =
    (accepted_of_plan s before (accepted_answer (plan_verdict s before) _ (sym accepted ∙ plan.answer)).0).1

pub head_within : (s : List ℕ) → AcceptedSheet s → Within s 0 7
head_within s ok =
    let long = bytes_bits (trains_of s) in
    let fields = layout (trains_of s) in
    record { inside = omega (arith, ok.long, long, fields); narrow = lit≤ tt; near = lit≤ tt }

pub head_trains : (s : List ℕ) → AcceptedSheet s → field_of s 0 7 ≤ 64
head_trains s ok = ok.numbers.trains_most
