-- No useless version keeps the contracts: on sheet B the answer is 176, and decision byte 2 is 0; with T 13 it is 1,
-- and so it is after the report of b7, which answers 68.
-- Assumes nothing.
use Rattle.std.proofs.Common.{◌≡◌, sym, ap, subst, ◌∙◌, List, ℕ, arith}
use Rattle.lists.specs.Run.{nth, padded}
use Rattle.lists.proofs.Choice.{below_yes}
use Rattle.lists.proofs.Run.{padded_nth}
use Rattle.terms.specs.Answer.{answer_carries}
use Rattle.line.specs.Cases.{b4, b6, b7}
use Rattle.sheet.proofs.Facts.{accepted_of_fine}
use Rattle.cells.specs.Shown.{shown}
use Rattle.cells.specs.Limits.{FirstOver}
use Rattle.demands.specs.Sheets.{sheet_b, decision_bytes}
use Rattle.demands.specs.Useless.{RefusesAllBreaks, SameDecisionsBreak, AllKeepBreaks, DoesNothingBreaks}
use Rattle.demands.specs.Useless.{DecisionsStayBreak, StaysBlankBreaks, RepeatsPlanBreaks, WritesEarlyBreaks}
use Rattle.demands.proofs.Sheets.{sheet_b_accepted, answers_b, answers_b13}
use Rattle.demands.proofs.Reports.{trains_b, answers_b7}
use Rattle.demands.proofs.Answered.{all_right, report_answered}

-- byte 2 of 64, the first three of which are given
byte_two : (bytes ds : List ℕ) → bytes ≡ padded 64 3 (nth ds) → nth bytes 2 ≡ nth ds 2
byte_two bytes ds e = padded_nth bytes 64 3 (nth ds) e (omega arith) 2 (omega arith) (omega arith)

pub refuses_all_breaks : RefusesAllBreaks
refuses_all_breaks before after r right h =
    let answer = (answers_b before after _ right h).answer in
    cc

pub same_decisions_break : SameDecisionsBreak
same_decisions_break before after before' after' a a' right right' h h' same =
    let zero = byte_two after.decisions (decision_bytes b4) (answers_b before after a right h).held.decisions in
    let thirteen = answers_b13 before' after' a' right' h' in
    let one = byte_two after'.decisions (decision_bytes b6) thirteen.held.decisions in
    absurd (omega (arith, zero, one, ap (λ (l : List ℕ). nth l 2) same))

pub all_keep_breaks : AllKeepBreaks
unfolding shown
all_keep_breaks before after a right h same =
    let zero = byte_two after.decisions (decision_bytes b4) (answers_b before after a right h).held.decisions in
    let one : nth after.decisions 2 ≡ 1
    = padded_nth after.decisions 64 3 _ same (omega arith) 2 (omega arith) (omega arith)
    ∙ below_yes _ _ (omega arith) in
    absurd (omega (arith, zero, one))

pub does_nothing_breaks : DoesNothingBreaks
does_nothing_breaks b a right other h = other (answers_b b b a right h).held

pub decisions_stay_break : DecisionsStayBreak
decisions_stay_break before after a right other h same =
    other (sym same ∙ (answers_b before after a right h).held.decisions)

pub stays_blank_breaks : StaysBlankBreaks
stays_blank_breaks before after a right blank h same =
    let zero = byte_two after.decisions (decision_bytes b4) (answers_b before after a right h).held.decisions in
    let two : nth after.decisions 2 ≡ 2 = ap (λ (l : List ℕ). nth l 2) (same ∙ blank) in
    absurd (omega (arith, zero, two))

pub repeats_plan_breaks : RepeatsPlanBreaks
repeats_plan_breaks after4 a4 t before after a h =
    let old = answers_b h.lent after4 a4 h.lent_right h.plan in
    let new = answers_b7 after4 a4 t before after a h in (
      λ same.
          let zero = byte_two after4.decisions (decision_bytes b4) old.held.decisions in
          let one = byte_two after.decisions (decision_bytes b7) new.held.decisions in
          absurd (omega (arith, zero, one, ap (λ (l : List ℕ). nth l 2) same)),
      λ same.
          let nine : nth after4.delays 1 ≡ 9
          = padded_nth _ 64 3 _ old.held.delays (omega arith) 1 (omega arith) (omega arith) in
          let five : nth after.delays 1 ≡ 5
          = padded_nth _ 64 3 _ new.held.delays (omega arith) 1 (omega arith) (omega arith) in
          absurd (omega (arith, nine, five, ap (λ (l : List ℕ). nth l 1) same)),
      λ same. absurd (omega (arith, ap answer_carries (sym new.answer ∙ same ∙ old.answer))),
    )

pub writes_early_breaks : WritesEarlyBreaks
writes_early_breaks before after t a k right first h =
    let told = report_answered sheet_b 1 5 before t after a h in
    let ok = accepted_of_fine sheet_b sheet_b_accepted in
    let over = subst (λ (m : ℕ). FirstOver m 1 before.cells k) (sym trains_b) first in
    let twelve = told.over (all_right right) ok (omega arith) (omega (arith, trains_b)) (omega arith) k over in
    (twelve, told.sheet (λ zero. absurd (omega (arith, zero, twelve.number))))
