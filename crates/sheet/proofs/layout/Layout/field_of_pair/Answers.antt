-- `layout::Layout::field_of_pair` meets its contract: half of a product, which is small.
use Rattle.std.proofs.Common.{◌≡◌, sym, le_trans, le_of_eq, arith, ◌+◌, ◌-◌, ◌*◌, ◌≤◌}
use Rattle.sheet.specs.Pairs.{fields_up_to}
use Rattle.sheet.proofs.Lengths.{pairs_le}
use Rattle.sheet.proofs.Pairs.{fields_closed, field_closed, fields_mono, fields_all, pair_has_field}
use Rattle.sheet.proofs.layout.Layout.field_of_pair.Goals as goal
use Rattle.sheet.proofs.layout.Layout.field_of_pair.Goals.{After-index-before}

-- the product is twice the fields of the stations before
before_fields : (c : After-index-before) →
    let m = c.args.self.m in
    let k = c.index-before.result in
    (k * (2 * m + 1 - k) ≡ 2 * fields_up_to m k) × (fields_up_to m k ≤ 2080) × (k ≤ m)
before_fields c =
    let m = c.args.self.m in
    let k = c.index-before.result in
    let pair = c.requires in
    let inside : k ≤ m = omega (arith, c.index-before.ensures, pair.apart, pair.most) in (
      fields_closed m k inside,
      omega (arith, fields_mono m k m inside, fields_all m, pairs_le m c.args.self.few),
      inside,
    )

-- half the product is what the earlier stations have
pub returns : goal.returns
returns c =
    let m = c.args.self.m in
    let k = c.index-before.result in
    let i = c.args.from.0 in
    let j = c.args.to.0 in
    let e = field_closed m k i j c.index-before.ensures
    (omega (arith, (before_fields (goal.at.returns c).After-index-before).2)) in (
      e,
      le_trans (pair_has_field m i j c.requires).0 (le_of_eq (sym e)),
      le_trans (le_of_eq e) (pair_has_field m i j c.requires).1,
    )
