use Rattle.std.proofs.Common.{SFits, arith, rules, w64}
use Rattle.std.proofs.lemmas.Int.{to_z-of_z}
use Rattle.plain_items.proofs.Becomes.{halves_begin, halves_nearer, halves_farther, halves_end}
use Rattle.plain_items.proofs.nearest_number.bisect.Goals as goal

pub halves-init : goal.halves-init
halves-init c =
    let is = to_z-of_z w64 c.args.number c.ranges.number in
    rw is (halves_begin c.args.cells.now c.args.item.now c.args.column c.args.form c.args.number
    c.requires.item c.requires.own _ (rw is at c.unsigned_abs-inside.ensures.value) c.requires.zero)

pub halves-preserved-then-branch : goal.halves-preserved-then-branch
halves-preserved-then-branch c =
    let is = to_z-of_z w64 c.args.number c.ranges.number in
    let near : SFits w64 c.with_sign_of-nearer.result = search rules in
    rw is (halves_nearer c.args.cells.now c.args.item.now c.args.column c.args.form c.args.number
    c.requires.item c.requires.own c.halves.outside c.halves.inside _
    (rw is at c.halves.invariant) _ _ _ (omega arith) (omega arith)
    (rw is at c.with_sign_of-nearer.ensures)
    (rw (to_z-of_z w64 c.with_sign_of-nearer.result near, c.if-branch.true) at
    c.in_ok-put_number.ensures))

pub halves-preserved : goal.halves-preserved
halves-preserved c =
    let is = to_z-of_z w64 c.args.number c.ranges.number in
    let near : SFits w64 c.with_sign_of-nearer.result = search rules in
    rw is (halves_farther c.args.cells.now c.args.item.now c.args.column c.args.form c.args.number
    c.requires.item c.requires.own c.halves.outside c.halves.inside _
    (rw is at c.halves.invariant) _ _ _ (omega arith) (rw is at c.with_sign_of-nearer.ensures)
    (rw (to_z-of_z w64 c.with_sign_of-nearer.result near, c.if-branch.false) at
    c.in_ok-put_number.ensures))

pub returns : goal.returns
returns c =
    let is = to_z-of_z w64 c.args.number c.ranges.number in
    halves_end c.args.cells.now c.args.item.now c.args.column c.args.form c.args.number
    c.requires.item c.requires.own c.halves.outside c.halves.inside _ (rw is at c.halves.invariant)
    (omega arith)
