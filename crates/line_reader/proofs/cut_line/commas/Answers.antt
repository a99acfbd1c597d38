use Rattle.std.proofs.Common.{true, false, [], sym, ◌∙◌, take_all, arith}
use Rattle.std.proofs.lemmas.Grind.{common_steps}
use Rattle.line_reader.proofs.FieldTexts.{count_at, none_at}
use Rattle.line_reader.proofs.cut_line.commas.Goals as goal
use Rattle.line_reader.proofs.cut_line.commas.Goals.{then-ends_field, else-ends_field}

pub loop-byte-preserved : goal.loop-byte-preserved
loop-byte-preserved c =
    let line = c.args.line.now in
    let i = c.loop-byte.byte-index in
    let place = c.loop-byte.place in
    elim c.if-ends_field.branch [
      | then-ends_field w ↦ record {
        counted = rw c.after-place.ensures (omega (
          arith,
          w.commas-is,
          c.loop-byte.invariant.counted,
          count_at place line i true c.loop-byte-test.true
              (sym c.ends_field.ensures ∙ w.if-ends_field.true),
        ));
        few = omega (arith, w.commas-is, c.loop-byte.invariant.few);
        none = grind (arith, common_steps);
      }
      | else-ends_field w ↦ record {
        counted = rw c.after-place.ensures (omega (
          arith,
          w.commas-is,
          c.loop-byte.invariant.counted,
          count_at place line i false c.loop-byte-test.true
              (sym c.ends_field.ensures ∙ w.if-ends_field.false),
        ));
        few = omega (arith, w.commas-is, c.loop-byte.invariant.few);
        none = grind (arith, common_steps);
      }
    ]

pub returns : goal.returns
returns c =
    let line = c.args.line.now in
    let i = c.loop-byte.byte-index in (
      rw (take_all i line c.loop-byte-test.false) at c.loop-byte.invariant.none,
      omega (
        arith,
        rw (none_at c.loop-byte.place [] line i c.loop-byte-test.false) at
            c.loop-byte.invariant.counted,
      ),
    )
