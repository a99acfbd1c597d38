use Rattle.std.proofs.Common.{◌≡◌, ◌≢◌, ◌<◌, length, ap, sym, ◌∙◌, arith}
use Rattle.std.proofs.lemmas.Bool.Decides.{nat_tests}
use Rattle.line_reader.specs.CutLines.{texts_in}
use Rattle.line_reader.specs.Reading.{fields_of, item_of}
use Rattle.line_reader.proofs.CutLines.{cut_item_of, uncut_item_of}
use Rattle.line_reader.proofs.item_reader.line_item.Goals as goal
use Rattle.line_reader.proofs.item_reader.line_item.Goals.{then-not-is_empty+else-commas-columns}
use Rattle.line_reader.proofs.item_reader.line_item.Goals.{else-not-is_empty}

-- a line of as many texts as there are columns has the item of its texts
cut : (c : goal.After-item)
    → item_of c.args.schema.now.columns c.args.line.now
    ≡ fields_of 1 c.args.schema.now.columns (texts_in c.without_mark-bytes.result.now)
cut c =
    let tested = sym c.is_empty.ensures ∙ c.if-not-is_empty.true in
    let some : 0 < length c.without_mark-bytes.result.now = grind (arith, nat_tests, tested) in
    let same : length c.columns.result.now ≡ length c.args.schema.now.columns =
    ap (λ columns. length columns) c.columns.ensures.columns in
    let each : length (texts_in c.without_mark-bytes.result.now)
    ≡ length c.args.schema.now.columns =
    omega (
      arith,
      c.commas.ensures c.without_mark-bytes.result.now c.in-Some.ensures.1,
      c.if-commas-columns.true,
      same,
      c.columns.ensures.layout.some,
    ) in
    cut_item_of c.args.schema.now.columns c.args.line.now c.without_mark-bytes.result.now
    c.without_mark-bytes.ensures some c.in-Some.ensures.0 each

pub returns-in-Some-clause-item : goal.returns-in-Some-clause-item
returns-in-Some-clause-item c = rw (cut c) c.item.ensures.item

pub returns-in-Some-clause-stopped : goal.returns-in-Some-clause-stopped
returns-in-Some-clause-stopped c = rw (cut c) c.item.ensures.stopped

pub returns-in-Some-2-clause-stopped : goal.returns-in-Some-2-clause-stopped
returns-in-Some-2-clause-stopped c =
    let other : 0 < length c.without_mark-bytes.result.now
    → length (texts_in c.without_mark-bytes.result.now) ≢ length c.args.schema.now.columns =
    elim c.if-not-is_empty.branch [
      | then-not-is_empty+else-commas-columns w ↦
          λ some each.
          let same : length w.columns.result.now ≡ length c.args.schema.now.columns =
          ap (λ columns. length columns) w.columns.ensures.columns in
          w.if-commas-columns.false (omega (
            arith,
            w.commas.ensures c.without_mark-bytes.result.now c.in-Some.ensures.1,
            each,
            same,
          ))
      | else-not-is_empty w ↦
          λ some each.
          let tested = sym c.is_empty.ensures ∙ w.if-not-is_empty.false in
          let none : length c.without_mark-bytes.result.now ≡ 0 =
          grind (arith, nat_tests, tested) in
          omega (arith, none, some)
    ] in
    rw (c.skip.ensures)
    (uncut_item_of c.args.schema.now.columns c.args.line.now c.without_mark-bytes.result.now
    c.without_mark-bytes.ensures c.in-Some-2.ensures.0 other)
