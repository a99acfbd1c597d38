use Rattle.std.proofs.Common.{◌<◌, take, get_or, length, arith}
use Rattle.std.proofs.lemmas.List.{take_more}
use Rattle.dead_example.proofs.InCells.{lines_more}
use Rattle.dead_example.proofs.lines.lines_of.Goals as goal

pub places-preserved : goal.places-preserved
places-preserved c =
    let xs = c.args.places.now in
    let i = c.places.place-index in
    let within : i < length xs = omega arith in
    let line = rw c.in-Some.is at c.in_ok-line.ensures in
    rw (take_more xs i 0 within, c.in_ok-push-in-Some.ensures.items)
    (lines_more c.args.cells.now (take i xs) c.places.lines.items (get_or xs i 0) _
    c.places.invariant line)
