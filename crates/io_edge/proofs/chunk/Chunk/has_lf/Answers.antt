use Rattle.std.proofs.Common.{◌<◌, ◌≤◌, arith}
use Rattle.std.proofs.lemmas.Bool.Decides.{nat_tests}
use Rattle.io_edge.proofs.LinesEnds.{part_lf, part_no_lf}
use Rattle.io_edge.proofs.chunk.Chunk.has_lf.Goals as goal

pub returns-clause-some : goal.returns-clause-some
returns-clause-some c is =
    let chunk = c.self.inside in
    let before : chunk.from < chunk.lines_end = grind (arith, nat_tests, is) in
    rw (← c.self.view_is) (part_lf chunk.bytes.items chunk.lines_end chunk.from chunk.to
    c.self.invariant.2 c.self.invariant.5 before)

pub returns-clause-none : goal.returns-clause-none
returns-clause-none c is =
    let chunk = c.self.inside in
    let after : chunk.lines_end ≤ chunk.from = grind (arith, nat_tests, is) in
    rw (← c.self.view_is) (part_no_lf chunk.bytes.items chunk.lines_end chunk.from chunk.to
    c.self.invariant.2 c.self.invariant.5 after)
