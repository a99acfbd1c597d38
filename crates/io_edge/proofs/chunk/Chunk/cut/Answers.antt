use Rattle.std.proofs.Common.{◌<◌, ◌+◌, ◌-◌, length, take, drop, subst, sym, arith}
use Rattle.io_edge.specs.Chunked.{Chunked}
use Rattle.io_edge.proofs.Parts.{Chunked-same, part-cut, part-skip}
use Rattle.io_edge.proofs.chunk.Chunk.cut.Goals as goal

pub returns : goal.returns
returns c =
    let chunk = c.self.inside in
    let items = chunk.bytes.items in
    let within : c.args.at < length (take (chunk.to - chunk.from) (drop chunk.from items)) =
    subst (λ (part : Chunked). c.args.at < length part.unread) (sym c.self.view_is) c.requires
    in
    let few = rw c.deref.ensures.value at c.count_without_cr-count.ensures.within in
    let shown = rw c.deref.ensures.value at c.count_without_cr-count.ensures.shown in
    rw (← c.self.view_is)
    (Chunked-same _ _
    (part-cut items chunk.from chunk.to c.args.at c.count_without_cr-count.result c.self.invariant.2
    within few shown)
    (part-skip items chunk.from chunk.to (c.args.at + 1) c.self.invariant.2
    (omega (arith, within))))
