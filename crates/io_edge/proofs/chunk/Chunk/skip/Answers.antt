use Rattle.std.proofs.Common.{◌≤◌, length, refl, subst, sym}
use Rattle.io_edge.specs.Chunked.{Chunked}
use Rattle.io_edge.proofs.Parts.{Chunked-same, part-skip}
use Rattle.io_edge.proofs.chunk.Chunk.skip.Goals as goal

pub returns : goal.returns
returns c =
    let chunk = c.self.inside in
    let within = subst (λ (part : Chunked). c.args.count ≤ length part.unread)
    (sym c.self.view_is) c.requires in
    rw (← c.self.view_is)
    (Chunked-same _ _ refl
    (part-skip chunk.bytes.items chunk.from chunk.to c.args.count c.self.invariant.2 within))
