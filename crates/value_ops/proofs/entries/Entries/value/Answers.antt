-- The scalar of the entry that is read.
use Rattle.std.proofs.Common.{arith}
use Rattle.value_ops.proofs.KeyBytesLaws.{kept_within, scalar_at}
use Rattle.value_ops.proofs.entries.Entries.value.Goals as goal

pub index-requires : goal.index-requires
index-requires c =
    let entries = c.self.inside.entries in
    omega (
      arith,
      entries.ok.0,
      kept_within entries.items c.self.inside.keys.items _ _ c.self.view_is c.requires,
    )

pub returns : goal.returns
returns c =
    let entries = c.self.inside.entries.items in
    let bytes = c.self.inside.keys.items in
    let within = kept_within entries bytes _ _ c.self.view_is c.requires in
    rw (← c.self.view_is) (scalar_at 0 entries bytes _ _ within c.index.ensures)
