-- The key lies between its start and its end, within the bytes.
use Rattle.std.proofs.Common.{length, ap, arith}
use Rattle.value_ops.proofs.KeyBytesLaws.{kept_within, key_at, read_within}
use Rattle.value_ops.proofs.entries.Entries.key.Goals as goal

pub key_start-start-requires : goal.key_start-start-requires
key_start-start-requires c =
    rw c.deref.ensures.value
    (kept_within c.self.inside.entries.items c.self.inside.keys.items _ _ c.self.view_is c.requires)

pub index-requires : goal.index-requires
index-requires c =
    let entries = c.self.inside.entries in
    omega (
      arith,
      entries.ok.0,
      kept_within entries.items c.self.inside.keys.items _ _ c.self.view_is c.requires,
    )

pub slice_bounds-result-count : goal.slice_bounds-result-count
slice_bounds-result-count c =
    let entries = c.self.inside.entries.items in
    let bytes = c.self.inside.keys.items in
    let within = kept_within entries bytes _ _ c.self.view_is c.requires in
    let key = read_within entries c.deref.result.now (length bytes) c.args.i
    c.key_start-start.result c.index.result.now c.self.invariant.0 within c.deref.ensures.value
    c.key_start-start.ensures c.index.ensures in
    omega (arith, key.0)

pub slice_bounds-result-start : goal.slice_bounds-result-start
slice_bounds-result-start c =
    let entries = c.self.inside.entries.items in
    let bytes = c.self.inside.keys.items in
    let within = kept_within entries bytes _ _ c.self.view_is c.requires in
    let key = read_within entries c.deref.result.now (length bytes) c.args.i
    c.key_start-start.result c.index.result.now c.self.invariant.0 within c.deref.ensures.value
    c.key_start-start.ensures c.index.ensures in
    omega (arith, key.0, key.1, ap length c.as_slice.ensures.value)

pub slice_bounds-result-end : goal.slice_bounds-result-end
slice_bounds-result-end c =
    let entries = c.self.inside.entries.items in
    let bytes = c.self.inside.keys.items in
    let within = kept_within entries bytes _ _ c.self.view_is c.requires in
    let key = read_within entries c.deref.result.now (length bytes) c.args.i
    c.key_start-start.result c.index.result.now c.self.invariant.0 within c.deref.ensures.value
    c.key_start-start.ensures c.index.ensures in
    omega (arith, key.1, ap length c.as_slice.ensures.value)

pub returns : goal.returns
returns c =
    let entries = c.self.inside.entries.items in
    let bytes = c.self.inside.keys.items in
    let within = kept_within entries bytes _ _ c.self.view_is c.requires in
    rw (← c.self.view_is, c.as_slice.ensures.value)
    (key_at entries c.deref.result.now bytes c.args.i
    c.key_start-start.result c.index.result.now within c.deref.ensures.value
    c.key_start-start.ensures c.index.ensures)
