-- No entry so far has the key.
use Rattle.std.proofs.Common.{◌≡◌, drop, length}
use Rattle.value_ops.specs.Entries.{value_at}
use Rattle.value_ops.specs.KeyBytes.{entries_from, KeysFill}
use Rattle.value_ops.proofs.entries.Entries.get.Given as goal

abbrev pub invariant-entries : goal.invariant-entries
invariant-entries l =
    let left = drop l.entry-index l.entry-items in
    let bytes = l.self-inside.keys.items in
    KeysFill l.start left (length bytes)
    × (value_at l.key (entries_from l.start left bytes) ≡ value_at l.key l.self)
