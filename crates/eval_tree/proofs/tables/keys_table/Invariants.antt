use Rattle.std.proofs.Common.{◌≡◌, length, take}
use Rattle.map_collect.specs.Keys.{followers_of, names_of}
use Rattle.eval_nodes.specs.Plain.{seen_of}
use Rattle.step_laws.specs.Pushes.{entries_in}
use Rattle.eval_tree.proofs.tables.keys_table.Given as goal

abbrev pub invariant-keys : goal.invariant-keys
invariant-keys l =
    (l.table ≡ entries_in seen_of (take l.i (names_of l.keys)) (take l.i (followers_of l.keys)))
    × (l.i-end ≡ length (names_of l.keys))
