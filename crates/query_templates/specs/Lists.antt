-- Statement. Terms one after the other, and how many there are.
use Rattle.std.specs.Prelude.{ℕ, ◌+◌}
use Rattle.query_trees.specs.Trees.{Trees, none, leaf, call}

-- the terms and then the others
abbrev pub joined : Trees → Trees → Trees
joined none others = others
joined (leaf token rest) others = leaf token (joined rest others)
joined (call head arguments span rest) others = call head arguments span (joined rest others)

-- how many terms there are
abbrev pub count_of : Trees → ℕ
count_of none = 0
count_of (leaf token rest) = count_of rest + 1
count_of (call head arguments span rest) = count_of rest + 1
