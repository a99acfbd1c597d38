use Rattle.std.proofs.Common.{◌≡◌, ◌+◌, List, length}
use Rattle.std.specs.List.{AllByRecursion}
use Rattle.item_schema.specs.declared.column.Column.{Column}
use Rattle.query_model.specs.Bounds.{slots_of}
use Rattle.query_model.specs.Queries.{plain_of}
use Rattle.eval_nodes.specs.Counts.{stored_in}
use Rattle.eval_nodes.specs.Plain.{seen_of}
use Rattle.eval_nodes.specs.Represents.{KeepsFew}
use Rattle.eval_nodes.specs.Runners.{IsSoundOf}
use Rattle.restored_nodes.proofs.runners.rest_in_other_places.Given as goal

-- so many places are taken
abbrev pub invariant-idle : goal.invariant-idle
invariant-idle l =
    (l.held.live ≡ l.fn.held.live) × (l.held.room ≡ l.fn.held.room)
    × (length l.held.live + length l.held.idle ≡ l.counter)
    × ((columns : List Column)
    → AllByRecursion (IsSoundOf seen_of columns (plain_of l.query.shape)) l.held.idle)
    × AllByRecursion (KeepsFew seen_of (stored_in seen_of (plain_of l.query.shape))
    (slots_of (plain_of l.query.shape)))
    l.held.idle
