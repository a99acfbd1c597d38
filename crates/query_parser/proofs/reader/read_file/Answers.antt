use Rattle.query_trees.specs.Trees.{trees_of}
use Rattle.query_parser.specs.Stop.{IsStopAfter, IsStopAt}
use Rattle.query_parser.proofs.Outcomes.{err_map}
use Rattle.query_parser.proofs.Passes.{stops_after}
use Rattle.query_parser.proofs.reader.read_file.Goals as goal

pub returns-clause-stopped : goal.returns-clause-stopped
returns-clause-stopped c =
    let trees = trees_of c.in_ok-trees.trees.items in
    err_map (IsStopAfter c.args.text.now trees) (IsStopAt c.args.text.now)
    (stops_after c.args.text.now trees c.in_ok-trees.ensures.shallow) c.file_of.result
    (rw c.deref.ensures.value at c.file_of.ensures.stopped)
