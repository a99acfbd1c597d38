use Rattle.std.proofs.Common.{rules}
use Rattle.query_trees.specs.Trees.{trees_of}
use Rattle.query_parser.specs.Reading.{HasTrees, term, depth}
use Rattle.query_parser.specs.TreeReading.{AreShallow}
use Rattle.query_parser.proofs.Passes.{shallow_readable}
use Rattle.query_parser.proofs.reader.shallow_trees.Goals as goal

pub returns-in-Ok-clause-readable : goal.returns-in-Ok-clause-readable
returns-in-Ok-clause-readable c =
    let shallow : AreShallow c.args.text.now (trees_of c.in-Ok.trees.items) = search rules in
    shallow_readable c.args.text.now (trees_of c.in-Ok.trees.items) shallow

pub returns-in-Err-NoList-clause-stopped : goal.returns-in-Err-NoList-clause-stopped
returns-in-Err-NoList-clause-stopped c =
    let stopped = rw (c.in-Err-NoList.field-0-is, c.deref.ensures.value) at
    c.in-Err-NoList.ensures.stopped in
    rw c.refused.ensures (record {
      is = term c.in_ok-tokens.tokens.items c.in-Err-NoList.span c.in_ok-tokens.ensures.tokens
          stopped;
      before = tt;
    })

pub returns-in-Err-Deep-clause-stopped : goal.returns-in-Err-Deep-clause-stopped
returns-in-Err-Deep-clause-stopped c =
    let stopped = rw (c.in-Err-Deep.field-0-is, c.deref.ensures.value) at
    c.in-Err-Deep.ensures.stopped in
    let has : HasTrees c.args.text.now stopped.0 = record {
      tokens = c.in_ok-tokens.tokens.items;
      has = c.in_ok-tokens.ensures.tokens;
      are = stopped.1;
    } in
    rw c.refused-in-Err-Deep.ensures
    (record { is = depth stopped.0 c.in-Err-Deep.span has stopped.2; before = tt })
