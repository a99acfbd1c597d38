-- the tokens that follow, inside of this many calls, give what all of them give
use Rattle.std.proofs.Common.{◌≡◌, ◌≤◌, drop}
use Rattle.query_trees.specs.Ends.{closing}
use Rattle.query_trees.proofs.term_span.closing.Given as goal

abbrev pub invariant-tokens : goal.invariant-tokens
invariant-tokens l = record {
  same : closing (drop l.token-index l.tokens) l.calls ≡ closing l.tokens 0;
  few : l.calls ≤ l.token-index;
}
