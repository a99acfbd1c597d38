-- the place is the one after the tokens so far, inside of no more calls than these
use Rattle.std.proofs.Common.{◌≡◌, ◌≤◌, Some, take}
use Rattle.query_trees.specs.Steps.{walk, start, calls_of}
use Rattle.query_trees.proofs.token_pass.check.Given as goal

abbrev pub invariant-tokens : goal.invariant-tokens
invariant-tokens l = record {
  at : walk start (take l.token-index l.tokens) ≡ Some l.place;
  few : calls_of l.place ≤ l.token-index;
}
