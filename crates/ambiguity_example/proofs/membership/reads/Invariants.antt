use Rattle.std.proofs.Common.{take}
use Rattle.rate_expr.specs.After.{IsAfter, IsStateOf}
use Rattle.ambiguity_example.proofs.membership.reads.Given as goal

-- the state after the items that were read
abbrev pub invariant-items : goal.invariant-items
invariant-items l = record {
  after : IsAfter l.nfa.sets (take l.item-index l.items) l.state;
  exists : IsStateOf l.nfa.sets l.state;
}
