use Rattle.std.proofs.Common.{◌≡◌, [], drop, take}
use Rattle.query_templates.specs.declared.standing.Standing.{Standing}
use Rattle.query_templates.specs.Standings.{first_torn, torn_from}
use Rattle.query_templates.proofs.torn.first_torn.Given as goal

-- none so far is torn, and the firsts of each kind are as good as all so far
abbrev pub invariant-standings : goal.invariant-standings
invariant-standings l = record {
  later : first_torn [] l.standings
      ≡ first_torn (take l.one-index l.standings) (drop l.one-index l.standings);
  same : (other : Standing)
      → torn_from l.firsts.items other ≡ torn_from (take l.one-index l.standings) other;
}
