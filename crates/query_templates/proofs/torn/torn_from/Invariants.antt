use Rattle.std.proofs.Common.{◌≡◌, drop}
use Rattle.query_templates.specs.Standings.{torn_from}
use Rattle.query_templates.proofs.torn.torn_from.Given as goal

-- those from the index on decide
abbrev pub invariant-known : goal.invariant-known
invariant-known l = torn_from l.known l.one ≡ torn_from (drop l.other-index l.known) l.one
