use Rattle.query_resolver.proofs.NamedColumns.{AreFound}
use Rattle.query_resolver.proofs.key.columns_named.Given as goal

-- the columns of the names so far are found, and those of the others are left
abbrev pub invariant-names : goal.invariant-names
invariant-names l = AreFound l.schema.columns l.names l.name-index l.at.items
