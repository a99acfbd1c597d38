use Rattle.query_syntax.proofs.Names.{AreNamed}
use Rattle.query_syntax.proofs.key_reading.names_of.Given as goal

-- the terms so far are what the names so far are written as
abbrev pub invariant-arguments : goal.invariant-arguments
invariant-arguments l = AreNamed l.arguments l.names.items l.argument-index
