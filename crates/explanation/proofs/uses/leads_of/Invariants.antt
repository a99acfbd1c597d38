use Rattle.std.proofs.Common.{[], map, take}
use Rattle.query_syntax.specs.Plain.{plain_let}
use Rattle.explanation.specs.Leads.{AreLeads}
use Rattle.explanation.specs.Uses.{known_after}
use Rattle.explanation.proofs.uses.leads_of.Given as goal

-- what is known of the lets so far
abbrev pub invariant-lets : goal.invariant-lets
invariant-lets l =
    AreLeads l.leads (known_after l.inside l.place [] (map plain_let (take l.one-index l.lets)))
