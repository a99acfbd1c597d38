use Rattle.std.proofs.Common.{◌≡◌, drop, map}
use Rattle.std.specs.List.{list_any}
use Rattle.query_templates.specs.Names.{is_named}
use Rattle.query_templates.specs.Shown.{shown}
use Rattle.query_templates.proofs.language.is_one_of.Given as goal

-- the names from the index on decide
abbrev pub invariant-names : goal.invariant-names
invariant-names l =
    list_any (is_named l.text l.place) (map shown l.names)
    ≡ list_any (is_named l.text l.place) (map shown (drop l.name-index l.names))
