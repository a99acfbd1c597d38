use Rattle.std.proofs.Common.{◌≡◌, drop}
use Rattle.std.specs.Option.{option_copied}
use Rattle.query_trees.specs.Trees.{trees_of}
use Rattle.query_templates.specs.Misfits.{first_misfit}
use Rattle.query_templates.proofs.misfit.first_misfit.Given as goal

-- those from the index on decide
abbrev pub invariant-standings : goal.invariant-standings
invariant-standings l =
    first_misfit l.text (option_copied l.parameters) l.place
    (trees_of l.arguments.written.now) (trees_of l.arguments.made.now) l.standings
    ≡ first_misfit l.text (option_copied l.parameters) l.place
    (trees_of l.arguments.written.now) (trees_of l.arguments.made.now)
    (drop l.one-index l.standings)
