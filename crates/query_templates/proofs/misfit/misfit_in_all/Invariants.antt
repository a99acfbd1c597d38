use Rattle.std.proofs.Common.{◌≡◌, drop, map}
use Rattle.std.specs.Option.{option_copied}
use Rattle.query_trees.specs.Trees.{trees_of}
use Rattle.query_templates.specs.Misfits.{first_misfit}
use Rattle.query_templates.specs.Plain.{plain_standings}
use Rattle.query_templates.specs.Standings.{if_all}
use Rattle.query_templates.proofs.misfit.misfit_in_all.Given as goal

-- those from the index on decide
abbrev pub invariant-others : goal.invariant-others
invariant-others l =
    if_all l.refusal (map (first_misfit l.text (option_copied l.parameters) l.place
    (trees_of l.arguments.written.now) (trees_of l.arguments.made.now))
    (plain_standings l.others))
    ≡ if_all l.refusal (map (first_misfit l.text (option_copied l.parameters) l.place
    (trees_of l.arguments.written.now) (trees_of l.arguments.made.now))
    (plain_standings (drop l.other-index l.others)))
