use Rattle.std.proofs.Common.{◌≡◌, ◌∷◌, [], drop, take}
use Rattle.query_templates.specs.Definitions.{wrong_names}
use Rattle.query_templates.specs.Plain.{templates_of}
use Rattle.query_templates.proofs.definition.wrong_parameter.Given as goal

-- the parameters from the index on decide
abbrev pub invariant-parameters : goal.invariant-parameters
invariant-parameters l =
    wrong_names l.text (templates_of l.templates) (l.heading.name ∷ []) l.parameters
    ≡ wrong_names l.text (templates_of l.templates) (l.heading.name ∷ take l.at l.parameters)
    (drop l.at l.parameters)
