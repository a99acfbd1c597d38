-- Statement. Which limit a query exceeds that breaks the rule `size`: the first, in the order in
-- which limits are checked.
use Rattle.std.specs.Prelude.{ℕ, Option, None, Some, nat_lt, if◌then◌else◌}
use Rattle.language_base.specs.Limits.{max_nodes}
use Rattle.language_base.specs.declared.refusal.Refusal.{Refusal}
use Rattle.language_base.specs.declared.rule.Rule.{Rule}
use Rattle.language_base.specs.declared.rule.Rule.TheVariants as rule
use Rattle.query_lets.specs.Sizes.{nodes_of}
use Rattle.query_lets.specs.Unfolded.{unfolded}
use Rattle.query_syntax.specs.Programs.{Program}
use Rattle.explanation.specs.Positions.{few_positions}
use Rattle.explanation.specs.declared.limit.Limit.{Limit}
use Rattle.explanation.specs.declared.limit.Limit.TheVariants.{Nodes, Positions, Slots}

-- a limit other than that of nodes
abbrev pub other_limit : Option ℕ → Limit
other_limit (Some positions) = Slots
other_limit None = Positions

-- the limit that the main query after lets exceeds
abbrev pub passed_limit : Program → Limit
passed_limit program =
    if nat_lt max_nodes (nodes_of (unfolded program)) then Nodes
    else other_limit (few_positions (unfolded program))

-- the limit that a program exceeds if it breaks this rule
abbrev pub limit_for : Rule → Program → Option Limit
limit_for rule.Size program = Some (passed_limit program)
limit_for _ program = None

-- the limit that a refused program exceeds, if that is why it is refused
abbrev pub limit_of : Program → Refusal → Option Limit
limit_of program refusal = limit_for refusal.rule program
