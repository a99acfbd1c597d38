-- Statement. The first name of a key by which it breaks the rule `name` or the rule `type`.
use Rattle.std.specs.Prelude.{List, [], ◌∷◌, Option, None, Some, if◌then◌else◌}
use Rattle.std.specs.Str.{bytes_eq}
use Rattle.query_syntax.specs.declared.leaf.Name.{Name}
use Rattle.query_syntax.specs.declared.stream.Column.{Column}
use Rattle.explanation.specs.Misfits.{unless_key}
use Rattle.explanation.specs.Scopes.{Scope, unless_known}
use Rattle.explanation.specs.Unknown.{first_of}
use Rattle.explanation.specs.declared.culprit.Culprit.{Culprit}
use Rattle.explanation.specs.declared.culprit.Culprit.TheVariants.{TwiceKey}

-- the first that is not known
abbrev pub unknown_of : Scope → List Name → Option Culprit
unknown_of scope [] = None
unknown_of scope (name ∷ others) = first_of (unless_known scope name) (unknown_of scope others)

-- the first place at which the name stands among others
abbrev pub again_in : Name → List Name → Option Culprit
again_in name [] = None
again_in name (other ∷ rest) =
    if bytes_eq name.bytes other.bytes then Some (TwiceKey other.span) else again_in name rest

-- the first that stands again, at its second place
abbrev pub named_twice : List Name → Option Culprit
named_twice [] = None
named_twice (name ∷ others) = first_of (again_in name others) (named_twice others)

-- the first that is the name of a column of numbers
abbrev pub misfit_name : List Column → List Name → Option Culprit
misfit_name columns [] = None
misfit_name columns (name ∷ others) =
    first_of (unless_key columns name) (misfit_name columns others)
