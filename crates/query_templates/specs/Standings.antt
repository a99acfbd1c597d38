-- Statement. Where the parameters of a template stand in its body, and parameters for which no
-- argument can stand, since their places are of two kinds.
use Rattle.std.specs.Prelude.{ℕ, Bool, ◌&&◌, ◌==◌, List, [], ◌∷◌, ◌++◌, not, map}
use Rattle.std.specs.Prelude.{Option, Some, None, option_and_then, if◌then◌else◌}
use Rattle.std.specs.List.{filter_map}
use Rattle.query_tokens.specs.declared.token.Token.{Token}
use Rattle.query_trees.specs.Trees.{Trees, leaf, call}
use Rattle.query_forms.specs.declared.term_place.TermPlace.{TermPlace}
use Rattle.query_templates.specs.declared.refusal.TemplateCause.TheVariants.{TwoKinds}
use Rattle.query_templates.specs.declared.refusal.TemplateRefusal.{TemplateRefusal}
use Rattle.query_templates.specs.declared.standing.Standing.{Standing}
use Rattle.query_templates.specs.Expansion.{parameter_at}
use Rattle.query_templates.specs.Kinds.{all_places, go_together, places_inside, takes_token}
use Rattle.query_templates.specs.Lists.{count_of}
use Rattle.query_templates.specs.Refusals.{first_of, refused}
use Rattle.query_templates.specs.Templates.{Template}

-- one after the other, if there are both
abbrev pub both : Option (List Standing) → Option (List Standing) → Option (List Standing)
both None others = None
both (Some first) None = None
both (Some first) (Some others) = Some (first ++ others)

-- what a word of a body at a place has: itself, if it is a parameter; any other has nothing, if it
-- may be there
abbrev pub stand_word : List ℕ → TermPlace → Token → Option ℕ → Option (List Standing)
stand_word text at word None = if takes_token text at word then Some [] else None
stand_word text at word (Some parameter) =
    Some (record { parameter = parameter; at = at; word = word.span } ∷ [])

-- the parameters in terms of a body at these places, if all else may be there
abbrev pub stand : List ℕ → Template → List TermPlace → Trees → Option (List Standing)
stand text template (at ∷ places) (leaf word rest) = both
    (stand_word text at word (parameter_at text template word.span))
    (stand text template places rest)
stand text template (at ∷ places) (call head arguments span rest) = both
    (option_and_then (λ inner. stand text template inner arguments)
    (places_inside text at head.span (count_of arguments)))
    (stand text template places rest)
stand text template _ _ = Some []

-- the parameters in the body, if it is at a place
unfoldable pub stand_at : List ℕ → Template → TermPlace → Option (List Standing)
stand_at text template at = stand text template (at ∷ []) template.body

-- at each of the places at which it may be
unfoldable pub standings : List ℕ → Template → List (List Standing)
standings text template = filter_map (stand_at text template) all_places

-- the first, if there are all the others
abbrev pub if_all : Option TemplateRefusal → List (Option TemplateRefusal) → Option TemplateRefusal
if_all first [] = first
if_all first (None ∷ others) = None
if_all first (Some refusal ∷ others) = if_all first others

-- the first, if there are all
abbrev pub agreed : List (Option TemplateRefusal) → Option TemplateRefusal
agreed [] = None
agreed (first ∷ others) = if_all first others

-- one parameter, at places at which no one term may stand
abbrev pub is_torn : Standing → Standing → Bool
is_torn one other = (one.parameter == other.parameter) && not (go_together one.at other.at)

-- the first from which another one is torn
abbrev pub torn_from : List Standing → Standing → Option TemplateRefusal
torn_from [] one = None
torn_from (first ∷ others) one =
    if is_torn first one then refused (TwoKinds first.word) one.word else torn_from others one

-- the first that is torn from one before it
abbrev pub first_torn : List Standing → List Standing → Option TemplateRefusal
first_torn known [] = None
first_torn known (one ∷ others) =
    first_of (torn_from known one) (first_torn (known ++ one ∷ []) others)

-- a parameter is torn, wherever the body is
unfoldable pub torn : List ℕ → Template → Option TemplateRefusal
torn text template = agreed (map (first_torn []) (standings text template))
