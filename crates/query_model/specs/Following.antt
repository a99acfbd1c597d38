-- Statement. What it is to follow the words of a query.
use Rattle.std.specs.Prelude.{◌<◌, ℕ, ◌+◌, ◌^◌, List, [], ◌∷◌, ◌++◌, Option, MatchOption}
use Rattle.value_ops.specs.declared.field.Field.{Field}
use Rattle.value_ops.specs.declared.value.Value.{Value}
use Rattle.item_schema.specs.declared.column.Column.{Column}
use Rattle.item_schema.specs.Items.{IsItemOf}
use Rattle.rate_expr.specs.Words.{Word}
use Rattle.query_model.specs.Denotation.{Den}
use Rattle.query_model.specs.Queries.{Qre, atom, eps, choice, split, iter, combine, apply, compose}
use Rattle.query_model.specs.Queries.{collect}

-- the value of the query on the word, or that there is none
abbrev pub IsAnswer : Qre → Word → Option Value → Type 0
IsAnswer query word answer =
    MatchOption answer ((value : Value) → Den query word value → ⊥) (Den query word)

-- whatever word was followed, the word and the item after it is now
abbrev pub Carries : {S : Type 0} → (S → Word → Type 0) → S → List Field → S → Type 0
Carries follows old item new = (word : Word) → follows old word → follows new (word ++ item ∷ [])

-- every word that the one follows the other follows too
abbrev pub FollowsAll : {S : Type 0} → (S → Word → Type 0) → S → S → Type 0
FollowsAll follows original copy = (word : Word) → follows original word → follows copy word

-- how many composes stand in the query
abbrev pub composes_of : Qre → ℕ
composes_of (atom pred expression) = 0
composes_of (eps number) = 0
composes_of (choice f g) = composes_of f + composes_of g
composes_of (split f g expression) = composes_of f + composes_of g
composes_of (iter f number expression) = composes_of f
composes_of (combine f g expression) = composes_of f + composes_of g
composes_of (apply f expression) = composes_of f
composes_of (compose f g) = composes_of f + composes_of g + 1
composes_of (collect chosen sync rate f) = composes_of f

-- One more item fits: it is one of the stream, and its position can be counted, also on the streams
-- of values inside, each of which may have one item more than the stream that it is made of.
pub record FitsNext (columns : List Column) (query : Qre) (position : ℕ)
    (item : List Field) : Type 0 where
  pub is_item : IsItemOf columns item
  pub room : position + composes_of query + 1 < 2 ^ 64
