-- Statement. Collects whose tables stay empty.
use Rattle.std.specs.Prelude.{◌≡◌, ◌⊎◌, ℕ, List, [], Option, MatchOption}
use Rattle.language_base.specs.declared.span.Span.{Span}
use Rattle.value_ops.specs.declared.value.Value.{Value}
use Rattle.value_ops.specs.declared.value.Value.TheVariants.{Table}
use Rattle.item_schema.specs.declared.column.Column.{Column}
use Rattle.predicates.specs.Predicates.{Predicate}
use Rattle.rate_expr.specs.Language.{In}
use Rattle.rate_expr.specs.Rates.{Regex}
use Rattle.rate_expr.specs.Words.{Word, IsWordOf}
use Rattle.query_model.specs.Denotation.{Den, keys_after}
use Rattle.query_model.specs.Queries.{Qre, collect, plain_of}
use Rattle.query_model.specs.declared.query.Query.{Query}
use Rattle.query_model.specs.declared.query.Shape.{Shape}
use Rattle.query_model.specs.declared.query.Shape.TheVariants.{Atom, Eps, Or', Split', Iter'}
use Rattle.query_model.specs.declared.query.Shape.TheVariants.{Combine', Apply', Compose', Collect'}

-- the table of the collect is empty on every word
abbrev pub StaysEmpty : List Column → Qre → Type 0
StaysEmpty columns query = (word : Word) (value : Value) → IsWordOf columns word
    → Den query word value → value ≡ Table []

-- on some word of the rate there is a key
pub record HasKeys (columns : List Column) (chosen : List ℕ) (sync : Predicate) (rate : Regex)
    : Type 0 where
  pub word : Word
  pub items : IsWordOf columns word
  pub in_rate : In rate word
  pub keys : keys_after chosen sync [] word ≡ [] → ⊥

-- the query is a collect in which there are keys
abbrev pub TakesKeys : List Column → Qre → Type 0
TakesKeys columns (collect chosen sync rate f) = HasKeys columns chosen sync rate
TakesKeys columns query = ⊥

-- the node is a collect on the items of the stream, and is the query of this shape at this place or
-- stands in it
abbrev pub IsCollectIn : Shape → Span → Query → Type 0
IsCollectIn (Atom pred value) span node = ⊥
IsCollectIn (Eps number) span node = ⊥
IsCollectIn (Or' p first a q second b) span node =
    IsCollectIn first a node ⊎ IsCollectIn second b node
IsCollectIn (Split' p first a q second b value) span node =
    IsCollectIn first a node ⊎ IsCollectIn second b node
IsCollectIn (Iter' p inner a number value) span node = IsCollectIn inner a node
IsCollectIn (Combine' p first a q second b value) span node =
    IsCollectIn first a node ⊎ IsCollectIn second b node
IsCollectIn (Apply' p inner a value) span node = IsCollectIn inner a node
IsCollectIn (Compose' p first a q second b) span node = IsCollectIn first a node
IsCollectIn (Collect' columns sync rate p inner a) span node =
    record { shape = Collect' columns sync rate p inner a; span = span } ≡ node

-- the collect at this place has tables that stay empty
abbrev pub IsEmptyAt : List Column → Query → Span → Type 0
IsEmptyAt columns node span = (node.span ≡ span) × StaysEmpty columns (plain_of node.shape)

-- of the collects in the query one stays empty, or there are keys in each
abbrev pub IsFound : List Column → Query → Option Span → Type 0
IsFound columns query found = MatchOption found
    ((node : Query) → IsCollectIn query.shape query.span node
    → TakesKeys columns (plain_of node.shape))
    (λ span. (node : Query) × IsCollectIn query.shape query.span node
    × IsEmptyAt columns node span)

-- the same of two queries
abbrev pub IsFoundInEither : List Column → Query → Query → Option Span → Type 0
IsFoundInEither columns first second found = MatchOption found
    ((node : Query)
    → IsCollectIn first.shape first.span node ⊎ IsCollectIn second.shape second.span node
    → TakesKeys columns (plain_of node.shape))
    (λ span. (node : Query)
    × (IsCollectIn first.shape first.span node ⊎ IsCollectIn second.shape second.span node)
    × IsEmptyAt columns node span)
