-- Statement. What becomes of runners for keys when an item goes by, and the table that they make.
use Rattle.std.specs.Prelude.{◌≡◌, ◌<◌, ℕ, ◌+◌, ◌^◌, List, [], ◌∷◌, ◌++◌}
use Rattle.value_ops.specs.declared.field.Field.{Field}
use Rattle.value_ops.specs.declared.scalar.Scalar.{Scalar}
use Rattle.value_ops.specs.declared.value.ValueType.TheVariants.{Number}
use Rattle.predicates.specs.Predicates.{Predicate}
use Rattle.item_schema.specs.declared.column.Column.{Column}
use Rattle.item_schema.specs.Items.{IsItemOf}
use Rattle.rate_expr.specs.Words.{Word, IsWordOf}
use Rattle.query_model.specs.Denotation.{AreEntries, Den, keys_after, projection}
use Rattle.query_model.specs.Following.{composes_of}
use Rattle.query_model.specs.Queries.{Qre}
use Rattle.query_model.specs.QueryTypes.{type_of}
use Rattle.query_model.specs.Rules.{Standing, IsClear}
use Rattle.map_collect.specs.declared.keys.Keys.{Keys}
use Rattle.eval_nodes.specs.Runners.{FollowsWord, IsSoundOf}
use Rattle.eval_nodes.specs.Holdings.{Seen}
use Rattle.eval_nodes.specs.Keyed.{StandFor}
use Rattle.eval_nodes.specs.Sound.{AreSoundKeys}

module _ {R : Type 0} (seen : R → Seen R) where
  -- the runners follow what the word has for the keys of the chosen columns
  abbrev pub StandsFor : List Column → Qre → List ℕ → Predicate → Word → Keys R → Type 0
  StandsFor columns query chosen sync word keys =
      StandFor (FollowsWord seen columns query) chosen sync word keys

  -- they are sound, each after at most this many items
  abbrev pub AreSoundOf : List Column → Qre → ℕ → Keys R → Type 0
  AreSoundOf columns query most keys = AreSoundKeys seen (IsSoundOf seen columns query) most keys

  -- an item may go by at the runners for keys
  pub record CanPush (query : Qre) (keys : Keys R) (item : List Field) : Type 0 where
    pub standing : Standing
    pub columns : List Column
    pub most : ℕ
    pub clear : IsClear standing columns query
    pub sound : AreSoundOf columns query most keys
    pub is_item : IsItemOf columns item
    pub room : most + 1 + composes_of query < 2 ^ 64

  -- whatever word they stood for, now they stand for the word and the item after it, and they stay
  -- sound
  pub record IsPushed (query : Qre) (chosen : List ℕ) (sync : Predicate) (old : Keys R)
      (item : List Field) (new : Keys R) : Type 0 where
    pub word : (standing : Standing) (columns : List Column) (word : Word)
        → IsClear standing columns query → IsWordOf columns (word ++ item ∷ [])
        → StandsFor columns query chosen sync word old
        → StandsFor columns query chosen sync (word ++ item ∷ []) new
    pub sound : (standing : Standing) (columns : List Column) (most : ℕ)
        → IsClear standing columns query → IsItemOf columns item
        → AreSoundOf columns query most old → AreSoundOf columns query (most + 1) new

  -- whatever word they stand for, the entries are those of the keys that have a number on it, in
  -- the order in which the keys appear
  abbrev pub IsTableOf : Keys R → List (List ℕ × Scalar) → Type 0
  IsTableOf keys table = (standing : Standing) (columns : List Column) (query : Qre)
      (chosen : List ℕ)
      (sync : Predicate) (word : Word) → IsClear standing columns query
      → (type_of columns query ≡ Number) → IsWordOf columns word
      → StandsFor columns query chosen sync word keys
      → AreEntries (λ key value. Den query (projection chosen sync key word) value)
      (keys_after chosen sync [] word) table
