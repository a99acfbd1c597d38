-- Statement. What the calls of a node do to what it stands for, and when they may be made.
use Rattle.std.specs.Prelude.{◌≡◌, ◌<◌, ℕ, ◌+◌, ◌^◌, List, [], ◌∷◌, ◌++◌, Option, MatchOption, drop}
use Rattle.std.specs.Prelude.{length}
use Rattle.std.specs.List.{Contains}
use Rattle.value_ops.specs.declared.field.Field.{Field}
use Rattle.value_ops.specs.declared.value.Value.{Value}
use Rattle.value_ops.specs.declared.value.ValueType.{ValueType}
use Rattle.value_ops.specs.Types.{IsValueOf}
use Rattle.item_schema.specs.declared.column.Column.{Column}
use Rattle.item_schema.specs.Items.{IsItemOf}
use Rattle.rate_expr.specs.Words.{Word, IsWordOf}
use Rattle.query_model.specs.Denotation.{Den}
use Rattle.query_model.specs.Following.{composes_of}
use Rattle.query_model.specs.Queries.{Qre}
use Rattle.query_model.specs.QueryTypes.{type_of}
use Rattle.query_model.specs.Rules.{Standing, IsClear}
use Rattle.eval_nodes.specs.Holdings.{Holding, Seen}
use Rattle.eval_nodes.specs.Represents.{Represents}
use Rattle.eval_nodes.specs.Sound.{IsSound}
use Rattle.eval_nodes.specs.Starts.{AreApart, ArePositions}
use Rattle.step_laws.specs.declared.hit.Hit.{Hit}

-- a hit is a start whose piece has the value; without a hit, no piece has one
pub record IsHit (D : Word → Value → Type 0) (word : Word) (starts : List ℕ)
    (hit : Option Hit) : Type 0 where
  pub sound : MatchOption hit (Unit {0})
      (λ found. Contains starts found.start × D (drop found.start word) found.value)
  pub complete : MatchOption hit ((start : ℕ) (value : Value) → Contains starts start
      → D (drop start word) value → ⊥) (λ found. Unit {0})

-- the hit of a new start: the value of the empty word, if it has one
abbrev pub IsFirstHit : (Word → Value → Type 0) → ℕ → Option Hit → Type 0
IsFirstHit D start hit = MatchOption hit ((value : Value) → D [] value → ⊥)
    (λ found. (found.start ≡ start) × D [] found.value)

-- the value of a hit has the type
abbrev pub IsHitOf : ValueType → Option Hit → Type 0
IsHitOf type hit = MatchOption hit (Unit {0}) (λ found. IsValueOf type found.value)

-- the same, and the hit is one of the start
abbrev pub IsHitAt : ValueType → ℕ → Option Hit → Type 0
IsHitAt type start hit =
    MatchOption hit (Unit {0}) (λ found. (found.start ≡ start) × IsValueOf type found.value)

module _ {R : Type 0} (seen : R → Seen R) where
  -- a start may be added after `at` items
  pub record CanStart (query : Qre) (old : Holding R) (at : ℕ) : Type 0 where
    pub standing : Standing
    pub columns : List Column
    pub clear : IsClear standing columns query
    pub sound : IsSound seen columns query at old
    pub room : at + composes_of query < 2 ^ 64

  -- an item may go by, after which there are `now`
  pub record CanStep (query : Qre) (old : Holding R) (now : ℕ) (item : List Field) : Type 0 where
    pub standing : Standing
    pub columns : List Column
    pub position : ℕ
    pub is_next : now ≡ position + 1
    pub clear : IsClear standing columns query
    pub sound : IsSound seen columns query position old
    pub is_item : IsItemOf columns item
    pub room : now + composes_of query < 2 ^ 64

  -- What stood for a word and starts stands for the word and one more start at its end. The hit is
  -- the value of the empty word. The starts have to be apart.
  pub record IsStarted (columns : List Column) (query : Qre) (word : Word)
      (starts : List ℕ) (at : ℕ)
      (new : Holding R) (answer : Option Hit) : Type 0 where
    pub after : Represents seen columns query new word (starts ++ at ∷ [])
    pub hit : IsFirstHit (Den query) at answer

  abbrev pub Starts : Qre → Holding R → ℕ → Holding R → Option Hit → Type 0
  Starts query old at new hit = (standing : Standing) (columns : List Column) (word : Word)
      (starts : List ℕ)
      → IsClear standing columns query → IsWordOf columns word → ArePositions word starts
      → Represents seen columns query old word starts → (Contains starts at → ⊥) → at ≡ length word
      → AreApart columns query word (starts ++ at ∷ [])
      → IsStarted columns query word starts at new hit

  -- What stood for a word and starts stands for the word with one more item. The hit is the start
  -- whose piece has a value, with this value. The starts have to be apart on the longer word.
  pub record IsStepped (columns : List Column) (query : Qre) (word : Word) (starts : List ℕ)
      (new : Holding R) (answer : Option Hit) : Type 0 where
    pub after : Represents seen columns query new word starts
    pub hit : IsHit (Den query) word starts answer

  abbrev pub Steps : Qre → Holding R → ℕ → List Field → Holding R → Option Hit → Type 0
  Steps query old now item new hit = (standing : Standing) (columns : List Column) (word : Word)
      (starts : List ℕ) → IsClear standing columns query → IsWordOf columns (word ++ item ∷ [])
      → ArePositions word starts → Represents seen columns query old word starts
      → now ≡ length word + 1
      → AreApart columns query (word ++ item ∷ []) starts
      → IsStepped columns query (word ++ item ∷ []) starts new hit

  -- it stays sound, and a hit has the new start and the type
  pub record IsSoundlyStarted (columns : List Column) (query : Qre) (at : ℕ) (new : Holding R)
      (answer : Option Hit) : Type 0 where
    pub node : IsSound seen columns query at new
    pub hit : IsHitAt (type_of columns query) at answer

  abbrev pub StartsSoundly : Qre → Holding R → ℕ → Holding R → Option Hit → Type 0
  StartsSoundly query old at new hit = (standing : Standing) (columns : List Column)
      → IsClear standing columns query → IsSound seen columns query at old
      → IsSoundlyStarted columns query at new hit

  -- it stays sound, after one more item, and a hit has the type
  pub record IsSoundlyStepped (columns : List Column) (query : Qre) (now : ℕ) (new : Holding R)
      (answer : Option Hit) : Type 0 where
    pub node : IsSound seen columns query now new
    pub hit : IsHitOf (type_of columns query) answer

  abbrev pub StepsSoundly : Qre → Holding R → ℕ → List Field → Holding R → Option Hit → Type 0
  StepsSoundly query old now item new hit = (standing : Standing) (columns : List Column)
      (position : ℕ)
      → now ≡ position + 1 → IsClear standing columns query → IsItemOf columns item
      → IsSound seen columns query position old → IsSoundlyStepped columns query now new hit
