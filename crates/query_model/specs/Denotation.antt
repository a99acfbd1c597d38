-- Statement. What queries mean: the value of a query on a word of items. It looks at the whole word
-- anew, and knows of no state.
use Rattle.std.specs.Prelude.{◌≡◌, ◌⊎◌, ℕ, ◌||◌, true, List, [], ◌∷◌, ◌++◌, Option, Some, None}
use Rattle.std.specs.Prelude.{filter, if◌then◌else◌}
use Rattle.std.specs.List.{list_any}
use Rattle.std.specs.Str.{bytes_eq}
use Rattle.value_ops.specs.declared.field.Field.{Field}
use Rattle.value_ops.specs.declared.scalar.Scalar.{Scalar}
use Rattle.value_ops.specs.declared.scalar.Scalar.TheVariants.{Number}
use Rattle.value_ops.specs.declared.value.Value.{Value}
use Rattle.value_ops.specs.declared.value.Value.TheVariants as value
use Rattle.expressions.specs.Evaluation.{given, value_of}
use Rattle.expressions.specs.Expressions.{Expression}
use Rattle.item_schema.specs.Items.{fields_of_value}
use Rattle.predicates.specs.Predicates.{Predicate}
use Rattle.predicates.specs.Truth.{holds}
use Rattle.rate_expr.specs.Language.{In}
use Rattle.rate_expr.specs.Words.{Word, join}
use Rattle.query_model.specs.Keys.{key_of}
use Rattle.query_model.specs.Queries.{Qre, atom, eps, choice, split, iter, combine, apply, compose}
use Rattle.query_model.specs.Queries.{collect}

-- what an expression gives on one value
abbrev pub on_one : Expression → Value → Option Value
on_one expression left = value_of (given [] (Some left) None) expression

-- what an expression gives on a left and a right value
abbrev pub on_both : Expression → Value → Value → Option Value
on_both expression left right = value_of (given [] (Some left) (Some right)) expression

-- the value of a fold over pieces that have values, from a first value on
abbrev pub Folds : (Word → Value → Type 0) → Expression → Value → List Word → Value → Type 0
Folds D expression so_far [] value = value ≡ so_far
Folds D expression so_far (piece ∷ pieces) value =
    (last : Value) × (next : Value) × D piece last × (on_both expression so_far last ≡ Some next)
    × Folds D expression next pieces value

-- the value on a word as an item of a stream of values, if there is one
abbrev pub Emits : (Word → Value → Type 0) → Word → Word → Type 0
Emits D word items = ((value : Value) × D word value × (items ≡ fields_of_value value ∷ []))
    ⊎ (((value : Value) → D word value → ⊥) × (items ≡ []))

-- the values on the prefixes of a word, from the empty one to the whole, after a first part
abbrev pub Outputs : (Word → Value → Type 0) → Word → Word → Word → Type 0
Outputs D before [] items = Emits D before items
Outputs D before (item ∷ word) items =
    (first : Word) × (others : Word) × Emits D before first
    × Outputs D (before ++ item ∷ []) word others × (items ≡ first ++ others)

-- the items of a key, and those that meet the predicate
abbrev pub projection : List ℕ → Predicate → List ℕ → Word → Word
projection columns sync key word =
    filter (λ item. holds sync item || bytes_eq (key_of columns item) key) word

-- a key after those that were seen, if it is a new one
abbrev pub with_key : List (List ℕ) → List ℕ → List (List ℕ)
with_key keys key = if list_any (bytes_eq key) keys then keys else keys ++ key ∷ []

-- the keys of the items that do not meet the predicate, in the order in which they
-- appear, after others
abbrev pub keys_after : List ℕ → Predicate → List (List ℕ) → Word → List (List ℕ)
keys_after columns sync keys [] = keys
keys_after columns sync keys (item ∷ word) = keys_after columns sync
    (if holds sync item then keys else with_key keys (key_of columns item)) word

-- the entries of keys: each that has a value, with this value
abbrev pub AreEntries : (List ℕ → Value → Type 0) → List (List ℕ) → List (List ℕ × Scalar) → Type 0
AreEntries D [] entries = entries ≡ []
AreEntries D (key ∷ keys) entries =
    ((scalar : Scalar) × (others : List (List ℕ × Scalar)) × D key (value.Scalar scalar)
    × AreEntries D keys others × (entries ≡ (key, scalar) ∷ others))
    ⊎ (((value : Value) → D key value → ⊥) × AreEntries D keys entries)

-- the query gives this value to the word
abbrev pub Den : Qre → Word → Value → Type 0
Den (atom pred expression) word v =
    (item : List Field) × (word ≡ item ∷ []) × (holds pred item ≡ true)
    × (value_of (given item None None) expression ≡ Some v)
Den (eps number) word v = (word ≡ []) × (v ≡ value.Scalar (Number number))
Den (choice f g) word v = Den f word v ⊎ Den g word v
Den (split f g expression) word v =
    (first : Word) × (second : Word) × (x : Value) × (y : Value) × (word ≡ first ++ second)
    × Den f first x × Den g second y × (on_both expression x y ≡ Some v)
Den (iter f number expression) word v =
    (pieces : List Word) × (word ≡ join pieces)
    × Folds (Den f) expression (value.Scalar (Number number)) pieces v
Den (combine f g expression) word v =
    (x : Value) × (y : Value) × Den f word x × Den g word y × (on_both expression x y ≡ Some v)
Den (apply f expression) word v = (x : Value) × Den f word x × (on_one expression x ≡ Some v)
Den (compose f g) word v =
    (x : Value) × (out : Word) × Den f word x × Outputs (Den f) [] word out × Den g out v
Den (collect columns sync rate f) word v =
    (entries : List (List ℕ × Scalar)) × In rate word
    × AreEntries (λ key value. Den f (projection columns sync key word) value)
    (keys_after columns sync [] word) entries × (v ≡ value.Table entries)
