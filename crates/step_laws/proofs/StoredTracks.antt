-- Runners for keys: each follows items of the stream, on which there is no table.
use Rattle.std.proofs.Common.{◌≡◌, ◌≤◌, ℕ, zero, suc, Bool, true, false, IsTrue, List, [], ◌∷◌}
use Rattle.std.proofs.Common.{◌++◌, ◌∙◌, ◌&&◌, length, refl, sym, ap, arith}
use Rattle.std.specs.List.{list_all}
use Rattle.std.proofs.lemmas.Bool.{true≢false}
use Rattle.std.proofs.lemmas.Nat.{ones-le}
use Rattle.value_ops.specs.declared.field.Field.{Field}
use Rattle.value_ops.specs.declared.field.Field.TheVariants as field
use Rattle.value_ops.specs.declared.value.ValueType.{ValueType}
use Rattle.value_ops.specs.declared.value.ValueType.TheVariants as type
use Rattle.item_schema.specs.declared.column.Column.{Column}
use Rattle.item_schema.specs.declared.column.Kind.{Kind}
use Rattle.item_schema.specs.declared.column.Kind.TheVariants.{Int, Fixed, Text, Number, Table}
use Rattle.item_schema.specs.Items.{IsFieldOf, IsItemOf}
use Rattle.item_schema.specs.Layout.{is_read, part_column, part_columns}
use Rattle.predicates.specs.Fits.{has_texts, is_text}
use Rattle.rate_expr.specs.After.{IsAfter, IsStateOf}
use Rattle.rate_expr.specs.FirstLastFollow.{AreSetsOf}
use Rattle.rate_expr.specs.Rates as rates
use Rattle.rate_expr.specs.Rates.{preds_of, size_of}
use Rattle.rate_expr.specs.Sets.{Sets}
use Rattle.rate_expr.specs.Words.{Word, IsWordOf}
use Rattle.rate_expr.specs.declared.state.State.{State}
use Rattle.rate_expr.specs.declared.state.State.TheVariants.{Initial, At}
use Rattle.rate_expr.proofs.Meetings.{length-preds_of}
use Rattle.rate_expr.proofs.StatesAfter.{after_exists}
use Rattle.query_model.specs.QueryTypes.{derived_columns}
use Rattle.query_model.specs.Rules.{AreKeyColumns}
use Rattle.memory_bound.specs.KeysMet.{entries_in, most_entries}
use Rattle.memory_bound.proofs.Growth.{entries_cons, of_item}
use Rattle.eval_nodes.specs.Counts.{size_of_state}

-- where there are texts there are no tables
pub record HasTextsAlone (columns : List Column) : Type 0 where
  pub none : (column : ℕ) → has_texts columns column ≡ true → (word : Word) → IsWordOf columns word
      → most_entries word ≡ 0

-- a key has texts
pub key_text : (columns : List Column) (chosen : List ℕ) → AreKeyColumns columns chosen
    → (column : ℕ) × (has_texts columns column ≡ true)
key_text columns [] are = absurd (omega (arith, are.some))
key_text columns (column ∷ others) are = (column, are.texts.0)

-- one more column that is no text
texts_before : (columns : List Column) (last : Column) (at : ℕ) → is_text last.kind ≡ false
    → ((i : ℕ) → has_texts columns i ≡ true → ⊥) → has_texts (columns ++ last ∷ []) at ≡ true → ⊥
texts_before [] last zero other none texts = true≢false (sym texts ∙ other)
texts_before [] last (suc at) other none texts = true≢false (sym texts)
texts_before (column ∷ columns) last zero other none texts = none zero texts
texts_before (column ∷ columns) last (suc at) other none texts =
    texts_before columns last at other (λ i. none (suc i)) texts

parts_texts : (size at : ℕ) → has_texts (part_columns size) at ≡ true → ⊥
parts_texts zero at texts = true≢false (sym texts)
parts_texts (suc size) at texts =
    texts_before (part_columns size) (part_column size) at refl (parts_texts size) texts

-- a stream of values has no texts
pub derived_texts : (ty : ValueType) → HasTextsAlone (derived_columns ty)
derived_texts ty = record { none = λ column texts word is. absurd (by ty column texts) }
  where
    by : (ty : ValueType) (column : ℕ) → has_texts (derived_columns ty) column ≡ true → ⊥
    by type.Number zero texts = true≢false (sym texts)
    by type.Table zero texts = true≢false (sym texts)
    by (type.Rec size) column texts = parts_texts size column texts
    by ty (suc column) texts = true≢false (sym texts)

-- one that is read from lines has no tables
pub and_first : (a b : Bool) → IsTrue (a && b) → IsTrue a
and_first true b is = refl
and_first false b is = is

pub and_second : (a b : Bool) → IsTrue (a && b) → IsTrue b
and_second true b is = is
and_second false b is = absurd (true≢false (sym is))

read_field : (kind : Kind) (x : Field) → IsTrue (is_read kind) → IsFieldOf kind x → entries_in x ≡ 0
read_field Int (field.Int number) read is = refl
read_field (Fixed digits) (field.Int number) read is = refl
read_field Text (field.Text text) read is = refl
read_field Number x read is = absurd (true≢false (sym read))
read_field Table x read is = absurd (true≢false (sym read))
read_field Int (field.Text text) read is = absurd is
read_field Int (field.Val inner) read is = absurd is
read_field (Fixed digits) (field.Text text) read is = absurd is
read_field (Fixed digits) (field.Val inner) read is = absurd is
read_field Text (field.Int number) read is = absurd is
read_field Text (field.Val inner) read is = absurd is

read_item : (columns : List Column) (item : List Field)
    → IsTrue (list_all (λ c. is_read c.kind) columns) → IsItemOf columns item → of_item item ≡ 0
read_item [] [] read is = refl
read_item [] (x ∷ item) read is = absurd is
read_item (column ∷ columns) [] read is = absurd is
read_item (column ∷ columns) (x ∷ item) read is =
    let first = read_field column.kind x
    (and_first (is_read column.kind) (list_all (λ (c : Column). is_read c.kind) columns) read)
    is.0 in
    let rest = read_item columns item
    (and_second (is_read column.kind) (list_all (λ (c : Column). is_read c.kind) columns) read)
    is.1 in
    omega (arith, first, rest)

read_word : (columns : List Column) (word : Word) → IsTrue (list_all (λ c. is_read c.kind) columns)
    → IsWordOf columns word → most_entries word ≡ 0
read_word columns [] read is = refl
read_word columns (item ∷ word) read is =
    let whole = entries_cons item word in
    let first = read_item columns item read is.0 in
    let rest = read_word columns word read is.1 in
    omega (arith, whole, first, rest)

pub read_texts : (columns : List Column) → IsTrue (list_all (λ c. is_read c.kind) columns)
    → HasTextsAlone columns
read_texts columns read = record { none = λ column texts word is. read_word columns word read is }

-- a state has no more positions than its rate
state_few : (sets : Sets) (state : State) → IsStateOf sets state
    → size_of_state state ≤ length sets.preds
state_few sets Initial is = omega arith
state_few sets (At mask) is = ones-le (length sets.preds) mask is

pub state_size : (sets : Sets) (rate : rates.Regex) (word : Word) (state : State)
    → AreSetsOf sets rate → IsAfter sets word state → size_of_state state ≤ size_of rate
state_size sets rate word state are after =
    let few = state_few sets state (after_exists sets word state after) in
    let same = ap length are.preds in
    let positions = length-preds_of rate in
    omega (arith, few, same, positions)
