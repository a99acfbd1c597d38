-- Values have the types of their queries.
use Rattle.std.proofs.Common.{ℕ, ◌++◌, List, [], ◌∷◌, sym, subst, inl, inr}
use Rattle.value_ops.specs.declared.value.Value.{Value}
use Rattle.value_ops.specs.declared.value.Value.TheVariants as value
use Rattle.value_ops.specs.declared.value.ValueType.{ValueType}
use Rattle.value_ops.specs.declared.value.ValueType.TheVariants as type
use Rattle.value_ops.specs.Entries.{keys_of, values_of}
use Rattle.expressions.specs.Expressions.{Expression}
use Rattle.value_ops.specs.Texts.{IsText}
use Rattle.value_ops.specs.Types.{IsScalar, IsTable, IsValueOf}
use Rattle.expressions.specs.Typing.{HasType}
use Rattle.item_schema.specs.declared.column.Column.{Column}
use Rattle.predicates.specs.Predicates.{Predicate}
use Rattle.rate_expr.specs.Words.{Word, IsWordOf, join}
use Rattle.rate_expr.proofs.Wording.{word_parts, word_more}
use Rattle.query_model.specs.Denotation.{Den, Emits, Folds, Outputs, keys_after}
use Rattle.query_model.specs.Denotation.{projection}
use Rattle.query_model.specs.Queries.{Qre, atom, eps, choice, split, iter, combine, apply, compose}
use Rattle.query_model.specs.Queries.{collect}
use Rattle.query_model.specs.QueryTypes.{derived_columns, of_two, type_of}
use Rattle.query_model.specs.Rules.{Standing, bound, IsClear}
use Rattle.query_model.proofs.DerivedItems.{derived_item}
use Rattle.query_model.proofs.Expressed.{atom_ranges, one_ranges, two_ranges}
use Rattle.query_model.proofs.InRates.{OnValues}
use Rattle.query_model.proofs.Keys.{all_elements, entry_keys, entry_keys_differ}
use Rattle.query_model.proofs.Keys.{entry_values, kept_word, keys_are}

-- a fold of numbers gives a number
fold_typed : (columns : List Column) (D : Word → Value → Type 0) (ty : ValueType)
    (expression : Expression) → OnValues columns D (λ word value. IsValueOf ty value)
    → HasType (of_two type.Number ty) expression type.Number
    → (pieces : List Word) (so_far value : Value) → IsValueOf type.Number so_far
    → IsWordOf columns (join pieces) → Folds D expression so_far pieces value
    → IsValueOf type.Number value
fold_typed columns D ty expression each typed [] so_far value begins is folds =
    subst (IsValueOf type.Number) (sym folds) begins
fold_typed columns D ty expression each typed (piece ∷ pieces) so_far value begins is
    (last, next, den, gives, folds) =
    let parts = word_parts columns piece (join pieces) is in
    fold_typed columns D ty expression each typed pieces next value
    (two_ranges type.Number ty type.Number expression so_far last next begins
    (each piece last parts.0 den) typed gives)
    parts.1 folds

word_joined : (columns : List Column) (u v : Word) → IsWordOf columns u → IsWordOf columns v
    → IsWordOf columns (u ++ v)
word_joined columns [] v is others = others
word_joined columns (item ∷ u) v is others = (is.0, word_joined columns u v is.1 others)

emitted : (columns : List Column) (ty : ValueType) (D : Word → Value → Type 0)
    → OnValues columns D (λ word value. IsValueOf ty value) → (word items : Word)
    → IsWordOf columns word → Emits D word items → IsWordOf (derived_columns ty) items
emitted columns ty D each word items is emits =
    elim emits [
      | inl (v, den, whole) ↦
          subst (IsWordOf (derived_columns ty)) (sym whole)
          (derived_item ty v (each word v is den), tt)
      | inr (none, empty) ↦ subst (IsWordOf (derived_columns ty)) (sym empty) tt
    ]

-- the values on the prefixes are a word of the stream of values
pub outputs_word : (columns : List Column) (ty : ValueType) (D : Word → Value → Type 0)
    → OnValues columns D (λ word value. IsValueOf ty value) → (before word items : Word)
    → IsWordOf columns before → IsWordOf columns word
    → Outputs D before word items → IsWordOf (derived_columns ty) items
outputs_word columns ty D each before [] items is rest outputs =
    emitted columns ty D each before items is outputs
outputs_word columns ty D each before (item ∷ word) items is rest
    (first, others, emits, more, whole) =
    subst (IsWordOf (derived_columns ty)) (sym whole)
    (word_joined (derived_columns ty) first others (emitted columns ty D each before first is emits)
    (outputs_word columns ty D each (before ++ item ∷ []) word others
    (word_more columns before item is rest.0) rest.1 more))

-- the values of a query on what a word has for each key
abbrev pub on_keys : Qre → List ℕ → Predicate → Word → List ℕ → Value → Type 0
on_keys f chosen sync word key v = Den f (projection chosen sync key word) v

-- a value on a word has the type of its query
pub den_typed : (standing : Standing) (columns : List Column) (q : Qre) (word : Word) (v : Value)
    → IsClear standing columns q → IsWordOf columns word → Den q word v
    → IsValueOf (type_of columns q) v
den_typed standing columns (atom pred expression) word v clear is (item, whole, meets, gives) =
    atom_ranges columns item expression v (subst (IsWordOf columns) whole is).0 clear.1 gives
den_typed standing columns (eps number) word v clear is (whole, same) =
    subst (IsValueOf type.Number) (sym same) clear
den_typed standing columns (choice f g) word v clear is den =
    elim den [
      | inl left ↦ den_typed bound columns f word v clear.0 is left
      | inr right ↦ subst (λ ty. IsValueOf ty v) clear.2
          (den_typed bound columns g word v clear.1 is right)
    ]
den_typed standing columns (split f g expression) word v clear is
    (first, second, x, y, whole, left, right, gives) =
    let parts = word_parts columns first second (subst (IsWordOf columns) whole is) in
    two_ranges (type_of columns f) (type_of columns g) _ expression x y v
    (den_typed bound columns f first x clear.0 parts.0 left)
    (den_typed bound columns g second y clear.1 parts.1 right) clear.2 gives
den_typed standing columns (iter f number expression) word v clear is (pieces, whole, folds) =
    fold_typed columns (Den f) (type_of columns f) expression
    (λ piece last piece_is den. den_typed bound columns f piece last clear.0 piece_is den)
    clear.2 pieces _ v clear.1 (subst (IsWordOf columns) whole is) folds
den_typed standing columns (combine f g expression) word v clear is (x, y, left, right, gives) =
    two_ranges (type_of columns f) (type_of columns g) _ expression x y v
    (den_typed bound columns f word x clear.0 is left)
    (den_typed bound columns g word y clear.1 is right) clear.2 gives
den_typed standing columns (apply f expression) word v clear is (x, inner, gives) =
    one_ranges (type_of columns f) _ expression x v
    (den_typed bound columns f word x clear.0 is inner) clear.1 gives
den_typed standing columns (compose f g) word v clear is (x, out, inner, outputs, outer) =
    den_typed standing (derived_columns (type_of columns f)) g out v clear.1
    (outputs_word columns (type_of columns f) (Den f)
    (λ part last part_is den. den_typed standing columns f part last clear.0 part_is den)
    [] word out tt is outputs) outer
den_typed standing columns (collect chosen sync rate f) word v clear is
    (entries, in_rate, each, same) =
    let keys = keys_are columns chosen sync word is in
    let table : IsTable entries = record {
      keys = all_elements IsText (keys_of entries) (entry_keys IsText (on_keys f chosen sync word)
          (keys_after chosen sync [] word) entries keys.texts each);
      distinct = entry_keys_differ (on_keys f chosen sync word) (keys_after chosen sync [] word)
          entries keys.distinct each;
      scalars = all_elements IsScalar (values_of entries) (entry_values IsScalar
          (on_keys f chosen sync word) (keys_after chosen sync [] word) entries
          (λ key scalar den. subst (λ ty. IsValueOf ty (value.Scalar scalar)) clear.1
          (den_typed bound columns f (projection chosen sync key word) (value.Scalar scalar) clear.0
          (kept_word columns _ word is) den)) each);
    } in
    subst (IsValueOf type.Table) (sym same) table
