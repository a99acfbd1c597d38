-- A query has a value on each word of its rate, where it is bound.
use Rattle.std.proofs.Common.{append-nil, append_assoc, ◌≡◌, ℕ, ◌++◌, ◌∙◌, List, [], ◌∷◌}
use Rattle.std.proofs.Common.{refl, sym, subst, ◌⊎◌, inl, inr}
use Rattle.std.specs.List.{AllByRecursion}
use Rattle.value_ops.specs.declared.scalar.Scalar.{Scalar}
use Rattle.value_ops.specs.declared.scalar.Scalar.TheVariants.{Number}
use Rattle.value_ops.specs.declared.value.Value.{Value}
use Rattle.value_ops.specs.declared.value.Value.TheVariants as value
use Rattle.value_ops.specs.declared.value.ValueType.{ValueType}
use Rattle.value_ops.specs.declared.value.ValueType.TheVariants as type
use Rattle.expressions.specs.Expressions.{Expression}
use Rattle.value_ops.specs.Types.{IsValueOf}
use Rattle.expressions.specs.Typing.{HasType}
use Rattle.item_schema.specs.declared.column.Column.{Column}
use Rattle.item_schema.specs.Items.{fields_of_value}
use Rattle.rate_expr.specs.Language.{In}
use Rattle.rate_expr.specs.Words.{Word, IsWordOf, join}
use Rattle.rate_expr.specs.Readings.{HasAllButEmpty}
use Rattle.rate_expr.proofs.Deciding.{in_or_not}
use Rattle.rate_expr.proofs.Wording.{word_parts, word_more}
use Rattle.query_model.specs.Denotation.{AreEntries, Den, Emits, Folds, Outputs, keys_after}
use Rattle.query_model.specs.Denotation.{projection}
use Rattle.query_model.specs.Queries.{Qre, atom, eps, choice, split, iter, combine, apply, compose}
use Rattle.query_model.specs.Queries.{collect}
use Rattle.query_model.specs.QueryTypes.{derived_columns, of_two, type_of}
use Rattle.query_model.specs.Rates.{rate_of}
use Rattle.query_model.specs.Rules.{bound, IsClear}
use Rattle.query_model.proofs.Expressed.{atom_gives, one_gives, two_gives, two_ranges}
use Rattle.query_model.proofs.InRates.{den_in}
use Rattle.query_model.proofs.Keys.{kept_word}
use Rattle.query_model.proofs.Typed.{den_typed, on_keys, outputs_word}

-- on each word of a set there is a value of the type
abbrev HasValues : List Column → ValueType → (Word → Type 0) → (Word → Value → Type 0) → Type 0
HasValues columns ty A D = (word : Word) → IsWordOf columns word → A word
    → (v : Value) × D word v × IsValueOf ty v

-- there is a fold over such pieces
fold_some : (columns : List Column) (ty : ValueType) (A : Word → Type 0) (D : Word → Value → Type 0)
    (expression : Expression) → HasValues columns ty A D
    → HasType (of_two type.Number ty) expression type.Number → (pieces : List Word) (so_far : Value)
    → IsValueOf type.Number so_far → IsWordOf columns (join pieces) → AllByRecursion A pieces
    → (v : Value) × Folds D expression so_far pieces v
fold_some columns ty A D expression each typed [] so_far begins is all = (so_far, refl)
fold_some columns ty A D expression each typed (piece ∷ pieces) so_far begins is all =
    let parts = word_parts columns piece (join pieces) is in
    let last = each piece parts.0 all.0 in
    let next = two_gives type.Number ty type.Number expression so_far last.0 begins last.2 typed in
    let rest = fold_some columns ty A D expression each typed pieces next.0
    (two_ranges type.Number ty type.Number expression so_far last.0 next.0 begins
    last.2 typed next.1)
    parts.1 all.1 in
    (rest.0, (last.0, next.0, last.1, next.1, rest.1))

-- for each word it is decided whether there is a value
abbrev Decides : List Column → (Word → Value → Type 0) → Type 0
Decides columns D = (word : Word) → IsWordOf columns word
    → ((v : Value) × D word v) ⊎ ((v : Value) → D word v → ⊥)

-- something is emitted, or nothing
emits_some : (columns : List Column) (D : Word → Value → Type 0) → Decides columns D
    → (word : Word) → IsWordOf columns word → (items : Word) × Emits D word items
emits_some columns D decides word is =
    elim (decides word is) [
      | inl (v, den) ↦ (fields_of_value v ∷ [], inl (v, den, refl))
      | inr none ↦ ([], inr (none, refl))
    ]

pub outputs_some : (columns : List Column) (D : Word → Value → Type 0) → Decides columns D
    → (before word : Word) → IsWordOf columns before → IsWordOf columns word
    → (items : Word) × Outputs D before word items
outputs_some columns D decides before [] is rest = emits_some columns D decides before is
outputs_some columns D decides before (item ∷ word) is rest =
    let first = emits_some columns D decides before is in
    let others = outputs_some columns D decides (before ++ item ∷ []) word
    (word_more columns before item is rest.0) rest.1 in
    (first.0 ++ others.0, (first.0, others.0, first.1, others.1, refl))

-- where the whole word has a value, something comes out
emits_none : (D : Word → Value → Type 0) (word items : Word) (v : Value) → D word v
    → Emits D word items → items ≡ [] → ⊥
emits_none D word items v den emits empty =
    elim emits [
      | inl (x, den', whole) ↦ cons_nil (sym whole ∙ empty)
      | inr (none, nothing) ↦ none v den
    ]
  where
    cons_nil : {A : Type 0} {x : A} {xs : List A} → x ∷ xs ≡ [] → ⊥
    cons_nil same = cc

right_empty : (u v : Word) → u ++ v ≡ [] → v ≡ []
right_empty [] v same = same
right_empty (x ∷ u) v same = cc

outputs_none : (D : Word → Value → Type 0) (before word items : Word) (v : Value)
    → D (before ++ word) v → Outputs D before word items → items ≡ [] → ⊥
outputs_none D before [] items v den outputs empty =
    emits_none D before items v (subst (λ w. D w v) (append-nil before) den) outputs empty
outputs_none D before (item ∷ word) items v den (first, others, emits, more, whole) empty =
    outputs_none D (before ++ item ∷ []) word others v
    (subst (λ w. D w v) (sym (append_assoc before (item ∷ []) word)) den) more
    (right_empty first others (sym whole ∙ empty))

-- for each key it is decided too
entries_some : (D : List ℕ → Value → Type 0)
    → ((key : List ℕ)
    → ((scalar : Scalar) × D key (value.Scalar scalar)) ⊎ ((v : Value) → D key v → ⊥))
    → (keys : List (List ℕ)) → (entries : List (List ℕ × Scalar)) × AreEntries D keys entries
entries_some D decides [] = ([], refl)
entries_some D decides (key ∷ keys) =
    let others = entries_some D decides keys in
    elim (decides key) [
      | inl (scalar, den) ↦ ((key, scalar) ∷ others.0, inl (scalar, others.0, den, others.1, refl))
      | inr none ↦ (others.0, inr (none, others.1))
    ]

-- a number is a scalar
number_inside : (v : Value) → IsValueOf type.Number v
    → (scalar : Scalar) × (v ≡ value.Scalar scalar)
number_inside (value.Scalar scalar) is = (scalar, refl)
number_inside (value.Rec parts) is = absurd is
number_inside (value.Table entries) is = absurd is

-- a value with its type
with_type : (columns : List Column) (f : Qre) (word : Word) → IsClear bound columns f
    → IsWordOf columns word → ((v : Value) × Den f word v)
    → (v : Value) × Den f word v × IsValueOf (type_of columns f) v
with_type columns f word clear is (v, den) = (v, den, den_typed bound columns f word v clear is den)

-- whether there is a value, since it is decided whether the word is in the rate
pub decided : (columns : List Column) (f : Qre) (word : Word) → IsClear bound columns f
    → IsWordOf columns word → (In (rate_of f) word → (v : Value) × Den f word v)
    → ((v : Value) × Den f word v) ⊎ ((v : Value) → Den f word v → ⊥)
decided columns f word clear is some =
    elim (in_or_not (rate_of f) word) [
      | inl in_rate ↦ inl (some in_rate)
      | inr out ↦ inr (λ v den. out (den_in bound columns f word v clear is den))
    ]

-- and whether there is a scalar, where the query's values are numbers
scalar_decided : (columns : List Column) (f : Qre) (word : Word) → IsClear bound columns f
    → type_of columns f ≡ type.Number → IsWordOf columns word
    → (In (rate_of f) word → (v : Value) × Den f word v)
    → ((scalar : Scalar) × Den f word (value.Scalar scalar)) ⊎ ((v : Value) → Den f word v → ⊥)
scalar_decided columns f word clear number is some =
    elim (decided columns f word clear is some) [
      | inl (v, den) ↦
          let inside = number_inside v
          (subst (λ ty. IsValueOf ty v) number (den_typed bound columns f word v clear is den)) in
          inl (inside.0, subst (Den f word) inside.1 den)
      | inr none ↦ inr none
    ]

-- a word of at least one item is one of a rate that has all of these
fed : (columns : List Column) (g : Qre) (out : Word) → HasAllButEmpty columns (rate_of g)
    → IsWordOf columns out → (out ≡ [] → ⊥) → In (rate_of g) out
fed columns g [] all is some = absurd (some refl)
fed columns g (item ∷ more) all is some = all item more is

-- a value on each word of the rate
pub in_den : (columns : List Column) (q : Qre) (word : Word) → IsClear bound columns q
    → IsWordOf columns word → In (rate_of q) word → (v : Value) × Den q word v
in_den columns (atom pred expression) word clear is (item, whole, meets) =
    let given_value = atom_gives columns item expression
    (subst (IsWordOf columns) whole is).0 clear.1 in
    (given_value.0, (item, whole, meets, given_value.1))
in_den columns (eps number) word clear is in_rate = (value.Scalar (Number number), (in_rate, refl))
in_den columns (choice f g) word clear is in_rate =
    elim in_rate [
      | inl left ↦ let found = in_den columns f word clear.0 is left in (found.0, inl found.1)
      | inr right ↦ let found = in_den columns g word clear.1 is right in (found.0, inr found.1)
    ]
in_den columns (split f g expression) word clear is (first, second, whole, left, right) =
    let parts = word_parts columns first second (subst (IsWordOf columns) whole is) in
    let x = in_den columns f first clear.0 parts.0 left in
    let y = in_den columns g second clear.1 parts.1 right in
    let found = two_gives (type_of columns f) (type_of columns g) _ expression x.0 y.0
    (den_typed bound columns f first x.0 clear.0 parts.0 x.1)
    (den_typed bound columns g second y.0 clear.1 parts.1 y.1) clear.2 in
    (found.0, (first, second, x.0, y.0, whole, x.1, y.1, found.1))
in_den columns (iter f number expression) word clear is (pieces, whole, each) =
    let found = fold_some columns (type_of columns f) (In (rate_of f)) (Den f) expression
    (λ piece piece_is in_rate. with_type columns f piece clear.0 piece_is
    (in_den columns f piece clear.0 piece_is in_rate))
    clear.2 pieces (value.Scalar (Number number)) clear.1
    (subst (IsWordOf columns) whole is) each in
    (found.0, (pieces, whole, found.1))
in_den columns (combine f g expression) word clear is in_rate =
    let x = in_den columns f word clear.0 is in_rate in
    let y = in_den columns g word clear.1 is ((clear.3 word is).0 in_rate) in
    let found = two_gives (type_of columns f) (type_of columns g) _ expression x.0 y.0
    (den_typed bound columns f word x.0 clear.0 is x.1)
    (den_typed bound columns g word y.0 clear.1 is y.1) clear.2 in
    (found.0, (x.0, y.0, x.1, y.1, found.1))
in_den columns (apply f expression) word clear is in_rate =
    let x = in_den columns f word clear.0 is in_rate in
    let found = one_gives (type_of columns f) _ expression x.0
    (den_typed bound columns f word x.0 clear.0 is x.1) clear.1 in
    (found.0, (x.0, x.1, found.1))
in_den columns (compose f g) word clear is in_rate =
    let x = in_den columns f word clear.0 is in_rate in
    let out = outputs_some columns (Den f)
    (λ part part_is. decided columns f part clear.0 part_is
    (λ in_part. in_den columns f part clear.0 part_is in_part))
    [] word tt is in
    let out_is = outputs_word columns (type_of columns f) (Den f)
    (λ part last part_is den. den_typed bound columns f part last clear.0 part_is den) [] word
    out.0 tt is out.1 in
    let outer = in_den (derived_columns (type_of columns f)) g out.0 clear.1 out_is
    (fed (derived_columns (type_of columns f)) g out.0 clear.3 out_is
    (outputs_none (Den f) [] word out.0 x.0 x.1 out.1)) in
    (outer.0, (x.0, out.0, x.1, out.1, outer.1))
in_den columns (collect chosen sync rate f) word clear is in_rate =
    let entries = entries_some (on_keys f chosen sync word)
    (λ key. scalar_decided columns f (projection chosen sync key word) clear.0 clear.1
    (kept_word columns _ word is)
    (λ in_part. in_den columns f (projection chosen sync key word) clear.0
    (kept_word columns _ word is) in_part))
    (keys_after chosen sync [] word) in
    (value.Table entries.0, (entries.0, in_rate, entries.1, refl))
