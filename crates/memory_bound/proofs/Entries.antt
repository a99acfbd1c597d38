-- A table that a query gives has at most as many entries as there are keys that the query has met.
use Rattle.std.proofs.Common.{◌≡◌, ◌≤◌, ◌∙◌, ℕ, zero, suc, List, [], ◌∷◌, ◌++◌, Option, Some, None}
use Rattle.std.proofs.Common.{option_map, slice_get, append_assoc, refl, sym, ap, subst, arith, inl}
use Rattle.std.proofs.Common.{inr}
use Rattle.std.specs.List.{Contains}
use Rattle.std.specs.Set.{distinct_count}
use Rattle.std.proofs.lemmas.List.Elements.{Contains-append_left, Contains-append_right}
use Rattle.std.proofs.lemmas.Option.{none-some, same_Some}
use Rattle.expressions.specs.declared.expr.Var.{Var}
use Rattle.expressions.specs.declared.expr.Var.TheVariants as var
use Rattle.value_ops.specs.declared.field.Field.{Field}
use Rattle.value_ops.specs.declared.field.Field.TheVariants as field
use Rattle.value_ops.specs.declared.scalar.Scalar.{Scalar}
use Rattle.value_ops.specs.declared.value.Value.{Value}
use Rattle.value_ops.specs.declared.value.Value.TheVariants as value
use Rattle.expressions.specs.Evaluation.{Inputs, given, scalar_of, scalars_of, value_named, value_of}
use Rattle.value_ops.specs.Fields.{value_of_field}
use Rattle.expressions.specs.Expressions.{Expression, literal, read, unary, binary, choice, sum}
use Rattle.expressions.specs.Expressions.{count, most, least, entry, rec, part}
use Rattle.item_schema.specs.declared.column.Column.{Column}
use Rattle.item_schema.specs.Items.{fields_of_parts, fields_of_value}
use Rattle.rate_expr.specs.Words.{Word, join}
use Rattle.query_model.specs.Denotation.{Den, Emits, Folds, Outputs, keys_after, on_both}
use Rattle.query_model.specs.Queries as query
use Rattle.query_model.specs.Queries.{Qre, atom, eps, split, iter, combine, apply, compose, collect}
use Rattle.query_model.specs.Rules.{Standing, bound, HasNoCollect, IsClear}
use Rattle.query_model.proofs.Typed.{on_keys}
use Rattle.memory_bound.specs.KeysMet.{entries_of, is_same, key_columns, keys_among, keys_met}
use Rattle.memory_bound.specs.KeysMet.{most_entries}
use Rattle.memory_bound.proofs.Growth.{AreAmong, among_all, among_first, among_second, first_member}
use Rattle.memory_bound.proofs.Growth.{item_entries, entries_join, keys_mono, later_member}
use Rattle.memory_bound.proofs.Growth.{member_cases, no_member, of_item}
use Rattle.memory_bound.proofs.Tables.{entries_of_keys, keys_few}

-- an input has at most this many
record AreSmall (inputs : Inputs) (n : ℕ) : Type 0 where
  fields : (column : ℕ) (v : Value) → value_of_field (slice_get inputs.fields column) ≡ Some v
      → entries_of v ≤ n
  left : (v : Value) → inputs.left ≡ Some v → entries_of v ≤ n
  right : (v : Value) → inputs.right ≡ Some v → entries_of v ≤ n

named_few : (inputs : Inputs) (n : ℕ) (name : Var) (v : Value) → AreSmall inputs n
    → value_named inputs name ≡ Some v → entries_of v ≤ n
named_few inputs n (var.Field column) v small is = small.fields column v is
named_few inputs n var.Left v small is = small.left v is
named_few inputs n var.Right v small is = small.right v is

-- a scalar has none
scalar_few : (found : Option Scalar) (n : ℕ) (v : Value) → option_map value.Scalar found ≡ Some v
    → entries_of v ≤ n
scalar_few None n v is = absurd (none-some v is)
scalar_few (Some scalar) n v is =
    let none = ap entries_of (same_Some (value.Scalar scalar) v is) in omega (arith, none)

-- and so has a record
record_few : (found : Option (List Scalar)) (n : ℕ) (v : Value)
    → option_map value.Rec found ≡ Some v → entries_of v ≤ n
record_few None n v is = absurd (none-some v is)
record_few (Some parts) n v is =
    let none = ap entries_of (same_Some (value.Rec parts) v is) in omega (arith, none)

-- what an expression gives has at most as many entries as what it is given
gives_few : (inputs : Inputs) (n : ℕ) (e : Expression) (v : Value) → AreSmall inputs n
    → value_of inputs e ≡ Some v → entries_of v ≤ n
gives_few inputs n (read name) v small is = named_few inputs n name v small is
gives_few inputs n (literal number) v small is =
    scalar_few (scalar_of inputs (literal number)) n v is
gives_few inputs n (unary op inner) v small is =
    scalar_few (scalar_of inputs (unary op inner)) n v is
gives_few inputs n (binary op first second) v small is =
    scalar_few (scalar_of inputs (binary op first second)) n v is
gives_few inputs n (choice test first second met other) v small is =
    scalar_few (scalar_of inputs (choice test first second met other)) n v is
gives_few inputs n (sum name) v small is = scalar_few (scalar_of inputs (sum name)) n v is
gives_few inputs n (count name) v small is = scalar_few (scalar_of inputs (count name)) n v is
gives_few inputs n (most name first) v small is =
    scalar_few (scalar_of inputs (most name first)) n v is
gives_few inputs n (least name first) v small is =
    scalar_few (scalar_of inputs (least name first)) n v is
gives_few inputs n (entry name key other) v small is =
    scalar_few (scalar_of inputs (entry name key other)) n v is
gives_few inputs n (rec parts) v small is = record_few (scalars_of inputs parts) n v is
gives_few inputs n (part name place) v small is =
    scalar_few (scalar_of inputs (part name place)) n v is

no_field : (column : ℕ) (v : Value) (n : ℕ) → value_of_field (slice_get [] column) ≡ Some v
    → entries_of v ≤ n
no_field zero v n is = absurd (none-some v is)
no_field (suc column) v n is = absurd (none-some v is)

given_few : (n : ℕ) (x v : Value) → entries_of x ≤ n → Some x ≡ Some v → entries_of v ≤ n
given_few n x v few is = let same = ap entries_of (same_Some x v is) in omega (arith, few, same)

pub both_few : (n : ℕ) (e : Expression) (x y v : Value) → entries_of x ≤ n → entries_of y ≤ n
    → on_both e x y ≡ Some v → entries_of v ≤ n
both_few n e x y v first second gives = gives_few (given [] (Some x) (Some y)) n e v (record {
  fields = λ column other is. no_field column other n is;
  left = λ other is. given_few n x other first is;
  right = λ other is. given_few n y other second is;
}) gives

one_few : (n : ℕ) (e : Expression) (x v : Value) → entries_of x ≤ n
    → value_of (given [] (Some x) None) e ≡ Some v → entries_of v ≤ n
one_few n e x v first gives = gives_few (given [] (Some x) None) n e v (record {
  fields = λ column other is. no_field column other n is;
  left = λ other is. given_few n x other first is;
  right = λ other is. absurd (none-some other is);
}) gives

-- a field of an item
field_few : (item : List Field) (column : ℕ) (v : Value)
    → value_of_field (slice_get item column) ≡ Some v → entries_of v ≤ of_item item
field_few [] column v is = no_field column v (of_item []) is
field_few (x ∷ item) zero v is = by x is
  where
    by : (x : Field) → value_of_field (Some x) ≡ Some v → entries_of v ≤ of_item (x ∷ item)
    by (field.Int number) is = scalar_few (Some _) (of_item (field.Int number ∷ item)) v is
    by (field.Val inner) is = let same = ap entries_of (same_Some inner v is) in omega (arith, same)
    by (field.Text text) is = absurd (none-some v is)
field_few (x ∷ item) (suc column) v is = let rest = field_few item column v is in
    omega (arith, rest)

-- a fold
folds_few : (D : Word → Value → Type 0) (e : Expression) (n : ℕ) (pieces : List Word)
    (so_far v : Value)
    → ((piece : Word) (last : Value) → Contains pieces piece → D piece last → entries_of last ≤ n)
    → entries_of so_far ≤ n → Folds D e so_far pieces v → entries_of v ≤ n
folds_few D e n [] so_far v each begins folds = let same = ap entries_of folds in
    omega (arith, begins, same)
folds_few D e n (piece ∷ pieces) so_far v each begins (last, next, den, gives, folds) =
    folds_few D e n pieces next v
    (λ other value there. each other value (later_member piece other pieces there))
    (both_few n e so_far last next begins (each piece last (first_member piece pieces) den) gives)
    folds

pub piece_among : (pieces : List Word) (piece : Word) → Contains pieces piece
    → AreAmong piece (join pieces)
piece_among [] piece there = absurd (no_member piece there)
piece_among (x ∷ pieces) piece there = record {
  each = λ item is. elim (member_cases x piece pieces there) [
    | inl same ↦ Contains-append_left x (join pieces) item
        (subst (λ (u : Word). Contains u item) (sym same) is)
    | inr later ↦ Contains-append_right x (join pieces) item
        ((piece_among pieces piece later).each item is)
  ];
}

-- the item of a value has at most as many as the value
parts_few : (parts : List Scalar) → most_entries (fields_of_parts parts ∷ []) ≤ 0
parts_few [] = omega arith
parts_few (first ∷ others) = let rest = parts_few others in omega (arith, rest)

item_few : (v : Value) → most_entries (fields_of_value v ∷ []) ≤ entries_of v
item_few (value.Scalar scalar) = omega arith
item_few (value.Rec parts) = parts_few parts
item_few (value.Table entries) = omega arith

-- what comes out on the prefixes
emits_few : (D : Word → Value → Type 0) (n : ℕ) (word items : Word)
    → ((v : Value) → D word v → entries_of v ≤ n) → Emits D word items → most_entries items ≤ n
emits_few D n word items each emits = elim emits [
  | inl (v, den, whole) ↦
      let few = each v den in
      let same = ap most_entries whole in
      let one = item_few v in
      omega (arith, few, same, one)
  | inr (none, empty) ↦ let same = ap most_entries empty in omega (arith, same)
]

outputs_few : (D : Word → Value → Type 0) (n : ℕ) (before word items : Word)
    → ((u t : Word) (v : Value) → before ++ word ≡ u ++ t → D u v → entries_of v ≤ n)
    → Outputs D before word items → most_entries items ≤ n
outputs_few D n before [] items each outputs =
    emits_few D n before items (λ v den. each before [] v refl den) outputs
outputs_few D n before (item ∷ word) items each (first, others, emits, outputs, whole) =
    let one = emits_few D n before first (λ v den. each before (item ∷ word) v refl den) emits in
    let rest = outputs_few D n (before ++ item ∷ []) word others
    (λ u t v same den. each u t v (sym (append_assoc before (item ∷ []) word) ∙ same) den)
    outputs in
    let both = entries_join first others in
    let same = ap most_entries whole in
    omega (arith, one, rest, both, same)

-- where no collect stands there is no key
pub no_columns : (q : Qre) → HasNoCollect q → key_columns q ≡ []
no_columns (atom pred e) none = refl
no_columns (eps number) none = refl
no_columns (query.choice f g) none =
    ap (λ xs. xs ++ key_columns g) (no_columns f none.0) ∙ no_columns g none.1
no_columns (split f g e) none =
    ap (λ xs. xs ++ key_columns g) (no_columns f none.0) ∙ no_columns g none.1
no_columns (iter f number e) none = no_columns f none
no_columns (combine f g e) none =
    ap (λ xs. xs ++ key_columns g) (no_columns f none.0) ∙ no_columns g none.1
no_columns (apply f e) none = no_columns f none
no_columns (compose f g) none = no_columns f none.0
no_columns (collect chosen sync rate f) none = absurd none

no_keys : (word : Word) → keys_among [] word ≡ []
no_keys [] = refl
no_keys (item ∷ word) = no_keys word

pub tables_only : (q : Qre) (word : Word) → HasNoCollect q → keys_met q word ≡ most_entries word
tables_only q word none =
    let keys : distinct_count is_same (keys_among (key_columns q) word) ≡ 0 =
    ap (λ columns. distinct_count is_same (keys_among columns word)) (no_columns q none)
    ∙ ap (distinct_count is_same) (no_keys word) in
    omega (arith, keys)

-- a part of a word
pub among_whole : (word u t : Word) → word ≡ u ++ t → AreAmong u word
among_whole word u t whole = record {
  each = λ item there. subst (λ (w : Word). Contains w item) (sym whole)
      (Contains-append_left u t item there);
}

pub among_rest : (word u t : Word) → word ≡ u ++ t → AreAmong t word
among_rest word u t whole = record {
  each = λ item there. subst (λ (w : Word). Contains w item) (sym whole)
      (Contains-append_right u t item there);
}

-- a value has at most as many entries as there are keys that were met
pub entries_few : (standing : Standing) (columns : List Column) (q : Qre) (word : Word) (v : Value)
    → IsClear standing columns q → Den q word v → entries_of v ≤ keys_met q word
entries_few standing columns (atom pred e) word v clear (item, whole, meets, gives) =
    let n = of_item item in
    let few = gives_few (given item None None) n e v (record {
      fields = λ column other is. field_few item column other is;
      left = λ other is. absurd (none-some other is);
      right = λ other is. absurd (none-some other is);
    }) gives in
    let all = item_entries word item
    (subst (λ (w : Word). Contains w item) (sym whole) (first_member item [])) in
    omega (arith, few, all)
entries_few standing columns (eps number) word v clear (whole, same) =
    let none = ap entries_of same in omega (arith, none)
entries_few standing columns (query.choice f g) word v clear den = elim den [
  | inl left ↦
      let few = entries_few bound columns f word v clear.0 left in
      let all = keys_mono f (query.choice f g) word word
      (among_first (key_columns f) (key_columns g)) (among_all word) in
      omega (arith, few, all)
  | inr right ↦
      let few = entries_few bound columns g word v clear.1 right in
      let all = keys_mono g (query.choice f g) word word
      (among_second (key_columns f) (key_columns g)) (among_all word) in
      omega (arith, few, all)
]
entries_few standing columns (split f g e) word v clear
    (first, second, x, y, whole, left, right, gives) =
    let one = entries_few bound columns f first x clear.0 left in
    let other = entries_few bound columns g second y clear.1 right in
    let all = keys_mono f (split f g e) first word (among_first (key_columns f) (key_columns g))
    (among_whole word first second whole) in
    let rest = keys_mono g (split f g e) second word (among_second (key_columns f) (key_columns g))
    (among_rest word first second whole) in
    both_few (keys_met (split f g e) word) e x y v (omega (arith, one, all))
    (omega (arith, other, rest)) gives
entries_few standing columns (iter f number e) word v clear (pieces, whole, folds) =
    folds_few (Den f) e (keys_met (iter f number e) word) pieces _ v (λ piece last there den.
    let few = entries_few bound columns f piece last clear.0 den in
    let all = keys_mono f (iter f number e) piece word (among_all (key_columns f)) (record {
      each = λ item is.
          subst (λ (w : Word). Contains w item) (sym whole)
          ((piece_among pieces piece there).each item is);
    }) in
    omega (arith, few, all)) (omega arith) folds
entries_few standing columns (combine f g e) word v clear (x, y, left, right, gives) =
    let one = entries_few bound columns f word x clear.0 left in
    let other = entries_few bound columns g word y clear.1 right in
    let all = keys_mono f (combine f g e) word word (among_first (key_columns f) (key_columns g))
    (among_all word) in
    let rest = keys_mono g (combine f g e) word word (among_second (key_columns f) (key_columns g))
    (among_all word) in
    both_few (keys_met (combine f g e) word) e x y v (omega (arith, one, all))
    (omega (arith, other, rest)) gives
entries_few standing columns (apply f e) word v clear (x, inner, gives) =
    let one = entries_few bound columns f word x clear.0 inner in
    one_few (keys_met (apply f e) word) e x v one gives
entries_few standing columns (compose f g) word v clear (x, out, inner, outputs, outer) =
    let few = entries_few standing _ g out v clear.1 outer in
    let only = tables_only g out clear.2 in
    let all = outputs_few (Den f) (keys_met f word) [] word out (λ u t value whole den.
    let one = entries_few standing columns f u value clear.0 den in
    let more = keys_mono f f u word (among_all (key_columns f)) (among_whole word u t whole) in
    omega (arith, one, more)) outputs in
    omega (arith, few, only, all)
entries_few standing columns (collect chosen sync rate f) word v clear
    (entries, in_rate, each, same) =
    let table = ap entries_of same in
    let few = entries_of_keys (on_keys f chosen sync word)
    (keys_after chosen sync [] word) entries each in
    let all = keys_few chosen sync rate f word in
    omega (arith, table, few, all)

-- what comes out of the left operand of a compose has no more
pub out_keys : (standing : Standing) (columns : List Column) (f g : Qre) (word out : Word)
    → IsClear standing columns f → HasNoCollect g → Outputs (Den f) [] word out
    → keys_met g out ≤ keys_met f word
out_keys standing columns f g word out clear none outputs =
    let only = tables_only g out none in
    let all = outputs_few (Den f) (keys_met f word) [] word out (λ u t value whole den.
    let one = entries_few standing columns f u value clear den in
    let more = keys_mono f f u word (among_all (key_columns f)) (among_whole word u t whole) in
    omega (arith, one, more)) outputs in
    omega (arith, only, all)
