-- The names of columns are words, and each leads to its column.
use Rattle.std.proofs.Common.{◌≡◌, ◌<◌, ℕ, zero, suc, ◌+◌, Bool, true, false, not, ◌||◌, List, []}
use Rattle.std.proofs.Common.{◌∷◌, ◌++◌, length, get_or, codes, Some, refl, sym, ap, ◌∙◌, subst}
use Rattle.std.proofs.Common.{⊎_elim, arith, length-append}
use Rattle.std.specs.Prelude.{◌==◌}
use Rattle.std.specs.Fmt.{decimal}
use Rattle.std.specs.List.{AllByRecursion, list_any, position_or_len, slice_get}
use Rattle.std.specs.Str.{bytes_eq}
use Rattle.std.proofs.lemmas.Bool.{and_from, and_parts, lt-ltb, ne_eqb}
use Rattle.std.proofs.lemmas.Fmt.{decimal_digit}
use Rattle.std.proofs.lemmas.List.Sums.{position_or_len_is}
use Rattle.std.proofs.lemmas.Option.{get_or_from_slice_get, slice_get_within}
use Rattle.std.proofs.lemmas.Slice.Eq.{bytes_eq-Decides}
use Rattle.few_parts.specs.Sizes.{IsRecordSize}
use Rattle.item_schema.specs.Layout.{are_distinct, part_column, part_columns}
use Rattle.item_schema.specs.declared.column.Column.{Column}
use Rattle.item_schema.proofs.DerivedLayouts.{values_are_layout}
use Rattle.query_model.specs.QueryTypes.{derived_columns}
use Rattle.query_model.proofs.Widths.{width_of_type}
use Rattle.query_resolver.specs.Names.{column_named}
use Rattle.query_text.specs.Names.{Naming, field_name, of_columns, of_values}
use Rattle.query_tokens.specs.Raw.{IsWord, is_word_byte}
use Rattle.value_ops.specs.Types.{IsType}
use Rattle.value_ops.specs.declared.value.ValueType.{ValueType}
use Rattle.value_ops.specs.declared.value.ValueType.TheVariants as type
use Rattle.text_reads_back.proofs.KnownWords.{known}
use Rattle.text_reads_back.proofs.LetNames.{digit_is}
use Rattle.text_reads_back.proofs.Pushed.{at_push}

-- fields are called so that each name is a word that leads to its column
pub record AreNames (naming : Naming) (columns : List Column) : Type 0 where
  pub word : (place : ℕ) (column : Column) → slice_get columns place ≡ Some column
      → IsWord (field_name naming place)
  pub leads : (place : ℕ) (column : Column) → slice_get columns place ≡ Some column
      → column_named columns (field_name naming place) ≡ Some place

-- equality of bytes has no side
pub flipped : (one other : List ℕ) → bytes_eq one other ≡ false → bytes_eq other one ≡ false
flipped one other is = by (bytes_eq other one) refl
  where
    by : (test : Bool) → bytes_eq other one ≡ test → test ≡ false
    by true same =
        let are : other ≡ one = (bytes_eq-Decides other one).0 same in
        let again : bytes_eq one other ≡ true = (bytes_eq-Decides one other).1 (sym are) in
        absurd (cc)
    by false same = refl

pub same_bytes : (bytes : List ℕ) → bytes_eq bytes bytes ≡ true
same_bytes bytes = (bytes_eq-Decides bytes bytes).1 refl

-- of two tests none passes
pub neither : (a b : Bool) → (a || b) ≡ false → (a ≡ false) × (b ≡ false)
neither true b is = absurd (cc)
neither false b is = (refl, is)

pub untrue : (b : Bool) → not b ≡ true → b ≡ false
untrue true is = absurd (cc)
untrue false is = refl

-- what none of a list passes
none_passes : {T : Type 0} (test : T → Bool) (xs : List T) → list_any test xs ≡ false
    → (place : ℕ) (x : T) → slice_get xs place ≡ Some x → test x ≡ false
none_passes test [] none place x there = absurd (cc)
none_passes test (first ∷ xs) none zero x there =
    let one : x ≡ first = cc in
    ap test one ∙ (neither (test first) (list_any test xs) none).0
none_passes test (first ∷ xs) none (suc place) x there =
    none_passes test xs (neither (test first) (list_any test xs) none).1 place x there

-- what all of a list are
pub all_there : {T : Type 0} (P : T → Type 0) (xs : List T) → AllByRecursion P xs
    → (place : ℕ) (x : T) → slice_get xs place ≡ Some x → P x
all_there P [] all place x there = absurd (cc)
all_there P (first ∷ xs) all zero x there =
    let one : first ≡ x = cc in subst P one all.0
all_there P (first ∷ xs) all (suc place) x there = all_there P xs all.1 place x there

-- a column is not called like one before it
apart : (columns : List Column) → are_distinct columns ≡ true → (before place : ℕ)
    (column other : Column) → before < place → slice_get columns place ≡ Some column
    → bytes_eq column.name (get_or columns before other).name ≡ false
apart [] distinct before place column other less there = absurd (cc)
apart (first ∷ rest) distinct zero zero column other less there = absurd (omega (arith, less))
apart (first ∷ rest) distinct zero (suc place) column other less there =
    let parts = and_parts (not (list_any (λ c. bytes_eq first.name c.name) rest))
    (are_distinct rest) distinct in
    flipped first.name column.name (none_passes (λ c. bytes_eq first.name c.name) rest
    (untrue (list_any (λ c. bytes_eq first.name c.name) rest) parts.0) place column there)
apart (first ∷ rest) distinct (suc before) zero column other less there =
    absurd (omega (arith, less))
apart (first ∷ rest) distinct (suc before) (suc place) column other less there =
    let parts = and_parts (not (list_any (λ c. bytes_eq first.name c.name) rest))
    (are_distinct rest) distinct in
    apart rest parts.1 before place column other (omega (arith, less)) there

-- the name of a column leads to it
name_leads : (columns : List Column) → are_distinct columns ≡ true → (place : ℕ) (column : Column)
    → slice_get columns place ≡ Some column → column_named columns column.name ≡ Some place
name_leads columns distinct place column there =
    let within : place < length columns = slice_get_within columns place column there in
    let first : position_or_len (λ c. bytes_eq column.name c.name) columns ≡ place =
    position_or_len_is (λ c. bytes_eq column.name c.name) columns place column
    (omega (arith, within)) (λ k less. apart columns distinct k place column column less there)
    (λ less. ap (λ (c : Column). bytes_eq column.name c.name)
    (get_or_from_slice_get columns place column column there) ∙ same_bytes column.name) in
    rw (first, lt-ltb place (length columns) within) refl

-- the columns of a stream
pub column_names : (columns : List Column) → AllByRecursion (λ column. IsWord column.name) columns
    → are_distinct columns ≡ true → AreNames (of_columns columns) columns
column_names columns words distinct = record {
  word = λ place column there.
      rw there (all_there (λ (c : Column). IsWord c.name) columns words place column there);
  leads = λ place column there. rw there (name_leads columns distinct place column there);
}

-- the parts of a record
part_count : (size : ℕ) → length (part_columns size) ≡ size
part_count zero = refl
part_count (suc size) =
    let less = part_count size in
    length-append (part_columns size) (part_column size ∷ []) ∙ omega (arith, less)

part_there : (size place : ℕ) (column : Column) → slice_get (part_columns size) place ≡ Some column
    → (place < size) × (column ≡ part_column place)
part_there zero place column there = absurd (cc)
part_there (suc size) place column there =
    ⊎_elim (λ earlier. let less = part_there size place column earlier in
    (omega (arith, less.0), less.1))
    (λ (last, same). let count = part_count size in
    let here : place ≡ size = omega (arith, last, count) in
    (omega (arith, here), sym same ∙ ap part_column (sym here)))
    (at_push (part_columns size) (part_column size) place column there)

-- a part by its name
part_name : (size place : ℕ) → IsRecordSize size → place < size
    → field_name (of_values size) place ≡ codes "value" ++ (49 + place) ∷ []
part_name size place few less =
    let most = few.1 in
    let least = few.0 in
    let many : (size == 1) ≡ false = ne_eqb size 1 (λ e. omega (arith, e, least)) in
    let digit : 48 + (place + 1) ≡ 49 + place = omega arith in
    let text : decimal (place + 1) ≡ (49 + place) ∷ [] =
    decimal_digit (place + 1) (omega arith) ∙ ap (λ n. n ∷ []) digit in
    rw many (ap (λ digits. codes "value" ++ digits) text)

part_word : (place : ℕ) → place < 8 → IsWord (codes "value" ++ (49 + place) ∷ [])
part_word place less =
    let digit : 48 + (place + 1) ≡ 49 + place = omega arith in
    let byte : is_word_byte (49 + place) ≡ true =
    ap is_word_byte (sym digit) ∙ digit_is (place + 1) (omega arith) in
    known (codes "value" ++ (49 + place) ∷ []) (and_from (is_word_byte (49 + place)) true byte refl)

record_names : (size : ℕ) → IsRecordSize size → AreNames (of_values size) (part_columns size)
record_names size few = record {
  word = λ place column there.
      let at = part_there size place column there in
      subst IsWord (sym (part_name size place few at.0)) (part_word place (omega (arith, at.0, few.1)));
  leads = λ place column there.
      let at = part_there size place column there in
      ap (column_named (part_columns size))
      (part_name size place few at.0 ∙ sym (ap (λ (c : Column). c.name) at.1))
      ∙ name_leads (part_columns size) (values_are_layout (type.Rec size) few).distinct place column
      there;
}

one_name : (column : Column) → column.name ≡ codes "value"
    → AreNames (of_values 1) (column ∷ [])
one_name column is = record { word = word; leads = leads }
  where
    word : (place : ℕ) (other : Column) → slice_get (column ∷ []) place ≡ Some other
        → IsWord (field_name (of_values 1) place)
    word place other there = known (codes "value") refl

    leads : (place : ℕ) (other : Column) → slice_get (column ∷ []) place ≡ Some other
        → column_named (column ∷ []) (codes "value") ≡ Some place
    leads zero other there =
        subst (λ name. column_named (column ∷ []) name ≡ Some 0) is
        (name_leads (column ∷ []) refl 0 column refl)
    leads (suc place) other there = absurd (cc)

-- the columns of values
pub value_names : (ty : ValueType) → IsType ty
    → AreNames (of_values (width_of_type ty)) (derived_columns ty)
value_names type.Number is = one_name _ refl
value_names (type.Rec size) is = record_names size is
value_names type.Table is = one_name _ refl
