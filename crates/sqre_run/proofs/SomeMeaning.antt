-- Some function gives the values of a query on words of items that are read from lines.
use Rattle.std.proofs.Common.{◌≡◌, ◌&&◌, ℤ, Bool, true, false, List, [], ◌∷◌, Option, None, Some}
use Rattle.std.proofs.Common.{Result, Ok, Err, ◌⊎◌, inl, inr, refl, sym, ◌∙◌, FitsSigned}
use Rattle.std.specs.Int.{w64}
use Rattle.std.specs.List.{list_all}
use Rattle.value_ops.specs.Texts.{are_bytes}
use Rattle.value_ops.specs.declared.field.Field.{Field}
use Rattle.value_ops.specs.declared.field.Field.TheVariants as field
use Rattle.value_ops.specs.declared.value.Value.{Value}
use Rattle.item_schema.specs.Items.{IsFieldOf, IsItemOf}
use Rattle.item_schema.specs.Layout.{is_read}
use Rattle.line_reader.specs.Reading.{stored}
use Rattle.line_reader.specs.declared.stop.Cause.{Cause}
use Rattle.line_reader.proofs.Items.{stored_fits, stored_is}
use Rattle.item_schema.specs.declared.column.Column.{Column}
use Rattle.item_schema.specs.declared.column.Kind.{Kind}
use Rattle.item_schema.specs.declared.column.Kind.TheVariants.{Int, Fixed, Text, Number, Table}
use Rattle.rate_expr.specs.Words.{Word, IsWordOf}
use Rattle.query_model.specs.Following.{IsAnswer}
use Rattle.query_model.specs.Monitors.{Monitor}
use Rattle.query_model.specs.Rules.{free}
use Rattle.query_model.proofs.Decided.{ValueOrNone, value_or_none}
use Rattle.stream_run.specs.Meanings.{IsMeaning, Meaning}
use Rattle.query_compiler.specs.Compiled.{KeepsRules}

-- it is so, or not
abbrev OrNot : Type 0 → Type 0
OrNot A = A ⊎ (A → ⊥)

both_or_not : {A B : Type 0} → OrNot A → OrNot B → OrNot (A × B)
both_or_not (inl a) (inl b) = inl (a, b)
both_or_not (inl a) (inr no_b) = inr (λ both. no_b both.1)
both_or_not (inr no_a) b = inr (λ both. no_a both.0)

and_parts : (a b : Bool) → (a && b) ≡ true → (a ≡ true) × (b ≡ true)
and_parts true b is = (refl, is)
and_parts false b is = absurd (cc)

true_or_not : (b : Bool) → OrNot (b ≡ true)
true_or_not true = inl refl
true_or_not false = inr (λ is. cc)

-- a number of 64 bits, as those are that can be stored
number_or_not : (number : ℤ) → OrNot (FitsSigned w64 number)
number_or_not number = at (stored number) refl
  where
    at : (result : Result Field Cause) → stored number ≡ result → OrNot (FitsSigned w64 number)
    at (Ok kept) is = inl (stored_is number kept is).1
    at (Err why) is = inr (λ fits. let same : Err why ≡ Ok (field.Int number) =
        sym is ∙ stored_fits number fits in absurd (cc))

-- a field of a kind that is read
field_or_not : (kind : Kind) (f : Field) → is_read kind ≡ true → OrNot (IsFieldOf kind f)
field_or_not Int (field.Int n) read = number_or_not n
field_or_not Int (field.Text bytes) read = inr (λ h. h)
field_or_not Int (field.Val v) read = inr (λ h. h)
field_or_not (Fixed digits) (field.Int n) read = number_or_not n
field_or_not (Fixed digits) (field.Text bytes) read = inr (λ h. h)
field_or_not (Fixed digits) (field.Val v) read = inr (λ h. h)
field_or_not Text (field.Int n) read = inr (λ h. h)
field_or_not Text (field.Text bytes) read = true_or_not (are_bytes bytes)
field_or_not Text (field.Val v) read = inr (λ h. h)
field_or_not Number f read = absurd (cc)
field_or_not Table f read = absurd (cc)

module _ (monitor : Monitor) (keeps : KeepsRules monitor) where
  -- an item of columns that are read
  item_or_not : (columns : List Column) (fields : List Field)
      → list_all (λ column. is_read column.kind) columns ≡ true → OrNot (IsItemOf columns fields)
  item_or_not [] [] read = inl tt
  item_or_not [] (f ∷ fields) read = inr (λ h. h)
  item_or_not (column ∷ columns) [] read = inr (λ h. h)
  item_or_not (column ∷ columns) (f ∷ fields) read =
      let parts = and_parts _ _ read in
      both_or_not (field_or_not column.kind f parts.0) (item_or_not columns fields parts.1)

  -- and a word of such items
  word_or_not : (word : Word) → OrNot (IsWordOf monitor.layout.columns word)
  word_or_not [] = inl tt
  word_or_not (item ∷ word) =
      both_or_not (item_or_not monitor.layout.columns item keeps.read) (word_or_not word)

  -- the value, if there is one
  abbrev value_in : (word : Word) → ValueOrNone monitor.query word → Option Value
  value_in word (inl (v, den)) = Some v
  value_in word (inr none) = None

  value_in-answers : (word : Word) (decided : ValueOrNone monitor.query word)
      → IsAnswer monitor.query word (value_in word decided)
  value_in-answers word (inl (v, den)) = den
  value_in-answers word (inr none) = none

  -- the same of a word that may be none of the columns
  abbrev value_on : (word : Word) → OrNot (IsWordOf monitor.layout.columns word) → Option Value
  value_on word (inl is) =
      value_in word (value_or_none free monitor.layout.columns monitor.query word keeps.clear is)
  value_on word (inr other) = None

  value_on-answers : (word : Word) (is : IsWordOf monitor.layout.columns word)
      (decided : OrNot (IsWordOf monitor.layout.columns word))
      → IsAnswer monitor.query word (value_on word decided)
  value_on-answers word is (inl is') = value_in-answers word
      (value_or_none free monitor.layout.columns monitor.query word keeps.clear is')
  value_on-answers word is (inr other) = absurd (other is)

  pub some_meaning : (meaning : Meaning) × IsMeaning monitor meaning
  some_meaning = (
    record { layout = monitor.layout; value = λ word. value_on word (word_or_not word) },
    record { layout = refl; value = λ word is. value_on-answers word is (word_or_not word) },
  )
