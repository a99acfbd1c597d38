-- Predicates, rates and keys are written as terms that can stand at their places.
use Rattle.std.proofs.Common.{◌≡◌, ◌≤◌, ℕ, ◌+◌, ℤ, Bool, true, List, [], ◌∷◌, ◌++◌, length, codes, Option}
use Rattle.std.proofs.Common.{Some, None, FitsSigned, w64, refl, sym, ◌∙◌, arith}
use Rattle.std.specs.List.{AllByRecursion, list_all, slice_get}
use Rattle.std.proofs.lemmas.List.Folds.{list_all-append}
use Rattle.std.proofs.lemmas.Bool.{and_parts}
use Rattle.item_schema.specs.declared.column.Column.{Column}
use Rattle.language_base.specs.Limits.{max_level}
use Rattle.predicates.specs.Fits.{fits, has_texts, is_number, is_text}
use Rattle.predicates.specs.Predicates as test
use Rattle.predicates.specs.Predicates.{Predicate}
use Rattle.predicates.specs.Truth.{passes}
use Rattle.query_forms.specs.declared.term_place.TermPlace.{TermPlace}
use Rattle.query_forms.specs.declared.term_place.TermPlace.TheVariants.{Key, Literal, Name, Number}
use Rattle.query_forms.specs.declared.term_place.TermPlace.TheVariants.{Pred, Rate}
use Rattle.query_forms.specs.Forms.{fits_number, places_of}
use Rattle.query_forms.specs.Terms.{Terms, none, number, string, word, call}
use Rattle.query_model.specs.Keys.{IsKeySize}
use Rattle.query_parser.specs.Printing.{nowhere}
use Rattle.query_rewrite.specs.Levels.{levels_of_rate, levels_of_test}
use Rattle.query_syntax.specs.Written.{key_before, predicate_before, rate_before}
use Rattle.query_text.specs.Memory.{HasOperands, HaveOperands}
use Rattle.query_text.specs.Names.{Naming, field_name}
use Rattle.query_text.specs.Trees.{key_tree, predicate_tree, rate_tree}
use Rattle.query_tokens.specs.Raw.{IsWord}
use Rattle.rate_expr.specs.Rates as rate
use Rattle.rate_expr.specs.Rates.{Regex, preds_of}
use Rattle.value_ops.specs.Texts.{IsText}
use Rattle.text_reads_back.proofs.Fitted.{Stands, before, call_of_one, call_of_three, call_of_two}
use Rattle.text_reads_back.proofs.Fitted.{form_stands, no_term, number_stands, string_stands}
use Rattle.text_reads_back.proofs.Fitted.{word_stands}
use Rattle.text_reads_back.proofs.KnownWords.{is_word, known}
use Rattle.text_reads_back.proofs.Ranges.{bytes_of, number_within}

-- what passes a test is there
pub found : {T : Type 0} (test : T → Bool) (o : Option T) → passes test o ≡ true
    → (one : T) × (o ≡ Some one)
found test None is = absurd (cc)
found test (Some one) is = (one, refl)

-- of two lists that fit together each fits
pub fit_parts : (columns : List Column) (left right : List Predicate)
    → list_all (fits columns) (left ++ right) ≡ true
    → (list_all (fits columns) left ≡ true) × (list_all (fits columns) right ≡ true)
fit_parts columns left right fit =
    and_parts (list_all (fits columns) left) (list_all (fits columns) right)
    (sym (list_all-append (fits columns) left right) ∙ fit)

module _ (columns : List Column) (naming : Naming)
    (words : (place : ℕ) (column : Column) → slice_get columns place ≡ Some column
    → IsWord (field_name naming place)) where
  -- the name of a column
  field_stands : (test : Column → Bool) (column level : ℕ) (rest : Terms)
      → passes test (slice_get columns column) ≡ true → level ≤ max_level
      → Stands level Name (word (field_name naming column) nowhere rest) rest
  field_stands test column level rest is few =
      let there = found test (slice_get columns column) is in
      word_stands level Name (field_name naming column) rest nowhere few
      (words column there.0 there.1) refl

  -- a test of it with a number
  number_test : (place : TermPlace) (head : List ℕ) (value : ℤ) (test : Column → Bool)
      (column level : ℕ) (rest : Terms) → places_of Pred head 2 ≡ Some (Name ∷ place ∷ [])
      → is_word head ≡ true → fits_number place value ≡ true → passes test (slice_get columns column) ≡ true
      → FitsSigned w64 value → level + 1 ≤ max_level
      → Stands level Pred
      (call head (word (field_name naming column) nowhere (number value nowhere none)) nowhere rest)
      rest
  number_test place head value test column level rest form is stands passed fits few =
      call_of_two level Pred head rest nowhere Name place _ (number value nowhere none) form is
      (omega (arith, few))
      (field_stands test column (level + 1) (number value nowhere none) passed few)
      (number_stands (level + 1) place value none nowhere few (number_within value fits) stands)

  -- with a text
  text_test : (head text : List ℕ) (column level : ℕ) (rest : Terms)
      → places_of Pred head 2 ≡ Some (Name ∷ Literal ∷ []) → is_word head ≡ true
      → has_texts columns column ≡ true → IsText text → level + 1 ≤ max_level
      → Stands level Pred
      (call head (word (field_name naming column) nowhere (string text nowhere none)) nowhere rest)
      rest
  text_test head text column level rest form is has fits few =
      call_of_two level Pred head rest nowhere Name Literal _ (string text nowhere none) form is
      (omega (arith, few))
      (field_stands (λ c. is_text c.kind) column (level + 1) (string text nowhere none) has few)
      (string_stands (level + 1) Literal text none nowhere few (bytes_of text fits) refl)

  pub predicate_written : (pred : Predicate) (level : ℕ) (rest : Terms) → fits columns pred ≡ true
      → HasOperands pred → level + levels_of_test pred ≤ max_level + 1
      → Stands level Pred (predicate_before (predicate_tree naming pred) rest) rest
  predicate_written test.any level rest fit operands few =
      word_stands level Pred (codes "any") rest nowhere (omega (arith, few))
      (known (codes "any") refl) refl
  predicate_written (test.eq column value) level rest fit operands few =
      number_test Literal (codes "eq") value (λ c. is_number c.kind) column level rest refl
      refl refl fit operands (omega (arith, few))
  predicate_written (test.ne column value) level rest fit operands few =
      number_test Literal (codes "ne") value (λ c. is_number c.kind) column level rest refl
      refl refl fit operands (omega (arith, few))
  predicate_written (test.lt column value) level rest fit operands few =
      number_test Number (codes "lt") value (λ c. is_number c.kind) column level rest refl
      refl refl fit operands (omega (arith, few))
  predicate_written (test.le column value) level rest fit operands few =
      number_test Number (codes "le") value (λ c. is_number c.kind) column level rest refl
      refl refl fit operands (omega (arith, few))
  predicate_written (test.gt column value) level rest fit operands few =
      number_test Number (codes "gt") value (λ c. is_number c.kind) column level rest refl
      refl refl fit operands (omega (arith, few))
  predicate_written (test.ge column value) level rest fit operands few =
      number_test Number (codes "ge") value (λ c. is_number c.kind) column level rest refl
      refl refl fit operands (omega (arith, few))
  predicate_written (test.between column low high) level rest fit operands few =
      let last = number high nowhere none in
      call_of_three level Pred (codes "between") rest nowhere Name Number Number _
      (number low nowhere last) last refl refl (omega (arith, few))
      (field_stands (λ c. is_number c.kind) column (level + 1) (number low nowhere last) fit
      (omega (arith, few)))
      (number_stands (level + 1) Number low last nowhere (omega (arith, few))
      (number_within low operands.0) refl)
      (number_stands (level + 1) Number high none nowhere (omega (arith, few))
      (number_within high operands.1) refl)
  predicate_written (test.eq_text column text) level rest fit operands few =
      text_test (codes "eq") text column level rest refl refl fit operands
      (omega (arith, few))
  predicate_written (test.ne_text column text) level rest fit operands few =
      text_test (codes "ne") text column level rest refl refl fit operands
      (omega (arith, few))
  predicate_written (test.is_num column) level rest fit operands few =
      call_of_one level Pred (codes "isnum") rest nowhere Name _ refl refl
      (omega (arith, few))
      (field_stands (λ c. is_number c.kind) column (level + 1) none fit (omega (arith, few)))
  predicate_written (test.conjunction left right) level rest fit operands few =
      let parts = and_parts (fits columns left) (fits columns right) fit in
      call_of_two level Pred (codes "and") rest nowhere Pred Pred _ _ refl refl
      (omega (arith, few))
      (predicate_written left (level + 1) (predicate_before (predicate_tree naming right) none)
      parts.0 operands.0 (omega (arith, few)))
      (predicate_written right (level + 1) none parts.1 operands.1 (omega (arith, few)))
  predicate_written (test.disjunction left right) level rest fit operands few =
      let parts = and_parts (fits columns left) (fits columns right) fit in
      call_of_two level Pred (codes "or") rest nowhere Pred Pred _ _ refl refl
      (omega (arith, few))
      (predicate_written left (level + 1) (predicate_before (predicate_tree naming right) none)
      parts.0 operands.0 (omega (arith, few)))
      (predicate_written right (level + 1) none parts.1 operands.1 (omega (arith, few)))
  predicate_written (test.negation inner) level rest fit operands few =
      call_of_one level Pred (codes "not") rest nowhere Pred _ refl refl
      (omega (arith, few))
      (predicate_written inner (level + 1) none fit operands (omega (arith, few)))

  pub rate_written : (regex : Regex) (level : ℕ) (rest : Terms)
      → list_all (fits columns) (preds_of regex) ≡ true → HaveOperands regex
      → level + levels_of_rate regex ≤ max_level + 1
      → Stands level Rate (rate_before (rate_tree naming regex) rest) rest
  rate_written rate.empty level rest fit operands few =
      word_stands level Rate (codes "eps") rest nowhere (omega (arith, few))
      (known (codes "eps") refl) refl
  rate_written (rate.one pred) level rest fit operands few =
      call_of_one level Rate (codes "item") rest nowhere Pred _ refl refl
      (omega (arith, few))
      (predicate_written pred (level + 1) none (and_parts (fits columns pred) true fit).0 operands
      (omega (arith, few)))
  rate_written (rate.sequence left right) level rest fit operands few =
      let parts = fit_parts columns (preds_of left) (preds_of right) fit in
      call_of_two level Rate (codes "seq") rest nowhere Rate Rate _ _ refl refl
      (omega (arith, few))
      (rate_written left (level + 1) (rate_before (rate_tree naming right) none)
      parts.0 operands.0 (omega (arith, few)))
      (rate_written right (level + 1) none parts.1 operands.1 (omega (arith, few)))
  rate_written (rate.choice left right) level rest fit operands few =
      let parts = fit_parts columns (preds_of left) (preds_of right) fit in
      call_of_two level Rate (codes "alt") rest nowhere Rate Rate _ _ refl refl
      (omega (arith, few))
      (rate_written left (level + 1) (rate_before (rate_tree naming right) none)
      parts.0 operands.0 (omega (arith, few)))
      (rate_written right (level + 1) none parts.1 operands.1 (omega (arith, few)))
  rate_written (rate.star inner) level rest fit operands few =
      call_of_one level Rate (codes "star") rest nowhere Rate _ refl refl
      (omega (arith, few))
      (rate_written inner (level + 1) none fit operands (omega (arith, few)))

  -- the name of a column of texts
  text_stands : (column level : ℕ) (rest : Terms) → has_texts columns column ≡ true
      → level ≤ max_level → Stands level Name (word (field_name naming column) nowhere rest) rest
  text_stands = field_stands (λ c. is_text c.kind)

  pub key_written : (chosen : List ℕ) (level : ℕ) (rest : Terms)
      → AllByRecursion (λ column. has_texts columns column ≡ true) chosen
      → IsKeySize (length chosen) → level + 1 ≤ max_level
      → Stands level Key (key_before (key_tree naming chosen) rest) rest
  key_written [] level rest texts size few = let least = size.least in absurd (omega arith)
  key_written (a ∷ []) level rest texts size few =
      let there = found (λ c. is_text c.kind) (slice_get columns a) texts.0 in
      word_stands level Key (field_name naming a) rest nowhere (omega (arith, few))
      (words a there.0 there.1) refl
  key_written (a ∷ b ∷ []) level rest texts size few =
      call_of_two level Key (codes "key") rest nowhere Name Name _ _ refl refl
      (omega (arith, few))
      (text_stands a (level + 1) (word (field_name naming b) nowhere none) texts.0 few)
      (text_stands b (level + 1) none texts.1.0 few)
  key_written (a ∷ b ∷ c ∷ []) level rest texts size few =
      call_of_three level Key (codes "key") rest nowhere Name Name Name _ _ _ refl refl
      (omega (arith, few))
      (text_stands a (level + 1)
      (word (field_name naming b) nowhere (word (field_name naming c) nowhere none)) texts.0 few)
      (text_stands b (level + 1) (word (field_name naming c) nowhere none) texts.1.0 few)
      (text_stands c (level + 1) none texts.1.1.0 few)
  key_written (a ∷ b ∷ c ∷ d ∷ []) level rest texts size few =
      let last = word (field_name naming d) nowhere none in
      let then = word (field_name naming c) nowhere last in
      let also = word (field_name naming b) nowhere then in
      form_stands level Key (Name ∷ Name ∷ Name ∷ Name ∷ []) (codes "key")
      (word (field_name naming a) nowhere also) rest nowhere (omega arith) refl refl
      (omega (arith, few))
      (before (level + 1) Name (Name ∷ Name ∷ Name ∷ []) _ also
      (text_stands a (level + 1) also texts.0 few)
      (before (level + 1) Name (Name ∷ Name ∷ []) also then
      (text_stands b (level + 1) then texts.1.0 few)
      (before (level + 1) Name (Name ∷ []) then last
      (text_stands c (level + 1) last texts.1.1.0 few)
      (before (level + 1) Name [] last none
      (text_stands d (level + 1) none texts.1.1.1.0 few) (no_term (level + 1))))))
  key_written (a ∷ b ∷ c ∷ d ∷ e ∷ others) level rest texts size few =
      let most = size.most in absurd (omega arith)
