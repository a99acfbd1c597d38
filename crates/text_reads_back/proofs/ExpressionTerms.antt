-- A well-typed expression is written as a term that can stand where expressions stand.
use Rattle.std.proofs.Common.{◌≡◌, ◌≤◌, ℕ, zero, suc, ◌+◌, pos, true, ◌∷◌, codes, replicate}
use Rattle.std.proofs.Common.{Option, Some, None, refl, sym, ap, ◌∙◌, subst, arith, add-one}
use Rattle.std.proofs.lemmas.Bool.Decides.{nat_tests}
use Rattle.std.proofs.lemmas.List.{length-replicate}
use Rattle.expressions.specs.Expressions as value
use Rattle.expressions.specs.Expressions.{Expression, Expressions, count_of}
use Rattle.expressions.specs.Typing.{AreNumbers, HasPart, HasType, IsNumber, IsRecordOf, Types}
use Rattle.expressions.specs.Typing.{type_named}
use Rattle.expressions.specs.declared.expr.Var.{Var}
use Rattle.few_parts.specs.Sizes.{IsRecordSize}
use Rattle.language_base.specs.Limits.{max_level}
use Rattle.query_forms.specs.declared.term_place.TermPlace.{TermPlace}
use Rattle.query_forms.specs.declared.term_place.TermPlace.TheVariants.{Compare, Expr, Index, Name}
use Rattle.query_forms.specs.declared.term_place.TermPlace.TheVariants.{Text}
use Rattle.query_forms.specs.Forms.{fits_word, places_of}
use Rattle.query_forms.specs.Terms as terms
use Rattle.query_forms.specs.Terms.{Terms}
use Rattle.query_parser.specs.Printing.{nowhere}
use Rattle.query_rewrite.specs.Levels.{levels_of, most_levels}
use Rattle.query_syntax.specs.Words.{binary_word, compare_word, unary_word}
use Rattle.query_syntax.specs.Written.{expression_before, expressions_terms}
use Rattle.query_text.specs.Memory.{HasTextKeys, HaveTextKeys}
use Rattle.query_text.specs.Names.{Naming, var_name}
use Rattle.query_text.specs.Trees.{expression_tree, expression_trees}
use Rattle.query_tokens.specs.Raw.{IsWord}
use Rattle.value_ops.specs.declared.value.ValueType.{ValueType}
use Rattle.value_ops.specs.declared.value.ValueType.TheVariants as type
use Rattle.text_reads_back.proofs.Fitted.{StandAll, Stands, before, call_of_one, call_of_three}
use Rattle.text_reads_back.proofs.Fitted.{call_of_two, form_stands, no_term, number_stands}
use Rattle.text_reads_back.proofs.Fitted.{string_stands, word_stands}
use Rattle.text_reads_back.proofs.FormWords.{binary_form, compare_form, unary_form}
use Rattle.text_reads_back.proofs.KnownWords.{known}
use Rattle.text_reads_back.proofs.Ranges.{bytes_of, number_within}

-- what has a type is called by a word, and records have few parts
pub record AreWords (naming : Naming) (types : Types) : Type 0 where
  pub word : (name : Var) (ty : ValueType) → type_named types name ≡ Some ty
      → IsWord (var_name naming name)
  pub few : (name : Var) (size : ℕ) → type_named types name ≡ Some (type.Rec size) → size ≤ 8

-- an expression has a level
levels_some : (e : Expression) → 1 ≤ levels_of e
levels_some (value.literal n) = omega arith
levels_some (value.read name) = omega arith
levels_some (value.unary op inner) = omega arith
levels_some (value.binary op first second) = omega arith
levels_some (value.choice test first second met other) = omega arith
levels_some (value.sum name) = omega arith
levels_some (value.count name) = omega arith
levels_some (value.most name first) = omega arith
levels_some (value.least name first) = omega arith
levels_some (value.entry name key other) = omega arith
levels_some (value.rec parts) = omega arith
levels_some (value.part name place) = omega arith

-- a part is one of a record
pub record PartOf (found : Option ValueType) (place : ℕ) : Type 0 where
  pub size : ℕ
  pub record_is : found ≡ Some (type.Rec size)
  pub first : 1 ≤ place
  pub last : place ≤ size

pub part_of : (found : Option ValueType) (place : ℕ) → HasPart found place → PartOf found place
part_of None place has = absurd has
part_of (Some type.Number) place has = absurd has
part_of (Some (type.Rec size)) place has =
    record { size = size; record_is = refl; first = has.0; last = has.1 }
part_of (Some type.Table) place has = absurd has

-- a record has two to eight parts
record_form : (size : ℕ) → IsRecordSize size
    → places_of Expr (codes "rec") size ≡ Some (replicate size Expr)
record_form zero is = absurd (omega (arith, is.0))
record_form (suc zero) is = absurd (omega (arith, is.0))
record_form (suc (suc zero)) is = refl
record_form (suc (suc (suc zero))) is = refl
record_form (suc (suc (suc (suc zero)))) is = refl
record_form (suc (suc (suc (suc (suc zero))))) is = refl
record_form (suc (suc (suc (suc (suc (suc zero)))))) is = refl
record_form (suc (suc (suc (suc (suc (suc (suc zero))))))) is = refl
record_form (suc (suc (suc (suc (suc (suc (suc (suc zero)))))))) is = refl
record_form (suc (suc (suc (suc (suc (suc (suc (suc (suc n))))))))) is =
    absurd (omega (arith, is.1))

module _ (naming : Naming) (types : Types) (words : AreWords naming types) where
  -- the expression stands where expressions stand
  abbrev Stand : Expression → ℕ → Terms → Type 0
  Stand e level rest = Stands level Expr (expression_before (expression_tree naming e) rest) rest

  -- a name of something
  name_stands : (place : TermPlace) (name : Var) (ty : ValueType) (level : ℕ) (rest : Terms)
      → fits_word place (var_name naming name) ≡ true
      → type_named types name ≡ Some ty → level ≤ max_level
      → Stands level place (terms.word (var_name naming name) nowhere rest) rest
  name_stands place name ty level rest fits is few =
      word_stands level place (var_name naming name) rest nowhere few (words.word name ty is) fits

  -- a part of a record
  part_stands : (name : Var) (place level : ℕ) (rest : Terms) → HasPart (type_named types name) place
      → level + 1 ≤ max_level → Stand (value.part name place) level rest
  part_stands name place level rest has few =
      let part = part_of (type_named types name) place has in
      let most = words.few name part.size part.record_is in
      let first = part.first in
      let last = part.last in
      let small : place ≤ 8 = omega arith in
      call_of_two level Expr (codes "part") rest nowhere Name Index _ _ refl refl
      (omega (arith, few))
      (name_stands Name name (type.Rec part.size) (level + 1)
      (terms.number (pos place) nowhere terms.none) refl part.record_is few)
      (number_stands (level + 1) Index (pos place) terms.none nowhere few (grind (arith, nat_tests))
      (grind (arith, nat_tests)))

  mutual
    number_written : (e : Expression) (level : ℕ) (rest : Terms) → IsNumber types e
        → HasTextKeys e → level + levels_of e ≤ max_level + 1 → Stand e level rest
    number_written (value.literal n) level rest is keys few =
        number_stands level Expr n rest nowhere (omega (arith, few)) (number_within n is)
        refl
    number_written (value.read name) level rest is keys few =
        name_stands Expr name type.Number level rest refl is (omega (arith, few))
    number_written (value.unary op inner) level rest is keys few =
        let form = unary_form op in
        call_of_one level Expr (unary_word op) rest nowhere Expr _ form.0 form.1
        (omega (arith, few))
        (number_written inner (level + 1) terms.none is keys (omega (arith, few)))
    number_written (value.binary op first second) level rest is keys few =
        let form = binary_form op in
        call_of_two level Expr (binary_word op) rest nowhere Expr Expr _ _ form.0 form.1
        (omega (arith, few))
        (number_written first (level + 1) (expression_before (expression_tree naming second) terms.none)
        is.0 keys.0 (omega (arith, few)))
        (number_written second (level + 1) terms.none is.1 keys.1 (omega (arith, few)))
    number_written (value.choice test first second met other) level rest is keys few =
        let form = compare_form test in
        let branches = expression_before (expression_tree naming met)
        (expression_before (expression_tree naming other) terms.none) in
        call_of_three level Expr (codes "if") rest nowhere Compare Expr Expr _ branches _ refl
        refl (omega (arith, few))
        (call_of_two (level + 1) Compare (compare_word test) branches nowhere Expr Expr _ _ form.0
        form.1 (omega (arith, few))
        (number_written first (level + 1 + 1)
        (expression_before (expression_tree naming second) terms.none)
        is.0 keys.0 (omega (arith, few)))
        (number_written second (level + 1 + 1) terms.none is.1 keys.1 (omega (arith, few))))
        (number_written met (level + 1) (expression_before (expression_tree naming other) terms.none)
        is.2 keys.2 (omega (arith, few)))
        (number_written other (level + 1) terms.none is.3 keys.3 (omega (arith, few)))
    number_written (value.sum name) level rest is keys few =
        call_of_one level Expr (codes "tsum") rest nowhere Name _ refl refl
        (omega (arith, few))
        (name_stands Name name type.Table (level + 1) terms.none refl is (omega (arith, few)))
    number_written (value.count name) level rest is keys few =
        call_of_one level Expr (codes "tcount") rest nowhere Name _ refl refl
        (omega (arith, few))
        (name_stands Name name type.Table (level + 1) terms.none refl is (omega (arith, few)))
    number_written (value.most name first) level rest is keys few =
        call_of_two level Expr (codes "tmax") rest nowhere Name Expr _ _ refl refl
        (omega (arith, few))
        (name_stands Name name type.Table (level + 1)
        (expression_before (expression_tree naming first) terms.none) refl is.0
        (omega (arith, few, levels_some first)))
        (number_written first (level + 1) terms.none is.1 keys (omega (arith, few)))
    number_written (value.least name first) level rest is keys few =
        call_of_two level Expr (codes "tmin") rest nowhere Name Expr _ _ refl refl
        (omega (arith, few))
        (name_stands Name name type.Table (level + 1)
        (expression_before (expression_tree naming first) terms.none) refl is.0
        (omega (arith, few, levels_some first)))
        (number_written first (level + 1) terms.none is.1 keys (omega (arith, few)))
    number_written (value.entry name key other) level rest is keys few =
        let after = expression_before (expression_tree naming other) terms.none in
        call_of_three level Expr (codes "tget") rest nowhere Name Text Expr _
        (terms.string key nowhere after) after refl refl (omega (arith, few))
        (name_stands Name name type.Table (level + 1) (terms.string key nowhere after) refl is.0
        (omega (arith, few, levels_some other)))
        (string_stands (level + 1) Text key after nowhere (omega (arith, few, levels_some other))
        (bytes_of key keys.0) refl)
        (number_written other (level + 1) terms.none is.1 keys.1 (omega (arith, few)))
    number_written (value.rec parts) level rest is keys few = absurd is
    number_written (value.part name place) level rest is keys few =
        part_stands name place level rest is (omega (arith, few))

    numbers_written : (parts : Expressions) (level : ℕ) → AreNumbers types parts
        → HaveTextKeys parts → level + most_levels parts ≤ max_level + 1
        → StandAll level (replicate (count_of parts) Expr)
        (expressions_terms (expression_trees naming parts))
    numbers_written value.none level are keys few = no_term level
    numbers_written (value.more first rest) level are keys few =
        subst
        (λ n. StandAll level (replicate n Expr)
        (expressions_terms (expression_trees naming (value.more first rest))))
        (sym (add-one (count_of rest)))
        (before level Expr (replicate (count_of rest) Expr) _ _
        (number_written first level (expressions_terms (expression_trees naming rest)) are.0 keys.0
        (omega (arith, few)))
        (numbers_written rest level are.1 keys.1 (omega (arith, few))))

  -- a record
  record_written : (parts : Expressions) (size level : ℕ) (rest : Terms)
      → IsRecordOf types size (value.rec parts)
      → HaveTextKeys parts → level + (most_levels parts + 1) ≤ max_level + 1
      → Stand (value.rec parts) level rest
  record_written parts size level rest is keys few =
      let few_parts : IsRecordSize (count_of parts) =
      (omega (arith, is.0, is.1.0), omega (arith, is.0, is.1.1)) in
      let long = length-replicate (count_of parts) Expr in
      form_stands level Expr (replicate (count_of parts) Expr) (codes "rec") _ rest nowhere
      (omega (arith, long, few_parts.0))
      (ap (places_of Expr (codes "rec")) long ∙ record_form (count_of parts) few_parts)
      refl (omega (arith, few))
      (numbers_written parts (level + 1) is.2 keys (omega (arith, few)))

  pub expression_written : (e : Expression) (ty : ValueType) (level : ℕ) (rest : Terms)
      → HasType types e ty → HasTextKeys e → level + levels_of e ≤ max_level + 1
      → Stand e level rest
  expression_written e type.Number level rest is keys few = number_written e level rest is keys few
  expression_written (value.read name) (type.Rec size) level rest is keys few =
      name_stands Expr name (type.Rec size) level rest refl is (omega (arith, few))
  expression_written (value.rec parts) (type.Rec size) level rest is keys few =
      record_written parts size level rest is keys few
  expression_written _ (type.Rec size) level rest is keys few = absurd is
  expression_written (value.read name) type.Table level rest is keys few =
      name_stands Expr name type.Table level rest refl is (omega (arith, few))
  expression_written _ type.Table level rest is keys few = absurd is
