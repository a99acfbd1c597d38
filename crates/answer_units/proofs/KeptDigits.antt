-- What holds of the digits of all columns holds of those of the answers, if it holds of none, of
-- sums up to nine, and of differences.
use Rattle.std.proofs.Common.{◌≡◌, ◌≤◌, ◌+◌, ◌-◌, ◌&&◌, ℕ, ℤ, pos, zero, suc, nat_eq, nat_le, Bool}
use Rattle.std.proofs.Common.{true, false, List, [], ◌∷◌, refl, arith}
use Rattle.std.specs.Prelude.{if◌then◌else◌, int_rem, not}
use Rattle.std.specs.Ordering.{int_eq}
use Rattle.std.proofs.lemmas.Bool.Decides.{nat_tests}
use Rattle.expressions.specs.Expressions.{Expression, Expressions, literal, read, unary, binary}
use Rattle.expressions.specs.Expressions.{choice, sum, count, most, least, entry, rec, part, none}
use Rattle.expressions.specs.Expressions.{more}
use Rattle.expressions.specs.declared.expr.Var.{Var}
use Rattle.expressions.specs.declared.expr.Var.TheVariants as var
use Rattle.language_base.specs.declared.binary.BinaryOp.{BinaryOp}
use Rattle.language_base.specs.declared.binary.BinaryOp.TheVariants.{Add, Sub, Mul, Div, Rem, Min}
use Rattle.language_base.specs.declared.binary.BinaryOp.TheVariants.{Max}
use Rattle.query_model.specs.Queries.{Qre, atom, eps, split, iter, combine, apply, compose, collect}
use Rattle.query_model.specs.Queries as query
use Rattle.answer_units.specs.ExpressionScales.{Names, names_of, part_scales, scale_at, scale_named}
use Rattle.answer_units.specs.ExpressionScales.{scale_of, scales_named, scales_of}
use Rattle.answer_units.specs.QueryScales.{each_alike, fold_scale, query_scales, step_scale}
use Rattle.answer_units.specs.Scales.{alike, changed, few_digits, literal_scale, product_scale}
use Rattle.answer_units.specs.Scales.{quotient_scale, scale_by}
use Rattle.answer_units.specs.declared.scale.Scale.{Scale}
use Rattle.answer_units.specs.declared.scale.Scale.TheVariants.{Any, Digits, Round, Unknown}

-- of the digits of a scale, if it has any
abbrev pub Keeps : (ℕ → Type 0) → Scale → Type 0
Keeps K Any = Unit {0}
Keeps K Round = Unit {0}
Keeps K (Digits digits) = K digits
Keeps K Unknown = Unit {0}

abbrev pub AllKeep : (ℕ → Type 0) → List Scale → Type 0
AllKeep K [] = Unit {0}
AllKeep K (scale ∷ scales) = Keeps K scale × AllKeep K scales

-- a choice by a test
kept_if : (K : ℕ → Type 0) (digits : ℕ) (test : Bool) → (test ≡ true → K digits)
    → Keeps K (if test then Digits digits else Unknown)
kept_if K digits true holds = holds refl
kept_if K digits false holds = tt

pub few_kept : (K : ℕ → Type 0) (digits : ℕ) → (digits ≤ 9 → K digits)
    → Keeps K (few_digits digits)
few_kept K digits holds =
    kept_if K digits (nat_le digits 9) (λ is. holds (grind (arith, nat_tests, is)))

alike_kept : (K : ℕ → Type 0) (first second : Scale) → Keeps K first → Keeps K second
    → Keeps K (alike first second)
alike_kept K Any second one other = other
alike_kept K Round Any one other = tt
alike_kept K Round Round one other = tt
alike_kept K Round (Digits second) one other = other
alike_kept K Round Unknown one other = tt
alike_kept K (Digits first) Any one other = one
alike_kept K (Digits first) Round one other = one
alike_kept K (Digits first) (Digits second) one other =
    kept_if K first (nat_eq first second) (λ is. one)
alike_kept K (Digits first) Unknown one other = tt
alike_kept K Unknown second one other = tt

pub at_kept : (K : ℕ → Type 0) (scales : List Scale) (place : ℕ) → AllKeep K scales
    → Keeps K (scale_at scales place)
at_kept K [] place all = tt
at_kept K (scale ∷ scales) zero all = all.0
at_kept K (scale ∷ scales) (suc place) all = at_kept K scales place all.1

each_kept : (K : ℕ → Type 0) (first second : List Scale) → AllKeep K first → AllKeep K second
    → AllKeep K (each_alike first second)
each_kept K [] second all others = tt
each_kept K (scale ∷ first) [] all others = tt
each_kept K (scale ∷ first) (other ∷ second) all others =
    (alike_kept K scale other all.0 others.0, each_kept K first second all.1 others.1)

-- what names stand for
pub record NamesKeep (K : ℕ → Type 0) (names : Names) : Type 0 where
  pub columns : AllKeep K names.columns
  pub left : AllKeep K names.left
  pub right : AllKeep K names.right

named_kept : (K : ℕ → Type 0) (names : Names) (name : Var) → NamesKeep K names
    → AllKeep K (scales_named names name)
named_kept K names (var.Field column) kept = (at_kept K names.columns column kept.columns, tt)
named_kept K names var.Left kept = kept.left
named_kept K names var.Right kept = kept.right

module _ (K : ℕ → Type 0) (zero_is : K 0)
    (sums : (a b : ℕ) → K a → K b → a + b ≤ 9 → K (a + b))
    (differences : (a b : ℕ) → K a → K b → K (a - b)) where
  changed_kept : (digits : ℕ) → Keeps K (changed digits)
  changed_kept digits = kept_if K 0 (nat_eq digits 0) (λ is. zero_is)

  product_kept : (first second : Scale) → Keeps K first → Keeps K second
      → Keeps K (product_scale first second)
  product_kept Any second one other = other
  product_kept Round Any one other = tt
  product_kept Round Round one other = tt
  product_kept Round (Digits second) one other = changed_kept second
  product_kept Round Unknown one other = tt
  product_kept (Digits first) Any one other = one
  product_kept (Digits first) Round one other = changed_kept first
  product_kept (Digits first) (Digits second) one other =
      few_kept K (first + second) (sums first second one other)
  product_kept (Digits first) Unknown one other = tt
  product_kept Unknown second one other = tt

  quotient_kept : (first second : Scale) → Keeps K first → Keeps K second
      → Keeps K (quotient_scale first second)
  quotient_kept Any Any one other = tt
  quotient_kept Any Round one other = tt
  quotient_kept Any (Digits second) one other = changed_kept second
  quotient_kept Any Unknown one other = tt
  quotient_kept Round Any one other = tt
  quotient_kept Round Round one other = tt
  quotient_kept Round (Digits second) one other = changed_kept second
  quotient_kept Round Unknown one other = tt
  quotient_kept (Digits first) Any one other = one
  quotient_kept (Digits first) Round one other = changed_kept first
  quotient_kept (Digits first) (Digits second) one other =
      kept_if K (first - second) (nat_le second first) (λ is. differences first second one other)
  quotient_kept (Digits first) Unknown one other = tt
  quotient_kept Unknown second one other = tt

  by_kept : (op : BinaryOp) (first second : Scale) → Keeps K first → Keeps K second
      → Keeps K (scale_by op first second)
  by_kept Add first second one other = alike_kept K first second one other
  by_kept Sub first second one other = alike_kept K first second one other
  by_kept Mul first second one other = product_kept first second one other
  by_kept Div first second one other = quotient_kept first second one other
  by_kept Rem first second one other = alike_kept K first second one other
  by_kept Min first second one other = alike_kept K first second one other
  by_kept Max first second one other = alike_kept K first second one other

  module _ (names : Names) (kept : NamesKeep K names) where
    name_kept : (name : Var) (place : ℕ) → Keeps K (scale_at (scales_named names name) place)
    name_kept name place = at_kept K (scales_named names name) place (named_kept K names name kept)

    -- a constant has no digits of its own
    constant_kept : (test : Bool) → Keeps K (if test then Round else Any)
    constant_kept true = tt
    constant_kept false = tt

    literal_kept : (number : ℤ) → Keeps K (literal_scale number)
    literal_kept number =
        constant_kept (not (int_eq number (pos 0)) && int_eq (int_rem number (pos 10)) (pos 0))

    pub number_kept : (value : Expression) → Keeps K (scale_of names value)
    number_kept (literal number) = literal_kept number
    number_kept (read name) = name_kept name 0
    number_kept (unary op inner) = number_kept inner
    number_kept (binary op first second) =
        by_kept op (scale_of names first) (scale_of names second) (number_kept first)
        (number_kept second)
    number_kept (choice test first second met other) =
        alike_kept K (scale_of names met) (scale_of names other) (number_kept met)
        (number_kept other)
    number_kept (sum name) = name_kept name 0
    number_kept (count name) = zero_is
    number_kept (most name first) =
        alike_kept K (scale_named names name) (scale_of names first) (name_kept name 0)
        (number_kept first)
    number_kept (least name first) =
        alike_kept K (scale_named names name) (scale_of names first) (name_kept name 0)
        (number_kept first)
    number_kept (entry name key other) =
        alike_kept K (scale_named names name) (scale_of names other) (name_kept name 0)
        (number_kept other)
    number_kept (rec parts) = tt
    number_kept (part name place) = name_kept name (place - 1)

    parts_kept : (parts : Expressions) → AllKeep K (part_scales names parts)
    parts_kept none = tt
    parts_kept (more first rest) = (number_kept first, parts_kept rest)

    value_kept : (value : Expression) → AllKeep K (scales_of names value)
    value_kept (literal number) = (literal_kept number, tt)
    value_kept (read name) = named_kept K names name kept
    value_kept (unary op inner) = (number_kept (unary op inner), tt)
    value_kept (binary op first second) = (number_kept (binary op first second), tt)
    value_kept (choice test first second met other) =
        (number_kept (choice test first second met other), tt)
    value_kept (sum name) = (number_kept (sum name), tt)
    value_kept (count name) = (number_kept (count name), tt)
    value_kept (most name first) = (number_kept (most name first), tt)
    value_kept (least name first) = (number_kept (least name first), tt)
    value_kept (entry name key other) = (number_kept (entry name key other), tt)
    value_kept (rec parts) = parts_kept parts
    value_kept (part name place) = (number_kept (part name place), tt)

  of_names : (columns left right : List Scale) → AllKeep K columns → AllKeep K left
      → AllKeep K right → NamesKeep K (names_of columns left right)
  of_names columns left right all lefts rights =
      record { columns = all; left = lefts; right = rights }

  step_kept : (value : Expression) (piece : List Scale) (so_far : Scale) → AllKeep K piece
      → Keeps K so_far → Keeps K (step_scale value piece so_far)
  step_kept value piece so_far all kept =
      number_kept (names_of [] (so_far ∷ []) piece)
      (of_names [] (so_far ∷ []) piece tt (kept, tt) all) value

  fold_kept : (value : Expression) (piece : List Scale) → AllKeep K piece
      → Keeps K (fold_scale value piece)
  fold_kept value piece all =
      let once = step_kept value piece Any all tt in
      alike_kept K (step_scale value piece Any)
      (step_scale value piece (step_scale value piece Any)) once
      (step_kept value piece (step_scale value piece Any) all once)

  both_kept : (left right : List Scale) (value : Expression) → AllKeep K left → AllKeep K right
      → AllKeep K (scales_of (names_of [] left right) value)
  both_kept left right value lefts rights =
      value_kept (names_of [] left right) (of_names [] left right tt lefts rights) value

  pub query_kept : (columns : List Scale) (q : Qre) → AllKeep K columns
      → AllKeep K (query_scales columns q)
  query_kept columns (atom pred value) all =
      value_kept (names_of columns [] []) (of_names columns [] [] all tt tt) value
  query_kept columns (eps number) all = (tt, tt)
  query_kept columns (query.choice f g) all =
      each_kept K (query_scales columns f) (query_scales columns g) (query_kept columns f all)
      (query_kept columns g all)
  query_kept columns (split f g value) all =
      both_kept (query_scales columns f) (query_scales columns g) value (query_kept columns f all)
      (query_kept columns g all)
  query_kept columns (iter f number value) all =
      (fold_kept value (query_scales columns f) (query_kept columns f all), tt)
  query_kept columns (combine f g value) all =
      both_kept (query_scales columns f) (query_scales columns g) value (query_kept columns f all)
      (query_kept columns g all)
  query_kept columns (apply f value) all =
      both_kept (query_scales columns f) [] value (query_kept columns f all) tt
  query_kept columns (compose f g) all =
      query_kept (query_scales columns f) g (query_kept columns f all)
  query_kept columns (collect chosen sync rate f) all = query_kept columns f all
