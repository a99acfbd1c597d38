-- The expressions that a record is made of: what they are as plain ones, their types and
-- what they give.
use Rattle.std.proofs.Common.{◌≡◌, ◌<◌, ◌≤◌, ◌+◌, ◌↔◌, ℕ, List, [], ◌∷◌, ◌++◌, length, get_or, set}
use Rattle.std.proofs.Common.{take, drop, map, Option, None, Some, refl, ◌∙◌, ap, sym, subst, arith}
use Rattle.std.proofs.Common.{append_assoc}
use mathlib.Core.Former.{Count}
use Rattle.std.specs.Option.{option_map}
use Rattle.std.proofs.lemmas.List.{drop_more, length-set, take_all, take_more_set}
use Rattle.expressions.specs.declared.expr.Expr.{Expr, Rec, Rec', Row_of-Expr, end_of-Expr}
use Rattle.expressions.specs.declared.expr.Expr.{more_of-Expr, items-the_row-Expr}
use Rattle.expressions.specs.declared.expr.Expr.{items_hidden-the_row-Expr-0}
use Rattle.value_ops.specs.declared.scalar.Scalar.{Scalar}
use Rattle.value_ops.specs.declared.value.ValueType.{ValueType}
use Rattle.value_ops.specs.declared.value.ValueType.TheVariants as type
use Rattle.expressions.specs.Evaluation.{Inputs, of_both, scalar_of, scalars_of}
use Rattle.expressions.specs.Expressions.{Expression, Expressions, rec, more, all_of, count_of}
use Rattle.expressions.specs.Expressions.{plain_of, plain_parts, row_parts}
use Rattle.few_parts.specs.Sizes.{IsRecordSize}
use Rattle.expressions.specs.Typing.{AreNumbers, HasType, IsNumber, Types, types_of}

-- the row of a record's parts
abbrev row_of : Expr → (n : Count) × Row_of-Expr n
row_of (Rec' _ row) = (_, row)
row_of _ = (_, end_of-Expr)

-- a row has the parts of its list
row_has : (n : _) (row : Row_of-Expr n) → row_parts row ≡ plain_parts (items-the_row-Expr n row)
row_has n end_of-Expr = refl
row_has n (more_of-Expr first rest) = ap (more (plain_of first)) (row_has _ rest)

-- so a record is made of the plain ones of its list
pub rec_of : (parts : List Expr) → plain_of (Rec parts) ≡ rec (plain_parts parts)
rec_of parts =
    let row = row_of (Rec parts) in
    let same = row_has row.0 row.1 ∙ ap plain_parts (items_hidden-the_row-Expr-0 parts) in
    ap rec same

-- there are as many
count_of-plain_parts : (parts : List Expr) → count_of (plain_parts parts) ≡ length parts
count_of-plain_parts [] = refl
count_of-plain_parts (first ∷ rest) = omega (arith, count_of-plain_parts rest)

-- the first of those that are left
split_at : (parts : List Expr) (i : ℕ) (part : Expr) → i < length parts → part ≡ get_or parts i part
    → drop i parts ≡ part ∷ drop (i + 1) parts
split_at parts i part within is =
    drop_more parts i part within ∙ ap (λ (first : Expr). first ∷ drop (i + 1) parts) (sym is)

-- an expression that is a record, whatever shows its parts
pub plain_record : (expr : Expr) (parts shown : List Expr) → expr ≡ Rec parts → shown ≡ parts
    → plain_of expr ≡ rec (plain_parts shown)
plain_record expr parts shown is same =
    ap plain_of is ∙ rec_of parts ∙ ap (λ (es : List Expr). rec (plain_parts es)) (sym same)

-- copies of all parts make an equal record
pub copied_all : (parts copies made : List Expr) (i : ℕ) → length parts ≤ i → made ≡ copies
    → map plain_of copies ≡ map plain_of (take i parts)
    → plain_of (Rec made) ≡ rec (plain_parts parts)
copied_all parts copies made i end is so_far =
    rec_of made
    ∙ ap (λ (es : List Expr). rec (plain_parts es)) is
    ∙ ap (λ (es : List Expression). rec (all_of es))
    (so_far ∙ ap (map plain_of) (take_all i parts end))

module _ (types : Types) where
  -- numbers make a record of as many
  pub record_typed : (parts : List Expr) → IsRecordSize (length parts)
      → AreNumbers types (plain_parts parts)
      → HasType types (rec (plain_parts parts)) (type.Rec (length parts))
  record_typed parts size numbers = (count_of-plain_parts parts, size, numbers)

  -- and the parts of a record are numbers
  pub numbers_from : (parts : Expressions) (type : ValueType) → HasType types (rec parts) type
      → AreNumbers types parts
  numbers_from parts type.Number typed = absurd typed
  numbers_from parts (type.Rec size) typed = typed.2
  numbers_from parts type.Table typed = absurd typed

  first_typed : (parts : List Expr) (i : ℕ) (part : Expr) → i < length parts
      → part ≡ get_or parts i part → AreNumbers types (plain_parts (drop i parts))
      → IsNumber types (plain_of part) × AreNumbers types (plain_parts (drop (i + 1) parts))
  first_typed parts i part within is typed =
      subst (λ (left : List Expr). AreNumbers types (plain_parts left))
      (split_at parts i part within is) typed

  -- those that are left are numbers exactly where all are
  abbrev pub AreNumbersFrom : List Expr → ℕ → Type 0
  AreNumbersFrom parts i =
      AreNumbers types (plain_parts (drop i parts)) ↔ AreNumbers types (plain_parts parts)

-- a scalar after those in front is one before those that are left
pushed : (front : List Scalar) (scalar : Scalar) (rest : Option (List Scalar))
    → option_map (λ left. (front ++ scalar ∷ []) ++ left) rest
    ≡ option_map (λ left. front ++ left) (of_both (λ first left. first ∷ left) (Some scalar) rest)
pushed front scalar None = refl
pushed front scalar (Some left) = ap Some (append_assoc front (scalar ∷ []) left)

-- nothing in front changes nothing
nothing_pushed : (all : Option (List Scalar)) → option_map (λ left. [] ++ left) all ≡ all
nothing_pushed None = refl
nothing_pushed (Some left) = refl

module _ (inputs : Inputs) where
  -- the scalars before a place are found, and those that are left make them all
  pub record AreFound (parts : List Expr) (scalars : List Scalar) (i : ℕ) : Type 0 where
    pub within : i ≤ length parts
    pub room : length scalars ≡ 8
    pub typed : AreNumbers (types_of inputs) (plain_parts (drop i parts))
    pub found : option_map (λ left. take i scalars ++ left)
        (scalars_of inputs (plain_parts (drop i parts))) ≡ scalars_of inputs (plain_parts parts)

  pub none_found : (parts : List Expr) (scalars : List Scalar) → length scalars ≡ 8
      → AreNumbers (types_of inputs) (plain_parts parts) → AreFound parts scalars 0
  none_found parts scalars room typed = record {
    within = omega arith;
    room = room;
    typed = typed;
    found = nothing_pushed (scalars_of inputs (plain_parts parts));
  }

  pub more_found : (parts : List Expr) (scalars : List Scalar) (i : ℕ) (part : Expr)
      (scalar : Scalar) → i < length parts → length parts ≤ 8 → part ≡ get_or parts i part
      → scalar_of inputs (plain_of part) ≡ Some scalar → AreFound parts scalars i
      → AreFound parts (set scalars i scalar) (i + 1)
  more_found parts scalars i part scalar within few is value so_far =
      let left : List Expr = drop (i + 1) parts in
      let eight = so_far.room in
      let room : i < length scalars = omega arith in record {
        within = omega arith;
        room = length-set scalars i scalar ∙ so_far.room;
        typed = (first_typed (types_of inputs) parts i part within is so_far.typed).1;
        found =
            ap (λ (front : List Scalar). option_map (λ rest. front ++ rest)
            (scalars_of inputs (plain_parts left)))
            (take_more_set scalars i scalar room)
            ∙ pushed (take i scalars) scalar (scalars_of inputs (plain_parts left))
            ∙ ap (λ (first : Option Scalar). option_map (λ rest. take i scalars ++ rest)
            (of_both (λ x rest. x ∷ rest) first (scalars_of inputs (plain_parts left)))) (sym value)
            ∙ ap (λ (all : List Expr). option_map (λ rest. take i scalars ++ rest)
            (scalars_of inputs (plain_parts all)))
            (sym (split_at parts i part within is))
            ∙ so_far.found;
      }
