-- Answers have at most nine digits, and none where no column has any.
use Rattle.std.proofs.Common.{◌≡◌, ◌≢◌, ◌≤◌, ℕ, nat_eq, Bool, true, false, List, []}
use Rattle.std.proofs.Common.{◌∷◌, map, refl, sym, arith, subst}
use Rattle.std.specs.Prelude.{if◌then◌else◌}
use Rattle.std.specs.List.{All, list_all}
use Rattle.std.proofs.lemmas.Bool.Decides.{nat_tests}
use Rattle.std.proofs.lemmas.List.Elements.{All-head, All-tail}
use Rattle.item_schema.specs.declared.column.Column.{Column}
use Rattle.item_schema.specs.declared.column.Kind.{Kind}
use Rattle.item_schema.specs.declared.column.Kind.TheVariants as kind
use Rattle.query_model.specs.Queries.{Qre}
use Rattle.answer_units.specs.ExpressionScales.{scale_at}
use Rattle.answer_units.specs.QueryScales.{query_scales}
use Rattle.answer_units.specs.Scales.{column_scale}
use Rattle.answer_units.specs.Units.{HasFewDigits, HasNoPoint, answer_units, are_same, common_units}
use Rattle.answer_units.specs.Units.{units_of}
use Rattle.answer_units.specs.declared.scale.Scale.{Scale}
use Rattle.answer_units.specs.declared.scale.Scale.TheVariants.{Any, Digits, Round, Unknown}
use Rattle.answer_units.specs.declared.units.Units.{Units}
use Rattle.answer_units.specs.declared.units.Units.TheVariants as units
use Rattle.answer_units.proofs.KeptDigits.{AllKeep, Keeps, at_kept, few_kept, query_kept}

-- what holds of the units of all scales, and of mixed ones, holds of common ones
common_so : (P : Units → Type 0) (scales : List Scale) → P units.Mixed
    → P (units_of (scale_at scales 0)) → P (common_units scales)
common_so P scales mixed first = go (list_all
    (λ scale. are_same (units_of (scale_at scales 0)) (units_of scale)) scales)
  where
    go : (test : Bool) → P (if test then units_of (scale_at scales 0) else units.Mixed)
    go true = first
    go false = mixed

-- at most nine
abbrev pub IsFew : ℕ → Type 0
IsFew digits = digits ≤ 9

units_few : (scale : Scale) → Keeps IsFew scale → HasFewDigits (units_of scale)
units_few Any kept = tt
units_few Round kept = tt
units_few (Digits digits) kept = go (nat_eq digits 0) refl
  where
    go : (test : Bool) → nat_eq digits 0 ≡ test
        → HasFewDigits (if test then units.Whole else units.Digits digits)
    go true is = tt
    go false is = (grind (arith, nat_tests, is), kept)
units_few Unknown kept = tt

columns_few : (columns : List Column)
    → AllKeep IsFew (map (λ column. column_scale column.kind) columns)
columns_few [] = tt
columns_few (column ∷ columns) = (of_kind column.kind, columns_few columns)
  where
    of_kind : (k : Kind) → Keeps IsFew (column_scale k)
    of_kind kind.Int = omega arith
    of_kind (kind.Fixed digits) = few_kept IsFew digits (λ few. few)
    of_kind kind.Text = tt
    of_kind kind.Number = tt
    of_kind kind.Table = tt

pub answers_few : (columns : List Column) (query : Qre)
    → HasFewDigits (answer_units columns query)
answers_few columns query =
    let scales = query_scales (map (λ column. column_scale column.kind) columns) query in
    let all = query_kept IsFew (omega arith) (λ a b one other few. few)
    (λ a b one other. omega (arith, one)) (map (λ column. column_scale column.kind) columns) query
    (columns_few columns) in
    common_so HasFewDigits scales tt (units_few (scale_at scales 0) (at_kept IsFew scales 0 all))

-- none
abbrev pub IsNone : ℕ → Type 0
IsNone digits = digits ≡ 0

abbrev pub HasNone : Units → Type 0
HasNone given = (digits : ℕ) → given ≢ units.Digits digits

units_none : (scale : Scale) → Keeps IsNone scale → HasNone (units_of scale)
units_none Any kept digits is = absurd (cc)
units_none Round kept digits is = absurd (cc)
units_none (Digits count) kept digits is =
    subst (λ (n : ℕ). units_of (Digits n) ≢ units.Digits digits) (sym kept)
    (λ (is : units.Whole ≡ units.Digits digits). absurd (cc)) is
units_none Unknown kept digits is = absurd (cc)

columns_none : (columns : List Column) → All (λ column. HasNoPoint column.kind) columns
    → AllKeep IsNone (map (λ column. column_scale column.kind) columns)
columns_none [] all = tt
columns_none (column ∷ columns) all = (
  of_kind column.kind (All-head (λ (c : Column). HasNoPoint c.kind) column columns all),
  columns_none columns (All-tail (λ (c : Column). HasNoPoint c.kind) column columns all),
)
  where
    of_kind : (k : Kind) → HasNoPoint k → Keeps IsNone (column_scale k)
    of_kind kind.Int none = refl
    of_kind (kind.Fixed digits) none = absurd none
    of_kind kind.Text none = tt
    of_kind kind.Number none = tt
    of_kind kind.Table none = tt

pub answers_none : (columns : List Column) (query : Qre)
    → All (λ column. HasNoPoint column.kind) columns → HasNone (answer_units columns query)
answers_none columns query whole =
    let scales = query_scales (map (λ column. column_scale column.kind) columns) query in
    let all = query_kept IsNone refl (λ a b one other few. omega (arith, one, other))
    (λ a b one other. omega (arith, one, other))
    (map (λ column. column_scale column.kind) columns) query (columns_none columns whole) in
    common_so HasNone scales (λ digits is. absurd (cc))
    (units_none (scale_at scales 0) (at_kept IsNone scales 0 all))
