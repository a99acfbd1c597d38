-- Whether some item meets each predicate of a rate, from its parts.
use Rattle.std.proofs.Common.{List, [], ◌∷◌, ◌++◌, Option, Some, None, refl, arith}
use Rattle.std.specs.List.{AllByRecursion}
use Rattle.std.specs.Option.{option_or}
use Rattle.std.proofs.lemmas.List.Elements.{Contains-append_left, Contains-append_right}
use Rattle.item_schema.specs.declared.column.Column.{Column}
use Rattle.language_base.specs.declared.rule.Rule.{Rule}
use Rattle.language_base.specs.declared.rule.Rule.TheVariants.{Empty}
use Rattle.predicate_cells.specs.Met.{IsMet}
use Rattle.predicates.specs.Predicates.{Predicate}
use Rattle.query_model.specs.Queries.{atom}
use Rattle.query_model.specs.Rules.{free}
use Rattle.expressions.specs.Expressions.{Expression}
use Rattle.type_checker.specs.WordRules.{BreaksAt, BreaksMet}

-- one predicate
pub one_met : (columns : List Column) (pred : Predicate) (value : Expression) (broken : Option Rule)
    → BreaksAt columns free (atom pred value) broken → BreaksMet columns (pred ∷ []) broken
one_met columns pred value (Some Empty) unmet = (pred, (0, omega arith, refl), unmet)
one_met columns pred value (Some _) breaks = absurd breaks
one_met columns pred value None met = (met, tt)

all_joined : {A : Type 0} (P : A → Type 0) (xs ys : List A) → AllByRecursion P xs
    → AllByRecursion P ys → AllByRecursion P (xs ++ ys)
all_joined P [] ys all also = also
all_joined P (x ∷ xs) ys (here, all) also = (here, all_joined P xs ys all also)

-- those of two parts
pub both_met : (columns : List Column) (xs ys : List Predicate) (one other : Option Rule)
    → BreaksMet columns xs one → BreaksMet columns ys other
    → BreaksMet columns (xs ++ ys) (option_or one other)
both_met columns xs ys (Some Empty) other (pred, contains, unmet) later =
    (pred, Contains-append_left xs ys pred contains, unmet)
both_met columns xs ys (Some _) other breaks later = absurd breaks
both_met columns xs ys None (Some Empty) met (pred, contains, unmet) =
    (pred, Contains-append_right xs ys pred contains, unmet)
both_met columns xs ys None (Some _) met breaks = absurd breaks
both_met columns xs ys None None met also = all_joined (IsMet columns) xs ys met also
