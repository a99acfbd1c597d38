-- Inside of a collection and on a stream of values there is no collection.
use Rattle.std.proofs.Common.{List, IfOk}
use Rattle.language_base.specs.declared.rule.Rule.TheVariants.{Name, Mismatch}
use Rattle.item_schema.specs.declared.column.Column.{Column}
use Rattle.predicates.specs.Fits.{fits}
use Rattle.value_ops.specs.declared.value.ValueType.TheVariants.{Number}
use Rattle.query_model.specs.QueryTypes as types
use Rattle.query_model.specs.QueryTypes.{derived_columns, type_of}
use Rattle.query_model.specs.Rules.{HasNoCollect}
use Rattle.query_syntax.specs.Keys.{names_of}
use Rattle.query_syntax.specs.Queries as q
use Rattle.query_syntax.specs.Queries.{Query}
use Rattle.query_resolver.specs.Expressions.{expression_over, is_number, is_typed, of_item, of_one}
use Rattle.query_resolver.specs.Expressions.{of_two}
use Rattle.query_resolver.specs.Names.{key_named}
use Rattle.query_resolver.specs.Rates.{rate_over}
use Rattle.query_resolver.specs.Resolved.{inside, resolved, same_type}
use Rattle.query_resolver.specs.Steps.{found, provided}
use Rattle.query_resolver.specs.Tests.{resolved_over}
use Rattle.query_resolver.proofs.After.{after, after_any}

-- no collection inside
pub none_inside : (columns : List Column) (tree : Query)
    → IfOk (resolved inside columns tree) HasNoCollect
unfolding resolved
none_inside columns (q.name name) = tt
none_inside columns (q.atom predicate value span) =
    after_any HasNoCollect (found Name span (resolved_over columns predicate)) _ (λ pred.
    after_any HasNoCollect (found Name span (expression_over (of_item columns) value))
    _ (λ expression.
    after_any HasNoCollect (provided Mismatch span (fits columns pred)) _ (λ tests.
    after_any HasNoCollect (provided Mismatch span (is_typed (types.of_columns columns) expression))
    _ (λ typed. tt))))
none_inside columns (q.eps number span) = tt
none_inside columns (q.or left right span) =
    after HasNoCollect (resolved inside columns left) _ (none_inside columns left) (λ f in_f.
    after HasNoCollect (resolved inside columns right) _ (none_inside columns right) (λ g in_g.
    after_any HasNoCollect
    (provided Mismatch span (same_type (type_of columns g) (type_of columns f))) _ (λ typed.
    (in_f, in_g))))
none_inside columns (q.split left right value span) =
    after HasNoCollect (resolved inside columns left) _ (none_inside columns left) (λ f in_f.
    after HasNoCollect (resolved inside columns right) _ (none_inside columns right) (λ g in_g.
    after_any HasNoCollect (found Name span (expression_over of_two value)) _ (λ expression.
    after_any HasNoCollect
    (provided Mismatch span
    (is_typed (types.of_two (type_of columns f) (type_of columns g)) expression)) _ (λ typed.
    (in_f, in_g)))))
none_inside columns (q.iter operand first step span) =
    after HasNoCollect (resolved inside columns operand) _ (none_inside columns operand) (λ f in_f.
    after_any HasNoCollect (found Name span (expression_over of_two step)) _ (λ expression.
    after_any HasNoCollect
    (provided Mismatch span (is_number (types.of_two Number (type_of columns f)) expression)) _
    (λ typed. in_f)))
none_inside columns (q.combine left right value span) =
    after HasNoCollect (resolved inside columns left) _ (none_inside columns left) (λ f in_f.
    after HasNoCollect (resolved inside columns right) _ (none_inside columns right) (λ g in_g.
    after_any HasNoCollect (found Name span (expression_over of_two value)) _ (λ expression.
    after_any HasNoCollect
    (provided Mismatch span
    (is_typed (types.of_two (type_of columns f) (type_of columns g)) expression)) _ (λ typed.
    (in_f, in_g)))))
none_inside columns (q.apply operand value span) =
    after HasNoCollect (resolved inside columns operand) _ (none_inside columns operand) (λ f in_f.
    after_any HasNoCollect (found Name span (expression_over of_one value)) _ (λ expression.
    after_any HasNoCollect
    (provided Mismatch span (is_typed (types.of_one (type_of columns f)) expression)) _
    (λ typed. in_f)))
none_inside columns (q.compose left right span) =
    after HasNoCollect (resolved inside columns left) _ (none_inside columns left) (λ f in_f.
    after HasNoCollect (resolved inside (derived_columns (type_of columns f)) right) _
    (none_inside (derived_columns (type_of columns f)) right) (λ g in_g. (in_f, in_g)))
none_inside columns (q.collect key sync rate operand span) =
    after_any HasNoCollect (resolved inside columns operand) _ (λ f.
    after_any HasNoCollect (found Name span (key_named columns (names_of key))) _ (λ chosen.
    after_any HasNoCollect (found Name span (resolved_over columns sync)) _ (λ pred.
    after_any HasNoCollect (found Name span (rate_over columns rate)) _ (λ words. tt))))
