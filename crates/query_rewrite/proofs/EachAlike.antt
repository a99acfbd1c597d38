-- A query that keeps the rules is alike to each query that it may be rewritten as.
use Rattle.std.proofs.Common.{List}
use Rattle.item_schema.specs.declared.column.Column.{Column}
use Rattle.query_model.specs.Queries.{Qre}
use Rattle.query_model.specs.QueryTypes.{derived_columns, type_of}
use Rattle.query_model.specs.Rules.{Standing, bound, IsClear}
use Rattle.query_rewrite.specs.Rewriting.{Rewrites, same, twice, merged, turned_choice}
use Rattle.query_rewrite.specs.Rewriting.{turned_compose, reduced_atom, reduced_split, reduced_iter}
use Rattle.query_rewrite.specs.Rewriting.{reduced_combine, reduced_apply, in_choice, in_split}
use Rattle.query_rewrite.specs.Rewriting.{in_iter, in_combine, in_apply, in_compose, in_collect}
use Rattle.query_rewrite.proofs.Alike.{IsAlike, alike_itself, alike_twice}
use Rattle.query_rewrite.proofs.ChoiceTurned.{choice_turned}
use Rattle.query_rewrite.proofs.Composed.{compose_alike}
use Rattle.query_rewrite.proofs.ComposeTurned.{compose_turned}
use Rattle.query_rewrite.proofs.Merged.{merged_alike}
use Rattle.query_rewrite.proofs.OneOperand.{apply_alike, collect_alike, iter_alike}
use Rattle.query_rewrite.proofs.ReducedNodes.{apply_reduced, atom_reduced, combine_reduced}
use Rattle.query_rewrite.proofs.ReducedNodes.{iter_reduced, split_reduced}
use Rattle.query_rewrite.proofs.TwoOperands.{choice_alike, combine_alike, split_alike}

pub each_alike : (p q : Qre) → Rewrites p q → (standing : Standing) (columns : List Column)
    → IsClear standing columns p → IsAlike standing columns p q
each_alike p q (same _) standing columns clear = alike_itself standing columns _ clear
each_alike p q (twice _ middle _ first second) standing columns clear =
    let one = each_alike _ middle first standing columns clear in
    alike_twice standing columns _ middle _ one
    (each_alike middle _ second standing columns one.clear)
each_alike p q (merged f e d can) standing columns clear =
    merged_alike standing columns f e d can clear
each_alike p q (turned_choice f g h) standing columns clear =
    choice_turned standing columns f g h clear
each_alike p q (turned_compose f g h can) standing columns clear =
    compose_turned standing columns f g h can clear
each_alike p q (reduced_atom pred e) standing columns clear =
    atom_reduced standing columns pred e clear
each_alike p q (reduced_split f g e) standing columns clear =
    split_reduced standing columns f g e clear
each_alike p q (reduced_iter f number e) standing columns clear =
    iter_reduced standing columns f number e clear
each_alike p q (reduced_combine f g e) standing columns clear =
    combine_reduced standing columns f g e clear
each_alike p q (reduced_apply f e) standing columns clear =
    apply_reduced standing columns f e clear
each_alike p q (in_choice f f' g g' first second) standing columns clear =
    choice_alike standing columns f f' g g' (each_alike f f' first bound columns clear.0)
    (each_alike g g' second bound columns clear.1) clear
each_alike p q (in_split f f' g g' e first second) standing columns clear =
    split_alike standing columns f f' g g' (each_alike f f' first bound columns clear.0)
    (each_alike g g' second bound columns clear.1) e clear
each_alike p q (in_iter f f' number e inner) standing columns clear =
    iter_alike standing columns f f' (each_alike f f' inner bound columns clear.0) number e clear
each_alike p q (in_combine f f' g g' e first second) standing columns clear =
    combine_alike standing columns f f' g g' (each_alike f f' first bound columns clear.0)
    (each_alike g g' second bound columns clear.1) e clear
each_alike p q (in_apply f f' e inner) standing columns clear =
    apply_alike standing columns f f' (each_alike f f' inner bound columns clear.0) e clear
each_alike p q (in_compose f f' g g' first second) standing columns clear =
    compose_alike standing columns f f' g g' clear
    (each_alike f f' first standing columns clear.0)
    (each_alike g g' second standing (derived_columns (type_of columns f)) clear.1)
each_alike p q (in_collect chosen sync rate f f' inner) standing columns clear =
    collect_alike standing columns f f' (each_alike f f' inner bound columns clear.0) chosen sync
    rate clear
