use Rattle.std.proofs.Common.{◌++◌, ◌∷◌, [], Some, ap₂, sym, ◌∙◌, arith}
use Rattle.std.proofs.lemmas.List.FromFn.{map-range_with_len_more}
use Rattle.predicates.specs.Plain.{plain_of}
use Rattle.predicate_cells.specs.Ranks.{field_in}
use Rattle.predicate_cells.specs.Samples.{row_of}
use Rattle.predicates.specs.Truth.{holds}
use Rattle.predicate_cells.proofs.mask.class_truths.Goals as goal

pub loop-class-preserved : goal.loop-class-preserved
loop-class-preserved c =
    c.in_ok-push.ensures.items
    ∙ ap₂ (λ truths truth. truths ++ truth ∷ []) c.loop-class.invariant c.holds_in.ensures
    ∙ sym (map-range_with_len_more (λ class. holds (plain_of c.args.pred.now)
    (row_of c.args.column (Some (field_in c.args.classes.now class)))) 0 c.loop-class.class
    c.loop-class.class (omega arith))
