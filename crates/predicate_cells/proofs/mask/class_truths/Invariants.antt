use Rattle.std.proofs.Common.{◌≡◌, Some, map}
use Rattle.std.specs.List.{range_with_len}
use Rattle.predicates.specs.Plain.{plain_of}
use Rattle.predicate_cells.specs.Ranks.{field_in}
use Rattle.predicate_cells.specs.Samples.{row_of}
use Rattle.predicates.specs.Truth.{holds}
use Rattle.predicate_cells.proofs.mask.class_truths.Given as goal

-- the truths of the classes so far stand there
abbrev pub invariant-loop-class : goal.invariant-loop-class
invariant-loop-class l =
    l.truths.items
    ≡ map (λ class. holds (plain_of l.pred) (row_of l.column (Some (field_in l.classes class))))
    (range_with_len 0 l.class)
