use Rattle.std.proofs.Common.{ap, sym, ◌∙◌, rules}
use Rattle.std.specs.Prelude.{int_le}
use Rattle.std.proofs.lemmas.List.Sorted.{IsPartitionPoint-from_clause}
use Rattle.predicate_cells.specs.Ranks.{number_rank}
use Rattle.predicate_cells.proofs.Searches.{at_most_first, number_searched}
use Rattle.predicate_cells.proofs.classes.Classes.number_class.Goals as goal

pub returns : goal.returns
returns c =
    let starts = c.deref.result.now in
    let n = c.args.number in
    let first = at_most_first starts n (rw c.deref.ensures.value c.self.invariant.0) in
    let point = IsPartitionPoint-from_clause (λ start. int_le start n) starts _
    c.partition_point.ensures.partitioned first (λ a r q k. search rules) in
    sym (number_searched starts n _ c.partition_point.ensures.bound point)
    ∙ ap (λ xs. number_rank xs n) (c.deref.ensures.value ∙ ap (λ r. r.starts) c.self.view_is)
