use Rattle.std.proofs.Common.{int_cmp, nat_cmp, ◌∙◌, ap, rules}
use Rattle.std.specs.Cmp.Lexicographic.{slice_cmp}
use Rattle.std.proofs.lemmas.Cmp.{int_cmp_total, nat_list_cmp_total}
use Rattle.predicate_cells.specs.Ranks.{other_text}
use Rattle.predicate_cells.proofs.RisingLists.{rises, rises_none}
use Rattle.predicate_cells.proofs.classes.Classes.new.Goals as goal

pub invariant_of-result : goal.invariant_of-result
invariant_of-result c = (
  rw c.in_ok-starts_of-in-Int.ensures (rises int_cmp int_cmp_total _),
  rw c.new.ensures.items (rises_none (slice_cmp nat_cmp) nat_list_cmp_total),
  search rules,
)

pub invariant_of-result-in-Text : goal.invariant_of-result-in-Text
invariant_of-result-in-Text c = (
  rw c.new-in-Text.ensures.items (rises_none int_cmp int_cmp_total),
  rw c.in_ok-texts-in-Text.ensures (rises (slice_cmp nat_cmp) nat_list_cmp_total _),
  rw c.in-Text.is (c.in_ok-other-in-Text.ensures ∙ ap other_text c.deref.ensures.value),
)

pub invariant_of-result-in-Table : goal.invariant_of-result-in-Table
invariant_of-result-in-Table c = (
  rw c.new-in-Table.ensures.items (rises_none int_cmp int_cmp_total),
  rw c.new-in-Table-2.ensures.items (rises_none (slice_cmp nat_cmp) nat_list_cmp_total),
  rw c.in-Table.is (c.from_vec-in-Table.ensures ∙ c.new-in-Table-3.ensures.items),
)
