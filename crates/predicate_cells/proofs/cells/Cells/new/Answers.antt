use Rattle.std.proofs.Common.{arith}
use Rattle.predicate_cells.proofs.RanksOf.{count_of_read}
use Rattle.predicate_cells.proofs.cells.Cells.new.Goals as goal

pub returns-in_default-clause-too_many : goal.returns-in_default-clause-too_many
returns-in_default-clause-too_many c =
    let ranks = rw (c.columns.ensures.columns, c.as_slice.ensures) at c.in_ok-columns.ensures in
    let count = count_of_read _ _ _ _ c.deref.ensures.value ranks in
    λ is. omega (arith, c.in_default.ensures.many)

pub returns-clause-few : goal.returns-clause-few
returns-clause-few c =
    let ranks = rw (c.columns.ensures.columns, c.as_slice.ensures) at c.in_ok-columns.ensures in
    let count = count_of_read _ _ _ _ c.deref.ensures.value ranks in
    omega (arith, c.in-Some.ensures.few)

pub invariant_of-result : goal.invariant_of-result
invariant_of-result c =
    let ranks = rw (c.columns.ensures.columns, c.as_slice.ensures) at c.in_ok-columns.ensures in
    let count = count_of_read _ _ _ _ c.deref.ensures.value ranks in
    rw (c.in_ok-try_copy.ensures, c.in_ok-try_copy-2.ensures) (
      c.requires,
      omega (arith, c.in-Some.ensures.few),
      omega (arith, c.in-Some.ensures.few, count),
      ranks,
      rw (c.deref-2.ensures.value, c.as_slice-2.ensures) at c.in_ok-masks.ensures,
    )
