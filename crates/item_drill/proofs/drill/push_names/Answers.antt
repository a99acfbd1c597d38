use Rattle.std.proofs.Common.{◌++◌, List, ℕ, ap, ◌∙◌}
use Rattle.item_drill.proofs.Rows.{after_row, row_of-names}
use Rattle.item_drill.proofs.drill.push_names.Goals as goal

pub names-preserved : goal.names-preserved
names-preserved c =
    let column = c.index-columns-place.result in
    after_row _ _ _ _ _ _ _ _ c.names.invariant c.in_ok-push_comma.ensures
    (c.in_ok-extend_from_slice.ensures.items
    ∙ ap (λ (l : List ℕ). c.push_comma.new.text.items ++ l) c.as_slice.ensures)
    (row_of-names c.args.columns.now c.names.place column c.names-test.true
    c.index-columns-place.is)
