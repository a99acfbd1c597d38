use Rattle.std.proofs.Common.{◌≡◌, ℕ, List, ◌++◌, ap, ◌∙◌}
use Rattle.item_drill.specs.Draws.{drawn, state_after, next_state}
use Rattle.item_drill.specs.Fields.{field_text}
use Rattle.item_drill.proofs.Rows.{after_row, row_of-fields, state_after-more}
use Rattle.item_drill.proofs.drill.push_fields.Goals as goal

pub fields-preserved : goal.fields-preserved
fields-preserved c =
    let column = c.index-columns-place.result in
    let before = state_after c.fields.place c.args.draws.state in
    let after : c.draw.new.self.state ≡ next_state before =
    c.draw.ensures.state ∙ ap next_state c.fields.invariant.state
    in
    let draw : c.draw.result ≡ drawn (next_state before) = c.draw.ensures.drawn ∙ ap drawn after in
    let field : ℕ → List ℕ = λ draw. c.push_comma.new.text.items ++ field_text column.kind draw in
    let pushed : c.push_field.new.text.items ≡ field (drawn (next_state before)) =
    c.in_ok-push_field.ensures ∙ ap field draw
    in
    record {
      text = after_row _ _ _ _ _ _ _ _ c.fields.invariant.text c.in_ok-push_comma.ensures pushed
          (row_of-fields c.args.columns.now c.fields.place column c.args.draws.state
          c.fields-test.true c.index-columns-place.is);
      state = after ∙ state_after-more c.fields.place c.args.draws.state;
    }
