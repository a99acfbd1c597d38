use Rattle.std.proofs.Common.{◌≡◌, ◌++◌, take}
use Rattle.item_drill.specs.Draws.{state_after}
use Rattle.item_drill.specs.Lines.{texts_from, row_of}
use Rattle.item_drill.proofs.drill.push_fields.Given as goal

-- the fields so far, and the state after their draws
abbrev pub invariant-fields : goal.invariant-fields
invariant-fields l = record {
  text : l.text.items
      ≡ l.initial.text.items ++ row_of (texts_from (take l.place l.columns) l.initial.draws.state);
  state : l.draws.state ≡ state_after l.place l.initial.draws.state;
}
