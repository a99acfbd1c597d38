use Rattle.std.proofs.Common.{◌≡◌, length}
use Rattle.std.specs.Prelude.{IsTrue}
use Rattle.std.specs.List.{list_all}
use Rattle.item_lines.specs.Lines.{is_shown}
use Rattle.separating_word.proofs.line.lines_of.Given as goal

-- the cells so far have lines, which are shown
abbrev pub invariant-cells : goal.invariant-cells
invariant-cells l = record {
  count : length l.lines.items ≡ l.cell-index;
  shown : IsTrue (list_all is_shown l.lines.items);
}
