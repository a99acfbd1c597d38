use Rattle.std.proofs.Common.{◌≤◌, length}
use Rattle.rate_equal.specs.Letters.{IsGathered}
use Rattle.rate_equal.proofs.letters.letters_of_cells.Given as goal

abbrev pub invariant-cells : goal.invariant-cells
invariant-cells l = record {
  gathered : IsGathered l.first l.second l.cell l.known.keys l.letters.items;
  few : length l.letters.items ≤ l.cell;
}
