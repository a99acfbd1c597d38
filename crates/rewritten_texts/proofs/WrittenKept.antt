-- What can be written can be written where it is rewritten.
use Rattle.std.proofs.Common.{◌≡◌, ◌≤◌, ◌+◌, ℕ, arith, subst, sym}
use Rattle.language_base.specs.Limits.{max_cells}
use Rattle.item_schema.specs.Layout.{Layout}
use Rattle.predicate_cells.specs.Cells.{count_from}
use Rattle.query_model.specs.Bounds.{inner_of, width_of}
use Rattle.query_model.specs.Queries.{Qre}
use Rattle.query_model.specs.Rules.{free}
use Rattle.query_model.specs.Sizes.{IsSmall}
use Rattle.query_rewrite.specs.Rewriting.{Rewrites}
use Rattle.query_rewrite.proofs.Alike.{IsAlike, width_same}
use Rattle.query_rewrite.proofs.EachAlike.{each_alike}
use Rattle.text_reads_back.specs.Reach.{ReachesFew}
use Rattle.text_reads_back.specs.Written.{CanBeWritten}
use Rattle.rewritten_texts.proofs.MemoryKept.{memory_kept}
use Rattle.rewritten_texts.proofs.ReachKept.{reach_kept}

-- what is kept for it
few_slots : (most inner other width wide : ℕ) → other ≤ inner → wide ≡ width
    → inner + 1 + width ≤ most → other + 1 + wide ≤ most
few_slots most inner other width wide less same few = omega arith

module _ (layout : Layout) (query other : Qre) (can : CanBeWritten layout query)
    (rewrites : Rewrites query other) where
  alike : IsAlike free layout.columns query other
  alike = each_alike query other rewrites free layout.columns can.clear

  small : IsSmall layout.columns other
  small = record {
    nodes = omega (arith, alike.nodes, can.small.nodes);
    positions = alike.few_positions can.small.positions;
    slots = few_slots _ (inner_of query) (inner_of other) (width_of query) (width_of other)
        alike.inner (width_same layout.columns query other alike.type) can.small.slots;
    cells = subst (λ tests. count_from 0 layout.columns tests ≤ max_cells) (sym alike.tests)
        can.small.cells;
    derived = alike.few_cells can.small.derived;
  }

  pub written_kept : CanBeWritten layout other
  written_kept = record {
    columns = can.columns;
    read = can.read;
    clear = alike.clear;
    small = small;
    words = can.words;
    levels = alike.few_levels can.levels;
    kept = memory_kept query other rewrites can.kept;
  }

  pub few_kept : ReachesFew free layout.columns query → ReachesFew free layout.columns other
  few_kept few = reach_kept query other rewrites free layout.columns can.clear few
