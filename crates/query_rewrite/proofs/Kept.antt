-- What holds of a checked query holds of the query that it is rewritten as.
use Rattle.std.proofs.Common.{◌≡◌, ◌≤◌, ◌+◌, ℕ, arith, subst, sym}
use Rattle.language_base.specs.Limits.{max_cells}
use Rattle.predicate_cells.specs.Cells.{count_from}
use Rattle.item_schema.specs.Layout.{Layout}
use Rattle.query_model.specs.Bounds.{slots_of}
use Rattle.query_model.specs.Checked.{CheckedQuery, IsChecked}
use Rattle.query_model.specs.Queries.{Qre, plain_of}
use Rattle.query_model.specs.Rules.{free}
use Rattle.query_model.specs.declared.query.Query.{Query}
use Rattle.query_rewrite.specs.Levels.{HasFewLevels}
use Rattle.query_rewrite.specs.Meanings.{MeanTheSame}
use Rattle.query_rewrite.specs.Plainness.{IsPlain}
use Rattle.query_rewrite.specs.Rewriting.{Rewrites}
use Rattle.query_rewrite.specs.Steps.{rewritten}
use Rattle.query_rewrite.proofs.Alike.{IsAlike, width_same}
use Rattle.query_rewrite.proofs.EachAlike.{each_alike}
use Rattle.query_rewrite.proofs.MadePlain.{made_plain}
use Rattle.query_rewrite.proofs.OneByOne.{rewrites}

-- what the rewriting of a checked query gives
pub record IsRewriting (layout : Layout) (p q : Qre) : Type 0 where
  pub rules : Rewrites p q
  pub plain : IsPlain q
  pub values : MeanTheSame layout.columns p q
  pub slots : slots_of q ≤ slots_of p
  pub levels : HasFewLevels p → HasFewLevels q

slots_less : (x y v w : ℕ) → x ≤ y → v ≡ w → x + 1 + v ≤ y + 1 + w
slots_less x y v w less same = omega arith

module _ (on : CheckedQuery) (checked : IsChecked on) (made : Query)
    (is : plain_of made.shape ≡ rewritten (plain_of on.main.shape)) where
  alike : IsAlike free on.layout.columns (plain_of on.main.shape) (plain_of made.shape)
  alike = subst (IsAlike free on.layout.columns (plain_of on.main.shape)) (sym is)
      (each_alike (plain_of on.main.shape) (rewritten (plain_of on.main.shape))
      (rewrites (plain_of on.main.shape)) free on.layout.columns checked.clear)

  fewer_slots : slots_of (plain_of made.shape) ≤ slots_of (plain_of on.main.shape)
  fewer_slots = slots_less _ _ _ _ alike.inner
      (width_same on.layout.columns (plain_of on.main.shape) (plain_of made.shape) alike.type)

  pub still_checked : IsChecked (record { layout = on.layout; main = made })
  still_checked = record {
    read = checked.read;
    clear = alike.clear;
    small = record {
      nodes = omega (arith, alike.nodes, checked.small.nodes);
      positions = alike.few_positions checked.small.positions;
      slots = omega (arith, fewer_slots, checked.small.slots);
      cells = subst (λ tests. count_from 0 on.layout.columns tests ≤ max_cells) (sym alike.tests)
          checked.small.cells;
      derived = alike.few_cells checked.small.derived;
    };
  }

  pub is_rewriting : IsRewriting on.layout (plain_of on.main.shape) (plain_of made.shape)
  is_rewriting = record {
    rules = subst (Rewrites (plain_of on.main.shape)) (sym is) (rewrites (plain_of on.main.shape));
    plain = subst IsPlain (sym is) (made_plain (plain_of on.main.shape));
    values = alike.means;
    slots = fewer_slots;
    levels = alike.few_levels;
  }
