-- The shards and the mask of a collect that keeps the limits keep them too.
use Rattle.std.proofs.Common.{◌≡◌, ◌∙◌, ◌≤◌, ◌+◌, ◌||◌, ◌++◌, Bool, true, false, List, []}
use Rattle.std.proofs.Common.{append-nil, refl, sym, ap, arith}
use Rattle.std.specs.List.{list_any}
use Rattle.std.proofs.lemmas.List.Folds.{list_any-append}
use Rattle.item_schema.specs.declared.column.Column.{Column}
use Rattle.predicates.specs.Predicates.{Predicate, any}
use Rattle.rate_expr.specs.Rates.{preds_of, size_of}
use Rattle.query_model.specs.Bounds.{inner_of, slots_of, width_of}
use Rattle.query_model.specs.Rules.{IsClear, Standing}
use Rattle.query_model.specs.Sizes.{IsSmall, max_slots, predicates_of}
use Rattle.query_model.proofs.Widths.{width_is, width_of_type}
use Rattle.key_shards.specs.Collections.{Collection, mask_of, shard_of, whole_of}
use Rattle.key_shards.proofs.FewerCells.{AreAmong, fewer_cells, product_less}

or_first : (a b : Bool) → a ≡ true → (a || b) ≡ true
or_first a b is = ap (λ x. x || b) is

or_second : (a b : Bool) → b ≡ true → (a || b) ≡ true
or_second true b is = refl
or_second false b is = is

module _ (given : Collection) where
  -- the predicates of a shard and of the mask are among those of the collect
  shard_among : AreAmong (predicates_of (shard_of given)) (predicates_of (whole_of given))
  shard_among = record {
    found = λ test none there. by test none (test given.sync) there;
  }
    where
      by : (test : Predicate → Bool) → test any ≡ false → (b : Bool)
          → (b || (test any || list_any test (predicates_of given.body))) ≡ true
          → (b || list_any test (preds_of given.rate ++ predicates_of given.body)) ≡ true
      by test none true there = refl
      by test none false there =
          list_any-append test (preds_of given.rate) (predicates_of given.body)
          ∙ or_second (list_any test (preds_of given.rate))
          (list_any test (predicates_of given.body))
          (sym (ap (λ (b : Bool). b || list_any test (predicates_of given.body)) none) ∙ there)

  mask_among : AreAmong (predicates_of (mask_of given)) (predicates_of (whole_of given))
  mask_among = record {
    found = λ test none there.
        or_second (test given.sync)
        (list_any test (preds_of given.rate ++ predicates_of given.body))
        (list_any-append test (preds_of given.rate) (predicates_of given.body)
        ∙ or_first (list_any test (preds_of given.rate))
        (list_any test (predicates_of given.body))
        (sym (ap (list_any test) (append-nil (preds_of given.rate)))
        ∙ sym (ap (λ (b : Bool). b || list_any test (preds_of given.rate ++ [])) none) ∙ there));
  }

  -- a rate with positions takes no fewer slots than one of all words
  pub shard_slots : 1 ≤ size_of given.rate → slots_of (shard_of given) ≤ slots_of (whole_of given)
  shard_slots some =
      let size = size_of given.rate in
      let each = inner_of given.body + 1 + width_of given.body in
      let less = product_less 2 (size + 1) (2 + each) (1 + size + each) (omega (arith, some))
      (omega (arith, some)) in
      omega (arith, less)

module _ (standing : Standing) (columns : List Column) (given : Collection)
    (clear : IsClear standing columns (whole_of given)) where
  -- nor does a body take fewer than a number
  mask_slots : slots_of (mask_of given) ≤ slots_of (whole_of given)
  mask_slots =
      let size = size_of given.rate in
      let width : width_of given.body ≡ 1 =
      sym (width_is columns given.body) ∙ ap width_of_type clear.1 in
      let less = product_less (size + 1) (size + 1) (1 + size + 2)
      (1 + size + (inner_of given.body + 1 + width_of given.body)) (omega arith)
      (omega (arith, width)) in
      omega (arith, less)

  pub shard_small : IsSmall columns (whole_of given) → slots_of (shard_of given) ≤ max_slots
      → IsSmall columns (shard_of given)
  shard_small small few =
      let less = fewer_cells (predicates_of (shard_of given)) (predicates_of (whole_of given))
      (shard_among given) 0 columns in
      let cells = small.cells in record {
        nodes = small.nodes;
        positions = (small.positions.0, omega arith);
        slots = few;
        cells = omega (arith, less, cells);
        derived = small.derived;
      }

  pub mask_small : IsSmall columns (whole_of given) → IsSmall columns (mask_of given)
  mask_small small =
      let less = fewer_cells (predicates_of (mask_of given)) (predicates_of (whole_of given))
      (mask_among given) 0 columns in
      let cells = small.cells in
      let slots = small.slots in record {
        nodes = omega arith;
        positions = (tt, small.positions.1);
        slots = omega (arith, mask_slots, slots);
        cells = omega (arith, less, cells);
        derived = tt;
      }
