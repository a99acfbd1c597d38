-- A checked query that is a collect: the queries that are made of it.
use Rattle.std.proofs.Common.{◌≡◌, ◌∙◌, ◌≤◌, ◌<◌, ℕ, zero, suc, List, Some, refl, sym, ap, subst}
use Rattle.std.proofs.Common.{arith}
use Rattle.value_ops.specs.declared.value.Value.TheVariants.{Table}
use Rattle.predicates.specs.Plain as predicates
use Rattle.predicates.specs.declared.pred.Pred.{Pred}
use Rattle.rate_expr.specs.Plain as rates
use Rattle.rate_expr.specs.Rates.{size_of}
use Rattle.rate_expr.specs.declared.rate.Rate.{Rate}
use Rattle.query_model.specs.Bounds.{slots_of}
use Rattle.query_model.specs.Checked.{CheckedQuery, IsChecked}
use Rattle.query_model.specs.Denotation.{Den}
use Rattle.query_model.specs.Queries.{plain_of}
use Rattle.query_model.specs.Rules.{free, IsClear}
use Rattle.query_model.specs.Sizes.{IsSmall, max_slots}
use Rattle.query_model.specs.declared.query.Query.{Query}
use Rattle.key_shards.specs.Collections.{Collection, collection_in, mask_of, shard_of, whole_of}
use Rattle.key_shards.specs.Parted.{AreDefinedAlike, HasItsEntries, IsTooLarge}
use Rattle.key_shards.specs.Shares.{entries_of, share}
use Rattle.key_shards.proofs.Collected.{shard_entries}
use Rattle.key_shards.proofs.Limits.{mask_small, shard_slots, shard_small}
use Rattle.key_shards.proofs.Ruled.{defined_alike, mask_clear, shard_clear}

-- the collect of these parts in memory
abbrev pub made_of : List ℕ → Pred → Rate → Query → Collection
made_of chosen sync rate body = record {
  chosen = chosen;
  sync = predicates.plain_of sync;
  rate = rates.plain_of rate;
  body = plain_of body.shape;
}

-- its body, where that is another's
pub with_body : (chosen : List ℕ) (sync : Pred) (rate : Rate) (one other : Query) → one ≡ other
    → whole_of (made_of chosen sync rate one) ≡ whole_of (made_of chosen sync rate other)
with_body chosen sync rate one other same = ap (λ q. whole_of (made_of chosen sync rate q)) same

some_inside : {A : Type 0} (x y : A) → Some x ≡ Some y → x ≡ y
some_inside x y same = cc

module _ (on : CheckedQuery) (checked : IsChecked on) (given : Collection)
    (is : plain_of on.main.shape ≡ whole_of given) where
  clear_whole : IsClear free on.layout.columns (whole_of given)
  clear_whole = subst (IsClear free on.layout.columns) is checked.clear

  small_whole : IsSmall on.layout.columns (whole_of given)
  small_whole = subst (IsSmall on.layout.columns) is checked.small

  -- a rate with positions leaves room for a shard
  no_positions : (size : ℕ) → size_of given.rate ≡ size → max_slots < slots_of (shard_of given)
      → size ≡ 0
  no_positions zero none many = refl
  no_positions (suc size) some many =
      let room = small_whole.slots in
      let less = shard_slots given (omega (arith, some)) in
      let never : ⊥ = omega (arith, room, less, many) in absurd never

  pub too_large : max_slots < slots_of (shard_of given) → IsTooLarge (plain_of on.main.shape)
  too_large many =
      (given, ap collection_in is, no_positions (size_of given.rate) refl many, many)

  module _ (made : Query) where
    pub shard_checked : plain_of made.shape ≡ shard_of given
        → slots_of (plain_of made.shape) ≤ max_slots
        → IsChecked (record { layout = on.layout; main = made })
    shard_checked made_is few = record {
      read = checked.read;
      clear = subst (IsClear free on.layout.columns) (sym made_is)
          (shard_clear free on.layout.columns given clear_whole);
      small = subst (IsSmall on.layout.columns) (sym made_is)
          (shard_small free on.layout.columns given clear_whole small_whole
          (subst (λ q. slots_of q ≤ max_slots) made_is few));
    }

    pub shard_has : plain_of made.shape ≡ shard_of given
        → HasItsEntries (plain_of on.main.shape) (plain_of made.shape)
    shard_has made_is other theirs word entries whole den =
        let same : given ≡ other = some_inside given other (ap collection_in (sym is ∙ whole)) in
        subst (λ c. Den (plain_of made.shape) (share c theirs word)
        (Table (entries_of theirs entries))) same
        (subst (λ q. Den q (share given theirs word) (Table (entries_of theirs entries)))
        (sym made_is)
        (shard_entries given theirs word entries
        (subst (λ q. Den q word (Table entries)) is den)))

    pub mask_checked : plain_of made.shape ≡ mask_of given
        → IsChecked (record { layout = on.layout; main = made })
    mask_checked made_is = record {
      read = checked.read;
      clear = subst (IsClear free on.layout.columns) (sym made_is)
          (mask_clear free on.layout.columns given clear_whole);
      small = subst (IsSmall on.layout.columns) (sym made_is)
          (mask_small free on.layout.columns given clear_whole small_whole);
    }

    pub mask_defined : plain_of made.shape ≡ mask_of given
        → AreDefinedAlike on.layout.columns (plain_of on.main.shape) (plain_of made.shape)
    mask_defined made_is =
        subst (AreDefinedAlike on.layout.columns (plain_of on.main.shape)) (sym made_is)
        (subst (λ q. AreDefinedAlike on.layout.columns q (mask_of given)) (sym is)
        (defined_alike free on.layout.columns given clear_whole))
