-- The table of a collect is the merge of those of its shards.
use Rattle.std.proofs.Common.{◌<◌, ◌↔◌, ℕ, [], refl, sym, subst}
use Rattle.std.specs.Prelude.{filter}
use Rattle.value_ops.specs.declared.value.Value.TheVariants as value
use Rattle.rate_expr.specs.Words.{Word}
use Rattle.query_model.specs.Denotation.{AreEntries, Den, keys_after}
use Rattle.query_model.proofs.Typed.{on_keys}
use Rattle.key_shards.specs.Collections.{Collection, mask_of, shard_of, whole_of}
use Rattle.key_shards.specs.Merging.{AreMerged, AreTables, IsMerge, first_stand}
use Rattle.key_shards.specs.Shares.{Division, Entries, entries_of, is_home, share}
use Rattle.key_shards.proofs.Collected.{collected, from_share, masked, on_all_words, shard_entries}
use Rattle.key_shards.proofs.FirstStands.{keys_stand}
use Rattle.key_shards.proofs.Gathered.{gathered}
use Rattle.key_shards.proofs.Parting.{entries_stand}

module _ (given : Collection) (division : Division) (word : Word) (entries : Entries) where
  -- from the tables of the shards
  module _ (tables : ℕ → Entries) (are : AreTables given division word tables)
      (merge : IsMerge given division word tables entries) where
    at_home : (shard : ℕ) → shard < division.shards
        → AreEntries (on_keys given.body given.chosen given.sync word)
        (filter (is_home division shard) (keys_after given.chosen given.sync [] word))
        (entries_of (is_home division shard) entries)
    at_home shard within =
        from_share given (is_home division shard) word
        (entries_of (is_home division shard) entries)
        (collected (on_all_words given) (share given (is_home division shard) word)
        (entries_of (is_home division shard) entries)
        (subst (λ es. Den (shard_of given) (share given (is_home division shard) word)
        (value.Table es)) (sym (merge.each shard within)) (are shard within))).each

    pub all_gathered : AreEntries (on_keys given.body given.chosen given.sync word)
        (keys_after given.chosen given.sync [] word) entries
    all_gathered = gathered division.home (first_stand given word)
        (on_keys given.body given.chosen given.sync word)
        (keys_after given.chosen given.sync [] word) entries (keys_stand given word) merge.order
        (λ key. at_home (division.home key) (division.within key))

  from_shards : Den (mask_of given) word (value.Table []) → AreMerged given division word entries
      → Den (whole_of given) word (value.Table entries)
  from_shards mask (tables, are, merge) = (
    entries,
    ((masked given word (value.Table [])).0 mask).0,
    all_gathered tables are merge,
    refl,
  )

  -- to the tables of the shards
  to_shards : Den (whole_of given) word (value.Table entries)
      → Den (mask_of given) word (value.Table []) × AreMerged given division word entries
  to_shards den = (
    (masked given word (value.Table [])).1 ((collected given word entries den).in_rate, refl),
    (
      (λ shard. entries_of (is_home division shard) entries),
      λ shard within. shard_entries given (is_home division shard) word entries den,
      record {
        each = λ shard within. refl;
        order = entries_stand (first_stand given word)
            (on_keys given.body given.chosen given.sync word)
            (keys_after given.chosen given.sync [] word) entries (keys_stand given word)
            (collected given word entries den).each;
      },
    ),
  )

  pub is_merged : Den (whole_of given) word (value.Table entries)
      ↔ (Den (mask_of given) word (value.Table []) × AreMerged given division word entries)
  is_merged = (to_shards, λ (mask, are). from_shards mask are)
