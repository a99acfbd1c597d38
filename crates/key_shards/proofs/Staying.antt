-- Where keys have no share in what comes, what stands under them stays.
use Rattle.std.proofs.Common.{append-nil, ◌≡◌, ◌∙◌, ◌++◌, ℕ, Bool, List, [], ap, subst}
use Rattle.std.proofs.lemmas.List.Elements.{filter-append}
use Rattle.value_ops.specs.declared.value.Value.TheVariants as value
use Rattle.item_schema.specs.declared.column.Column.{Column}
use Rattle.rate_expr.specs.Words.{Word, IsWordOf}
use Rattle.query_model.specs.Denotation.{Den}
use Rattle.query_model.specs.Rules.{Standing, IsClear}
use Rattle.query_model.proofs.Keys.{kept_word}
use Rattle.query_model.proofs.Unique.{one_value}
use Rattle.key_shards.specs.Collections.{Collection, shard_of, whole_of}
use Rattle.key_shards.specs.Shares.{Entries, entries_of, share}
use Rattle.key_shards.proofs.Collected.{shard_entries, table_inside}
use Rattle.key_shards.proofs.Ruled.{shard_clear}

module _ (standing : Standing) (columns : List Column) (given : Collection)
    (clear : IsClear standing columns (whole_of given)) (theirs : List ℕ → Bool)
    (word next : Word) (entries others : Entries) (is : IsWordOf columns word)
    (none : share given theirs next ≡ []) where
  share_stays : share given theirs (word ++ next) ≡ share given theirs word
  share_stays = filter-append _ word next ∙ ap (λ u. share given theirs word ++ u) none
      ∙ append-nil (share given theirs word)

  pub entries_stay : Den (whole_of given) word (value.Table entries)
      → Den (whole_of given) (word ++ next) (value.Table others)
      → entries_of theirs others ≡ entries_of theirs entries
  entries_stay den more =
      table_inside (entries_of theirs others) (entries_of theirs entries)
      (one_value standing columns (shard_of given) (share given theirs word)
      (value.Table (entries_of theirs others)) (value.Table (entries_of theirs entries))
      (shard_clear standing columns given clear) (kept_word columns _ word is)
      (subst (λ w. Den (shard_of given) w (value.Table (entries_of theirs others))) share_stays
      (shard_entries given theirs (word ++ next) others more))
      (shard_entries given theirs word entries den))
