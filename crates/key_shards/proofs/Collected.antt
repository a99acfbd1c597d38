-- The tables of a collect, of its mask, and of a shard.
use Rattle.std.proofs.Common.{◌≡◌, ◌∙◌, ◌↔◌, ℕ, pos, Bool, List, [], ◌∷◌, refl, sym, ap, subst}
use Rattle.std.specs.Prelude.{filter}
use Rattle.value_ops.specs.declared.value.Value.{Value}
use Rattle.value_ops.specs.declared.value.Value.TheVariants as value
use Rattle.predicates.specs.Predicates.{any}
use Rattle.rate_expr.specs.Language.{In}
use Rattle.rate_expr.specs.Words.{Word}
use Rattle.query_model.specs.Denotation.{AreEntries, Den, keys_after, projection}
use Rattle.query_model.specs.Queries.{eps}
use Rattle.query_model.proofs.Typed.{on_keys}
use Rattle.key_shards.specs.Collections.{Collection, all_words, mask_of, shard_of, whole_of}
use Rattle.key_shards.specs.Shares.{Entries, entries_of, share}
use Rattle.key_shards.proofs.Parting.{moved, parted}
use Rattle.key_shards.proofs.Shared.{keys_stay, projection_stays}

-- each word is one of all words
pub in_all_words : (word : Word) → In all_words word
in_all_words [] = ([], refl, tt)
in_all_words (item ∷ word) =
    let rest = in_all_words word in
    ((item ∷ []) ∷ rest.0, ap (λ w. item ∷ w) rest.1, ((item, refl, refl), rest.2))

pub table_inside : (a b : Entries) → value.Table a ≡ value.Table b → a ≡ b
table_inside a b same = cc

-- what a collect asks of a table
pub record IsCollected (given : Collection) (word : Word) (entries : Entries) : Type 0 where
  pub in_rate : In given.rate word
  pub each : AreEntries (on_keys given.body given.chosen given.sync word)
      (keys_after given.chosen given.sync [] word) entries

pub collected : (given : Collection) (word : Word) (entries : Entries)
    → Den (whole_of given) word (value.Table entries) → IsCollected given word entries
collected given word entries (others, in_rate, each, same) = record {
  in_rate = in_rate;
  each = subst (AreEntries (on_keys given.body given.chosen given.sync word)
      (keys_after given.chosen given.sync [] word)) (sym (table_inside entries others same)) each;
}

-- a shard as a collect
abbrev pub on_all_words : Collection → Collection
on_all_words given = record given { rate = all_words }

-- the mask has a table without keys on the words of the rate
no_keys : (chosen : List ℕ) (word : Word) → keys_after chosen any [] word ≡ []
no_keys chosen [] = refl
no_keys chosen (item ∷ word) = no_keys chosen word

pub masked : (given : Collection) (word : Word) (v : Value)
    → Den (mask_of given) word v ↔ (In given.rate word × (v ≡ value.Table []))
masked given word v = (
  λ (entries, in_rate, each, same). (
    in_rate,
    same ∙ ap value.Table
        (subst (λ keys. AreEntries (on_keys (eps (pos 0)) given.chosen any word) keys entries)
        (no_keys given.chosen word) each),
  ),
  λ (in_rate, same). (
    [],
    in_rate,
    subst (λ keys. AreEntries (on_keys (eps (pos 0)) given.chosen any word) keys [])
        (sym (no_keys given.chosen word)) refl,
    same,
  ),
)

module _ (given : Collection) (theirs : List ℕ → Bool) (word : Word) where
  -- the entries of some keys on their share are those on the word
  pub to_share : (entries : Entries)
      → AreEntries (on_keys given.body given.chosen given.sync word)
      (filter theirs (keys_after given.chosen given.sync [] word)) entries
      → AreEntries (on_keys given.body given.chosen given.sync (share given theirs word))
      (keys_after given.chosen given.sync [] (share given theirs word)) entries
  to_share entries are =
      subst (λ keys. AreEntries
      (on_keys given.body given.chosen given.sync (share given theirs word)) keys entries)
      (sym (keys_stay given theirs word))
      (moved (Den given.body) (λ key. projection given.chosen given.sync key word)
      (λ key. projection given.chosen given.sync key (share given theirs word)) theirs
      (λ key is. sym (projection_stays given theirs key word is))
      (keys_after given.chosen given.sync [] word) entries are)

  pub from_share : (entries : Entries)
      → AreEntries (on_keys given.body given.chosen given.sync (share given theirs word))
      (keys_after given.chosen given.sync [] (share given theirs word)) entries
      → AreEntries (on_keys given.body given.chosen given.sync word)
      (filter theirs (keys_after given.chosen given.sync [] word)) entries
  from_share entries are =
      moved (Den given.body)
      (λ key. projection given.chosen given.sync key (share given theirs word))
      (λ key. projection given.chosen given.sync key word) theirs
      (λ key is. projection_stays given theirs key word is)
      (keys_after given.chosen given.sync [] word) entries
      (subst (λ keys. AreEntries
      (on_keys given.body given.chosen given.sync (share given theirs word)) keys entries)
      (keys_stay given theirs word) are)

  -- a shard has the entries of its keys
  pub shard_entries : (entries : Entries) → Den (whole_of given) word (value.Table entries)
      → Den (shard_of given) (share given theirs word) (value.Table (entries_of theirs entries))
  shard_entries entries den = (
    entries_of theirs entries,
    in_all_words (share given theirs word),
    to_share (entries_of theirs entries)
        (parted (on_keys given.body given.chosen given.sync word) theirs
        (keys_after given.chosen given.sync [] word) entries
        (collected given word entries den).each),
    refl,
  )
