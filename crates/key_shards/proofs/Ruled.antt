-- Where a collect keeps the rules, so do its shards and its mask, and they have values.
use Rattle.std.proofs.Common.{rules, ℕ, pos, Bool, List, [], ◌∷◌, refl}
use Rattle.std.specs.Prelude.{FitsSigned}
use Rattle.std.specs.Int.{w64}
use Rattle.value_ops.specs.declared.field.Field.{Field}
use Rattle.value_ops.specs.declared.field.Field.TheVariants as field
use Rattle.value_ops.specs.declared.scalar.Scalar.TheVariants as scalar
use Rattle.value_ops.specs.declared.value.Value.TheVariants as value
use Rattle.value_ops.proofs.EntryLaws.{empty_table}
use Rattle.item_schema.specs.declared.column.Column.{Column}
use Rattle.item_schema.specs.declared.column.Kind.{Kind}
use Rattle.item_schema.specs.declared.column.Kind.TheVariants.{Int, Fixed, Text, Number, Table}
use Rattle.item_schema.specs.Items.{IsFieldOf, IsItemOf}
use Rattle.predicates.specs.Predicates.{any}
use Rattle.rate_expr.specs.Words.{Word, IsWordOf}
use Rattle.query_model.specs.Rules.{CanBeMet, Standing, IsClear}
use Rattle.query_model.proofs.Defined.{in_den}
use Rattle.query_model.proofs.InRates.{den_in}
use Rattle.query_model.proofs.Keys.{kept_word}
use Rattle.key_shards.specs.Collections.{Collection, mask_of, shard_of, whole_of}
use Rattle.key_shards.specs.Parted.{AreDefinedAlike, IsDefined}
use Rattle.key_shards.specs.Shares.{share}
use Rattle.key_shards.proofs.Collected.{in_all_words, masked}

pub zero_fits : FitsSigned w64 (pos 0)
zero_fits = search rules

-- there is an item of any columns, and so one that meets `any`
some_field : (kind : Kind) → (f : Field) × IsFieldOf kind f
some_field Int = (field.Int (pos 0), zero_fits)
some_field (Fixed digits) = (field.Int (pos 0), zero_fits)
some_field Text = (field.Text [], refl)
some_field Number = (field.Val (value.Scalar (scalar.Number (pos 0))), zero_fits)
some_field Table = (field.Val (value.Table []), empty_table)

some_item : (columns : List Column) → (item : List Field) × IsItemOf columns item
some_item [] = ([], tt)
some_item (column ∷ columns) =
    let first = some_field column.kind in
    let rest = some_item columns in
    (first.0 ∷ rest.0, (first.1, rest.1))

any_met : (columns : List Column) → CanBeMet columns any
any_met columns =
    let found = some_item columns in
    record { fit = refl; item = found.0; is_item = found.1; meets = refl }

module _ (standing : Standing) (columns : List Column) (given : Collection)
    (clear : IsClear standing columns (whole_of given)) where
  pub shard_clear : IsClear standing columns (shard_of given)
  shard_clear = (clear.0, clear.1, clear.2, clear.3, clear.4, (any_met columns, tt))

  pub mask_clear : IsClear standing columns (mask_of given)
  mask_clear = (zero_fits, refl, tt, clear.3, refl, clear.5)

  pub defined_alike : AreDefinedAlike columns (whole_of given) (mask_of given)
  defined_alike word is = (
    λ (v, den). (
      value.Table [],
      (masked given word (value.Table [])).1
          (den_in standing columns (whole_of given) word v clear is den, refl),
    ),
    λ (v, den). in_den columns (whole_of given) word clear is ((masked given word v).0 den).0,
  )

  pub shard_defined : (theirs : List ℕ → Bool) (word : Word) → IsWordOf columns word
      → IsDefined (shard_of given) (share given theirs word)
  shard_defined theirs word is =
      in_den columns (shard_of given) (share given theirs word) shard_clear
      (kept_word columns _ word is) (in_all_words (share given theirs word))
