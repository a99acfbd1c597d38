-- The ranks of a column have its classes.
use Rattle.std.proofs.Common.{◌≡◌, ℕ, ◌+◌, true, cond, ℤ, List, [], ◌∷◌, length, int_cmp, nat_cmp}
use Rattle.std.proofs.Common.{is_lt, refl, sym, ◌∙◌, ap}
use Rattle.std.specs.Prelude.{filter, int_le}
use Rattle.std.specs.List.{flat_map, sum_by, AllByRecursion}
use Rattle.std.specs.List.Sorted.{IsStrictlySortedBy}
use Rattle.std.specs.Cmp.Lexicographic.{slice_cmp}
use Rattle.std.specs.Str.{bytes_eq}
use Rattle.std.proofs.lemmas.Bool.{cond_both}
use Rattle.std.proofs.lemmas.Cmp.{int_cmp_total, nat_list_cmp_total}
use Rattle.std.proofs.lemmas.List.Elements.{filter_passes, recursion_from_All}
use Rattle.value_ops.specs.declared.field.Field.{Field}
use Rattle.value_ops.specs.declared.field.Field.TheVariants as field
use Rattle.value_ops.specs.declared.scalar.Scalar.TheVariants as scalar
use Rattle.value_ops.specs.declared.value.Value.TheVariants as value
use Rattle.item_schema.specs.declared.column.Column.{Column}
use Rattle.item_schema.specs.declared.column.Kind.{Kind}
use Rattle.item_schema.specs.declared.column.Kind.TheVariants.{Int, Fixed, Text, Number, Table}
use Rattle.predicate_cells.specs.Cells.{cell_from, count_from}
use Rattle.value_ops.specs.Texts.{IsText, are_bytes}
use Rattle.predicate_cells.specs.Classes.{beginnings, begins_class, named_texts, members}
use Rattle.predicate_cells.specs.Classes.{class_count, class_of, starts}
use Rattle.predicates.specs.Fits.{is_number, is_text}
use Rattle.predicates.specs.Predicates.{Predicate}
use Rattle.predicate_cells.specs.Ranks.{Ranks, cells_in, cell_in, ranks_from, count_by_kind}
use Rattle.predicate_cells.specs.Ranks.{class_by_kind, rising_starts, rising_texts, number_rank}
use Rattle.predicate_cells.specs.Ranks.{text_rank}
use Rattle.predicate_cells.specs.Rising.{rising}
use Rattle.predicate_cells.proofs.Counts.{same_any}
use Rattle.predicate_cells.proofs.RisingLists.{sum_members, length_members, all_rising, rises}
use Rattle.predicate_cells.proofs.RisingLists.{rises_none}
use Rattle.predicate_cells.proofs.TextOrder.{bytes_eq_is}

sum_texts : (f : List ℕ → ℕ) (xs : List (List ℕ))
    → sum_by f (members bytes_eq xs) ≡ sum_by f (rising (slice_cmp nat_cmp) xs)
sum_texts f xs = rw bytes_eq_is (sum_members (slice_cmp nat_cmp) nat_list_cmp_total f xs)

length_texts : (xs : List (List ℕ))
    → length (members bytes_eq xs) ≡ length (rising (slice_cmp nat_cmp) xs)
length_texts xs = rw bytes_eq_is (length_members (slice_cmp nat_cmp) nat_list_cmp_total xs)

text_rank_rising : (xs : List (List ℕ)) (s : List ℕ)
    → text_rank (rising (slice_cmp nat_cmp) xs) s ≡ text_rank (members bytes_eq xs) s
text_rank_rising xs s =
    let ys = rising (slice_cmp nat_cmp) xs in
    let zs = members bytes_eq xs in
    rw (same_any (bytes_eq s) ys zs (sym (sum_texts (λ t. cond (bytes_eq s t) 1 0) xs)))
    (rw (sym (sum_texts (λ t. cond (is_lt (slice_cmp nat_cmp t s)) 1 0) xs), sym (length_texts xs))
    refl)

module _ (column : ℕ) (preds : List Predicate) where
  length_starts : length (rising int_cmp (filter begins_class (flat_map (beginnings column) preds)))
      ≡ length (starts column preds)
  length_starts = sym (length_members int_cmp int_cmp_total _)

  number_rank_rising : (n : ℤ)
      → number_rank (rising int_cmp (filter begins_class (flat_map (beginnings column) preds))) n
      ≡ number_rank (starts column preds) n
  number_rank_rising n =
      sym (sum_members int_cmp int_cmp_total (λ start. cond (int_le start n) 1 0) _)

  pub count_of_ranks : (kind : Kind)
      → count_by_kind kind (rising_starts kind column preds) (rising_texts kind column preds)
      ≡ class_count kind column preds
  count_of_ranks Int = ap (λ n. n + 1) length_starts
  count_of_ranks (Fixed digits) = ap (λ n. n + 1) length_starts
  count_of_ranks Text = ap (λ n. n + 1) (sym (length_texts _))
  count_of_ranks Number = ap (λ n. n + 3) length_starts
  count_of_ranks Table = refl

  pub class_of_ranks : (kind : Kind) (f : Field)
      → class_by_kind kind (rising_starts kind column preds) (rising_texts kind column preds) f
      ≡ class_of kind column preds f
  class_of_ranks Int (field.Int n) = number_rank_rising n
  class_of_ranks (Fixed digits) (field.Int n) = number_rank_rising n
  class_of_ranks Text (field.Text s) = text_rank_rising _ s
  class_of_ranks Number (field.Val (value.Scalar (scalar.Number n))) = number_rank_rising n
  class_of_ranks Number (field.Val (value.Scalar scalar.Overflow)) = ap (λ n. n + 1) length_starts
  class_of_ranks Number (field.Val (value.Scalar scalar.DivZero)) = ap (λ n. n + 2) length_starts
  class_of_ranks kind f = refl

  pub starts_rise : (kind : Kind) → IsStrictlySortedBy int_cmp (rising_starts kind column preds)
  starts_rise kind =
      cond_both (is_number kind) (rising int_cmp _) [] (IsStrictlySortedBy int_cmp)
      (λ e. rises int_cmp int_cmp_total _) (λ e. rises_none int_cmp int_cmp_total)

  pub starts_begin : (kind : Kind)
      → AllByRecursion (λ start. begins_class start ≡ true) (rising_starts kind column preds)
  starts_begin kind =
      let P = λ (start : ℤ). begins_class start ≡ true in
      cond_both (is_number kind) (rising int_cmp _) [] (AllByRecursion P)
      (λ e. all_rising int_cmp int_cmp_total P _ (recursion_from_All P _
      (filter_passes begins_class (flat_map (beginnings column) preds)))) (λ e. tt)

  pub texts_rise : (kind : Kind)
      → IsStrictlySortedBy (slice_cmp nat_cmp) (rising_texts kind column preds)
  texts_rise kind =
      cond_both (is_text kind) (rising (slice_cmp nat_cmp) _) []
      (IsStrictlySortedBy (slice_cmp nat_cmp)) (λ e. rises (slice_cmp nat_cmp) nat_list_cmp_total _)
      (λ e. rises_none (slice_cmp nat_cmp) nat_list_cmp_total)

  pub texts_bytes : (kind : Kind) → AllByRecursion IsText (rising_texts kind column preds)
  texts_bytes kind =
      cond_both (is_text kind) (rising (slice_cmp nat_cmp) _) [] (AllByRecursion IsText)
      (λ e. all_rising (slice_cmp nat_cmp) nat_list_cmp_total IsText _ (recursion_from_All IsText _
      (filter_passes are_bytes (flat_map (named_texts column) preds)))) (λ e. tt)

module _ (preds : List Predicate) where
  -- the ranks of the columns make their cells
  pub cells_of_ranks : (at : ℕ) (columns : List Column)
      → cells_in (ranks_from at columns preds) ≡ count_from at columns preds
  cells_of_ranks at [] = refl
  cells_of_ranks at (column ∷ columns) =
      rw (count_of_ranks at preds column.kind, cells_of_ranks (at + 1) columns) refl

  -- and find them
  pub cell_of_ranks : (at : ℕ) (columns : List Column) (fields : List Field)
      → cell_in (ranks_from at columns preds) fields ≡ cell_from at columns preds fields
  cell_of_ranks at (column ∷ columns) (f ∷ fields) =
      rw (
        class_of_ranks at preds column.kind f,
        cells_of_ranks (at + 1) columns,
        cell_of_ranks (at + 1) columns fields,
      ) refl
  cell_of_ranks at columns fields = refl

  -- so their count is that of the ranks, however these are read
  pub count_of_read : (columns : List Column) (read ranks : List Ranks) → read ≡ ranks
      → ranks ≡ ranks_from 0 columns preds → cells_in read ≡ count_from 0 columns preds
  count_of_read columns read ranks is are = ap cells_in (is ∙ are) ∙ cells_of_ranks 0 columns

  -- and a cell is that of the ranks
  pub cell_of_read : (columns : List Column) (read ranks : List Ranks) (fields : List Field)
      → read ≡ ranks → ranks ≡ ranks_from 0 columns preds
      → cell_in read fields ≡ cell_from 0 columns preds fields
  cell_of_read columns read ranks fields is are =
      ap (λ rs. cell_in rs fields) (is ∙ are) ∙ cell_of_ranks 0 columns fields
