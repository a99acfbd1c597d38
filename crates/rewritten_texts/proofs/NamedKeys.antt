-- The columns that a key names have texts and differ, and there are as many as names.
use Rattle.std.proofs.Common.{◌≡◌, ◌≤◌, ◌==◌, ◌||◌, ℕ, Bool, true, false, not, cond, List, [], ◌∷◌}
use Rattle.std.proofs.Common.{length, Option, None, Some, refl, sym, ap, subst, arith}
use Rattle.std.specs.List.{AllByRecursion, IsDistinct, list_any}
use Rattle.std.proofs.lemmas.Bool.{and_parts}
use Rattle.std.proofs.lemmas.Bool.Decides.{nat_tests}
use Rattle.std.proofs.lemmas.Map.Keys.{IsDistinct-cons}
use Rattle.item_schema.specs.declared.column.Column.{Column}
use Rattle.predicates.specs.Fits.{has_texts}
use Rattle.query_model.specs.Rules.{AreKeyColumns}
use Rattle.query_syntax.specs.declared.leaf.Name.{Name}
use Rattle.query_resolver.specs.Names.{column_named, columns_named, key_named, once, stand_once}
use Rattle.query_resolver.specs.Names.{with_first}
use Rattle.query_resolver.specs.Resolved.{have_texts}

-- a column is none of those that it does not equal
not_among : (column : ℕ) (others : List ℕ)
    → not (list_any (λ other. other == column) others) ≡ true
    → AllByRecursion (λ other. (column == other) ≡ false) others
not_among column [] unseen = tt
not_among column (other ∷ others) unseen =
    by (other == column) refl unseen (not_among column others)
  where
    by : (here : Bool) → (other == column) ≡ here
        → not (here || list_any (λ next. next == column) others) ≡ true
        → (not (list_any (λ next. next == column) others) ≡ true
        → AllByRecursion (λ next. (column == next) ≡ false) others)
        → AllByRecursion (λ next. (column == next) ≡ false) (other ∷ others)
    by true is unseen rest = absurd (cc)
    by false is unseen rest = (grind (arith, nat_tests), rest unseen)

differ : (chosen : List ℕ) → stand_once chosen ≡ true → IsDistinct ◌==◌ chosen
unfolding IsDistinct
differ [] once = tt
differ (column ∷ others) once =
    let parts = and_parts (not (list_any (λ other. other == column) others)) (stand_once others)
    once in
    IsDistinct-cons ◌==◌ column others (not_among column others parts.0) (differ others parts.1)

-- columns that stand once were found, and do
found_once : (found : Option (List ℕ)) (chosen : List ℕ) → once found ≡ Some chosen
    → (found ≡ Some chosen) × (stand_once chosen ≡ true)
found_once None chosen is = absurd (cc)
found_once (Some columns) chosen is = by (stand_once columns) refl is
  where
    by : (passes : Bool) → stand_once columns ≡ passes
        → cond passes (Some columns) None ≡ Some chosen
        → (Some columns ≡ Some chosen) × (stand_once chosen ≡ true)
    by true stands same =
        let one : columns ≡ chosen = cc in
        (same, subst (λ all. stand_once all ≡ true) one stands)
    by false stands same = absurd (cc)

module _ (columns : List Column) where
  -- there is one for each name
  one_each : (names : List Name) (chosen : List ℕ) → columns_named columns names ≡ Some chosen
      → length chosen ≡ length names
  one_each [] chosen is = let none : [] ≡ chosen = cc in sym (ap length none)
  one_each (name ∷ names) chosen is =
      by (column_named columns name.bytes) (columns_named columns names) (one_each names) is
    where
      by : (column : Option ℕ) (rest : Option (List ℕ))
          → ((others : List ℕ) → rest ≡ Some others → length others ≡ length names)
          → with_first column rest ≡ Some chosen → length chosen ≡ length (name ∷ names)
      by (Some column) (Some rest) others is =
          let same : column ∷ rest ≡ chosen = cc in
          let longer = ap length same in
          let long = others rest refl in omega (arith, long, longer)
      by (Some column) None others is = absurd (cc)
      by None rest others is = absurd (cc)

  key_found : (names : List Name) (chosen : List ℕ) → key_named columns names ≡ Some chosen
      → (columns_named columns names ≡ Some chosen) × (stand_once chosen ≡ true)
  key_found [] chosen is = absurd (cc)
  key_found (name ∷ names) chosen is =
      found_once (columns_named columns (name ∷ names)) chosen is

  pub as_many_named : (names : List Name) (chosen : List ℕ) → key_named columns names ≡ Some chosen
      → length chosen ≡ length names
  as_many_named names chosen is = one_each names chosen (key_found names chosen is).0

  all_texts : (chosen : List ℕ) → have_texts columns chosen ≡ true
      → AllByRecursion (λ column. has_texts columns column ≡ true) chosen
  all_texts [] have = tt
  all_texts (column ∷ others) have =
      let parts = and_parts (has_texts columns column) (have_texts columns others) have in
      (parts.0, all_texts others parts.1)

  pub key_columns : (names : List Name) (chosen : List ℕ) → key_named columns names ≡ Some chosen
      → 1 ≤ length names → have_texts columns chosen ≡ true → AreKeyColumns columns chosen
  key_columns names chosen is some have = record {
    some = let many = as_many_named names chosen is in omega (arith, many, some);
    texts = all_texts chosen have;
    distinct = differ chosen (key_found names chosen is).1;
  }
