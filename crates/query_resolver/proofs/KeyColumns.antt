-- The columns of a key that is named have texts and differ.
use Rattle.std.proofs.Common.{◌≡◌, ◌==◌, ◌||◌, ℕ, Bool, true, false, not, cond, List, []}
use Rattle.std.proofs.Common.{◌≤◌, ◌∷◌, length, Option, None, Some, refl, ap, ◌∙◌, arith}
use Rattle.std.specs.List.{AllByRecursion, IsDistinct, list_any}
use Rattle.std.proofs.lemmas.Bool.{and_parts}
use Rattle.std.proofs.lemmas.Bool.Decides.{nat_tests}
use Rattle.std.proofs.lemmas.Map.Keys.{IsDistinct-cons}
use Rattle.item_schema.specs.declared.column.Column.{Column}
use Rattle.predicates.specs.Fits.{has_texts}
use Rattle.query_model.specs.Rules.{AreKeyColumns}
use Rattle.query_syntax.specs.declared.leaf.Name.{Name}
use Rattle.query_resolver.specs.Names.{column_named, columns_named, key_named, once, stand_once}
use Rattle.query_resolver.specs.Names.{with_first}
use Rattle.query_resolver.specs.Resolved.{have_texts}

-- no column stands twice
not_seen : (column : ℕ) (others : List ℕ)
    → not (list_any (λ other. other == column) others) ≡ true
    → AllByRecursion (λ other. (column == other) ≡ false) others
not_seen column [] unseen = tt
not_seen column (other ∷ others) unseen = by (other == column) refl unseen (not_seen column others)
  where
    by : (here : Bool) → (other == column) ≡ here
        → not (here || list_any (λ next. next == column) others) ≡ true
        → (not (list_any (λ next. next == column) others) ≡ true
        → AllByRecursion (λ next. (column == next) ≡ false) others)
        → AllByRecursion (λ next. (column == next) ≡ false) (other ∷ others)
    by true is seen rest = absurd (cc)
    by false is later rest = (grind (arith, nat_tests), rest later)

differ : (chosen : List ℕ) → stand_once chosen ≡ true → IsDistinct ◌==◌ chosen
unfolding IsDistinct
differ [] once = tt
differ (column ∷ others) once =
    let parts = and_parts (not (list_any (λ other. other == column) others)) (stand_once others)
    once in
    IsDistinct-cons ◌==◌ column others (not_seen column others parts.0) (differ others parts.1)

-- a key that is named stands once
named_once : (columns : List Column) (names : List Name) (chosen : List ℕ)
    → Some chosen ≡ key_named columns names → stand_once chosen ≡ true
named_once columns [] chosen named = absurd (cc)
named_once columns (first ∷ others) chosen named = by (columns_named columns (first ∷ others)) named
  where
    kept : (other : List ℕ) (test : Bool) → stand_once other ≡ test
        → Some chosen ≡ cond test (Some other) None → stand_once chosen ≡ true
    kept other true is same = let one : chosen ≡ other = cc in ap stand_once one ∙ is
    kept other false is same = absurd (cc)

    by : (found : Option (List ℕ)) → Some chosen ≡ once found → stand_once chosen ≡ true
    by None same = absurd (cc)
    by (Some other) same = kept other (stand_once other) refl same

-- and has a column
some_named : (columns : List Column) (names : List Name) (chosen : List ℕ)
    → Some chosen ≡ key_named columns names → 1 ≤ length chosen
some_named columns [] chosen named = absurd (cc)
some_named columns (first ∷ others) [] named =
    absurd (by (column_named columns first.bytes) (columns_named columns others) named)
  where
    tested : (column : ℕ) (rest : List ℕ) (test : Bool)
        → Some [] ≡ cond test (Some (column ∷ rest)) None → ⊥
    tested column rest true same = cc
    tested column rest false same = cc

    by : (column : Option ℕ) (rest : Option (List ℕ)) → Some [] ≡ once (with_first column rest) → ⊥
    by (Some column) (Some rest) same = tested column rest (stand_once (column ∷ rest)) same
    by (Some column) None same = cc
    by None rest same = cc
some_named columns (first ∷ others) (column ∷ chosen) named = omega arith

-- all of them have texts
all_texts : (columns : List Column) (chosen : List ℕ) → have_texts columns chosen ≡ true
    → AllByRecursion (λ column. has_texts columns column ≡ true) chosen
all_texts columns [] have = tt
all_texts columns (column ∷ others) have =
    let parts = and_parts (has_texts columns column) (have_texts columns others) have in
    (parts.0, all_texts columns others parts.1)

pub key_columns_are : (columns : List Column) (names : List Name) (chosen : List ℕ)
    → Some chosen ≡ key_named columns names → have_texts columns chosen ≡ true
    → AreKeyColumns columns chosen
key_columns_are columns names chosen named have = record {
  some = some_named columns names chosen named;
  texts = all_texts columns chosen have;
  distinct = differ chosen (named_once columns names chosen named);
}
