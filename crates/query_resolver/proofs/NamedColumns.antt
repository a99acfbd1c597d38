-- Columns by their names, one after the other.
use Rattle.std.proofs.Common.{◌≡◌, ◌<◌, ◌≤◌, ℕ, ◌+◌, ◌++◌, List, [], ◌∷◌, length, get_or, drop}
use Rattle.std.proofs.Common.{append_assoc, Option, None, Some, refl, sym, ap, ◌∙◌, arith}
use Rattle.std.proofs.lemmas.List.{drop_all, drop_more}
use Rattle.item_schema.specs.declared.column.Column.{Column}
use Rattle.query_syntax.specs.declared.leaf.Name.{Name}
use Rattle.query_resolver.specs.Names.{column_named, columns_named, with_first}

-- columns before those of other names, if there are all
abbrev pub with_all : List ℕ → Option (List ℕ) → Option (List ℕ)
with_all at None = None
with_all at (Some others) = Some (at ++ others)

append_nil : (at : List ℕ) → at ++ [] ≡ at
append_nil [] = refl
append_nil (column ∷ at) = ap (λ rest. column ∷ rest) (append_nil at)

none_before : (found : Option (List ℕ)) → found ≡ with_all [] found
none_before None = refl
none_before (Some others) = refl

one_more : (at : List ℕ) (column : ℕ) (found : Option (List ℕ))
    → with_all at (with_first (Some column) found) ≡ with_all (at ++ column ∷ []) found
one_more at column None = refl
one_more at column (Some others) = ap Some (sym (append_assoc at (column ∷ []) others))

unknown_first : (at : List ℕ) (found : Option (List ℕ)) → with_all at (with_first None found) ≡ None
unknown_first at None = refl
unknown_first at (Some others) = refl

-- there are as many columns as names
pub as_many : (columns : List Column) (names : List Name) (at : List ℕ)
    → columns_named columns names ≡ Some at → length at ≡ length names
as_many columns [] at is = let none : [] ≡ at = cc in ap length (sym none)
as_many columns (name ∷ names) at is =
    by (column_named columns name.bytes) (columns_named columns names) (as_many columns names) is
  where
    by : (column : Option ℕ) (rest : Option (List ℕ))
        → ((others : List ℕ) → rest ≡ Some others → length others ≡ length names)
        → with_first column rest ≡ Some at → length at ≡ length (name ∷ names)
    by (Some column) (Some rest) others is =
        let same : column ∷ rest ≡ at = cc in
        let longer = ap length same in
        let long = others rest refl in omega (arith, long, longer)
    by (Some column) None others is = absurd (cc)
    by None rest others is = absurd (cc)

module _ (columns : List Column) (names : List Name) where
  -- what is named is what was found, with the columns of the names that are left
  abbrev pub AreFound : ℕ → List ℕ → Type 0
  AreFound index at =
      columns_named columns names ≡ with_all at (columns_named columns (drop index names))

  pub none_found : AreFound 0 []
  none_found = none_before (columns_named columns names)

  -- the names that are left, of which the next one is known
  left : (index : ℕ) (name : Name) → index < length names → name ≡ get_or names index name
      → columns_named columns (drop index names)
      ≡ with_first (column_named columns name.bytes)
      (columns_named columns (drop (index + 1) names))
  left index name inside is = ap (columns_named columns) (drop_more names index name inside)
      ∙ ap (λ (n : Name). with_first (column_named columns n.bytes)
      (columns_named columns (drop (index + 1) names))) (sym is)

  -- one more that is known
  pub more_found : (index : ℕ) (name : Name) (column : ℕ) (at : List ℕ) → index < length names
      → name ≡ get_or names index name → column_named columns name.bytes ≡ Some column
      → AreFound index at → AreFound (index + 1) (at ++ column ∷ [])
  more_found index name column at inside is known found =
      found ∙ ap (with_all at) (left index name inside is
      ∙ ap (λ one. with_first one (columns_named columns (drop (index + 1) names))) known)
      ∙ one_more at column (columns_named columns (drop (index + 1) names))

  -- one that is not known
  pub none_known : (index : ℕ) (name : Name) (at : List ℕ) → index < length names
      → name ≡ get_or names index name → column_named columns name.bytes ≡ None
      → AreFound index at → columns_named columns names ≡ None
  none_known index name at inside is unknown found =
      found ∙ ap (with_all at) (left index name inside is
      ∙ ap (λ one. with_first one (columns_named columns (drop (index + 1) names))) unknown)
      ∙ unknown_first at (columns_named columns (drop (index + 1) names))

  -- at the end all are
  pub all_found : (index : ℕ) (at : List ℕ) → length names ≤ index → AreFound index at
      → columns_named columns names ≡ Some at
  all_found index at end found =
      found ∙ ap (λ rest. with_all at (columns_named columns rest)) (drop_all index names end)
      ∙ ap Some (append_nil at)
