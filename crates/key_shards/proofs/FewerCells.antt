-- Fewer predicates part the items of a stream in no more cells.
use Rattle.std.proofs.Common.{◌≡◌, ◌∙◌, ◌≤◌, ◌*◌, ◌+◌, ◌||◌, ℕ, Bool, true, false, List, []}
use Rattle.std.proofs.Common.{◌∷◌, length, int_cmp, nat_cmp, Ordering, refl, sym, ap, arith}
use Rattle.std.specs.Prelude.{filter}
use Rattle.std.specs.Cmp.{IsTotalOrder}
use Rattle.std.specs.Cmp.Lexicographic.{slice_cmp}
use Rattle.std.specs.List.{flat_map, list_any}
use Rattle.std.specs.Ordering.{eq_by_cmp}
use Rattle.std.proofs.Math.Nat.{mul-le-mul_left, mul-le-mul_right}
use Rattle.std.proofs.lemmas.Cmp.{eq_by_cmp_equiv, int_cmp_total, nat_list_cmp_total}
use Rattle.std.proofs.lemmas.List.Elements.{filter-append}
use Rattle.std.proofs.lemmas.List.Folds.{list_any-append}
use Rattle.std.proofs.lemmas.Map.Keys.{IsDistinct-from_sorted}
use Rattle.std.proofs.lemmas.Map.Made.{length-le_from_is_member}
use Rattle.value_ops.specs.Texts.{are_bytes}
use Rattle.item_schema.specs.declared.column.Column.{Column}
use Rattle.item_schema.specs.declared.column.Kind.{Kind}
use Rattle.item_schema.specs.declared.column.Kind.TheVariants.{Int, Fixed, Text, Number, Table}
use Rattle.predicates.specs.Predicates.{Predicate, any}
use Rattle.predicate_cells.specs.Cells.{count_from}
use Rattle.predicate_cells.specs.Classes.{beginnings, begins_class, class_count, members}
use Rattle.predicate_cells.specs.Classes.{named_texts, starts, texts}
use Rattle.predicate_cells.specs.Rising.{rising}
use Rattle.predicate_cells.proofs.RisingLists.{has, has_rising, length_members, rises}
use Rattle.predicate_cells.proofs.TextOrder.{bytes_eq_is}

-- products of no greater numbers
pub product_less : (a b c d : ℕ) → a ≤ b → c ≤ d → a * c ≤ b * d
product_less a b c d first second =
    let one = mul-le-mul_right c first in
    let two = mul-le-mul_left b second in
    omega (arith, one, two)

-- a list has no more members than one that has all of them
fewer_members : {B : Type 0} (cmp : B → B → Ordering) → IsTotalOrder cmp → (xs ys : List B)
    → ((q : B) → has cmp q xs ≡ true → has cmp q ys ≡ true)
    → length (members (eq_by_cmp cmp) xs) ≤ length (members (eq_by_cmp cmp) ys)
fewer_members cmp order xs ys among =
    let less : length (rising cmp xs) ≤ length (rising cmp ys) =
    length-le_from_is_member (eq_by_cmp_equiv order) (rising cmp xs) (rising cmp ys)
    (IsDistinct-from_sorted cmp (rising cmp xs) (rises cmp order xs))
    (λ q there. has_rising cmp order q ys ∙ among q (sym (has_rising cmp order q xs) ∙ there)) in
    omega (arith, less, length_members cmp order xs, length_members cmp order ys)

-- what a test finds among the one it finds among the others, but for `any`
pub record AreAmong (few many : List Predicate) : Type 0 where
  pub found : (test : Predicate → Bool) → test any ≡ false → list_any test few ≡ true
      → list_any test many ≡ true

-- a test finds one in what the elements of a list are mapped to, where it does so for one of them
any_mapped : {A B : Type 0} (test kept : B → Bool) (f : A → List B) (xs : List A)
    → list_any test (filter kept (flat_map f xs))
    ≡ list_any (λ x. list_any test (filter kept (f x))) xs
any_mapped test kept f [] = refl
any_mapped test kept f (x ∷ xs) =
    ap (list_any test) (filter-append kept (f x) (flat_map f xs))
    ∙ list_any-append test (filter kept (f x)) (filter kept (flat_map f xs))
    ∙ ap (λ (b : Bool). list_any test (filter kept (f x)) || b) (any_mapped test kept f xs)

module _ (few many : List Predicate) (among : AreAmong few many) where
  fewer_mapped : {B : Type 0} (cmp : B → B → Ordering) → IsTotalOrder cmp → (kept : B → Bool)
      (f : Predicate → List B) → f any ≡ []
      → length (members (eq_by_cmp cmp) (filter kept (flat_map f few)))
      ≤ length (members (eq_by_cmp cmp) (filter kept (flat_map f many)))
  fewer_mapped cmp order kept f nothing =
      fewer_members cmp order (filter kept (flat_map f few)) (filter kept (flat_map f many))
      (λ q there. any_mapped (eq_by_cmp cmp q) kept f many
      ∙ among.found (λ pred. list_any (eq_by_cmp cmp q) (filter kept (f pred)))
      (ap (λ xs. list_any (eq_by_cmp cmp q) (filter kept xs)) nothing)
      (sym (any_mapped (eq_by_cmp cmp q) kept f few) ∙ there))

  fewer_starts : (column : ℕ) → length (starts column few) ≤ length (starts column many)
  fewer_starts column = fewer_mapped int_cmp int_cmp_total begins_class (beginnings column) refl

  fewer_texts : (column : ℕ) → length (texts column few) ≤ length (texts column many)
  fewer_texts column =
      rw bytes_eq_is
      (fewer_mapped (slice_cmp nat_cmp) nat_list_cmp_total are_bytes (named_texts column) refl)

  fewer_classes : (kind : Kind) (column : ℕ)
      → class_count kind column few ≤ class_count kind column many
  fewer_classes Int column = let less = fewer_starts column in omega (arith, less)
  fewer_classes (Fixed digits) column = let less = fewer_starts column in omega (arith, less)
  fewer_classes Text column = let less = fewer_texts column in omega (arith, less)
  fewer_classes Number column = let less = fewer_starts column in omega (arith, less)
  fewer_classes Table column = omega arith

  pub fewer_cells : (at : ℕ) (columns : List Column)
      → count_from at columns few ≤ count_from at columns many
  fewer_cells at [] = omega arith
  fewer_cells at (column ∷ columns) =
      product_less (class_count column.kind at few) (class_count column.kind at many)
      (count_from (at + 1) columns few) (count_from (at + 1) columns many)
      (fewer_classes column.kind at) (fewer_cells (at + 1) columns)
