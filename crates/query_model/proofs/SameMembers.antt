-- Lists of predicates with the same members part items in the same way.
use Rattle.std.proofs.Common.{◌≡◌, ◌<◌, inl, inr, ◌*◌, ◌+◌, ℕ, suc, zero, Bool, true, false, ◌||◌}
use Rattle.std.proofs.Common.{List, [], ◌∷◌, ◌++◌, length, int_cmp, nat_cmp, is_eq, Ordering, Equal}
use Rattle.std.proofs.Common.{refl, sym, subst, append_assoc, ap, ap₂, ◌∙◌, true≢false, arith}
use Rattle.std.specs.Prelude.{filter, nat_le, ◌≤◌}
use Rattle.std.specs.Cmp.{IsTotalOrder}
use Rattle.std.specs.Cmp.Lexicographic.{slice_cmp}
use Rattle.std.specs.List.{Contains, flat_map, list_any}
use Rattle.std.specs.Ordering.{eq_by_cmp}
use Rattle.std.proofs.lemmas.Bool.Decides.{Decides-int_eq, nat_tests}
use Rattle.std.proofs.lemmas.Cmp.{int_cmp_total, nat_list_cmp_total}
use Rattle.std.proofs.lemmas.List.Elements.{All-contains, All-contains_itself, All-weaker}
use Rattle.std.proofs.lemmas.List.Elements.{filter-append, Contains-append_cases}
use Rattle.std.proofs.lemmas.List.Elements.{Contains-append_left, Contains-append_right}
use Rattle.std.proofs.lemmas.List.Folds.{list_any-append}
use Rattle.std.proofs.lemmas.List.Sums.{AllPass-from_list_all, list_all-from_AllPass}
use Rattle.value_ops.specs.Texts.{are_bytes}
use Rattle.item_schema.specs.declared.column.Column.{Column}
use Rattle.item_schema.specs.declared.column.Kind.{Kind}
use Rattle.item_schema.specs.declared.column.Kind.TheVariants.{Int, Fixed, Text, Number, Table}
use Rattle.language_base.specs.Limits.{max_cells}
use Rattle.predicate_cells.specs.Cells.{AllFit, count_from}
use Rattle.predicate_cells.specs.Classes.{beginnings, begins_class, class_count, members}
use Rattle.predicate_cells.specs.Classes.{named_texts, starts, texts}
use Rattle.predicates.specs.Fits.{fits}
use Rattle.predicates.specs.Predicates.{Predicate}
use Rattle.predicate_cells.specs.Rising.{rising}
use Rattle.predicate_cells.proofs.RisingLists.{has, has_rising, length_members, one_rising, rises}
use Rattle.predicate_cells.proofs.TextOrder.{bytes_eq_is, same_text}
use Rattle.query_model.specs.Members.{Gathers, HaveSameMembers, StandOnce}

module _ {A : Type 0} (test : A → Bool) where
  -- a member that passes a test
  any_of : (xs : List A) → list_any test xs ≡ true → (x : A) × Contains xs x × (test x ≡ true)
  any_of [] found = absurd (true≢false (sym found))
  any_of (x ∷ xs) found = by (test x) refl (any_of xs) found
    where
      by : (b : Bool) → test x ≡ b
          → (list_any test xs ≡ true → (y : A) × Contains xs y × (test y ≡ true))
          → (b || list_any test xs) ≡ true → (y : A) × Contains (x ∷ xs) y × (test y ≡ true)
      by true here later found = (x, (0, omega arith, refl), here)
      by false here later found =
          let (y, (k, within, is), passes) = later found in (y, (suc k, omega arith, is), passes)

  any_in : (xs : List A) (x : A) → Contains xs x → test x ≡ true → list_any test xs ≡ true
  any_in [] x (k, within, is) passes = absurd (omega arith)
  any_in (y ∷ xs) x (zero, within, is) passes = rw (is, passes) refl
  any_in (y ∷ xs) x (suc k, within, is) passes =
      by (test y) (any_in xs x (k, omega arith, is) passes)
    where
      by : (b : Bool) → list_any test xs ≡ true → (b || list_any test xs) ≡ true
      by true later = refl
      by false later = later

both_or_neither : (a b : Bool) → (a ≡ true → b ≡ true) → (b ≡ true → a ≡ true) → a ≡ b
both_or_neither true b there back = sym (there refl)
both_or_neither false true there back = back refl
both_or_neither false false there back = refl

-- a test finds one in what the members of a list are mapped to, where it does so for some member
any_mapped : {A B : Type 0} (test kept : B → Bool) (f : A → List B) (xs : List A)
    → list_any test (filter kept (flat_map f xs))
    ≡ list_any (λ x. list_any test (filter kept (f x))) xs
any_mapped test kept f [] = refl
any_mapped test kept f (x ∷ xs) =
    ap (list_any test) (filter-append kept (f x) (flat_map f xs))
    ∙ list_any-append test (filter kept (f x)) (filter kept (flat_map f xs))
    ∙ ap (λ (b : Bool). list_any test (filter kept (f x)) || b) (any_mapped test kept f xs)

-- lists that grow by the same list, and two that have the members of a third
same_with : (one other more : List Predicate) → HaveSameMembers one other
    → HaveSameMembers (one ++ more) (other ++ more)
same_with one other more same pred = (half one other (same pred).0, half other one (same pred).1)
  where
    half : (xs ys : List Predicate) → (Contains xs pred → Contains ys pred)
        → Contains (xs ++ more) pred → Contains (ys ++ more) pred
    half xs ys there is_in =
        elim (Contains-append_cases xs more pred is_in) [
          | inl front ↦ Contains-append_left ys more pred (there front)
          | inr back ↦ Contains-append_right ys more pred back
        ]

same_through : (one middle other : List Predicate) → HaveSameMembers one middle
    → HaveSameMembers middle other → HaveSameMembers one other
same_through one middle other first second pred = (
  λ is_in. (second pred).0 ((first pred).0 is_in),
  λ is_in. (first pred).1 ((second pred).1 is_in),
)

-- one list is added to some, and then another
pub added_both : (old middle new first second : List Predicate)
    → HaveSameMembers middle (old ++ first) → HaveSameMembers new (middle ++ second)
    → HaveSameMembers new (old ++ (first ++ second))
added_both old middle new first second one two =
    subst (HaveSameMembers new) (append_assoc old first second)
    (same_through new (middle ++ second) (old ++ first ++ second) two
    (same_with middle (old ++ first) second one))

-- a list is gathered from, and then another
pub gathered_both : (old middle new first second : List Predicate) → Gathers old first middle
    → Gathers middle second new → Gathers old (first ++ second) new
gathered_both old middle new first second one two = record {
  members = added_both old middle new first second one.members two.members;
  once = λ was. two.once (one.once was);
}

-- a list that has each member once has so after one that is not among them
once_more : (preds : List Predicate) (pred : Predicate) → StandOnce preds
    → (Contains preds pred → ⊥) → StandOnce (preds ++ pred ∷ [])
unfolding StandOnce
once_more [] pred was new = (λ is_in. let (k, within, is) = is_in in omega arith, tt)
once_more (other ∷ preds) pred was new = (
  λ is_in. elim (Contains-append_cases preds (pred ∷ []) other is_in) [
    | inl front ↦ was.0 front
    | inr back ↦ new (0, omega arith, same back)
  ],
  once_more preds pred was.1 (λ is_in. let (k, within, is) = is_in in new (suc k, omega arith, is)),
)
  where
    same : Contains (pred ∷ []) other → other ≡ pred
    same (zero, within, is) = sym is
    same (suc k, within, is) = absurd (omega arith)

-- or it is added to them
pub gathered_new : (old : List Predicate) (pred : Predicate) → (Contains old pred → ⊥)
    → Gathers old (pred ∷ []) (old ++ pred ∷ [])
gathered_new old pred unknown = record {
  members = λ other. (λ is_in. is_in, λ is_in. is_in);
  once = λ was. once_more old pred was unknown;
}

-- nothing stands twice in the empty list
pub none_stands : StandOnce []
unfolding StandOnce
none_stands = tt

module _ (one other : List Predicate) (same : HaveSameMembers one other) where
  same_any : (test : Predicate → Bool) → list_any test one ≡ list_any test other
  same_any test =
      both_or_neither (list_any test one) (list_any test other)
      (λ found. let (x, is_in, passes) = any_of test one found in
      any_in test other x ((same x).0 is_in) passes)
      (λ found. let (x, is_in, passes) = any_of test other found in
      any_in test one x ((same x).1 is_in) passes)

  -- what their members are mapped to is as many, each once
  as_many : {B : Type 0} (cmp : B → B → Ordering) → IsTotalOrder cmp
      → ((x y : B) → cmp x y ≡ Equal → x ≡ y) → (kept : B → Bool) (f : Predicate → List B)
      → length (members (eq_by_cmp cmp) (filter kept (flat_map f one)))
      ≡ length (members (eq_by_cmp cmp) (filter kept (flat_map f other)))
  as_many cmp order real kept f =
      let xs = filter kept (flat_map f one) in
      let ys = filter kept (flat_map f other) in
      let alike : (q : _) → has cmp q xs ≡ has cmp q ys = λ q.
      any_mapped (eq_by_cmp cmp q) kept f one
      ∙ same_any (λ pred. list_any (eq_by_cmp cmp q) (filter kept (f pred)))
      ∙ sym (any_mapped (eq_by_cmp cmp q) kept f other) in
      length_members cmp order xs
      ∙ ap length (one_rising cmp order real (rising cmp xs) (rising cmp ys) (rises cmp order xs)
      (rises cmp order ys)
      (λ q. has_rising cmp order q xs ∙ alike q ∙ sym (has_rising cmp order q ys)))
      ∙ sym (length_members cmp order ys)

  as_many_starts : (column : ℕ) → length (starts column one) ≡ length (starts column other)
  as_many_starts column =
      as_many int_cmp int_cmp_total (λ x y e. (Decides-int_eq x y).0 (ap is_eq e)) begins_class
      (beginnings column)

  as_many_texts : (column : ℕ) → length (texts column one) ≡ length (texts column other)
  as_many_texts column =
      rw bytes_eq_is
      (as_many (slice_cmp nat_cmp) nat_list_cmp_total same_text are_bytes (named_texts column))

  as_many_classes : (kind : Kind) (column : ℕ)
      → class_count kind column one ≡ class_count kind column other
  as_many_classes Int column = ap (λ (n : ℕ). n + 1) (as_many_starts column)
  as_many_classes (Fixed digits) column = ap (λ (n : ℕ). n + 1) (as_many_starts column)
  as_many_classes Text column = ap (λ (n : ℕ). n + 1) (as_many_texts column)
  as_many_classes Number column = ap (λ (n : ℕ). n + 3) (as_many_starts column)
  as_many_classes Table column = refl

  -- there are as many cells
  pub as_many_cells : (at : ℕ) (columns : List Column)
      → count_from at columns one ≡ count_from at columns other
  as_many_cells at [] = refl
  as_many_cells at (column ∷ columns) =
      ap₂ (λ (m n : ℕ). m * n) (as_many_classes column.kind at) (as_many_cells (at + 1) columns)

  -- and all fit where all of the others do
  pub all_fit_alike : (columns : List Column) → AllFit columns other → AllFit columns one
  all_fit_alike columns fit =
      let does : Predicate → Type 0 = λ pred. fits columns pred ≡ true in
      let all = AllPass-from_list_all (fits columns) other fit in
      list_all-from_AllPass (fits columns) one
      (All-weaker (Contains one) does
      (λ pred is_in. All-contains does other pred all ((same pred).0 is_in)) one
      (All-contains_itself one))

  -- few or too many alike
  pub few_alike : (columns : List Column) → count_from 0 columns one ≤ max_cells
      → nat_le (count_from 0 columns other) max_cells ≡ true
  few_alike columns few = rw (← as_many_cells 0 columns) (grind (arith, nat_tests, few))

  pub many_alike : (columns : List Column) → max_cells < count_from 0 columns one
      → nat_le (count_from 0 columns other) max_cells ≡ false
  many_alike columns many = rw (← as_many_cells 0 columns) (grind (arith, nat_tests, many))
