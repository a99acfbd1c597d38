-- Each class has a field.
use Rattle.std.proofs.Common.{◌≡◌, ℕ, zero, suc, zero-le, ◌+◌, ◌-◌, ◌<◌, ◌≤◌, ◌^◌, Bool, true}
use Rattle.std.proofs.Common.{false, cond, ℤ, pos, negsuc, neg_ℤ, List, [], ◌∷◌, ◌++◌, length}
use Rattle.std.proofs.Common.{get_or, int_cmp, nat_cmp, is_lt, is_eq, Less, Greater, refl, sym, ap}
use Rattle.std.proofs.Common.{subst, ⊎_elim, ◌∙◌, w64, arith}
use Rattle.std.specs.Prelude.{◌==◌, nat_le, nat_lt, int_le, FitsSigned}
use Rattle.std.specs.List.{AllByRecursion}
use Rattle.std.specs.List.Sorted.{IsStrictlySortedBy}
use Rattle.std.specs.Cmp.Lexicographic.{slice_cmp}
use Rattle.std.specs.Ordering.{ordering_reverse}
use Rattle.std.specs.Str.{bytes_eq}
use Rattle.std.proofs.lemmas.Bool.{and_from, cases_lt, leb-true, leb-false, eqb-true, eqb-false}
use Rattle.std.proofs.lemmas.Bool.Decides.{nat_tests}
use Rattle.std.proofs.lemmas.Cmp.{nat_cmp_total, nat_list_cmp_total, tied_itself}
use Rattle.std.proofs.lemmas.Int.{ints}
use Rattle.std.proofs.lemmas.List.{get_or_default, get_or_past}
use Rattle.std.proofs.lemmas.List.Elements.{All-from_recursion}
use Rattle.std.proofs.lemmas.List.Folds.{list_all-append, list_any_at, list_any_none}
use Rattle.std.proofs.lemmas.Map.Keys.{Less-from_sorted}
use Rattle.std.proofs.lemmas.Slice.Eq.{bytes_eq-Decides}
use Rattle.value_ops.specs.declared.field.Field.TheVariants as field
use Rattle.value_ops.specs.declared.scalar.Scalar.TheVariants as scalar
use Rattle.value_ops.specs.declared.value.Value.TheVariants as value
use Rattle.item_schema.specs.declared.column.Kind.{Kind}
use Rattle.item_schema.specs.declared.column.Kind.TheVariants.{Int, Fixed, Text, Number, Table}
use Rattle.value_ops.specs.Texts.{IsText, are_bytes}
use Rattle.value_ops.specs.Types.{IsScalar}
use Rattle.value_ops.proofs.EntryLaws.{empty_table}
use Rattle.item_schema.specs.Items.{IsFieldOf}
use Rattle.predicate_cells.specs.Classes.{begins_class}
use Rattle.predicate_cells.specs.Ranks.{count_by_kind, class_by_kind, field_by_kind, number_rank}
use Rattle.predicate_cells.specs.Ranks.{text_rank, number_of_class, other_text, scalar_of_class}
use Rattle.predicate_cells.proofs.Counts.{count_from_place}
use Rattle.predicate_cells.proofs.TextOrder.{bytes_eq_by_cmp}

-- the least number of 64 bits
abbrev least : ℤ
least = neg_ℤ (pos (2 ^ 63))

pub int_le_less : (x y : ℤ) → int_cmp x y ≡ Less → int_le x y ≡ true
int_le_less x y e = grind (arith, ints)

int_le_more : (x y : ℤ) → int_cmp x y ≡ Less → int_le y x ≡ false
int_le_more x y e = grind (arith, ints)

int_le_self : (x : ℤ) → int_le x x ≡ true
int_le_self x = grind (arith, ints)

not_least : (start : ℤ) → begins_class start ≡ true → int_le start least ≡ false
not_least start e = grind (arith, ints)

start_fits : (start : ℤ) → begins_class start ≡ true → FitsSigned w64 start
start_fits (pos n) e = record { sfits = grind (arith, nat_tests) }
start_fits (negsuc n) e = record { sfits = grind (arith, nat_tests) }

module _ (starts : List ℤ) (rise : IsStrictlySortedBy int_cmp starts)
    (begin : AllByRecursion (λ start. begins_class start ≡ true) starts) where
  start_at : (j k : ℕ) (d : ℤ) → j ≤ k → k < length starts
      → int_le (get_or starts j d) (get_or starts k d) ≡ true
  start_at j k d le lt = ⊎_elim before same (cases_lt j k)
    where
      before : j < k → int_le (get_or starts j d) (get_or starts k d) ≡ true
      before below = int_le_less (get_or starts j d) (get_or starts k d)
          (Less-from_sorted int_cmp starts j k d rise below lt)

      same : k ≤ j → int_le (get_or starts j d) (get_or starts k d) ≡ true
      same above = let is : j ≡ k = omega arith in rw is (int_le_self (get_or starts k d))

  -- a class of numbers begins with one of the class
  pub number_of_class_is : (class : ℕ) → class ≤ length starts
      → number_rank starts (number_of_class starts class) ≡ class
  number_of_class_is zero le =
      count_from_place (λ start. int_le start least) starts 0 zero-le
      (λ j d a b. absurd (omega arith))
      (λ j d a b. not_least (get_or starts j d) (All-from_recursion _ starts begin j d b))
  number_of_class_is (suc k) le =
      count_from_place (λ start. int_le start (get_or starts k least)) starts (suc k) le
      (λ j d a b. subst (λ x. int_le (get_or starts j d) x ≡ true)
      (get_or_default starts k d least le) (start_at j k d (omega arith) le))
      (λ j d a b. subst (λ x. int_le (get_or starts j d) x ≡ false)
      (get_or_default starts k d least le) (int_le_more (get_or starts k d) (get_or starts j d)
      (Less-from_sorted int_cmp starts k j d rise a b)))

  pub number_of_class_fits : (class : ℕ) → class ≤ length starts
      → FitsSigned w64 (number_of_class starts class)
  number_of_class_fits zero le = record { sfits = omega arith }
  number_of_class_fits (suc k) le =
      start_fits (get_or starts k least) (All-from_recursion _ starts begin k least le)

-- what a text is before is after it
pub after_is : (s t : List ℕ) → slice_cmp nat_cmp s t ≡ Less → slice_cmp nat_cmp t s ≡ Greater
after_is s t e = nat_list_cmp_total.antisymm t s ∙ ap ordering_reverse e

-- a text is before any that extends it
continues : (s : List ℕ) (b : ℕ) → slice_cmp nat_cmp s (s ++ b ∷ []) ≡ Less
continues [] b = refl
continues (x ∷ s) b = rw (tied_itself nat_cmp_total x) (continues s b)

module _ (texts : List (List ℕ)) (rise : IsStrictlySortedBy (slice_cmp nat_cmp) texts) where
  in_order : (j k : ℕ) (d : List ℕ) → j < k → k < length texts
      → slice_cmp nat_cmp (get_or texts j d) (get_or texts k d) ≡ Less
  in_order j k d below lt = Less-from_sorted (slice_cmp nat_cmp) texts j k d rise below lt

  not_earlier : (j k : ℕ) (d : List ℕ) → k ≤ j → j < length texts
      → is_lt (slice_cmp nat_cmp (get_or texts j d) (get_or texts k d)) ≡ false
  not_earlier j k d le lt = ⊎_elim after same (cases_lt k j)
    where
      after : k < j → is_lt (slice_cmp nat_cmp (get_or texts j d) (get_or texts k d)) ≡ false
      after below =
          ap is_lt (after_is (get_or texts k d) (get_or texts j d) (in_order k j d below lt))

      same : j ≤ k → is_lt (slice_cmp nat_cmp (get_or texts j d) (get_or texts k d)) ≡ false
      same above = let is : j ≡ k = omega arith in
          rw is (ap is_lt (tied_itself nat_list_cmp_total (get_or texts k d)))

  -- a text is of the class of its place
  pub text_at_is : (class : ℕ) (d : List ℕ) → class < length texts
      → text_rank texts (get_or texts class d) ≡ class
  text_at_is class d lt =
      let s = get_or texts class d in
      let member = list_any_at (bytes_eq s) texts class d lt ((bytes_eq-Decides s s).1 refl) in
      rw member
      (count_from_place (λ named. is_lt (slice_cmp nat_cmp named s)) texts class (omega arith)
      (λ j e a b. subst (λ t. is_lt (slice_cmp nat_cmp (get_or texts j e) t) ≡ true)
      (get_or_default texts class e d lt) (ap is_lt (in_order j class e b lt)))
      (λ j e a b. subst (λ t. is_lt (slice_cmp nat_cmp (get_or texts j e) t) ≡ false)
      (get_or_default texts class e d lt) (not_earlier j class e a b)))

  -- each text is before the one that extends the last
  all_before : (j : ℕ) (d : List ℕ) → j < length texts
      → slice_cmp nat_cmp (get_or texts j d) (other_text texts) ≡ Less
  all_before j d lt =
      rw (get_or_default texts j d [] lt) (⊎_elim earlier same (cases_lt j (length texts - 1)))
    where
      last : slice_cmp nat_cmp (get_or texts (length texts - 1) []) (other_text texts) ≡ Less
      last = continues (get_or texts (length texts - 1) []) 95

      earlier : j < length texts - 1
          → slice_cmp nat_cmp (get_or texts j []) (other_text texts) ≡ Less
      earlier below =
          nat_list_cmp_total.trans (get_or texts j []) (get_or texts (length texts - 1) [])
          (other_text texts) (in_order j (length texts - 1) [] below (omega arith)) last

      same : length texts - 1 ≤ j → slice_cmp nat_cmp (get_or texts j []) (other_text texts) ≡ Less
      same above = let is : j ≡ length texts - 1 = omega arith in rw is last

  -- and that one is none of them
  pub other_text_is : text_rank texts (other_text texts) ≡ length texts
  other_text_is =
      rw (list_any_none (bytes_eq (other_text texts))
      texts (λ j d lt. bytes_eq_by_cmp (other_text texts) (get_or texts j d)
      ∙ ap is_eq (after_is (get_or texts j d) (other_text texts) (all_before j d lt)))) refl

-- the text after all others is one
other_text_bytes : (texts : List (List ℕ)) → AllByRecursion IsText texts → IsText (other_text texts)
other_text_bytes texts bytes =
    list_all-append (λ b. nat_lt b 256) (get_or texts (length texts - 1) []) (95 ∷ [])
    ∙ and_from (are_bytes (get_or texts (length texts - 1) [])) true
    (⊎_elim last none (cases_lt (length texts - 1) (length texts))) refl
  where
    last : length texts - 1 < length texts → IsText (get_or texts (length texts - 1) [])
    last below = All-from_recursion _ texts bytes (length texts - 1) [] below

    none : length texts ≤ length texts - 1 → IsText (get_or texts (length texts - 1) [])
    none above = rw (get_or_past texts (length texts - 1) [] above) refl

module _ (starts : List ℤ) (texts : List (List ℕ)) (rise : IsStrictlySortedBy int_cmp starts)
    (begin : AllByRecursion (λ start. begins_class start ≡ true) starts)
    (order : IsStrictlySortedBy (slice_cmp nat_cmp) texts)
    (bytes : AllByRecursion IsText texts) where
  text_in_class : (class : ℕ) → class < length texts + 1
      → text_rank texts (get_or texts class (other_text texts)) ≡ class
  text_in_class class lt = ⊎_elim named other (cases_lt class (length texts))
    where
      named : class < length texts → text_rank texts (get_or texts class (other_text texts)) ≡ class
      named below = text_at_is texts order class (other_text texts) below

      other : length texts ≤ class → text_rank texts (get_or texts class (other_text texts)) ≡ class
      other above = rw (get_or_past texts class (other_text texts) above)
          (omega (arith, other_text_is texts order))

  scalar_in_class : (class : ℕ) → class < length starts + 3
      → (class_by_kind Number starts texts (field.Val (value.Scalar (scalar_of_class starts class)))
      ≡ class) × IsScalar (scalar_of_class starts class)
  scalar_in_class class lt =
      by (nat_le class (length starts)) (class == length starts + 1) refl refl
    where
      by : (a b : Bool) → nat_le class (length starts) ≡ a → (class == length starts + 1) ≡ b
          → let scalar = cond a (scalar.Number (number_of_class starts class))
          (cond b scalar.Overflow scalar.DivZero) in
          (class_by_kind Number starts texts (field.Val (value.Scalar scalar)) ≡ class)
          × IsScalar scalar
      by true b e f = (
        number_of_class_is starts rise begin class (leb-true _ _ e),
        number_of_class_fits starts rise begin class (leb-true _ _ e),
      )
      by false true e f = (sym (eqb-true _ _ f), tt)
      by false false e f = let more = leb-false _ _ e in let other = eqb-false _ _ f in
          (omega arith, tt)

  -- a field of a class is of the class
  pub class_in_field : (kind : Kind) (class : ℕ) → class < count_by_kind kind starts texts
      → class_by_kind kind starts texts (field_by_kind kind starts texts class) ≡ class
  class_in_field Int class lt = number_of_class_is starts rise begin class (omega arith)
  class_in_field (Fixed digits) class lt = number_of_class_is starts rise begin class (omega arith)
  class_in_field Text class lt = text_in_class class lt
  class_in_field Number class lt = (scalar_in_class class lt).0
  class_in_field Table class lt = omega arith

  -- a text of a class is one
  text_is : (class : ℕ) → IsText (get_or texts class (other_text texts))
  text_is class = ⊎_elim named other (cases_lt class (length texts))
    where
      named : class < length texts → IsText (get_or texts class (other_text texts))
      named below = All-from_recursion _ texts bytes class (other_text texts) below

      other : length texts ≤ class → IsText (get_or texts class (other_text texts))
      other above =
          rw (get_or_past texts class (other_text texts) above) (other_text_bytes texts bytes)

  -- and of the column's kind
  pub field_in_is : (kind : Kind) (class : ℕ) → class < count_by_kind kind starts texts
      → IsFieldOf kind (field_by_kind kind starts texts class)
  field_in_is Int class lt = number_of_class_fits starts rise begin class (omega arith)
  field_in_is (Fixed digits) class lt = number_of_class_fits starts rise begin class (omega arith)
  field_in_is Text class lt = text_is class
  field_in_is Number class lt = (scalar_in_class class lt).1
  field_in_is Table class lt = empty_table
