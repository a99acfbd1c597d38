-- Fields of one class are alike to each of the predicates that the classes are of.
use Rattle.std.proofs.Common.{◌≡◌, ℕ, Bool, true, false, ℤ, cond, ◌≢◌, List, length, int_eq}
use Rattle.std.proofs.Common.{nat_cmp, is_lt, refl, sym, ap, subst, ◌∙◌, inl, inr, ◌⊎◌, true≢false}
use Rattle.std.proofs.Common.{w64, Ordering, Less, Equal, Greater, arith}
use Rattle.std.specs.Prelude.{int_le, count_by, FitsSigned}
use Rattle.std.specs.List.{list_any, flat_map, AllByRecursion}
use Rattle.std.specs.Str.{bytes_eq}
use Rattle.std.specs.Cmp.Lexicographic.{slice_cmp}
use Rattle.std.proofs.lemmas.Bool.Decides.{Decides-int_eq}
use Rattle.std.proofs.lemmas.Cmp.{nat_list_cmp_total, tied_itself}
use Rattle.std.proofs.lemmas.Int.{ints}
use Rattle.std.proofs.lemmas.Slice.Eq.{bytes_eq-Decides}
use Rattle.value_ops.specs.Texts.{IsText, are_bytes}
use Rattle.predicate_cells.specs.Classes.{beginnings, named_texts, begins_class, starts, texts}
use Rattle.predicate_cells.specs.Classes.{number_class, text_class}
use Rattle.predicates.specs.Predicates.{Predicate}
use Rattle.predicate_cells.proofs.AllMembers.{all_filtered, all_members, all_found, all_each}
use Rattle.predicate_cells.proofs.AllMembers.{all_any, all_both, none_passes}
use Rattle.predicate_cells.proofs.Counts.{same_from_count, count_all}
use Rattle.predicate_cells.proofs.TextOrder.{same_text, lt_before, turned}

-- the least of two numbers is at most what is at most the other
pub at_most : (start x y : ℤ) → int_le x y ≡ true → int_le start x ≡ true → int_le start y ≡ true
at_most start x y le h = grind (arith, ints)

either_le : (x y : ℤ) → (int_le x y ≡ true) ⊎ (int_le y x ≡ true)
either_le x y = grind (arith, ints)

-- what begins no class is at most all numbers of 64 bits or none
no_beginning : (x y : ℤ) → FitsSigned w64 x → FitsSigned w64 y → (start : ℤ)
    → begins_class start ≡ false → int_le start x ≡ int_le start y
no_beginning x y f g start e = grind (arith, ints)

-- what is no text is none of two texts
other_than : (s n : List ℕ) (b : Bool) → IsText s → are_bytes n ≡ false → bytes_eq s n ≡ b
    → bytes_eq s n ≡ false
other_than s n true text other is =
    absurd (true≢false (sym text ∙ ap are_bytes ((bytes_eq-Decides s n).0 is) ∙ other))
other_than s n false text other is = is

no_named : (s t : List ℕ) → IsText s → IsText t → (n : List ℕ) → are_bytes n ≡ false
    → bytes_eq s n ≡ bytes_eq t n
no_named s t a b n other =
    other_than s n (bytes_eq s n) a other refl ∙ sym (other_than t n (bytes_eq t n) b other refl)

-- numbers that are at least as many of the same list
le_agree : (xs : List ℤ) (x y : ℤ) → int_le x y ≡ true
    → count_by (λ start. int_le start x) xs ≡ count_by (λ start. int_le start y) xs
    → AllByRecursion (λ start. int_le start x ≡ int_le start y) xs
le_agree xs x y le e = same_from_count (λ start. int_le start x) (λ start. int_le start y)
    (λ start. at_most start x y le) xs e

agree : (xs : List ℤ) (x y : ℤ)
    → count_by (λ start. int_le start x) xs ≡ count_by (λ start. int_le start y) xs
    → (int_le x y ≡ true) ⊎ (int_le y x ≡ true)
    → AllByRecursion (λ start. int_le start x ≡ int_le start y) xs
agree xs x y e (inl le) = le_agree xs x y le e
agree xs x y e (inr le) = all_each _ _ (λ start same. sym same) xs (le_agree xs y x le (sym e))

-- a text is not before itself
not_before : (s : List ℕ) (b : Bool) → b ≡ true → is_lt (slice_cmp nat_cmp s s) ≡ b → ⊥
not_before s b t e = true≢false (sym t ∙ sym e ∙ ap is_lt (tied_itself nat_list_cmp_total s))

module _ (named : List (List ℕ)) where
  abbrev rank : List ℕ → ℕ
  rank s = count_by (λ n. is_lt (slice_cmp nat_cmp n s)) named

  -- some text is not before a member
  below_all : (s : List ℕ) → list_any (bytes_eq s) named ≡ true → rank s ≢ length named
  below_all s member e =
      let all = same_from_count (λ n. is_lt (slice_cmp nat_cmp n s)) (λ n. true) (λ n h. refl) named
      (e ∙ sym (count_all named)) in
      not_before s true refl
      (all_found _ bytes_eq (λ x y. (bytes_eq-Decides x y).0) s named all member)

  -- members are determined by their ranks
  not_less : (s t : List ℕ) → list_any (bytes_eq s) named ≡ true → rank s ≡ rank t
      → slice_cmp nat_cmp s t ≡ Less → ⊥
  not_less s t member e less =
      let all = same_from_count (λ n. is_lt (slice_cmp nat_cmp n s))
      (λ n. is_lt (slice_cmp nat_cmp n t)) (λ n. lt_before s t n less) named e in
      not_before s _ (ap is_lt less)
      (all_found _ bytes_eq (λ x y. (bytes_eq-Decides x y).0) s named all member)

  ranked_once : (s t : List ℕ) → list_any (bytes_eq s) named ≡ true
      → list_any (bytes_eq t) named ≡ true → rank s ≡ rank t → s ≡ t
  ranked_once s t a b e = by (slice_cmp nat_cmp s t) refl
    where
      by : (r : Ordering) → slice_cmp nat_cmp s t ≡ r → s ≡ t
      by Less is = absurd (not_less s t a e is)
      by Equal is = same_text s t is
      by Greater is = absurd (not_less t s b (sym e) (turned s t is))

  -- texts of one rank, or of none, are the same members
  texts_agree : (s t : List ℕ) (a b : Bool) → list_any (bytes_eq s) named ≡ a
      → list_any (bytes_eq t) named ≡ b
      → cond a (rank s) (length named) ≡ cond b (rank t) (length named)
      → AllByRecursion (λ n. bytes_eq s n ≡ bytes_eq t n) named
  texts_agree s t true true a b e =
      subst (λ z. AllByRecursion (λ n. bytes_eq s n ≡ bytes_eq z n) named) (ranked_once s t a b e)
      (all_any (λ n. refl) named)
  texts_agree s t true false a b e = absurd (below_all s a e)
  texts_agree s t false true a b e = absurd (below_all t b (sym e))
  texts_agree s t false false a b e = all_both (λ n x y. x ∙ sym y) named
      (none_passes (bytes_eq s) named a) (none_passes (bytes_eq t) named b)

module _ (column : ℕ) (preds : List Predicate) where
  -- numbers of one class are at least the same beginnings
  pub numbers_agree : (x y : ℤ) → FitsSigned w64 x → FitsSigned w64 y
      → number_class column preds x ≡ number_class column preds y
      → AllByRecursion (λ start. int_le start x ≡ int_le start y)
      (flat_map (beginnings column) preds)
  numbers_agree x y f g e =
      let P = λ (start : ℤ). int_le start x ≡ int_le start y in
      all_filtered P begins_class (no_beginning x y f g) (flat_map (beginnings column) preds)
      (all_members P int_eq (λ a b. (Decides-int_eq a b).0) _
      (agree (starts column preds) x y e (either_le x y)))

  -- texts of one class are the same of the named ones, or none
  pub named_agree : (s t : List ℕ) → IsText s → IsText t
      → text_class column preds s ≡ text_class column preds t
      → AllByRecursion (λ n. bytes_eq s n ≡ bytes_eq t n) (flat_map (named_texts column) preds)
  named_agree s t a b e =
      let P = λ (n : List ℕ). bytes_eq s n ≡ bytes_eq t n in
      all_filtered P are_bytes (no_named s t a b) (flat_map (named_texts column) preds)
      (all_members P bytes_eq (λ x y. (bytes_eq-Decides x y).0) _
      (texts_agree (texts column preds) s t _ _ refl refl e))
