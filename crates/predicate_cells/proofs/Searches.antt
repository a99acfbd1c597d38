-- What a search in a rising list answers.
use Rattle.std.proofs.Common.{◌≡◌, ℕ, zero-le, ◌+◌, ◌<◌, ◌≤◌, true, false, ℤ, List, length, get_or}
use Rattle.std.proofs.Common.{int_cmp, nat_cmp, is_lt, is_eq, Ordering, Less, Equal, Greater, Err}
use Rattle.std.proofs.Common.{refl, ap, subst, ◌∙◌, ⊎_elim, arith}
use Rattle.std.specs.Prelude.{int_le}
use Rattle.std.specs.Cmp.Lexicographic.{slice_cmp}
use Rattle.std.specs.List.{HoldsAt}
use Rattle.std.specs.List.Sorted.{IsStrictlySortedBy, IsPartitionedBy, IsPartitionPoint}
use Rattle.std.specs.List.Sorted.{IsBinarySearchResult, IsSorted}
use Rattle.std.specs.Ordering.{ordering_reverse}
use Rattle.std.specs.Str.{bytes_eq}
use Rattle.std.proofs.lemmas.Bool.{cases_lt}
use Rattle.std.proofs.lemmas.Cmp.{nat_list_cmp_total}
use Rattle.std.proofs.lemmas.List.Folds.{list_any_none}
use Rattle.std.proofs.lemmas.List.Sorted.{searchable_from_sorted}
use Rattle.std.proofs.lemmas.Map.Keys.{Less-from_sorted}
use Rattle.predicate_cells.specs.Ranks.{number_rank, text_rank}
use Rattle.predicate_cells.proofs.ClassFields.{int_le_less, after_is, text_at_is}
use Rattle.predicate_cells.proofs.Counts.{count_from_place}
use Rattle.predicate_cells.proofs.SameClass.{at_most}
use Rattle.predicate_cells.proofs.TextOrder.{bytes_eq_by_cmp, same_text}

-- numbers that are at most another one come first
pub at_most_first : (starts : List ℤ) (n : ℤ) → IsStrictlySortedBy int_cmp starts
    → IsPartitionedBy (λ start. int_le start n) starts
at_most_first starts n rise i j d le lt h = ⊎_elim before same (cases_lt i j)
  where
    before : i < j → int_le (get_or starts i d) n ≡ true
    before below =
        at_most (get_or starts i d) (get_or starts j d) n h
        (int_le_less (get_or starts i d) (get_or starts j d)
        (Less-from_sorted int_cmp starts i j d rise below lt))

    same : j ≤ i → int_le (get_or starts i d) n ≡ true
    same above = let is : i ≡ j = omega arith in rw is h

-- so a number is of the class of the place after them
pub number_searched : (starts : List ℤ) (n : ℤ) (place : ℕ) → place ≤ length starts
    → IsPartitionPoint (λ start. int_le start n ≡ true) (λ start. int_le start n ≡ false) starts
    place → number_rank starts n ≡ place
number_searched starts n place le parts =
    count_from_place (λ start. int_le start n) starts place le parts.0 parts.1

-- a list that rises is sorted
sorted_texts : (texts : List (List ℕ)) → IsStrictlySortedBy (slice_cmp nat_cmp) texts
    → IsSorted (slice_cmp nat_cmp) texts
sorted_texts texts rise k d low lt =
    ap is_lt (after_is (get_or texts k d) (get_or texts (k + 1) d)
    (Less-from_sorted (slice_cmp nat_cmp) texts k (k + 1) d rise (omega arith) lt))

-- texts that stand apart are two
apart : (s t : List ℕ) (r : Ordering) → is_eq (ordering_reverse r) ≡ false
    → slice_cmp nat_cmp t s ≡ r → bytes_eq s t ≡ false
apart s t r other e =
    bytes_eq_by_cmp s t ∙ ap is_eq (nat_list_cmp_total.antisymm s t ∙ ap ordering_reverse e) ∙ other

-- a text that is found is of the class of its place
pub text_found : (texts : List (List ℕ)) (s : List ℕ) (place : ℕ)
    → IsStrictlySortedBy (slice_cmp nat_cmp) texts → place < length texts
    → HoldsAt (λ t. slice_cmp nat_cmp t s ≡ Equal) texts place → text_rank texts s ≡ place
text_found texts s place rise lt found =
    subst (λ t. text_rank texts t ≡ place) (same_text (get_or texts place s) s (found s))
    (text_at_is texts rise place s lt)

-- and one that is not is of the last class
pub text_missed : (texts : List (List ℕ)) (s : List ℕ) (place : ℕ)
    → IsStrictlySortedBy (slice_cmp nat_cmp) texts
    → IsBinarySearchResult (λ t. slice_cmp nat_cmp t s) texts (Err place)
    → text_rank texts s ≡ length texts
text_missed texts s place rise missed =
    let parts = missed (searchable_from_sorted nat_list_cmp_total (λ (t : List ℕ). t) texts s
    (sorted_texts texts rise)) in
    let none = λ (j : ℕ) (d : List ℕ) (lt : j < length texts). ⊎_elim
    (λ below. apart s (get_or texts j d) Less refl (parts.0 j d zero-le below))
    (λ above. apart s (get_or texts j d) Greater refl (parts.1 j d above lt)) (cases_lt j place) in
    rw (list_any_none (bytes_eq s) texts none) refl
