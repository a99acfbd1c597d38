-- Masks of positions, linked.
use Rattle.std.proofs.Common.{◌≡◌, ◌⊎◌, inl, inr, ℕ, zero, suc, ◌+◌, ◌<◌, ◌==◌, true, List, [], ◌∷◌}
use Rattle.std.proofs.Common.{length, get_or, slice_get, Some, refl, sym, ap, ◌∙◌, subst, arith}
use Rattle.std.proofs.lemmas.Bool.Decides.{nat_tests}
use Rattle.std.proofs.lemmas.List.{ext_get_or}
use Rattle.std.specs.Int.{bit_at}
use Rattle.rate_expr.specs.Parts.{linked, all_linked}
use Rattle.rate_expr.specs.Sets.{Has}
use Rattle.rate_expr.proofs.MaskMembers.{has_kept, has_more, has_no_more}

-- as many as there were
pub length-all_linked : (from to at : ℕ) (masks : List ℕ)
    → length (all_linked from to at masks) ≡ length masks
length-all_linked from to at [] = refl
length-all_linked from to at (mask ∷ masks) = ap suc (length-all_linked from to (at + 1) masks)

-- each is linked
pub get_or-all_linked : (from to at : ℕ) (masks : List ℕ) (i : ℕ) → i < length masks
    → get_or (all_linked from to at masks) i 0 ≡ linked from to (at + i) (get_or masks i 0)
get_or-all_linked from to at [] i below = absurd (omega arith)
get_or-all_linked from to at (mask ∷ masks) zero below =
    let same : at ≡ at + zero = omega arith in ap (λ n. linked from to n mask) same
get_or-all_linked from to at (mask ∷ masks) (suc i) below =
    let same : (at + 1) + i ≡ at + suc i = omega arith in
    get_or-all_linked from to (at + 1) masks i (omega arith)
    ∙ ap (λ n. linked from to n (get_or masks i 0)) same

-- masks that are linked one by one are linked
pub linked_each : (from to : ℕ) (masks others : List ℕ) → length others ≡ length masks
    → ((i : ℕ) → i < length masks → get_or others i 0 ≡ linked from to i (get_or masks i 0))
    → others ≡ all_linked from to 0 masks
linked_each from to masks others same each =
    ext_get_or 0 others (all_linked from to 0 masks)
    (same ∙ sym (length-all_linked from to 0 masks))
    (λ i below. let within : i < length masks = omega arith in
    let at : i ≡ 0 + i = omega arith in
    each i within ∙ ap (λ n. linked from to n (get_or masks i 0)) at
    ∙ sym (get_or-all_linked from to 0 masks i within))

-- after the one position words continue at the other
abbrev pub Goes : List ℕ → ℕ → ℕ → Type 0
Goes masks i n = (mask : ℕ) × (slice_get masks i ≡ Some mask) × Has mask n

-- where words continue, they still do
pub goes_kept : (from to at : ℕ) (masks : List ℕ) (i n : ℕ) → Goes masks i n
    → Goes (all_linked from to at masks) i n
goes_kept from to at [] i n (mask, is, has) = absurd (cc)
goes_kept from to at (first ∷ masks) zero n (mask, is, has) =
    let same : first ≡ mask = cc in (
      linked from to at first,
      refl,
      has_kept first (bit_at from at == 1) to n (subst (λ (m : ℕ). Has m n) (sym same) has),
    )
goes_kept from to at (first ∷ masks) (suc i) n goes = goes_kept from to (at + 1) masks i n goes

-- after the linked positions they continue there too
pub goes_linked : (from to at : ℕ) (masks : List ℕ) (i n : ℕ) → i < length masks → Has from (at + i)
    → Has to n → Goes (all_linked from to at masks) i n
goes_linked from to at [] i n below before after = absurd (omega arith)
goes_linked from to at (first ∷ masks) zero n below before after =
    let same : at + zero ≡ at = omega arith in
    let there : Has from at = subst (λ (m : ℕ). Has from m) same before in
    let holds : (bit_at from at == 1) ≡ true = grind (arith, nat_tests) in
    (linked from to at first, refl, has_more first (bit_at from at == 1) to n holds after)
goes_linked from to at (first ∷ masks) (suc i) n below before after =
    let same : at + suc i ≡ (at + 1) + i = omega arith in
    goes_linked from to (at + 1) masks i n (omega arith)
    (subst (λ (m : ℕ). Has from m) same before) after

-- and nowhere else
pub goes_no_more : (from to at : ℕ) (masks : List ℕ) (i n : ℕ)
    → Goes (all_linked from to at masks) i n → Goes masks i n ⊎ Has from (at + i) × Has to n
goes_no_more from to at [] i n (mask, is, has) = absurd (cc)
goes_no_more from to at (first ∷ masks) zero n (mask, is, has) =
    let same : mask ≡ linked from to at first = cc in
    in_one (has_no_more first (bit_at from at == 1) to n (subst (λ (m : ℕ). Has m n) same has))
  where
    in_one : Has first n ⊎ ((bit_at from at == 1) ≡ true) × Has to n
        → Goes (first ∷ masks) zero n ⊎ Has from (at + zero) × Has to n
    in_one (inl there) = inl (first, refl, there)
    in_one (inr (test, there)) =
        let before : Has from at = grind (arith, nat_tests) in
        let same : at ≡ at + zero = omega arith in
        inr (subst (λ (m : ℕ). Has from m) same before, there)
goes_no_more from to at (first ∷ masks) (suc i) n goes =
    in_one (goes_no_more from to (at + 1) masks i n goes)
  where
    in_one : Goes masks i n ⊎ Has from ((at + 1) + i) × Has to n
        → Goes (first ∷ masks) (suc i) n ⊎ Has from (at + suc i) × Has to n
    in_one (inl there) = inl there
    in_one (inr (before, there)) =
        let same : (at + 1) + i ≡ at + suc i = omega arith in
        inr (subst (λ (m : ℕ). Has from m) same before, there)
