-- Where words of a rate continue, from where those of its parts do.
use Rattle.std.proofs.Common.{◌≡◌, ◌⊎◌, inl, inr, ℕ, zero, suc, ◌+◌, ◌^◌, ◌<◌, ◌≤◌, ◌↔◌, List, []}
use Rattle.std.proofs.Common.{◌∷◌, ◌++◌, map, length, refl, sym, ap, ◌∙◌, subst, arith}
use Rattle.std.specs.List.{AllByRecursion}
use Rattle.rate_expr.specs.FirstLastFollow.{IsFollowedBy}
use Rattle.rate_expr.specs.Joined.{moved}
use Rattle.rate_expr.specs.Parts.{all_linked}
use Rattle.rate_expr.specs.Rates.{Regex, size_of}
use Rattle.rate_expr.specs.Sets.{Has}
use Rattle.rate_expr.proofs.Linking.{Goes, goes_kept, goes_linked, goes_no_more}
use Rattle.rate_expr.proofs.MaskSets.{has-below}
use Rattle.rate_expr.proofs.Moved.{is_moved}
use Rattle.rate_expr.proofs.Renumbered.{follow_from}

-- a step of the masks after others
abbrev GoesAfter : List ℕ → List ℕ → ℕ → ℕ → Type 0
GoesAfter xs ys i n = (j : ℕ) × (length xs + j ≡ i) × Goes ys j n

-- a step of two lists of masks, one after the other, is one of either
goes_in_one : (xs ys : List ℕ) (i n : ℕ) → Goes (xs ++ ys) i n → Goes xs i n ⊎ GoesAfter xs ys i n
goes_in_one [] ys i n goes = inr (i, omega arith, goes)
goes_in_one (x ∷ xs) ys zero n goes = inl goes
goes_in_one (x ∷ xs) ys (suc i) n goes = further (goes_in_one xs ys i n goes)
  where
    further : Goes xs i n ⊎ GoesAfter xs ys i n
        → Goes (x ∷ xs) (suc i) n ⊎ GoesAfter (x ∷ xs) ys (suc i) n
    further (inl there) = inl there
    further (inr (j, at, there)) =
        let next : suc (length xs) + j ≡ suc i = omega arith in inr (j, next, there)

goes_in_first : (xs ys : List ℕ) (i n : ℕ) → Goes xs i n → Goes (xs ++ ys) i n
goes_in_first [] ys i n (mask, is, has) = absurd (cc)
goes_in_first (x ∷ xs) ys zero n goes = goes
goes_in_first (x ∷ xs) ys (suc i) n goes = goes_in_first xs ys i n goes

goes_in_second : (xs ys : List ℕ) (j n : ℕ) → Goes ys j n → Goes (xs ++ ys) (length xs + j) n
goes_in_second [] ys j n goes =
    let same : j ≡ 0 + j = omega arith in subst (λ (i : ℕ). Goes ys i n) same goes
goes_in_second (x ∷ xs) ys j n goes =
    let same : suc (length xs + j) ≡ suc (length xs) + j = omega arith in
    subst (λ (i : ℕ). Goes (x ∷ (xs ++ ys)) i n) same (goes_in_second xs ys j n goes)

-- a step of masks that are moved leads further by this much
goes_higher : (count long : ℕ) (masks : List ℕ) → count + long ≤ 128
    → AllByRecursion (λ mask. mask < 2 ^ long) masks
    → (i n : ℕ) → Goes masks i n → Goes (map (moved count) masks) i (count + n)
goes_higher count long [] few all i n (mask, is, has) = absurd (cc)
goes_higher count long (first ∷ masks) few (below, all) zero n (mask, is, has) =
    let same : mask ≡ first = cc in
    let there : Has first n = subst (λ (m : ℕ). Has m n) same has in
    (moved count first, refl, (is_moved count first long below few).each n there)
goes_higher count long (first ∷ masks) few (below, all) (suc i) n goes =
    goes_higher count long masks few all i n goes

-- and to no others
goes_lower : (count long : ℕ) (masks : List ℕ) → count + long ≤ 128
    → AllByRecursion (λ mask. mask < 2 ^ long) masks
    → (i m : ℕ) → Goes (map (moved count) masks) i m → (n : ℕ) × (count + n ≡ m) × Goes masks i n
goes_lower count long [] few all i m (mask, is, has) = absurd (cc)
goes_lower count long (first ∷ masks) few (below, all) zero m (mask, is, has) =
    let same : mask ≡ moved count first = cc in
    let there : Has (moved count first) m = subst (λ (k : ℕ). Has k m) same has in
    let n = (is_moved count first long below few).only m there in
    (n.0, n.1, (first, refl, n.2))
goes_lower count long (first ∷ masks) few (below, all) (suc i) m goes =
    goes_lower count long masks few all i m goes

-- words of the rate, whose positions are numbered from a number on, continue by these masks
abbrev pub AreSteps : ℕ → List ℕ → Regex → Type 0
AreSteps base masks rate = (i n : ℕ) → Goes masks i n ↔ IsFollowedBy rate base i n

-- the masks of two rates, those of the second moved after those of the first
pub steps_beside : (count long : ℕ) (xs ys : List ℕ) (r s : Regex) → length xs ≡ count
    → size_of r ≡ count → count + long ≤ 128 → AllByRecursion (λ mask. mask < 2 ^ long) ys
    → AreSteps 0 xs r → AreSteps 0 ys s → (i n : ℕ)
    → Goes (xs ++ map (moved count) ys) i n
    ↔ (IsFollowedBy r 0 i n ⊎ IsFollowedBy s (0 + size_of r) i n)
steps_beside count long xs ys r s is_long is_size few all of_r of_s i n =
    (λ goes. there (goes_in_one xs (map (moved count) ys) i n goes), back)
  where
    base : count ≡ 0 + size_of r
    base = omega arith

    there : Goes xs i n ⊎ GoesAfter xs (map (moved count) ys) i n
        → IsFollowedBy r 0 i n ⊎ IsFollowedBy s (0 + size_of r) i n
    there (inl goes) = inl ((of_r i n).0 goes)
    there (inr (j, at, goes)) =
        let low = goes_lower count long ys few all j n goes in
        let here : count + j ≡ i = omega arith in
        inr (subst (λ (b : ℕ). IsFollowedBy s b i n) base
        ((follow_from s count i n).1 (j, low.0, here, low.1, (of_s j low.0).0 low.2)))

    back : IsFollowedBy r 0 i n ⊎ IsFollowedBy s (0 + size_of r) i n
        → Goes (xs ++ map (moved count) ys) i n
    back (inl holds) = goes_in_first xs (map (moved count) ys) i n ((of_r i n).1 holds)
    back (inr holds) =
        let step = (follow_from s count i n).0
        (subst (λ (b : ℕ). IsFollowedBy s b i n) (sym base) holds) in
        let at : length xs + step.0 ≡ i = ap (λ (k : ℕ). k + step.0) is_long ∙ step.2 in
        let goes = goes_higher count long ys few all step.0 step.1
        ((of_s step.0 step.1).1 step.4) in
        subst (λ (k : ℕ). Goes (xs ++ map (moved count) ys) k n) at
        (goes_in_second xs (map (moved count) ys) step.0 n
        (subst (λ (k : ℕ). Goes (map (moved count) ys) step.0 k) step.3 goes))

-- masks that are linked have the steps between the ends and the beginnings too
pub steps_linked : (from to : ℕ) (masks : List ℕ) (i n : ℕ) (S L F : Type 0)
    → from < 2 ^ length masks → Goes masks i n ↔ S → Has from i ↔ L → Has to n ↔ F
    → Goes (all_linked from to 0 masks) i n ↔ (S ⊎ (L × F))
steps_linked from to masks i n S L F below steps last first =
    (λ goes. there (goes_no_more from to 0 masks i n goes), back)
  where
    same : 0 + i ≡ i
    same = omega arith

    there : Goes masks i n ⊎ Has from (0 + i) × Has to n → S ⊎ (L × F)
    there (inl goes) = inl (steps.0 goes)
    there (inr (ends, begins)) =
        inr (last.0 (subst (λ (m : ℕ). Has from m) same ends), first.0 begins)

    back : S ⊎ (L × F) → Goes (all_linked from to 0 masks) i n
    back (inl step) = goes_kept from to 0 masks i n (steps.1 step)
    back (inr (ends, begins)) =
        let at = last.1 ends in
        goes_linked from to 0 masks i n (has-below from (length masks) i below at)
        (subst (λ (m : ℕ). Has from m) (sym same) at) (first.1 begins)
