-- Members of a list of images.
use Rattle.std.proofs.Common.{◌≡◌, ◌↔◌, ℕ, ◌<◌, get_or, option_map, zero-le, is_some, List, [], ◌∷◌}
use Rattle.std.proofs.Common.{map, length, slice_get, Option, Some, None, IsTrue, refl, sym, ap}
use Rattle.std.proofs.Common.{◌∙◌, true≢false, arith}
use Rattle.std.specs.List.{Contains, HoldsAt, AllWithin}
use Rattle.std.specs.Option.{MatchOption, IfSome, IfNone}
use Rattle.std.proofs.lemmas.List.{length-map, get_or-map}
use Rattle.std.proofs.lemmas.Option.{get_or_from_slice_get, slice_get-get_or, slice_get-map}
use Rattle.std.proofs.lemmas.Option.{slice_get_within}

-- a search for the first element with the image has found it, or there is none
abbrev pub SearchesImage : {A B : Type 0} → (A → B) → List A → B → Option ℕ → Type 0
SearchesImage f xs y place =
    MatchOption place (AllWithin (λ x. f x ≡ y → ⊥) xs 0 (length xs))
    (λ i. (i < length xs) × HoldsAt (λ x. f x ≡ y) xs i × AllWithin (λ x. f x ≡ y → ⊥) xs 0 i)

-- the image stands at the place that is found
pub image_at_place : {A B : Type 0} (f : A → B) (xs : List A) (y : B) (place : Option ℕ)
    → SearchesImage f xs y place → IfSome place (λ i. slice_get (map f xs) i ≡ Some y)
image_at_place f [] y (Some i) (within, at, before) = absurd (omega arith)
image_at_place f (x ∷ xs) y (Some i) (within, at, before) =
    slice_get-get_or (map f (x ∷ xs)) i y (omega (arith, length-map (x ∷ xs) f))
    ∙ ap Some (get_or-map f (x ∷ xs) i x y within ∙ at x)
image_at_place f xs y None none = tt

-- and nowhere where none is
pub no_image : {A B : Type 0} (f : A → B) (xs : List A) (y : B) (place : Option ℕ)
    → SearchesImage f xs y place → IfNone place (Contains (map f xs) y → ⊥)
no_image f xs y (Some i) found = tt
no_image f [] y None none = λ has. absurd (omega (arith, has.1))
no_image f (x ∷ xs) y None none = λ has.
    let within : has.0 < length (x ∷ xs) = omega (arith, has.1, length-map (x ∷ xs) f) in
    none has.0 x zero-le within (sym (get_or-map f (x ∷ xs) has.0 x y within) ∙ has.2)

-- a list has an element exactly where a search for it finds a place
pub found_is_member : {A : Type 0} (xs : List A) (x : A) (place : Option ℕ)
    → IfSome place (λ i. slice_get xs i ≡ Some x) → IfNone place (Contains xs x → ⊥)
    → IsTrue (is_some place) ↔ Contains xs x
found_is_member xs x (Some i) found missing =
    (λ some. (i, slice_get_within xs i x found, get_or_from_slice_get xs i x x found), λ has. refl)
found_is_member xs x None found missing =
    (λ some. absurd (true≢false (sym some)), λ has. absurd (missing has))

-- the image of an element stands where the element does
pub image_got : {A B : Type 0} (f : A → B) (xs : List A) (i : ℕ) (x : A) (other : B)
    → slice_get xs i ≡ Some x → get_or (map f xs) i other ≡ f x
image_got f xs i x other found =
    get_or_from_slice_get (map f xs) i (f x) other (slice_get-map f xs i ∙ ap (option_map f) found)
