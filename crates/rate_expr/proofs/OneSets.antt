-- A rate has one first, one last and one follow set.
use Rattle.std.proofs.Common.{◌≡◌, ℕ, zero, suc, ◌↔◌, Bool, List, [], ◌∷◌, length, refl, sym, ap}
use Rattle.std.proofs.Common.{◌∙◌, subst, arith}
use Rattle.predicates.specs.Predicates.{Predicate}
use Rattle.rate_expr.specs.FirstLastFollow.{AreSetsOf}
use Rattle.rate_expr.specs.Rates.{Regex}
use Rattle.rate_expr.specs.Sets.{Sets, AreSets, Has}
use Rattle.rate_expr.proofs.Linking.{Goes}
use Rattle.rate_expr.proofs.MaskSets.{same-has}
use Rattle.rate_expr.proofs.SetsOf.{same_test}

-- a step after the first of some masks
goes_here : (mask : ℕ) (masks : List ℕ) (n : ℕ) → Goes (mask ∷ masks) zero n ↔ Has mask n
goes_here mask masks n = (here, λ has. (mask, refl, has))
  where
    here : Goes (mask ∷ masks) zero n → Has mask n
    here (other, is, has) = let same : other ≡ mask = cc in subst (λ (m : ℕ). Has m n) same has

-- as many masks with the same steps are the same
same_masks : (masks others : List ℕ) → length masks ≡ length others
    → ((i n : ℕ) → Goes masks i n ↔ Goes others i n) → masks ≡ others
same_masks [] [] long same = refl
same_masks [] (other ∷ others) long same = absurd (omega arith)
same_masks (mask ∷ masks) [] long same = absurd (omega arith)
same_masks (mask ∷ masks) (other ∷ others) long same =
    let first : mask ≡ other = same-has mask other (λ n. (
      λ has. (goes_here other others n).0 ((same zero n).0 ((goes_here mask masks n).1 has)),
      λ has. (goes_here mask masks n).0 ((same zero n).1 ((goes_here other others n).1 has)),
    )) in
    let rest : masks ≡ others = same_masks masks others (omega arith) (λ i n. same (suc i) n) in
    cc

-- sets of these parts
abbrev made : Bool → ℕ → ℕ → List ℕ → List Predicate → Sets
made nullable first last follow preds =
    record { nullable = nullable; first = first; last = last; follow = follow; preds = preds }

-- sets with the same parts are the same
same_parts : (sets other : Sets) → sets.nullable ≡ other.nullable → sets.first ≡ other.first
    → sets.last ≡ other.last → sets.follow ≡ other.follow → sets.preds ≡ other.preds → sets ≡ other
same_parts sets other nullable first last follow preds =
    ap (λ (b : Bool). made b sets.first sets.last sets.follow sets.preds) nullable
    ∙ ap (λ (m : ℕ). made other.nullable m sets.last sets.follow sets.preds) first
    ∙ ap (λ (m : ℕ). made other.nullable other.first m sets.follow sets.preds) last
    ∙ ap (λ (list : List ℕ). made other.nullable other.first other.last list sets.preds) follow
    ∙ ap (λ (list : List Predicate). made other.nullable other.first other.last other.follow list)
    preds

-- so sets of one rate are the same
pub one_sets : (rate : Regex) (sets other : Sets) → AreSets sets → AreSets other
    → AreSetsOf sets rate → AreSetsOf other rate → other ≡ sets
one_sets rate sets other are also of_rate of_rate_too =
    let preds : other.preds ≡ sets.preds = of_rate_too.preds ∙ sym of_rate.preds in
    same_parts other sets
    (same_test other.nullable sets.nullable _ of_rate_too.nullable of_rate.nullable)
    (same-has other.first sets.first (λ n. (
      λ has. (of_rate.first n).1 ((of_rate_too.first n).0 has),
      λ has. (of_rate_too.first n).1 ((of_rate.first n).0 has),
    )))
    (same-has other.last sets.last (λ n. (
      λ has. (of_rate.last n).1 ((of_rate_too.last n).0 has),
      λ has. (of_rate_too.last n).1 ((of_rate.last n).0 has),
    )))
    (same_masks other.follow sets.follow (also.each ∙ ap length preds ∙ sym are.each) (λ i n. (
      λ goes. (of_rate.follow i n).1 ((of_rate_too.follow i n).0 goes),
      λ goes. (of_rate_too.follow i n).1 ((of_rate.follow i n).0 goes),
    )))
    preds
