-- Lists that are alike, one by one, and the followers of instances.
use Rattle.std.proofs.Common.{◌≡◌, ◌∙◌, ℕ, suc, List, [], ◌∷◌, length, refl, sym, ap, subst, arith}
use Rattle.std.proofs.Common.{inl, inr}
use Rattle.std.specs.List.{AllByRecursion, Contains, sum_by}
use Rattle.std.proofs.lemmas.List.Sums.{sum_by-cons}
use Rattle.compose_eval.specs.Followers.{followers_of, outers_of}
use Rattle.compose_eval.specs.declared.instance.Instance.{Instance}
use Rattle.eval_nodes.specs.Copies.{AreAlike}
use Rattle.eval_nodes.proofs.Members.{first_member, later_member, member_cases, no_member}

pub as_many_alike : {A : Type 0} (P : A → A → Type 0) (xs ys : List A) → AreAlike P xs ys
    → length ys ≡ length xs
as_many_alike P [] [] alike = refl
as_many_alike P (x ∷ xs) (y ∷ ys) alike = ap suc (as_many_alike P xs ys alike.1)
as_many_alike P [] (y ∷ ys) alike = absurd alike
as_many_alike P (x ∷ xs) [] alike = absurd alike

pub all_alike : {A : Type 0} (P : A → A → Type 0) (Q : A → Type 0) (xs ys : List A)
    → ((x y : A) → P x y → Q x → Q y) → AreAlike P xs ys → AllByRecursion Q xs → AllByRecursion Q ys
all_alike P Q [] [] each alike all = tt
all_alike P Q (x ∷ xs) (y ∷ ys) each alike all =
    (each x y alike.0 all.0, all_alike P Q xs ys each alike.1 all.1)
all_alike P Q [] (y ∷ ys) each alike all = absurd alike
all_alike P Q (x ∷ xs) [] each alike all = absurd alike

pub sums_alike : {A : Type 0} (P : A → A → Type 0) (size : A → ℕ) (xs ys : List A)
    → ((x y : A) → P x y → size y ≡ size x) → AreAlike P xs ys → sum_by size ys ≡ sum_by size xs
sums_alike P size [] [] each alike = refl
sums_alike P size (x ∷ xs) (y ∷ ys) each alike =
    let first = each x y alike.0 in
    let rest = sums_alike P size xs ys each alike.1 in
    let before = sum_by-cons size x xs in
    let after = sum_by-cons size y ys in
    omega (arith, first, rest, before, after)
sums_alike P size [] (y ∷ ys) each alike = absurd alike
sums_alike P size (x ∷ xs) [] each alike = absurd alike

module _ {R : Type 0} where
  -- the instance whose follower was copied
  pub original : (P : R → R → Type 0) (old new : List (Instance R)) (start : ℕ) (follower : R)
      → outers_of new ≡ outers_of old → AreAlike P (followers_of old) (followers_of new)
      → Contains new (record { outer = start; follower = follower })
      → (was : R) × Contains old (record { outer = start; follower = was }) × P was follower
  original P [] [] start follower same alike there =
      absurd (no_member (record { outer = start; follower = follower }) there)
  original P (x ∷ old) (y ∷ new) start follower same alike there =
      let heads : y.outer ≡ x.outer = cc in
      let tails : outers_of new ≡ outers_of old = cc in
      elim (member_cases y (record { outer = start; follower = follower }) new there) [
        | inl is ↦ (
          x.follower,
          subst (λ (at : ℕ). Contains (x ∷ old) (record { outer = at; follower = x.follower }))
              (sym heads ∙ ap (λ (z : Instance R). z.outer) is) (first_member x old),
          subst (P x.follower) (ap (λ (z : Instance R). z.follower) is) alike.0,
        )
        | inr later ↦
            let (was, among, copied) = original P old new start follower tails alike.1 later in
            (was, later_member x (record { outer = start; follower = was }) old among, copied)
      ]
  original P [] (y ∷ new) start follower same alike there = absurd alike
  original P (x ∷ old) [] start follower same alike there = absurd alike

  pub all_followers : (Q : R → Type 0) (live : List (Instance R))
      → AllByRecursion (λ (one : Instance R). Q one.follower) live
      → AllByRecursion Q (followers_of live)
  all_followers Q [] all = tt
  all_followers Q (x ∷ live) all = (all.0, all_followers Q live all.1)

  pub followers_all : (Q : R → Type 0) (live : List (Instance R))
      → AllByRecursion Q (followers_of live)
      → AllByRecursion (λ (one : Instance R). Q one.follower) live
  followers_all Q [] all = tt
  followers_all Q (x ∷ live) all = (all.0, followers_all Q live all.1)

  pub followers_many : (live : List (Instance R)) → length (followers_of live) ≡ length live
  followers_many [] = refl
  followers_many (x ∷ live) = ap suc (followers_many live)
