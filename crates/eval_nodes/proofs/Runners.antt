-- Runners read one after the other: how much they take, and copies of them.
use Rattle.std.proofs.Common.{◌≡◌, ◌≤◌, ◌==◌, ◌∙◌, ℕ, ◌+◌, zero, suc, true, false, List, [], ◌∷◌}
use Rattle.std.proofs.Common.{◌++◌, Some, None, length, slice_get, take, refl, sym, ap, subst}
use Rattle.std.proofs.Common.{arith, inl, inr}
use Rattle.std.specs.List.{Contains, IsDistinct, sum_by}
use Rattle.std.proofs.lemmas.Bool.{eq-eqb}
use Rattle.std.proofs.lemmas.List.{map-append, take_more}
use Rattle.std.proofs.lemmas.List.Sums.{sum_by_more}
use Rattle.std.proofs.lemmas.Map.Keys.{IsDistinct-head, IsDistinct-tail}
use Rattle.std.proofs.lemmas.Option.{get_or_from_slice_get, none-some, slice_get_within}
use Rattle.compose_eval.specs.Followers.{AreDistinct, followers_of, instance_at, outers_of}
use Rattle.compose_eval.specs.declared.instance.Instance.{Instance}
use Rattle.eval_nodes.specs.Copies.{AreAlike}
use Rattle.eval_nodes.proofs.Alike.{as_many_alike}
use Rattle.eval_nodes.proofs.Instances.{all_read, none_fed}
use Rattle.eval_nodes.proofs.Members.{member_cases, no_member}

module _ {A : Type 0} where
  pub take_one : (xs : List A) (i : ℕ) (x : A) → slice_get xs i ≡ Some x
      → take (i + 1) xs ≡ take i xs ++ x ∷ []
  take_one xs i x at =
      take_more xs i x (slice_get_within xs i x at)
      ∙ ap (λ (y : A). take i xs ++ y ∷ []) (get_or_from_slice_get xs i x x at)

  pub sum_more : (size : A → ℕ) (xs : List A) (i : ℕ) (x : A) → slice_get xs i ≡ Some x
      → sum_by size (take (i + 1) xs) ≡ sum_by size (take i xs) + size x
  sum_more size xs i x at =
      sum_by_more size xs i x (slice_get_within xs i x at)
      ∙ ap (λ (y : A). sum_by size (take i xs) + size y) (get_or_from_slice_get xs i x x at)

  length_taken : (xs : List A) (i : ℕ) → i ≤ length xs → length (take i xs) ≡ i
  length_taken xs zero few = refl
  length_taken [] (suc i) few = absurd (omega (arith, few))
  length_taken (x ∷ xs) (suc i) few = ap suc (length_taken xs i (omega (arith, few)))

  alike_push : (P : A → A → Type 0) (xs ys : List A) (x y : A) → AreAlike P xs ys → P x y
      → AreAlike P (xs ++ x ∷ []) (ys ++ y ∷ [])
  alike_push P [] [] x y alike is = (is, tt)
  alike_push P (z ∷ xs) (u ∷ ys) x y alike is = (alike.0, alike_push P xs ys x y alike.1 is)
  alike_push P [] (u ∷ ys) x y alike is = absurd alike
  alike_push P (z ∷ xs) [] x y alike is = absurd alike

  pub alike_more : (P : A → A → Type 0) (xs ys : List A) (i : ℕ) (x y : A) → slice_get xs i ≡ Some x
      → AreAlike P (take i xs) ys → P x y → AreAlike P (take (i + 1) xs) (ys ++ y ∷ [])
  alike_more P xs ys i x y at alike is =
      subst (λ (zs : List A). AreAlike P zs (ys ++ y ∷ [])) (sym (take_one xs i x at))
      (alike_push P (take i xs) ys x y alike is)

  pub as_many_taken : (P : A → A → Type 0) (xs ys : List A) (i : ℕ) → i ≤ length xs
      → AreAlike P (take i xs) ys → length ys ≡ i
  as_many_taken P xs ys i few alike = as_many_alike P (take i xs) ys alike ∙ length_taken xs i few

-- no start stands twice
fresh_start : (starts : List ℕ) (i start : ℕ) → IsDistinct ◌==◌ starts
    → slice_get starts i ≡ Some start → Contains (take i starts) start → ⊥
fresh_start [] i start distinct at there = absurd (none-some start at)
fresh_start (x ∷ starts) zero start distinct at there = no_member start there
fresh_start (x ∷ starts) (suc i) start distinct at there =
    elim (member_cases x start (take i starts) there) [
      | inl same ↦
          let differs : (x == start) ≡ false =
          all_read (λ (other : ℕ). (x == other) ≡ false) starts i start
          (IsDistinct-head ◌==◌ x starts distinct) at in
          let equal : (x == start) ≡ true = eq-eqb x start same in
          let wrong : false ≡ true = sym differs ∙ equal in cc
      | inr later ↦ fresh_start starts i start (IsDistinct-tail ◌==◌ x starts distinct) at later
    ]

module _ {R : Type 0} where
  starts_many : (live : List (Instance R)) → length (outers_of live) ≡ length live
  starts_many [] = refl
  starts_many (x ∷ live) = ap suc (starts_many live)

  -- those that were copied
  pub copied_many : (live copy : List (Instance R)) (i : ℕ)
      → outers_of copy ≡ take i (outers_of live) → i ≤ length live → length copy ≡ i
  copied_many live copy i same few =
      let all = starts_many live in
      sym (starts_many copy) ∙ ap length same
      ∙ length_taken (outers_of live) i (omega (arith, all, few))

  pub copied_fresh : (live copy : List (Instance R)) (i start : ℕ) → AreDistinct live
      → outers_of copy ≡ take i (outers_of live) → slice_get (outers_of live) i ≡ Some start
      → instance_at copy start ≡ None
  copied_fresh live copy i start distinct same at =
      none_fed copy start (λ there. fresh_start (outers_of live) i start distinct at
      (subst (λ (xs : List ℕ). Contains xs start) same there))

  -- one more is put
  pub start_put : (live copy new : List (Instance R)) (i start : ℕ) (follower : R)
      → outers_of copy ≡ take i (outers_of live) → slice_get (outers_of live) i ≡ Some start
      → new ≡ copy ++ record { outer = start; follower = follower } ∷ []
      → outers_of new ≡ take (i + 1) (outers_of live)
  start_put live copy new i start follower same at put =
      ap (λ (xs : List (Instance R)). outers_of xs) put
      ∙ map-append (λ (x : Instance R). x.outer) copy
      (record { outer = start; follower = follower } ∷ [])
      ∙ ap (λ (xs : List ℕ). xs ++ start ∷ []) same
      ∙ sym (take_one (outers_of live) i start at)

  pub follower_put : (P : R → R → Type 0) (live copy new : List (Instance R)) (i start : ℕ)
      (was follower : R) → slice_get (followers_of live) i ≡ Some was
      → AreAlike P (take i (followers_of live)) (followers_of copy)
      → P was follower → new ≡ copy ++ record { outer = start; follower = follower } ∷ []
      → AreAlike P (take (i + 1) (followers_of live)) (followers_of new)
  follower_put P live copy new i start was follower at alike is put =
      subst (AreAlike P (take (i + 1) (followers_of live)))
      (sym (ap (λ (xs : List (Instance R)). followers_of xs) put
      ∙ map-append (λ (x : Instance R). x.follower) copy
      (record { outer = start; follower = follower } ∷ [])))
      (alike_more P (followers_of live) (followers_of copy) i was follower at alike is)
