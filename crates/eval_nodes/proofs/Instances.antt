-- Instances and the starts that they are fed from: one is looked up, one takes another follower,
-- and some come to rest.
use Rattle.std.proofs.Common.{◌≡◌, ◌==◌, ◌∙◌, ℕ, ◌+◌, zero, suc, Bool, true, false, IsTrue, cond}
use Rattle.std.proofs.Common.{not, List, [], ◌∷◌, ◌++◌, Some, None, filter, length, slice_get, refl}
use Rattle.std.proofs.Common.{sym, ap, subst, arith, ◌⊎◌, inl, inr}
use Rattle.std.specs.List.{AllByRecursion, Contains}
use Rattle.std.proofs.lemmas.Bool.{eq-eqb, ne_eqb}
use Rattle.std.proofs.lemmas.Option.{none-some, same_Some}
use Rattle.compose_eval.specs.Followers.{followers_of, instance_at, live_instances, outers_of}
use Rattle.compose_eval.specs.Followers.{retired, with_follower}
use Rattle.compose_eval.specs.declared.instance.Instance.{Instance}
use Rattle.eval_nodes.specs.Starts.{AreDifferent}
use Rattle.eval_nodes.proofs.Members.{first_member, later_member, member_cases, no_member}

-- a number at the end that is not there yet
pub different_more : (xs : List ℕ) (x : ℕ) → AreDifferent xs → (Contains xs x → ⊥)
    → AreDifferent (xs ++ x ∷ [])
different_more [] x different fresh = ((λ there. no_member x there), tt)
different_more (y ∷ xs) x different fresh = (
  λ there. different.0 (earlier xs x y there
      (λ same. fresh (subst (Contains (y ∷ xs)) same (first_member y xs)))),
  different_more xs x different.1 (λ there. fresh (later_member y x xs there)),
)
  where
    earlier : (xs : List ℕ) (x y : ℕ) → Contains (xs ++ x ∷ []) y → (y ≡ x → ⊥) → Contains xs y
    earlier [] x y there differs = elim (member_cases x y [] there) [
      | inl same ↦ absurd (differs (sym same))
      | inr none ↦ absurd (no_member y none)
    ]
    earlier (z ∷ xs) x y there differs = elim (member_cases z y (xs ++ x ∷ []) there) [
      | inl same ↦ subst (Contains (z ∷ xs)) same (first_member z xs)
      | inr later ↦ later_member z y xs (earlier xs x y later differs)
    ]

-- of all
pub all_member : {A : Type 0} (P : A → Type 0) (xs : List A) (x : A) → AllByRecursion P xs
    → Contains xs x → P x
all_member P [] x all there = absurd (no_member x there)
all_member P (y ∷ xs) x all there = elim (member_cases y x xs there) [
  | inl same ↦ subst P same all.0
  | inr later ↦ all_member P xs x all.1 later
]

pub all_mapped : {A : Type 0} (P Q : A → Type 0) (xs : List A) → ((x : A) → P x → Q x)
    → AllByRecursion P xs → AllByRecursion Q xs
all_mapped P Q [] each all = tt
all_mapped P Q (x ∷ xs) each all = (each x all.0, all_mapped P Q xs each all.1)

pub all_joined : {A : Type 0} (P : A → Type 0) (xs ys : List A) → AllByRecursion P xs
    → AllByRecursion P ys → AllByRecursion P (xs ++ ys)
all_joined P [] ys first second = second
all_joined P (x ∷ xs) ys first second = (first.0, all_joined P xs ys first.1 second)

pub all_but_last : {A : Type 0} (P : A → Type 0) (xs : List A) (x : A)
    → AllByRecursion P (xs ++ x ∷ []) → AllByRecursion P xs × P x
all_but_last P [] x all = (tt, all.0)
all_but_last P (y ∷ xs) x all = let rest = all_but_last P xs x all.1 in ((all.0, rest.0), rest.1)

module _ {R : Type 0} where
  pub outer_member : (live : List (Instance R)) (x : Instance R) → Contains live x
      → Contains (outers_of live) x.outer
  outer_member [] x there = absurd (no_member x there)
  outer_member (y ∷ live) x there = elim (member_cases y x live there) [
    | inl same ↦ subst (λ (z : Instance R). Contains (y.outer ∷ outers_of live) z.outer) same
        (first_member y.outer (outers_of live))
    | inr later ↦ later_member y.outer x.outer (outers_of live) (outer_member live x later)
  ]

  pub member_outer : (live : List (Instance R)) (outer : ℕ) → Contains (outers_of live) outer
      → (follower : R) × Contains live (record { outer = outer; follower = follower })
  member_outer [] outer there = absurd (no_member outer there)
  member_outer (y ∷ live) outer there = elim (member_cases y.outer outer (outers_of live) there) [
    | inl same ↦ (
      y.follower,
      subst (λ (at : ℕ). Contains (y ∷ live) (record { outer = at; follower = y.follower })) same
          (first_member y live),
    )
    | inr later ↦
        let (follower, among) = member_outer live outer later in
        (follower, later_member y (record { outer = outer; follower = follower }) live among)
  ]

  -- what is read at an index is there
  pub read_member : (live : List (Instance R)) (i : ℕ) (x : Instance R) → slice_get live i ≡ Some x
      → Contains live x
  read_member [] i x at = absurd (none-some x at)
  read_member (y ∷ live) zero x at =
      subst (Contains (y ∷ live)) (same_Some y x at) (first_member y live)
  read_member (y ∷ live) (suc i) x at = later_member y x live (read_member live i x at)

  -- where the start feeds none, none is found, and the other way round
  pub none_fed : (live : List (Instance R)) (outer : ℕ) → (Contains (outers_of live) outer → ⊥)
      → instance_at live outer ≡ None
  none_fed [] outer none = refl
  none_fed (y ∷ live) outer none =
      ap (λ (same : Bool). cond same (Some y) (instance_at live outer))
      (ne_eqb y.outer outer (λ same. none (subst (Contains (y.outer ∷ outers_of live)) same
      (first_member y.outer (outers_of live)))))
      ∙ none_fed live outer (λ there. none (later_member y.outer outer (outers_of live) there))

  pub some_fed : (live : List (Instance R)) (outer : ℕ) → Contains (outers_of live) outer
      → instance_at live outer ≡ None → ⊥
  some_fed [] outer there none = no_member outer there
  some_fed (y ∷ live) outer there none = elim (member_cases y.outer outer (outers_of live) there) [
    | inl same ↦ none-some y (sym none
        ∙ ap (λ (is : Bool). cond is (Some y) (instance_at live outer)) (eq-eqb y.outer outer same))
    | inr later ↦ after (y.outer == outer) (some_fed live outer later) none
  ]
    where
      after : (same : Bool) → (instance_at live outer ≡ None → ⊥)
          → cond same (Some y) (instance_at live outer) ≡ None → ⊥
      after true never is = none-some y (sym is)
      after false never is = never is

  -- with another follower at an index: the starts stay, and all others
  pub written_member : (live : List (Instance R)) (i outer : ℕ) (old new : R) (x : Instance R)
      → slice_get live i ≡ Some (record { outer = outer; follower = old })
      → AreDifferent (outers_of live) → Contains (with_follower live i new) x
      → (x ≡ record { outer = outer; follower = new }) ⊎ (Contains live x × (x.outer ≡ outer → ⊥))
  written_member [] i outer old new x at different there = absurd (no_member x there)
  written_member (y ∷ live) zero outer old new x at different there =
      let is : y ≡ record { outer = outer; follower = old } =
      same_Some y (record { outer = outer; follower = old }) at in
      let start : y.outer ≡ outer = ap (λ (z : Instance R). z.outer) is in
      elim (member_cases (record { outer = y.outer; follower = new }) x live there) [
        | inl same ↦ inl (sym same ∙ ap (λ (at : ℕ). record { outer = at; follower = new }) start)
        | inr later ↦ inr (
          later_member y x live later,
          λ same. different.0 (subst (Contains (outers_of live)) (same ∙ sym start)
              (outer_member live x later)),
        )
      ]
  written_member (y ∷ live) (suc i) outer old new x at different there =
      elim (member_cases y x (with_follower live i new) there) [
        | inl same ↦ inr (
          subst (Contains (y ∷ live)) same (first_member y live),
          λ is. different.0 (subst (Contains (outers_of live))
              (sym is ∙ sym (ap (λ (z : Instance R). z.outer) same))
              (outer_member live (record { outer = outer; follower = old })
              (read_member live i (record { outer = outer; follower = old }) at))),
        )
        | inr later ↦ elim (written_member live i outer old new x at different.1 later) [
          | inl is ↦ inl is
          | inr (among, differs) ↦ inr (later_member y x live among, differs)
        ]
      ]

  -- those that stay where some come to rest
  pub kept_member : (p : ℕ → Bool) (live : List (Instance R)) (x : Instance R)
      → Contains (live_instances p live) x → Contains live x × IsTrue (p x.outer)
  kept_member p [] x there = absurd (no_member x there)
  kept_member p (y ∷ live) x there = chosen (p y.outer) refl (kept_member p live x) there
    where
      chosen : (b : Bool) → p y.outer ≡ b
          → (Contains (live_instances p live) x → Contains live x × IsTrue (p x.outer))
          → Contains (cond b (y ∷ live_instances p live) (live_instances p live)) x
          → Contains (y ∷ live) x × IsTrue (p x.outer)
      chosen true is after among = elim (member_cases y x (live_instances p live) among) [
        | inl same ↦ (
          subst (Contains (y ∷ live)) same (first_member y live),
          subst (λ (z : Instance R). IsTrue (p z.outer)) same is,
        )
        | inr later ↦ let (old, continues) = after later in (later_member y x live old, continues)
      ]
      chosen false is after among = let (old, continues) = after among in
          (later_member y x live old, continues)

  pub member_kept : (p : ℕ → Bool) (live : List (Instance R)) (x : Instance R) → Contains live x
      → IsTrue (p x.outer) → Contains (live_instances p live) x
  member_kept p [] x there continues = absurd (no_member x there)
  member_kept p (y ∷ live) x there continues = elim (member_cases y x live there) [
    | inl same ↦ subst
        (λ (b : Bool). Contains (cond b (y ∷ live_instances p live) (live_instances p live)) x)
        (sym (subst (λ (z : Instance R). IsTrue (p z.outer)) (sym same) continues))
        (subst (Contains (y ∷ live_instances p live)) same (first_member y (live_instances p live)))
    | inr later ↦ after (p y.outer) (member_kept p live x later continues)
  ]
    where
      after : (b : Bool) → Contains (live_instances p live) x
          → Contains (cond b (y ∷ live_instances p live) (live_instances p live)) x
      after true among = later_member y x (live_instances p live) among
      after false among = among

  pub kept_different : (p : ℕ → Bool) (live : List (Instance R)) → AreDifferent (outers_of live)
      → AreDifferent (outers_of (live_instances p live))
  kept_different p [] different = tt
  kept_different p (y ∷ live) different = chosen (p y.outer) (kept_different p live different.1)
    where
      chosen : (b : Bool) → AreDifferent (outers_of (live_instances p live))
          → AreDifferent (outers_of (cond b (y ∷ live_instances p live) (live_instances p live)))
      chosen true after = (
        λ there.
            let (follower, among) = member_outer (live_instances p live) y.outer there in
            let x : Instance R = record { outer = y.outer; follower = follower } in
            different.0 (outer_member live x (kept_member p live x among).0),
        after,
      )
      chosen false after = after

  -- those that come to rest and the others are all
  pub kept_count : (p : ℕ → Bool) (live : List (Instance R))
      → length (live_instances p live) + length (retired p live) ≡ length live
  kept_count p [] = refl
  kept_count p (y ∷ live) = chosen (p y.outer) (kept_count p live)
    where
      chosen : (b : Bool) → length (live_instances p live) + length (retired p live) ≡ length live
          → length (cond b (y ∷ live_instances p live) (live_instances p live))
          + length
          (followers_of (cond (not b) (y ∷ filter (λ (x : Instance R). not (p x.outer)) live)
          (filter (λ (x : Instance R). not (p x.outer)) live)))
          ≡ suc (length live)
      chosen true count = omega (arith, count)
      chosen false count = omega (arith, count)

  -- what is said of all followers is said of those that come to rest
  pub all_retired : (P : R → Type 0) (p : ℕ → Bool) (live : List (Instance R))
      → AllByRecursion (λ (x : Instance R). P x.follower) live → AllByRecursion P (retired p live)
  all_retired P p [] all = tt
  all_retired P p (y ∷ live) all = chosen (not (p y.outer)) (all_retired P p live all.1)
    where
      chosen : (b : Bool) → AllByRecursion P (retired p live) → AllByRecursion P (followers_of
          (cond b (y ∷ filter (λ (x : Instance R). not (p x.outer)) live)
          (filter (λ (x : Instance R). not (p x.outer)) live)))
      chosen true after = (all.0, after)
      chosen false after = after

  pub all_written : (P : R → Type 0) (live : List (Instance R)) (i : ℕ) (new : R)
      → AllByRecursion (λ (x : Instance R). P x.follower) live → P new
      → AllByRecursion (λ (x : Instance R). P x.follower) (with_follower live i new)
  all_written P [] i new all is = tt
  all_written P (y ∷ live) zero new all is = (is, all.1)
  all_written P (y ∷ live) (suc i) new all is = (all.0, all_written P live i new all.1 is)

  -- the follower that is put at an index is there
  pub delivered_member : (live : List (Instance R)) (i outer : ℕ) (old new : R)
      → slice_get live i ≡ Some (record { outer = outer; follower = old })
      → Contains (with_follower live i new) (record { outer = outer; follower = new })
  delivered_member [] i outer old new at =
      absurd (none-some (record { outer = outer; follower = old }) at)
  delivered_member (y ∷ live) zero outer old new at =
      subst (λ (start : ℕ). Contains (record { outer = y.outer; follower = new } ∷ live)
      (record { outer = start; follower = new }))
      (ap (λ (z : Instance R). z.outer) (same_Some y (record { outer = outer; follower = old }) at))
      (first_member (record { outer = y.outer; follower = new }) live)
  delivered_member (y ∷ live) (suc i) outer old new at =
      later_member y (record { outer = outer; follower = new }) (with_follower live i new)
      (delivered_member live i outer old new at)

  -- what is said of all is said of those that stay
  pub all_kept : (P : Instance R → Type 0) (p : ℕ → Bool) (live : List (Instance R))
      → AllByRecursion P live → AllByRecursion P (live_instances p live)
  all_kept P p [] all = tt
  all_kept P p (y ∷ live) all = chosen (p y.outer) (all_kept P p live all.1)
    where
      chosen : (b : Bool) → AllByRecursion P (live_instances p live)
          → AllByRecursion P (cond b (y ∷ live_instances p live) (live_instances p live))
      chosen true after = (all.0, after)
      chosen false after = after

-- of one that is read at an index
pub all_read : {A : Type 0} (P : A → Type 0) (xs : List A) (i : ℕ) (x : A) → AllByRecursion P xs
    → slice_get xs i ≡ Some x → P x
all_read P [] i x all at = absurd (none-some x at)
all_read P (y ∷ xs) zero x all at = subst P (same_Some y x at) all.0
all_read P (y ∷ xs) (suc i) x all at = all_read P xs i x all.1 at
