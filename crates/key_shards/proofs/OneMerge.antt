-- Tables of shards have one merge at most.
use Rattle.std.proofs.Common.{◌≡◌, ◌∙◌, ◌<◌, ◌≤◌, ℕ, Bool, true, false, cond, List, [], ◌∷◌}
use Rattle.std.proofs.Common.{refl, sym, ap, subst, arith}
use Rattle.std.specs.List.{AllByRecursion}
use Rattle.std.proofs.lemmas.Bool.{false≢true}
use Rattle.value_ops.specs.declared.scalar.Scalar.{Scalar}
use Rattle.value_ops.specs.Entries.{keys_of}
use Rattle.rate_expr.specs.Words.{Word}
use Rattle.key_shards.specs.Collections.{Collection}
use Rattle.key_shards.specs.Merging.{IsMerge, StandInOrder, first_stand}
use Rattle.key_shards.specs.Shares.{Division, Entries, entries_of}
use Rattle.key_shards.proofs.Gathered.{all_weaker, beside, beside_itself}
use Rattle.key_shards.proofs.Parting.{all_of_theirs}

module _ (home stand : List ℕ → ℕ) where
  -- the same entries stand at each home
  abbrev AreSameAtHome : Entries → Entries → Type 0
  AreSameAtHome one other =
      (at : List ℕ) → entries_of (beside home at) one ≡ entries_of (beside home at) other

  turned : (one other : Entries) → AreSameAtHome one other → AreSameAtHome other one
  turned one other same at = sym (same at)

  no_more : (entry : List ℕ × Scalar) (entries : Entries) → AreSameAtHome [] (entry ∷ entries) → ⊥
  no_more entry entries same =
      by (beside home entry.0 entry.0) (beside_itself home entry.0) (same entry.0)
    where
      by : (b : Bool) → b ≡ true
          → ◌≡◌ {A = Entries} [] (cond b (entry ∷ entries_of (beside home entry.0) entries)
          (entries_of (beside home entry.0) entries)) → ⊥
      by true is whole = cc
      by false is whole = absurd (false≢true is)

  -- of two first entries neither stands before the other
  not_before : (x y : List ℕ × Scalar) (xs ys : Entries) → StandInOrder stand (keys_of (x ∷ xs))
      → AreSameAtHome (x ∷ xs) (y ∷ ys) → stand x.0 ≤ stand y.0
  not_before x y xs ys order same =
      by (beside home y.0 y.0) (beside_itself home y.0)
      (subst (λ es. AllByRecursion (λ key. stand x.0 ≤ stand key) (keys_of es)) (same y.0)
      (all_of_theirs (λ key. stand x.0 ≤ stand key) (beside home y.0) (x ∷ xs) (
        omega arith,
        all_weaker (λ key. stand x.0 < stand key) (λ key. stand x.0 ≤ stand key)
            (λ key less. omega (arith, less)) (keys_of xs) order.0,
      )))
    where
      by : (b : Bool) → b ≡ true → AllByRecursion (λ key. stand x.0 ≤ stand key)
          (keys_of (cond b (y ∷ entries_of (beside home y.0) ys) (entries_of (beside home y.0) ys)))
          → stand x.0 ≤ stand y.0
      by true is all = all.0
      by false is all = absurd (false≢true is)

  -- so they are the same
  first_same : (x y : List ℕ × Scalar) (xs ys : Entries) → StandInOrder stand (keys_of (x ∷ xs))
      → StandInOrder stand (keys_of (y ∷ ys)) → AreSameAtHome (x ∷ xs) (y ∷ ys) → x ≡ y
  first_same x y xs ys order rising same =
      by (beside home x.0 x.0) (beside_itself home x.0) (beside home x.0 y.0) (same x.0)
    where
      before : stand x.0 ≤ stand y.0
      before = not_before x y xs ys order same

      by : (b : Bool) → b ≡ true → (c : Bool)
          → cond b (x ∷ entries_of (beside home x.0) xs) (entries_of (beside home x.0) xs)
          ≡ cond c (y ∷ entries_of (beside home x.0) ys) (entries_of (beside home x.0) ys) → x ≡ y
      by true is true whole = cc
      by true is false whole =
          let later : AllByRecursion (λ key. stand y.0 < stand key)
          (keys_of (x ∷ entries_of (beside home x.0) xs)) =
          subst (λ es. AllByRecursion (λ key. stand y.0 < stand key) (keys_of es)) (sym whole)
          (all_of_theirs (λ key. stand y.0 < stand key) (beside home x.0) ys rising.0) in
          let less = later.0 in
          let never : ⊥ = omega (arith, less, before) in absurd never
      by false is c whole = absurd (false≢true is)

  -- and so are the others
  others_same : (x : List ℕ × Scalar) (xs ys : Entries) → AreSameAtHome (x ∷ xs) (x ∷ ys)
      → AreSameAtHome xs ys
  others_same x xs ys same at = by (beside home at x.0) (same at)
    where
      by : (b : Bool)
          → cond b (x ∷ entries_of (beside home at) xs) (entries_of (beside home at) xs)
          ≡ cond b (x ∷ entries_of (beside home at) ys) (entries_of (beside home at) ys)
          → entries_of (beside home at) xs ≡ entries_of (beside home at) ys
      by true whole = cc
      by false whole = whole

  all_same : (one other : Entries) → StandInOrder stand (keys_of one)
      → StandInOrder stand (keys_of other) → AreSameAtHome one other → one ≡ other
  all_same [] [] order rising same = refl
  all_same [] (y ∷ ys) order rising same = absurd (no_more y ys same)
  all_same (x ∷ xs) [] order rising same = absurd (no_more x xs (turned (x ∷ xs) [] same))
  all_same (x ∷ xs) (y ∷ ys) order rising same =
      let is = first_same x y xs ys order rising same in
      let rest = all_same xs ys order.1 rising.1
      (others_same x xs ys (subst (λ e. AreSameAtHome (x ∷ xs) (e ∷ ys)) (sym is) same)) in
      ap (λ es. x ∷ es) rest ∙ ap (λ (e : List ℕ × Scalar). e ∷ ys) is

pub one_merge : (given : Collection) (division : Division) (word : Word) (tables : ℕ → Entries)
    (one other : Entries) → IsMerge given division word tables one
    → IsMerge given division word tables other → one ≡ other
one_merge given division word tables one other first second =
    all_same division.home (first_stand given word) one other first.order second.order
    (λ at. first.each (division.home at) (division.within at)
    ∙ sym (second.each (division.home at) (division.within at)))
