-- The levels of a search whose nodes are known.
use Rattle.std.proofs.Common.{◌≡◌, ℕ, ◌+◌, ◌<◌, inl, inr, List, [], ◌∷◌, ◌++◌, refl, sym, subst}
use Rattle.std.proofs.Common.{arith}
use Rattle.std.proofs.lemmas.Bool.{cases_lt}
use Rattle.std.proofs.lemmas.List.Elements.{Contains-append_left, Contains-append_right}
use Rattle.std.proofs.lemmas.List.Elements.{Contains-append_cases}
use Rattle.std.specs.List.{Contains}
use Rattle.ambiguity_check.proofs.Searches.{level_over}
use Rattle.ambiguity_check.proofs.Walking.{walk_some}
use Rattle.ambiguity_check.specs.declared.graph.Node.{Node}
use Rattle.ambiguity_check.specs.Lengths.{EndsAfter}
use Rattle.ambiguity_check.specs.Levels.{Searched, IsShortest, IsLevel}
use Rattle.ambiguity_check.specs.Marked.{IsMarked}
use Rattle.ambiguity_check.specs.Walks.{IsWalk}
use Rattle.ambiguity_example.proofs.Added.{at_level, none_in, one_in}
use Rattle.ambiguity_example.specs.Known.{AreKnown, Adds, Rises}
use Rattle.ambiguity_example.specs.WalkLists.{GoesAlong, IsWalkOf}
use Rattle.ambiguity_example.specs.declared.reached_nodes.Reached.{Reached}

-- a list has its first element, and those of the rest
first_in : (x : Reached) (xs : List Reached) → Contains (x ∷ xs) x
first_in x xs = Contains-append_left (x ∷ []) xs x (one_in x x refl)

rest_in : (x : Reached) (xs : List Reached) (y : Reached) → Contains xs y → Contains (x ∷ xs) y
rest_in x xs y in' = Contains-append_right (x ∷ []) xs y in'

-- those of one level rise
one_level : (xs : List Reached) (items : ℕ)
    → ((one : Reached) → Contains xs one → one.items ≡ items) → Rises xs
one_level [] items all = tt
one_level (x ∷ xs) items all = (
  λ other in'. let a = all x (first_in x xs) in
      let b = all other (rest_in x xs other in') in omega arith,
  one_level xs items (λ one in'. all one (rest_in x xs one in')),
)

-- and so do those of one level after those of lower ones
rises_on : (xs ys : List Reached) (items : ℕ) → Rises xs
    → ((one : Reached) → Contains xs one → one.items < items)
    → ((one : Reached) → Contains ys one → one.items ≡ items) → Rises (xs ++ ys)
rises_on [] ys items rises below all = one_level ys items all
rises_on (x ∷ xs) ys items rises below all = (
  λ other in'. elim (Contains-append_cases xs ys other in') [
    | inl there ↦ rises.0 other there
    | inr there ↦
        let a = below x (first_in x xs) in let b = all other there in omega arith
  ],
  rises_on xs ys items rises.1 (λ one in'. below one (rest_in x xs one in')) all,
)

module _ (begins : Node → Type 0) (continues : Node → Node → Type 0) (meet : Node → Type 0) where
  -- no level is below the first
  pub known_none : AreKnown begins continues meet 1 []
  known_none = record {
    only = λ one in'. absurd (none_in one in');
    each = λ node fewer less shortest. absurd (no_walk fewer node less shortest.walk);
    rises = tt;
  }
    where
      no_walk : (items : ℕ) (node : Node) → items < 1 → IsWalk begins continues meet items node → ⊥
      no_walk items node less walk =
          let some = walk_some begins continues meet items node walk in omega arith

  -- one more level
  pub known_next : (items : ℕ) (search : Searched) (old new : List Reached)
      → IsLevel begins continues meet items search → AreKnown begins continues meet items old
      → Adds (IsMarked search.latest) items old new → AreKnown begins continues meet (items + 1) new
  known_next items search old new level known adds = record {
    only = λ one in'. elim (Contains-append_cases old adds.more one
        (subst (λ xs. Contains xs one) adds.whole in')) [
          | inl there ↦ let is = known.only one there in (is.0, above is.1, is.2)
          | inr there ↦
              let is = adds.only one there in (
                subst (λ (n : ℕ). IsShortest begins continues meet n one.node) (sym is.1)
                    ((level.latest one.node).0 is.0),
                next is.1,
                is.2,
              )
        ];
    each = λ node fewer less shortest. subst (λ xs. Contains xs (at_level node fewer))
        (sym adds.whole) (elim (cases_lt fewer items) [
          | inl lower ↦ Contains-append_left old adds.more (at_level node fewer)
              (known.each node fewer lower shortest)
          | inr most ↦
              let same : fewer ≡ items = omega arith in
              Contains-append_right old adds.more (at_level node fewer)
              (subst (λ (n : ℕ). Contains adds.more (at_level node n)) (sym same)
              (adds.each node ((level.latest node).1
              (subst (λ (n : ℕ). IsShortest begins continues meet n node) same shortest))))
        ]);
    rises = subst Rises (sym adds.whole) (rises_on old adds.more items known.rises
        (λ one in'. (known.only one in').1) (λ one in'. (adds.only one in').1));
  }
    where
      above : {n : ℕ} → n < items → n < items + 1
      above less = omega arith

      next : {n : ℕ} → n ≡ items → n < items + 1
      next same = omega arith

  module _ (ends : Node → Type 0) where
    -- no walk of fewer items leads to an end
    abbrev pub NoneBelow : ℕ → Type 0
    NoneBelow items = (fewer : ℕ) → fewer < items → EndsAfter begins continues meet ends fewer → ⊥

    -- then an end of a walk of this many items is in the level
    end_latest : (items : ℕ) (search : Searched) → IsLevel begins continues meet items search
        → NoneBelow items → (node : Node) → IsWalk begins continues meet items node → ends node
        → IsMarked search.latest node
    end_latest items search level none node walk ended = (level.latest node).1 (record {
      walk = walk;
      none = λ fewer less walk'. none fewer less (node, walk', ended);
    })

    -- where no end is in a level, none is after as many items
    pub none_next : (items : ℕ) (search : Searched) → IsLevel begins continues meet items search
        → NoneBelow items → ((node : Node) → IsMarked search.latest node → ends node → ⊥)
        → NoneBelow (items + 1)
    none_next items search level none not_here fewer less (node, walk, ended) =
        elim (cases_lt fewer items) [
          | inl lower ↦ none fewer lower (node, walk, ended)
          | inr most ↦
              let same : fewer ≡ items = omega arith in
              not_here node (end_latest items search level none node
              (subst (λ (n : ℕ). IsWalk begins continues meet n node) same walk) ended) ended
        ]

    -- where a level is empty, no walk leads to an end
    pub none_ever : (items : ℕ) (search : Searched) → IsLevel begins continues meet items search
        → NoneBelow items → ((node : Node) → IsMarked search.latest node → ⊥)
        → (any : ℕ) → EndsAfter begins continues meet ends any → ⊥
    none_ever items search level none empty any (node, walk, ended) =
        let seen = (level_over begins continues meet items search level empty node).1 (any, walk) in
        let some = (level.seen node).0 seen in
        elim (cases_lt some.0 items) [
          | inl lower ↦ none some.0 lower (node, some.2, ended)
          | inr most ↦
              let same : some.0 ≡ items = (let few = some.1 in omega arith) in
              empty node (end_latest items search level none node
              (subst (λ (n : ℕ). IsWalk begins continues meet n node) same some.2) ended)
        ]

-- a walk to one end is one to the ends that have it
pub along_as : (continues : Node → Node → Type 0) (meet ends ends' : Node → Type 0)
    → ((node : Node) → ends node → ends' node) → (node : Node) (nodes : List Node)
    → GoesAlong continues meet ends node nodes → GoesAlong continues meet ends' node nodes
along_as continues meet ends ends' is node [] ended = is node ended
along_as continues meet ends ends' is node (next ∷ nodes) along =
    (along.0, along.1, along_as continues meet ends ends' is next nodes along.2)

pub walk_to_as : (begins : Node → Type 0) (continues : Node → Node → Type 0)
    (meet ends ends' : Node → Type 0) → ((node : Node) → ends node → ends' node)
    → (nodes : List Node) → IsWalkOf begins continues meet ends nodes
    → IsWalkOf begins continues meet ends' nodes
walk_to_as begins continues meet ends ends' is [] walk = walk
walk_to_as begins continues meet ends ends' is (node ∷ nodes) walk =
    (walk.0, walk.1, along_as continues meet ends ends' is node nodes walk.2)
