-- A walk that is found from its end.
use Rattle.std.proofs.Common.{◌≡◌, ℕ, ◌+◌, ◌<◌, ◌⊎◌, inl, inr, ⊎_elim, List, [], ◌∷◌, ◌++◌, length}
use Rattle.std.proofs.Common.{take, drop, get_or, reverse, sym, ap, ◌∙◌, subst, arith, add-one}
use Rattle.std.proofs.Common.{Fits, w32, ◌^◌}
use Rattle.std.proofs.lemmas.List.{take_more, take-append-drop, reverse-append}
use Rattle.std.proofs.lemmas.List.Elements.{Contains-append_cases, Contains-get_or}
use Rattle.std.proofs.Math.Seq.{drop-cons}
use Rattle.std.specs.List.{Contains}
use Rattle.ambiguity_check.proofs.Walking.{walk_cases}
use Rattle.ambiguity_check.specs.declared.graph.Node.{Node}
use Rattle.ambiguity_check.specs.Levels.{IsShortest}
use Rattle.ambiguity_check.specs.Walks.{IsWalk, later}
use Rattle.ambiguity_example.proofs.Added.{at_level, none_in, only_in}
use Rattle.ambiguity_example.specs.Known.{AreKnown, Rises}
use Rattle.ambiguity_example.specs.WalkLists.{GoesAlong, IsWalkOf}
use Rattle.ambiguity_example.specs.declared.reached_nodes.Reached.{Reached}

-- of those that rise, each with fewer items than one is in front of it
rises_after : (xs ys : List Reached) → Rises (xs ++ ys) → Rises ys
rises_after [] ys rises = rises
rises_after (x ∷ xs) ys rises = rises_after xs ys rises.1

in_front : (xs ys : List Reached) (one other : Reached) → Rises (xs ++ one ∷ ys)
    → Contains (xs ++ one ∷ ys) other → other.items < one.items → Contains xs other
in_front xs ys one other rises in' less = elim (Contains-append_cases xs (one ∷ ys) other in') [
  | inl there ↦ there
  | inr there ↦ elim (Contains-append_cases (one ∷ []) ys other there) [
    | inl here ↦ let same = ap (λ r. r.items) (only_in one other here) in absurd (omega arith)
    | inr among ↦
        let most = (rises_after xs (one ∷ ys) rises).0 other among in absurd (omega arith)
  ]
]

-- the list around one of its elements
around : (xs : List Reached) (at : ℕ) (one other : Reached) → at < length xs
    → one ≡ get_or xs at other → xs ≡ take at xs ++ one ∷ drop (at + 1) xs
around xs at one other below is = sym (take-append-drop at xs)
    ∙ ap (λ v. take at xs ++ v) (rw add-one (drop-cons xs at other below)
    ∙ ap (λ r. r ∷ drop (at + 1) xs) (sym is))

module _ (begins : Node → Type 0) (continues : Node → Node → Type 0) (meet : Node → Type 0)
    (ends : Node → Type 0) where
  -- the walk leads from a node to the end, and each node of a shortest walk that leads to it is
  -- among those in front
  pub record IsBack (items : ℕ) (front : List Reached) (first : Reached) (walk : List Node)
      : Type 0 where
    pub rest : List Node
    pub begun : walk ≡ first.node ∷ rest
    pub goes : GoesAlong continues meet ends first.node rest
    pub long : first.items + length rest ≡ items
    pub shortest : IsShortest begins continues meet first.items first.node
    pub before : (node : Node) (fewer : ℕ) → fewer + 1 ≡ first.items
        → IsShortest begins continues meet fewer node → continues node first.node
        → Contains front (at_level node fewer)

  -- the last node of a walk meets
  walk_meets : (items : ℕ) (node : Node) → IsWalk begins continues meet items node → meet node
  walk_meets items node walk = ⊎_elim (λ first. first.2) (λ more. more.5)
      (walk_cases begins continues meet items node walk)

  -- a node of a shortest walk is one of the first, or another one of a shortest walk leads to it
  shortest_cases : (items : ℕ) (node : Node) → IsShortest begins continues meet items node
      → ((items ≡ 1) × begins node)
      ⊎ ((fewer : ℕ) × (before : Node) × (fewer + 1 ≡ items)
      × IsShortest begins continues meet fewer before × continues before node)
  shortest_cases items node shortest = ⊎_elim (λ first. inl (first.0, first.1))
      (λ more. inr (
        more.0,
        more.1,
        sym more.2,
        record {
          walk = more.3;
          none = λ fewer less walk. shortest.none (fewer + 1) (let same = more.2 in omega arith)
              (later fewer more.1 node walk more.4 more.5);
        },
        more.4,
      ))
      (walk_cases begins continues meet items node shortest.walk)

  -- at first the walk is the end alone
  pub back_begins : (items : ℕ) (reached front : List Reached) (end : Node) (walk : List Node)
      → AreKnown begins continues meet items reached → IsShortest begins continues meet items end
      → ends end → front ≡ reached → walk ≡ end ∷ []
      → IsBack items front (at_level end items) walk
  back_begins items reached front end walk known shortest ended all one = record {
    rest = [];
    begun = one;
    goes = ended;
    long = omega arith;
    shortest = shortest;
    before =
        λ node fewer same before goes. subst (λ xs. Contains xs (at_level node fewer)) (sym all)
        (known.each node fewer (omega arith) before);
  }

  -- a node that leads to the first one is the first
  pub back_found : (items : ℕ) (reached : List Reached) (count at : ℕ)
      (before other first : Reached) (walk walk' : List Node)
      → AreKnown begins continues meet items reached → count ≡ at + 1 → at < length reached
      → before ≡ get_or reached at other
      → IsBack items (take count reached) first (reverse walk) → before.items + 1 ≡ first.items
      → continues before.node first.node → walk' ≡ walk ++ before.node ∷ []
      → IsBack items (take at reached) before (reverse walk')
  back_found items reached count at before other first walk walk' known next below is back same
      goes more = record {
        rest = reverse walk;
        begun = ap reverse more ∙ reverse-append walk (before.node ∷ []);
        goes = subst (λ nodes. GoesAlong continues meet ends before.node nodes) (sym back.begun)
            (goes, walk_meets first.items first.node back.shortest.walk, back.goes);
        long = let long = back.long in omega (arith, ap length back.begun);
        shortest = here.0;
        before = λ node fewer less shortest leads.
            in_front (take at reached) (drop (at + 1) reached) before (at_level node fewer)
            (subst Rises whole known.rises)
            (subst (λ xs. Contains xs (at_level node fewer)) whole
            (known.each node fewer (let few = here.1 in omega arith) shortest)) (omega arith);
      }
    where
      whole : reached ≡ take at reached ++ before ∷ drop (at + 1) reached
      whole = around reached at before other below is

      here : IsShortest begins continues meet before.items before.node × (before.items < items)
          × (before.node.right < 128)
      here = known.only before (subst (Contains reached) (sym is)
          (Contains-get_or reached at other below))

  -- one that does not lead to it is passed over
  pub back_passed : (items : ℕ) (reached : List Reached) (count at : ℕ)
      (before other first : Reached) (walk : List Node)
      → count ≡ at + 1 → at < length reached → before ≡ get_or reached at other
      → IsBack items (take count reached) first walk
      → (before.items + 1 ≡ first.items → continues before.node first.node → ⊥)
      → IsBack items (take at reached) first walk
  back_passed items reached count at before other first walk next below is back none = record {
    rest = back.rest;
    begun = back.begun;
    goes = back.goes;
    long = back.long;
    shortest = back.shortest;
    before = λ node fewer less shortest leads.
        elim (Contains-append_cases (take at reached) (before ∷ []) (at_level node fewer)
        (subst (λ xs. Contains xs (at_level node fewer)) more
        (back.before node fewer less shortest leads))) [
          | inl there ↦ there
          | inr here ↦
              let same = only_in before (at_level node fewer) here in
              absurd (none (let few = ap (λ r. r.items) same in omega arith)
              (subst (λ n. continues n first.node) (sym (ap (λ r. r.node) same)) leads))
        ];
  }
    where
      more : take count reached ≡ take at reached ++ before ∷ []
      more = ap (λ (n : ℕ). take n reached) next ∙ take_more reached at other below
          ∙ ap (λ r. take at reached ++ r ∷ []) (sym is)

  -- what is known of one of them
  pub known_at : (items : ℕ) (reached : List Reached) (at : ℕ) (other : Reached)
      → AreKnown begins continues meet items reached → at < length reached
      → ((get_or reached at other).items < items) × ((get_or reached at other).node.right < 128)
  known_at items reached at other known below =
      let is = known.only (get_or reached at other) (Contains-get_or reached at other below) in
      (is.1, is.2)

  -- its number of items has room for one more
  pub known_fits : (items : ℕ) (reached : List Reached) (at : ℕ) (other : Reached)
      → AreKnown begins continues meet items reached → at < length reached → items < 2 ^ 32
      → Fits w32 ((get_or reached at other).items + 1)
  known_fits items reached at other known below fits =
      let is = (known_at items reached at other known below).0 in omega arith

  -- where none is left, the walk is whole
  pub back_ends : (items : ℕ) (front : List Reached) (first : Reached) (walk : List Node)
      → front ≡ [] → IsBack items front first walk
      → IsWalkOf begins continues meet ends walk × (length walk ≡ items)
  back_ends items front first walk empty back =
      elim (shortest_cases first.items first.node back.shortest) [
        | inl begun ↦ (
          subst (λ nodes. IsWalkOf begins continues meet ends nodes) (sym back.begun)
              (begun.1, walk_meets first.items first.node back.shortest.walk, back.goes),
          (let long = back.long in let one = begun.0 in omega (arith, ap length back.begun)),
        )
        | inr more ↦ absurd (none_in (at_level more.1 more.0)
            (subst (λ xs. Contains xs (at_level more.1 more.0)) empty
            (back.before more.1 more.0 more.2 more.3 more.4)))
      ]
