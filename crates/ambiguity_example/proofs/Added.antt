-- Nodes added after others, set by set.
use Rattle.std.proofs.Common.{◌≡◌, ℕ, zero, suc, ◌+◌, ◌<◌, ◌⊎◌, inl, inr, List, [], ◌∷◌, ◌++◌, refl}
use Rattle.std.proofs.Common.{sym, ap, ◌∙◌, subst, arith, append_assoc}
use Rattle.std.proofs.lemmas.Bool.{cases_lt}
use Rattle.std.proofs.lemmas.List.{append-nil}
use Rattle.std.proofs.lemmas.List.Elements.{Contains-append_left, Contains-append_right}
use Rattle.std.proofs.lemmas.List.Elements.{Contains-append_cases}
use Rattle.std.specs.List.{Contains}
use Rattle.rate_expr.specs.Sets.{Has}
use Rattle.ambiguity_check.proofs.Marking.{node_at, same_parts}
use Rattle.ambiguity_check.specs.declared.graph.Node.{Node}
use Rattle.ambiguity_check.specs.declared.graph.Phase.{Phase}
use Rattle.ambiguity_check.specs.declared.graph.Phase.TheVariants.{Together, Parted, Rejoined}
use Rattle.ambiguity_check.specs.Marked.{IsInRow}
use Rattle.ambiguity_example.specs.Known.{Adds}
use Rattle.ambiguity_example.specs.declared.reached_nodes.Reached.{Reached}

-- nothing is in the empty list
pub none_in : {A : Type 0} (x : A) → Contains [] x → ⊥
none_in x (at, below, is) = absurd (omega arith)

-- a list of one element has that one
pub one_in : {A : Type 0} (x y : A) → x ≡ y → Contains (x ∷ []) y
one_in x y same = (0, omega arith, same)

-- and no other
pub only_in : {A : Type 0} (x y : A) → Contains (x ∷ []) y → x ≡ y
only_in x y (zero, below, is) = is
only_in x y (suc at, below, is) = absurd (omega arith)

-- a node with a number of items
abbrev pub at_level : Node → ℕ → Reached
at_level node items = record { node = node; items = items }

-- nothing was to be added
pub adds_none : (P : Node → Type 0) (items : ℕ) (xs : List Reached) → ((node : Node) → P node → ⊥)
    → Adds P items xs xs
adds_none P items xs none = record {
  more = [];
  whole = sym (append-nil xs);
  only = λ one in'. absurd (none_in one in');
  each = λ node p. absurd (none node p);
}

-- one node was added
pub adds_one : (node : Node) (items : ℕ) (xs ys : List Reached)
    → ys ≡ xs ++ at_level node items ∷ [] → node.right < 128
    → Adds (λ other. other ≡ node) items xs ys
adds_one node items xs ys whole few = record {
  more = at_level node items ∷ [];
  whole = whole;
  only = λ one in'. let same = only_in (at_level node items) one in' in (
    ap (λ r. r.node) (sym same),
    ap (λ r. r.items) (sym same),
    subst (λ r. r.node.right < 128) same few,
  );
  each = λ other same. one_in (at_level node items) (at_level other items)
      (ap (λ n. at_level n items) (sym same));
}

-- two sets, one after the other
pub adds_both : (P Q : Node → Type 0) (items : ℕ) (xs ys zs : List Reached) → Adds P items xs ys
    → Adds Q items ys zs → Adds (λ node. P node ⊎ Q node) items xs zs
adds_both P Q items xs ys zs first second = record {
  more = first.more ++ second.more;
  whole = second.whole ∙ ap (λ v. v ++ second.more) first.whole
      ∙ append_assoc xs first.more second.more;
  only = λ one in'. elim (Contains-append_cases first.more second.more one in') [
    | inl there ↦ let is = first.only one there in (inl is.0, is.1, is.2)
    | inr there ↦ let is = second.only one there in (inr is.0, is.1, is.2)
  ];
  each = λ node of_one. elim of_one [
    | inl p ↦ Contains-append_left first.more second.more (at_level node items) (first.each node p)
    | inr q ↦ Contains-append_right first.more second.more (at_level node items)
        (second.each node q)
  ];
}

-- the set may be said in another way
pub adds_as : (P Q : Node → Type 0) (items : ℕ) (xs ys : List Reached)
    → ((node : Node) → P node → Q node) → ((node : Node) → Q node → P node)
    → Adds P items xs ys → Adds Q items xs ys
adds_as P Q items xs ys on back adds = record {
  more = adds.more;
  whole = adds.whole;
  only = λ one in'. let is = adds.only one in' in (on one.node is.0, is.1, is.2);
  each = λ node q. adds.each node (back node q);
}

module _ (phase : Phase) (left rights items : ℕ) (old : List Reached) where
  -- the nodes of a row with a lower place on the right
  abbrev pub Below : ℕ → Node → Type 0
  Below right node = IsInRow phase left rights node × (node.right < right)

  -- the node with this place was added
  pub row_added : (right : ℕ) (mid new : List Reached) → Has rights right → right < 128
      → new ≡ mid ++ at_level (node_at phase left right) items ∷ []
      → Adds (Below right) items old mid → Adds (Below (right + 1)) items old new
  row_added right mid new has few whole adds =
      adds_as (λ node. Below right node ⊎ (node ≡ node_at phase left right))
      (Below (right + 1)) items old new on back
      (adds_both (Below right) (λ node. node ≡ node_at phase left right) items old mid new adds
      (adds_one (node_at phase left right) items mid new whole few))
    where
      on : (node : Node) → Below right node ⊎ (node ≡ node_at phase left right)
          → Below (right + 1) node
      on node (inl (is, less)) = (is, omega arith)
      on node (inr same) =
          let there : node.right ≡ right = ap (λ n. n.right) same in (
            (
              ap (λ n. n.phase) same,
              ap (λ n. n.left) same,
              subst (λ (n : ℕ). Has rights n) (sym there) has,
            ),
            omega arith,
          )

      back : (node : Node) → Below (right + 1) node
          → Below right node ⊎ (node ≡ node_at phase left right)
      back node (is, less) = elim (cases_lt node.right right) [
        | inl lower ↦ inl (is, lower)
        | inr most ↦ inr (same_parts node phase left right is.0 is.1 (omega arith))
      ]

  -- there is none with this place
  pub row_kept : (right : ℕ) (new : List Reached) → (Has rights right → ⊥)
      → Adds (Below right) items old new → Adds (Below (right + 1)) items old new
  row_kept right new none adds =
      adds_as (Below right) (Below (right + 1)) items old new
      (λ node below. (below.0, lower below.1)) back adds
    where
      lower : {n : ℕ} → n < right → n < right + 1
      lower less = omega arith

      back : (node : Node) → Below (right + 1) node → Below right node
      back node (is, less) = elim (cases_lt node.right right) [
        | inl lower' ↦ (is, lower')
        | inr most ↦
            let there : node.right ≡ right = omega arith in
            absurd (none (subst (λ (n : ℕ). Has rights n) there is.2))
      ]

-- a node has one of the phases
pub one_of_three : (P : Node → Type 0) (node : Node) → P node
    → ((node.phase ≡ Together) × P node ⊎ (node.phase ≡ Parted) × P node)
    ⊎ (node.phase ≡ Rejoined) × P node
one_of_three P node p = go node.phase refl
  where
    go : (phase : Phase) → node.phase ≡ phase
        → ((node.phase ≡ Together) × P node ⊎ (node.phase ≡ Parted) × P node)
        ⊎ (node.phase ≡ Rejoined) × P node
    go Together is = inl (inl (is, p))
    go Parted is = inl (inr (is, p))
    go Rejoined is = inr (is, p)

-- the nodes of each phase, one after the other
pub adds_phases : (P : Node → Type 0) (items : ℕ) (a b c d : List Reached)
    → Adds (λ node. (node.phase ≡ Together) × P node) items a b
    → Adds (λ node. (node.phase ≡ Parted) × P node) items b c
    → Adds (λ node. (node.phase ≡ Rejoined) × P node) items c d
    → Adds P items a d
adds_phases P items a b c d first second third =
    adds_as (λ node. ((node.phase ≡ Together) × P node ⊎ (node.phase ≡ Parted) × P node)
    ⊎ (node.phase ≡ Rejoined) × P node) P items a d on (one_of_three P)
    (adds_both (λ node. (node.phase ≡ Together) × P node ⊎ (node.phase ≡ Parted) × P node)
    (λ node. (node.phase ≡ Rejoined) × P node) items a c d
    (adds_both (λ node. (node.phase ≡ Together) × P node) (λ node. (node.phase ≡ Parted) × P node)
    items a b c first second) third)
  where
    on : (node : Node) → ((node.phase ≡ Together) × P node ⊎ (node.phase ≡ Parted) × P node)
        ⊎ (node.phase ≡ Rejoined) × P node → P node
    on node (inl (inl p)) = p.1
    on node (inl (inr p)) = p.1
    on node (inr p) = p.1
