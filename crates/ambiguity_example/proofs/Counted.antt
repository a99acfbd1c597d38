-- How many nodes of a walk have a phase.
use Rattle.std.proofs.Common.{◌≡◌, ℕ, ◌+◌, ◌<◌, ◌≤◌, List, [], ◌∷◌, ◌++◌, length, take, get_or}
use Rattle.std.proofs.Common.{refl, sym, ap, ◌∙◌, subst, arith}
use Rattle.std.proofs.lemmas.List.{take_more}
use Rattle.std.proofs.Math.Seq.{take-length}
use Rattle.ambiguity_check.specs.declared.graph.Node.{Node}
use Rattle.ambiguity_check.specs.declared.graph.Phase.{Phase}
use Rattle.ambiguity_check.specs.declared.graph.Phase.TheVariants.{Together, Parted, Rejoined}
use Rattle.ambiguity_example.specs.Counts.{is_same, count_in}

-- a phase is the same as itself
itself : (phase : Phase) → is_same phase phase ≡ 1
itself Together = refl
itself Parted = refl
itself Rejoined = refl

pub same_phase : (phase other : Phase) → other ≡ phase → is_same phase other ≡ 1
same_phase phase other same = subst (λ p. is_same phase p ≡ 1) (sym same) (itself phase)

-- and not as another
pub other_phase : (phase other : Phase) → (other ≡ phase → ⊥) → is_same phase other ≡ 0
other_phase Together Together differ = absurd (differ refl)
other_phase Together Parted differ = refl
other_phase Together Rejoined differ = refl
other_phase Parted Together differ = refl
other_phase Parted Parted differ = absurd (differ refl)
other_phase Parted Rejoined differ = refl
other_phase Rejoined Together differ = refl
other_phase Rejoined Parted differ = refl
other_phase Rejoined Rejoined differ = absurd (differ refl)

-- one node more
count_more : (phase : Phase) (nodes : List Node) (node : Node)
    → count_in phase (nodes ++ node ∷ []) ≡ count_in phase nodes + is_same phase node.phase
count_more phase [] node = omega arith
count_more phase (n ∷ nodes) node = let more = count_more phase nodes node in omega arith

pub counted : (phase : Phase) (nodes : List Node) (at : ℕ) (node other : Node) (count one : ℕ)
    → at < length nodes → node ≡ get_or nodes at other → count ≡ count_in phase (take at nodes)
    → is_same phase node.phase ≡ one → count + one ≡ count_in phase (take (at + 1) nodes)
counted phase nodes at node other count one below is so_far same =
    let whole : take (at + 1) nodes ≡ take at nodes ++ node ∷ [] =
    take_more nodes at other below ∙ ap (λ n. take at nodes ++ n ∷ []) (sym is) in
    let more : count_in phase (take (at + 1) nodes)
    ≡ count_in phase (take at nodes) + is_same phase node.phase =
    ap (count_in phase) whole ∙ count_more phase (take at nodes) node in
    omega arith

-- all nodes
pub counted_all : (phase : Phase) (nodes : List Node) (at count : ℕ) → at ≤ length nodes
    → length nodes ≤ at → count ≡ count_in phase (take at nodes) → count ≡ count_in phase nodes
counted_all phase nodes at count le ge so_far =
    let end : at ≡ length nodes = omega arith in
    so_far ∙ ap (count_in phase) (ap (λ (n : ℕ). take n nodes) end ∙ take-length nodes)

-- a node has one phase
one_phase : (phase : Phase) → is_same Together phase + is_same Parted phase ≤ 1
one_phase Together = omega arith
one_phase Parted = omega arith
one_phase Rejoined = omega arith

pub counts_few : (nodes : List Node)
    → count_in Together nodes + count_in Parted nodes ≤ length nodes
counts_few [] = omega arith
counts_few (node ∷ nodes) =
    let one = one_phase node.phase in
    let few = counts_few nodes in omega arith
