-- The cuts of a reading, found node by node.
use Rattle.std.proofs.Common.{◌≡◌, ◌↔◌, Bool, false, ℕ, zero, suc, ◌+◌, ◌-◌, ◌<◌, ◌≤◌, inl, inr}
use Rattle.std.proofs.Common.{List, [], ◌∷◌, ◌++◌, length, drop, get_or, refl, sym, ap, ◌∙◌, subst}
use Rattle.std.proofs.Common.{arith, add-one, append_assoc}
use Rattle.std.proofs.Math.Seq.{drop-cons, drop-length}
use Rattle.std.specs.Prelude.{IsTrue}
use Rattle.rate_expr.specs.Paths.{Follows}
use Rattle.rate_expr.specs.Sets.{Sets}
use Rattle.ambiguity_check.specs.declared.graph.Node.{Node}
use Rattle.ambiguity_check.specs.declared.graph.Phase.TheVariants.{Together}
use Rattle.ambiguity_example.proofs.Deciding.{not_both}
use Rattle.ambiguity_example.specs.TurnLists.{Stays, EndsFrom, AreTurns}
use Rattle.ambiguity_example.specs.declared.turns.Side.{Side}
use Rattle.ambiguity_example.specs.declared.turns.Side.TheVariants.{Left}

-- an element of a list, whatever stands for none
same_at : {A : Type 0} (xs : List A) (at : ℕ) (a b : A) → at < length xs
    → get_or xs at a ≡ get_or xs at b
same_at [] at a b below = absurd (omega arith)
same_at (x ∷ xs) zero a b below = refl
same_at (x ∷ xs) (suc at) a b below = same_at xs at a b (omega arith)

module _ (sets : Sets) (side : Side) (walk : List Node) where
  -- the cuts so far and those from the node in front of a place on are those of the walk
  abbrev pub ContinuesFrom : ℕ → List ℕ → Type 0
  ContinuesFrom at cuts =
      (before other : Node) (rest : List ℕ) → before ≡ get_or walk (at - 1) other
      → EndsFrom sets side at before (drop at walk) rest → AreTurns sets side walk (cuts ++ rest)

  -- from a node on to the next
  here : (at : ℕ) (before node other : Node) (rest : List ℕ) → at < length walk
      → node ≡ get_or walk at other
      → EndsFrom sets side at before (node ∷ drop (at + 1) walk) rest
      → EndsFrom sets side at before (drop at walk) rest
  here at before node other rest below is ends =
      let whole : drop at walk ≡ node ∷ drop (at + 1) walk =
      rw add-one (drop-cons walk at other below) ∙ ap (λ n. n ∷ drop (at + 1) walk) (sym is) in
      subst (λ nodes. EndsFrom sets side at before nodes rest) (sym whole) ends

  -- the node in front of the next place
  there : (at : ℕ) (before node a b : Node) → at < length walk → node ≡ get_or walk at a
      → before ≡ get_or walk ((at + 1) - 1) b → before ≡ node
  there at before node a b below is is' =
      let same : (at + 1) - 1 ≡ at = omega arith in
      is' ∙ ap (λ (n : ℕ). get_or walk n b) same ∙ same_at walk at b a below ∙ sym is

  -- the reading stays in its piece
  pub turns_stay : (at : ℕ) (cuts : List ℕ) (before node a b : Node) → at < length walk
      → before ≡ get_or walk (at - 1) a → node ≡ get_or walk at b → Stays sets side before node
      → ContinuesFrom at cuts → ContinuesFrom (at + 1) cuts
  turns_stay at cuts before node a b below is is' stays so_far = λ before' other rest same ends.
      so_far before a rest is (here at before node b rest below is' (inr (
        stays,
        subst (λ n. EndsFrom sets side (at + 1) n (drop (at + 1) walk) rest)
            (there at before' node b other below is' same) ends,
      )))

  -- it ends its piece
  pub turns_end : (at : ℕ) (cuts cuts' : List ℕ) (before node a b : Node) → at < length walk
      → before ≡ get_or walk (at - 1) a → node ≡ get_or walk at b
      → (Stays sets side before node → ⊥) → cuts' ≡ cuts ++ at ∷ []
      → ContinuesFrom at cuts → ContinuesFrom (at + 1) cuts'
  turns_end at cuts cuts' before node a b below is is' ended more so_far =
      λ before' other rest same ends.
      subst (AreTurns sets side walk)
      (sym (ap (λ c. c ++ rest) more ∙ append_assoc cuts (at ∷ []) rest))
      (so_far before a (at ∷ rest) is (here at before node b (at ∷ rest) below is' (inl (
        ended,
        rest,
        refl,
        subst (λ n. EndsFrom sets side (at + 1) n (drop (at + 1) walk) rest)
            (there at before' node b other below is' same) ends,
      ))))

  -- at the end of the walk the last piece ends
  pub turns_over : (at : ℕ) (cuts cuts' : List ℕ) (other : Node) → at ≤ length walk
      → length walk ≤ at → cuts' ≡ cuts ++ length walk ∷ [] → ContinuesFrom at cuts
      → AreTurns sets side walk cuts'
  turns_over at cuts cuts' other le ge more so_far =
      let end : at ≡ length walk = omega arith in
      let none : drop at walk ≡ [] = ap (λ (n : ℕ). drop n walk) end ∙ drop-length walk in
      subst (AreTurns sets side walk) (sym more)
      (so_far (get_or walk (at - 1) other) other (length walk ∷ []) refl
      (subst (λ nodes. EndsFrom sets side at (get_or walk (at - 1) other) nodes (length walk ∷ []))
      (sym none) (ap (λ (n : ℕ). n ∷ []) (sym end))))

-- in front of the second node there is the cut at the beginning
pub turns_begin : (sets : Sets) (side : Side) (walk : List Node) (cuts : List ℕ) → 0 < length walk
    → cuts ≡ 0 ∷ [] → ContinuesFrom sets side walk 1 cuts
turns_begin sets side [] cuts some one = absurd (omega arith)
turns_begin sets side (node ∷ nodes) cuts some one = λ before other rest is ends.
    subst (λ c. AreTurns sets side (node ∷ nodes) (c ++ rest)) (sym one)
    (rest, refl, subst (λ n. EndsFrom sets side 1 n nodes rest) is ends)

-- the left reading ends its first piece where the readings part
pub left_ends : (sets : Sets) (before node : Node) → before.phase ≡ Together
    → (node.phase ≡ Together → ⊥) → IsTrue false ↔ Stays sets Left before node
left_ends sets before node together apart =
    (λ f. absurd (not_both false f refl), λ stays. absurd (apart (stays.1 together)))

-- and elsewhere where no path leads on
pub left_goes : (sets : Sets) (before node : Node) (test : Bool)
    → (before.phase ≡ Together → node.phase ≡ Together)
    → IsTrue test ↔ Follows sets before.left node.left → IsTrue test ↔ Stays sets Left before node
left_goes sets before node test kept decided =
    (λ t. (decided.0 t, kept), λ stays. decided.1 stays.0)
