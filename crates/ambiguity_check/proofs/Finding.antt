-- How the steps of a search go together.
use Rattle.std.proofs.Common.{ℕ, ◌⊎◌, List, inl, inr, ⊎_elim, arith}
use Rattle.ambiguity_check.specs.declared.graph.Node.{Node}
use Rattle.ambiguity_check.specs.declared.graph.Phase.{Phase}
use Rattle.ambiguity_check.specs.Found.{AreFound}
use Rattle.ambiguity_check.specs.Marked.{IsMarked, IsInRow, AreMarkedToo}

-- there was nothing to mark
pub found_none : (P : Node → Type 0) (seen next : List ℕ) → ((node : Node) → P node → ⊥)
    → AreFound P seen next seen next
found_none P seen next none = record {
  marked = λ node p. absurd (none node p);
  kept = λ node is. is;
  only = λ node is. inl is;
  stays = λ node is. is;
  new = λ node is. inl is;
  fewer = omega arith;
}

-- nodes of a row were marked, none of which was seen
pub found_row : (phase : Phase) (left mask : ℕ) (seen next seen' next' : List ℕ)
    → ((node : Node) → IsInRow phase left mask node → IsMarked seen node → ⊥)
    → AreMarkedToo seen phase left mask seen' → AreMarkedToo next phase left mask next'
    → AreFound (IsInRow phase left mask) seen next seen' next'
found_row phase left mask seen next seen' next' fresh too too' = record {
  marked = too.marked;
  kept = too.kept;
  only = λ node is. ⊎_elim (λ was. inl was) (λ in'. inr (in', too'.marked node in'))
      (too.only node is);
  stays = too'.kept;
  new = λ node is. ⊎_elim (λ was. inl was) (λ in'. inr (in', fresh node in')) (too'.only node is);
  fewer = let less = too.room fresh in let more = too'.larger in omega arith;
}

-- two steps, one after the other
pub found_both : (P Q : Node → Type 0) (seen next seen' next' seen'' next'' : List ℕ)
    → AreFound P seen next seen' next' → AreFound Q seen' next' seen'' next''
    → AreFound (λ node. P node ⊎ Q node) seen next seen'' next''
found_both P Q seen next seen' next' seen'' next'' first second = record {
  marked = λ node. ⊎_elim (λ p. second.kept node (first.marked node p)) (λ q. second.marked node q);
  kept = λ node was. second.kept node (first.kept node was);
  only = λ node is. ⊎_elim
      (λ mid. ⊎_elim (λ was. inl was) (λ new. inr (inl new.0, second.stays node new.1))
      (first.only node mid))
      (λ new. inr (inr new.0, new.1)) (second.only node is);
  stays = λ node was. second.stays node (first.stays node was);
  new = λ node is. ⊎_elim
      (λ mid. ⊎_elim (λ was. inl was) (λ new. inr (inl new.0, new.1)) (first.new node mid))
      (λ new. inr (inr new.0, λ was. new.1 (first.kept node was))) (second.new node is);
  fewer = let one = first.fewer in let two = second.fewer in omega arith;
}

-- the set may be said in another way, and what was seen before may be in it
pub found_as : (P Q : Node → Type 0) (seen next seen' next' : List ℕ)
    → ((node : Node) → P node → Q node) → ((node : Node) → Q node → P node ⊎ IsMarked seen node)
    → AreFound P seen next seen' next' → AreFound Q seen next seen' next'
found_as P Q seen next seen' next' wider back found = record {
  marked = λ node q. ⊎_elim (λ p. found.marked node p) (λ was. found.kept node was) (back node q);
  kept = found.kept;
  only = λ node is. ⊎_elim (λ was. inl was) (λ new. inr (wider node new.0, new.1))
      (found.only node is);
  stays = found.stays;
  new =
      λ node is. ⊎_elim (λ was. inl was) (λ new. inr (wider node new.0, new.1)) (found.new node is);
  fewer = found.fewer;
}
