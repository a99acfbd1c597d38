-- A walk of pairs to an end, read as a word of both rates.
use Rattle.std.proofs.Common.{◌≡◌, ℕ, ◌+◌, ◌↔◌, List, [], ◌∷◌, length, refl, ap, arith, true}
use Rattle.std.proofs.lemmas.List.{append-nil}
use Rattle.item_schema.specs.declared.column.Column.{Column}
use Rattle.rate_expr.specs.Language.{In}
use Rattle.rate_expr.specs.Paths.{LeadsOn, AreOf}
use Rattle.rate_expr.specs.Rates.{Regex}
use Rattle.rate_expr.specs.Readings.{AreDisjoint}
use Rattle.rate_expr.specs.Sets.{Sets, Has}
use Rattle.rate_expr.specs.Words.{Word, IsWordOf}
use Rattle.ambiguity_check.proofs.OverlapWalks.{overlap_walks}
use Rattle.ambiguity_check.specs.declared.graph.Node.{Node}
use Rattle.ambiguity_check.specs.Lengths.{EndsAfter}
use Rattle.ambiguity_check.specs.Meetings.{AreMeetings}
use Rattle.ambiguity_check.specs.Overlaps.{BeginsBoth, FollowsBoth, IsInRows, EndsBoth}
use Rattle.ambiguity_example.proofs.MetItems.{all_meet_long, all_meet_word}
use Rattle.ambiguity_example.specs.Cuts.{ArePieces}
use Rattle.ambiguity_example.specs.Met.{AllMeet}
use Rattle.ambiguity_example.specs.Shows.{ShowsOverlap, IsShortestShown, choice, twice_whole}
use Rattle.ambiguity_example.specs.WalkLists.{GoesAlong, IsWalkOf, IsShortestWalk}

-- the cuts of a word in one piece
pub one_piece : (word : Word) → ArePieces word (0 ∷ length word ∷ []) (word ∷ [])
one_piece word = record {
  whole = append-nil word;
  at = let long : 0 + length word ≡ length word = omega arith in ap (λ (n : ℕ). 0 ∷ n ∷ []) long;
}

-- a shared word is shown
pub shown_overlap : (r s : Regex) (word : Word) → In r word → In s word
    → ShowsOverlap r s (twice_whole word)
shown_overlap r s word in_r in_s = record {
  first = one_piece word;
  second = one_piece word;
  in_first = in_r;
  in_second = in_s;
}

module _ (columns : List Column) (first second : Sets) (r s : Regex) (of_r : AreOf first r)
    (of_s : AreOf second s) where
  -- where both have the empty word, that is shown
  pub empty_shared : first.nullable ≡ true → second.nullable ≡ true
      → IsShortestShown columns (choice r s) (twice_whole [])
  empty_shared empty empty' = record {
    shows = (tt, shown_overlap r s [] ((of_r []).1 empty) ((of_s []).1 empty'));
    none = λ other fewer shows. absurd (omega arith);
  }

  module _ (not_empty : first.nullable ≡ true → second.nullable ≡ true → ⊥) (rows : List ℕ)
      (are : AreMeetings columns first second rows) (ends : Node → Type 0)
      (exact : (node : Node) → ends node ↔ EndsBoth first second node) where
    -- a walk of this many items leads to an end
    abbrev pub EndWalk : ℕ → Type 0
    EndWalk items = EndsAfter (BeginsBoth first second) (FollowsBoth first second) (IsInRows rows)
        ends items

    -- a word of both rates has a walk to an end
    overlap_walk : (word : Word) → IsWordOf columns word → In r word → In s word
        → EndWalk (length word)
    overlap_walk [] is in_r in_s = absurd (not_empty ((of_r []).0 in_r) ((of_s []).0 in_s))
    overlap_walk (item ∷ word) is in_r in_s =
        let walk = overlap_walks columns first second rows are r s of_r of_s (length (item ∷ word))
        (omega arith) ((item ∷ word, is, in_r, in_s), refl) in
        (walk.0, walk.1, (exact walk.0).1 walk.2)

    -- where there is none, no word is in both
    pub none_shared : ((items : ℕ) → EndWalk items → ⊥) → AreDisjoint columns r s
    none_shared none word is in_r in_s = none (length word) (overlap_walk word is in_r in_s)

    -- the word of a walk leads both ways to an end
    both_on : (node : Node) (nodes : List Node) (word : Word)
        → GoesAlong (FollowsBoth first second) (IsInRows rows) ends node nodes
        → AllMeet columns (λ _. first) (λ _. second) nodes word
        → (end : ℕ) × (end' : ℕ) × LeadsOn first node.left word end
        × LeadsOn second node.right word end' × Has first.last end × Has second.last end'
    both_on node [] [] ended meet =
        let end = (exact node).0 ended in (node.left, node.right, refl, refl, end.1, end.2)
    both_on node [] (item ∷ word) ended meet = absurd meet
    both_on node (next ∷ nodes) [] along meet = absurd meet
    both_on node (next ∷ nodes) (item ∷ word) (goes, met, along) (one, meet) =
        let rest = both_on next nodes word along meet in (
          rest.0,
          rest.1,
          (next.left, goes.1, one.1, rest.2),
          (next.right, goes.2, one.2, rest.3),
          rest.4,
          rest.5,
        )

    in_both : (nodes : List Node) (word : Word)
        → IsWalkOf (BeginsBoth first second) (FollowsBoth first second) (IsInRows rows) ends nodes
        → AllMeet columns (λ _. first) (λ _. second) nodes word → In r word × In s word
    in_both [] word walk meet = absurd walk
    in_both (node ∷ nodes) [] walk meet = absurd meet
    in_both (node ∷ nodes) (item ∷ word) (begins, met, along) (one, meet) =
        let both = both_on node nodes word along meet in (
          (of_r (item ∷ word)).1 (both.0, (node.left, begins.1, one.1, both.2), both.4),
          (of_s (item ∷ word)).1 (both.1, (node.right, begins.2, one.2, both.3), both.5),
        )

    -- a shortest walk is a shortest word
    pub walk_shared : (nodes : List Node) (word : Word)
        → IsShortestWalk (BeginsBoth first second) (FollowsBoth first second)
        (IsInRows rows) ends nodes → AllMeet columns (λ _. first) (λ _. second) nodes word
        → IsShortestShown columns (choice r s) (twice_whole word)
    walk_shared nodes word shortest meet =
        let both = in_both nodes word shortest.walk meet in record {
          shows = (
            all_meet_word columns (λ _. first) (λ _. second) nodes word meet,
            shown_overlap r s word both.0 both.1,
          );
          none = λ other fewer shows. shortest.none (length other.items)
              (omega (arith, all_meet_long columns (λ _. first) (λ _. second) nodes word meet))
              (overlap_walk other.items shows.0 shows.1.in_first shows.1.in_second);
        }
