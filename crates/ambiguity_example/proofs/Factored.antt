-- A walk of factorings to an end, read as a word with two factorings.
use Rattle.std.proofs.Common.{◌≡◌, ◌≢◌, ℕ, ◌+◌, ◌≤◌, ◌↔◌, inl, inr, ⊎_elim, List, [], ◌∷◌, ◌++◌}
use Rattle.std.proofs.Common.{length, refl, sym, ap, ◌∙◌, subst, arith, true}
use Rattle.std.specs.List.{AllByRecursion}
use Rattle.value_ops.specs.declared.field.Field.{Field}
use Rattle.item_schema.specs.declared.column.Column.{Column}
use Rattle.rate_expr.specs.Language.{In}
use Rattle.rate_expr.specs.Paths.{Follows, Meets, LeadsOn, Spells, AreOf}
use Rattle.rate_expr.specs.Rates.{Regex}
use Rattle.rate_expr.specs.Readings.{HasOneFactoring}
use Rattle.rate_expr.specs.Sets.{Sets, Has}
use Rattle.rate_expr.specs.Words.{Word, IsWordOf, join}
use Rattle.ambiguity_check.proofs.FactorRuns.{all_as}
use Rattle.ambiguity_check.proofs.FactorWalks.{factors_walks, same_factors}
use Rattle.ambiguity_check.proofs.Marking.{node_at, same_parts}
use Rattle.ambiguity_check.specs.declared.graph.Node.{Node}
use Rattle.ambiguity_check.specs.declared.graph.Phase.{Phase}
use Rattle.ambiguity_check.specs.declared.graph.Phase.TheVariants.{Together, Parted, Rejoined}
use Rattle.ambiguity_check.specs.Factorings.{BeginsFactors, Factors, FactorsOn, EndsFactors}
use Rattle.ambiguity_check.specs.Lengths.{EndsAfter}
use Rattle.ambiguity_check.specs.Meetings.{AreMeetings}
use Rattle.ambiguity_check.specs.Overlaps.{IsInRows}
use Rattle.ambiguity_example.proofs.MetItems.{all_meet_long, all_meet_word}
use Rattle.ambiguity_example.specs.Cuts.{cuts_from, PartsInto}
use Rattle.ambiguity_example.specs.Met.{MeetsBoth, AllMeet}
use Rattle.ambiguity_example.specs.Shows.{Shown, ShowsFactorings, IsShortestShown, iter}
use Rattle.ambiguity_example.specs.TurnLists.{place_of, Stays, EndsFrom, AreTurns}
use Rattle.ambiguity_example.specs.WalkLists.{GoesAlong, IsWalkOf, IsShortestWalk}
use Rattle.ambiguity_example.specs.declared.turns.Side.{Side}
use Rattle.ambiguity_example.specs.declared.turns.Side.TheVariants.{Left, Right}

-- a place where a piece ends, and one where another begins
abbrev pub Turns : Sets → ℕ → ℕ → Type 0
Turns sets before next = Has sets.last before × Has sets.first next

-- places of factorings after a phase
stay_or_turn : (sets : Sets) (side : Side) (phase : Phase) (left right : ℕ) (next : Node)
    → FactorsOn sets phase left right next
    → (Stays sets side (node_at phase left right) next → ⊥)
    → Turns sets (place_of side (node_at phase left right)) (place_of side next)
stay_or_turn sets Left Together left right next (inl (is, follows, follows')) ended =
    absurd (ended (follows, λ together. is))
stay_or_turn sets Left Together left right next (inr (ends, is, begins, follows)) ended =
    (ends, begins)
stay_or_turn sets Left Parted left right next (is, inl follows, goes) ended =
    absurd (ended (follows, λ together. let never : Parted ≡ Together = together in cc))
stay_or_turn sets Left Parted left right next (is, inr turns, goes) ended = turns
stay_or_turn sets Left Rejoined left right next (is, inl follows, goes) ended =
    absurd (ended (follows, λ together. let never : Rejoined ≡ Together = together in cc))
stay_or_turn sets Left Rejoined left right next (is, inr turns, goes) ended = turns
stay_or_turn sets Right Together left right next (inl (is, follows, follows')) ended =
    absurd (ended follows')
stay_or_turn sets Right Together left right next (inr (ends, is, begins, follows)) ended =
    absurd (ended follows)
stay_or_turn sets Right Parted left right next (is, goes, inl follows) ended =
    absurd (ended follows)
stay_or_turn sets Right Parted left right next (is, goes, inr turns) ended = turns
stay_or_turn sets Right Rejoined left right next (is, goes, inl follows) ended =
    absurd (ended follows)
stay_or_turn sets Right Rejoined left right next (is, goes, inr turns) ended = turns

-- a reading that stays follows
stays_follows : (sets : Sets) (side : Side) (before next : Node) → Stays sets side before next
    → Follows sets (place_of side before) (place_of side next)
stays_follows sets Left before next stays = stays.0
stays_follows sets Right before next stays = stays

module _ (columns : List Column) (sets : Sets) (rows : List ℕ) (ends : Node → Type 0)
    (exact : (node : Node) → ends node ↔ EndsFactors sets node) where
  -- the walk leads from a node along others
  abbrev Along : Node → List Node → Type 0
  Along node nodes = GoesAlong (Factors sets) (IsInRows rows) ends node nodes

  -- the items meet the places of the nodes
  abbrev Meet : List Node → Word → Type 0
  Meet nodes word = AllMeet columns (λ _. sets) (λ _. sets) nodes word

  -- a reading ends where the walk does
  side_ends : (side : Side) (node : Node) → ends node → Has sets.last (place_of side node)
  side_ends Left node ended = ((exact node).0 ended).1
  side_ends Right node ended = ((exact node).0 ended).2

  -- it begins where the walk does
  side_begins : (side : Side) (node : Node) → BeginsFactors sets node
      → Has sets.first (place_of side node)
  side_begins Left node begins = begins.1
  side_begins Right node begins = begins.2

  -- an item meets its place
  side_meets : (side : Side) (node : Node) (item : List Field)
      → MeetsBoth columns sets sets node.left node.right item → Meets sets (place_of side node) item
  side_meets Left node item meets = meets.1
  side_meets Right node item meets = meets.2

  -- what is left of a piece, and the pieces after it
  record Reads (place at : ℕ) (word : Word) (cuts : List ℕ) : Type 0 where
    head : Word
    pieces : List Word
    whole : word ≡ head ++ join pieces
    end : ℕ
    on : LeadsOn sets place head end
    last : Has sets.last end
    spelled : AllByRecursion (Spells sets) pieces
    there : cuts ≡ cuts_from (at + length head) pieces

  reads_on : (side : Side) (at : ℕ) (node : Node) (nodes : List Node) (word : Word) (cuts : List ℕ)
      → Along node nodes → Meet nodes word → EndsFrom sets side at node nodes cuts
      → Reads (place_of side node) at word cuts
  reads_on side at node [] [] cuts ended meet is = record {
    head = [];
    pieces = [];
    whole = refl;
    end = place_of side node;
    on = refl;
    last = side_ends side node ended;
    spelled = tt;
    there = is ∙ (let same : at ≡ at + 0 = omega arith in ap (λ (n : ℕ). n ∷ []) same);
  }
  reads_on side at node [] (item ∷ word) cuts along meet is = absurd meet
  reads_on side at node (next ∷ nodes) [] cuts along meet is = absurd meet
  reads_on side at node (next ∷ nodes) (item ∷ word) cuts (goes, met, along) (one, meet)
      (inl (ended, rest, is, ends')) =
      let more = reads_on side (at + 1) next nodes word rest along meet ends' in
      let turns = stay_or_turn sets side node.phase node.left node.right next goes ended in
      record {
        head = [];
        pieces = (item ∷ more.head) ∷ more.pieces;
        whole = ap (λ w. item ∷ w) more.whole;
        end = place_of side node;
        on = refl;
        last = turns.0;
        spelled = (
          (
            more.end,
            (place_of side next, turns.1, side_meets side next item one, more.on),
            more.last,
          ),
          more.spelled,
        );
        there = is
            ∙ (let same : at ≡ at + 0 = omega arith in ap (λ (n : ℕ). n ∷ rest) same)
            ∙ ap (λ c. (at + 0) ∷ c) more.there
            ∙ (let same : (at + 1) + length more.head ≡ (at + 0) + length (item ∷ more.head) =
            omega arith in
            ap (λ (n : ℕ). (at + 0) ∷ cuts_from n more.pieces) same);
      }
  reads_on side at node (next ∷ nodes) (item ∷ word) cuts (goes, met, along) (one, meet)
      (inr (stays, ends')) =
      let more = reads_on side (at + 1) next nodes word cuts along meet ends' in record {
        head = item ∷ more.head;
        pieces = more.pieces;
        whole = ap (λ w. item ∷ w) more.whole;
        end = more.end;
        on = (
          place_of side next,
          stays_follows sets side node next stays,
          side_meets side next item one,
          more.on,
        );
        last = more.last;
        spelled = more.spelled;
        there = more.there
            ∙ (let same : (at + 1) + length more.head ≡ at + length (item ∷ more.head) =
            omega arith in
            ap (λ (n : ℕ). cuts_from n more.pieces) same);
      }

  -- the cuts are in front of none of the items so far
  none_lower : (side : Side) (at : ℕ) (node : Node) (nodes : List Node) (first : ℕ) (rest : List ℕ)
      → EndsFrom sets side at node nodes (first ∷ rest) → at ≤ first
  none_lower side at node [] first rest is = let same : first ≡ at = cc in omega arith
  none_lower side at node (next ∷ nodes) first rest (inl (ended, others, is, ends')) =
      let same : first ≡ at = cc in omega arith
  none_lower side at node (next ∷ nodes) first rest (inr (stays, ends')) =
      let least = none_lower side (at + 1) next nodes first rest ends' in omega arith

  -- from places in the first pieces on, the left one ends its own first
  cuts_differ : (at left right : ℕ) (nodes : List Node) (cuts cuts' : List ℕ)
      → Along (node_at Together left right) nodes
      → EndsFrom sets Left at (node_at Together left right) nodes cuts
      → EndsFrom sets Right at (node_at Together left right) nodes cuts' → cuts ≢ cuts'
  cuts_differ at left right [] cuts cuts' ended is is' same =
      let never : Together ≡ Parted = ((exact (node_at Together left right)).0 ended).0 in cc
  cuts_differ at left right (next ∷ nodes) cuts cuts' (inl (is, follows, follows'), met, along)
      (inl (ended, rest, first, more)) ends' same = absurd (ended (follows, λ together. is))
  cuts_differ at left right (next ∷ nodes) cuts cuts' (inl (is, follows, follows'), met, along)
      (inr stays) (inl (ended, rest, first, more)) same = absurd (ended follows')
  cuts_differ at left right (next ∷ nodes) cuts cuts' (inl (is, follows, follows'), met, along)
      (inr (stays, ends')) (inr (stays', ends'')) same =
      let known = same_parts next Together next.left next.right is refl refl in
      cuts_differ (at + 1) next.left next.right nodes cuts cuts'
      (subst (λ n. Along n nodes) known along)
      (subst (λ n. EndsFrom sets Left (at + 1) n nodes cuts) known ends')
      (subst (λ n. EndsFrom sets Right (at + 1) n nodes cuts') known ends'') same
  cuts_differ at left right (next ∷ nodes) cuts cuts' (inr (ends', is, begins, follows), met, along)
      (inl (ended, rest, first, more)) (inl (ended', rest', first', more')) same =
      absurd (ended' follows)
  cuts_differ at left right (next ∷ nodes) cuts cuts' (inr (ends', is, begins, follows), met, along)
      (inl (ended, rest, first, more)) (inr (stays, ends'')) same =
      let least = none_lower Right (at + 1) next nodes at rest
      (subst (λ c. EndsFrom sets Right (at + 1) next nodes c) (sym same ∙ first) ends'') in
      absurd (omega arith)
  cuts_differ at left right (next ∷ nodes) cuts cuts' (inr (ends', is, begins, follows), met, along)
      (inr (stays, more)) ends'' same =
      let never : Parted ≡ Together = sym is ∙ stays.1 refl in cc

  module _ (r : Regex) (of_r : AreOf sets r) where
    -- the pieces of one reading
    side_parts : (side : Side) (nodes : List Node) (word : Word) (cuts : List ℕ)
        → IsWalkOf (BeginsFactors sets) (Factors sets) (IsInRows rows) ends nodes → Meet nodes word
        → AreTurns sets side nodes cuts → PartsInto r word cuts
    side_parts side [] word cuts walk meet turns = absurd walk
    side_parts side (node ∷ nodes) [] cuts walk meet turns = absurd meet
    side_parts side (node ∷ nodes) (item ∷ word) cuts (begins, met, along) (one, meet)
        (rest, first, ends') =
        let more = reads_on side 1 node nodes word rest along meet ends' in
        let spelled : AllByRecursion (Spells sets) ((item ∷ more.head) ∷ more.pieces) = (
          (
            more.end,
            (
              place_of side node,
              side_begins side node begins,
              side_meets side node item one,
              more.on,
            ),
            more.last,
          ),
          more.spelled,
        ) in (
          (item ∷ more.head) ∷ more.pieces,
          record {
            whole = ap (λ w. item ∷ w) (sym more.whole);
            at = (let same : 0 + length (item ∷ more.head) ≡ 1 + length more.head = omega arith in
                ap (λ (n : ℕ). 0 ∷ cuts_from n more.pieces) same)
                ∙ ap (λ c. 0 ∷ c) (sym more.there) ∙ sym first;
          },
          all_as (Spells sets) (In r) (λ w. (of_r w).1) ((item ∷ more.head) ∷ more.pieces) spelled,
        )

    -- the two readings differ
    sides_differ : (nodes : List Node) (cuts cuts' : List ℕ)
        → IsWalkOf (BeginsFactors sets) (Factors sets) (IsInRows rows) ends nodes
        → AreTurns sets Left nodes cuts → AreTurns sets Right nodes cuts' → cuts ≢ cuts'
    sides_differ [] cuts cuts' walk turns turns' same = absurd walk
    sides_differ (node ∷ nodes) cuts cuts' (begins, met, along) (rest, first, ends')
        (rest', first', ends'') same =
        let known = same_parts node Together node.left node.right begins.0 refl refl in
        let tails : 0 ∷ rest ≡ 0 ∷ rest' = sym first ∙ same ∙ first' in
        let equal : rest ≡ rest' = cc in
        cuts_differ 1 node.left node.right nodes rest rest'
        (subst (λ n. Along n nodes) known along)
        (subst (λ n. EndsFrom sets Left 1 n nodes rest) known ends')
        (subst (λ n. EndsFrom sets Right 1 n nodes rest') known ends'') equal

    -- where the empty word is in the rate, it is shown
    pub empty_factored : sets.nullable ≡ true
        → IsShortestShown columns (iter r)
        (record { items = []; first = 0 ∷ []; second = 0 ∷ 0 ∷ [] })
    empty_factored empty = record {
      shows = (
        tt,
        record {
          first = ([], record { whole = refl; at = refl }, tt);
          second = ([] ∷ [], record { whole = refl; at = refl }, ((of_r []).1 empty, tt));
          differ = λ same. cc;
        },
      );
      none = λ other fewer shows. absurd (omega arith);
    }

    -- a walk of this many items leads to an end
    abbrev pub EndWalk : ℕ → Type 0
    EndWalk items = EndsAfter (BeginsFactors sets) (Factors sets) (IsInRows rows) ends items

    module _ (are : AreMeetings columns sets sets rows) (not_empty : sets.nullable ≡ true → ⊥) where
      -- where there is none, no word has two factorings
      pub none_factored : ((items : ℕ) → EndWalk items → ⊥) → HasOneFactoring columns r
      none_factored none us vs word all all' same = ⊎_elim (λ e. e)
          (λ short. absurd (none short.0 (short.2.0, short.2.1, (exact short.2.0).1 short.2.2)))
          (same_factors columns sets rows are r of_r not_empty us vs word
          (all_as (In r) (Spells sets) (λ w. (of_r w).0) us all)
          (all_as (In r) (Spells sets) (λ w. (of_r w).0) vs all') same)

      -- factorings that are shown have a walk of at most as many items
      shown_walk : (shown : Shown) → IsWordOf columns shown.items → ShowsFactorings r shown
          → (some : ℕ) × (some ≤ length shown.items) × EndWalk some
      shown_walk shown word shows =
          let us = shows.first in
          let vs = shows.second in
          let short = factors_walks columns sets rows are r of_r not_empty (length (join us.0)) (
            record {
              us = us.0;
              vs = vs.0;
              word = subst (IsWordOf columns) (sym us.1.whole) word;
              first = us.2;
              second = vs.2;
              same = us.1.whole ∙ sym vs.1.whole;
              differ = λ same. shows.differ (sym us.1.at ∙ ap (cuts_from 0) same ∙ vs.1.at);
            },
            refl,
          ) in (
            short.0,
            subst (λ (w : Word). short.0 ≤ length w) us.1.whole short.1,
            (short.2.0, short.2.1, (exact short.2.0).1 short.2.2),
          )

      -- a shortest walk is a shortest word
      pub walk_factored : (nodes : List Node) (shown : Shown)
          → IsShortestWalk (BeginsFactors sets) (Factors sets) (IsInRows rows) ends nodes
          → Meet nodes shown.items → AreTurns sets Left nodes shown.first
          → AreTurns sets Right nodes shown.second → IsShortestShown columns (iter r) shown
      walk_factored nodes shown shortest meet turns turns' = record {
        shows = (
          all_meet_word columns (λ _. sets) (λ _. sets) nodes shown.items meet,
          record {
            first = side_parts Left nodes shown.items shown.first shortest.walk meet turns;
            second = side_parts Right nodes shown.items shown.second shortest.walk meet turns';
            differ = sides_differ nodes shown.first shown.second shortest.walk turns turns';
          },
        );
        none = λ other fewer shows.
            let walk = shown_walk other shows.0 shows.1 in
            let few = walk.1 in
            shortest.none walk.0
            (omega (arith, all_meet_long columns (λ _. sets) (λ _. sets) nodes shown.items meet))
            walk.2;
      }
