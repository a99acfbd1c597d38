-- Words that split in two ways are those of walks.
use Rattle.std.proofs.Common.{◌≡◌, ℕ, ◌+◌, ◌<◌, ◌⊎◌, ⊎_elim, List, [], ◌∷◌, ◌++◌, Bool, true, false}
use Rattle.std.proofs.Common.{not, length, refl, sym, subst, ap, ◌∙◌, inl, inr, arith, append_assoc}
use Rattle.std.proofs.Common.{length-append}
use Rattle.std.specs.Prelude.{MatchBool}
use Rattle.std.proofs.lemmas.List.{append-nil}
use Rattle.item_schema.specs.declared.column.Column.{Column}
use Rattle.rate_expr.specs.Language.{In}
use Rattle.rate_expr.specs.Paths.{Leads, LeadsOn, Spells, AreOf}
use Rattle.rate_expr.specs.Rates.{Regex}
use Rattle.rate_expr.specs.Readings.{HaveOneSplit, HaveTwoSplits}
use Rattle.rate_expr.specs.Sets.{Sets}
use Rattle.rate_expr.specs.Words.{Word, IsWordOf}
use Rattle.rate_expr.proofs.PathsOn.{leads_parts, spells_end}
use Rattle.rate_expr.proofs.Wording.{word_parts, comparable}
use Rattle.ambiguity_check.specs.declared.graph.Node.{Node}
use Rattle.ambiguity_check.specs.declared.graph.Phase.{Phase}
use Rattle.ambiguity_check.specs.declared.graph.Phase.TheVariants.{Together, Parted, Rejoined}
use Rattle.ambiguity_check.specs.Lengths.{TwoSplitsOf, EndsAfter}
use Rattle.ambiguity_check.specs.Marked.{IsMarked, AreReached}
use Rattle.ambiguity_check.specs.Meetings.{AreMeetings}
use Rattle.ambiguity_check.specs.Splits.{left_of, right_of, BeginsSplits, Continues, EndsSplits}
use Rattle.ambiguity_check.specs.Splits.{MeetIn, rows_in}
use Rattle.ambiguity_check.specs.Walks.{IsWalk, at_once, later}
use Rattle.ambiguity_check.proofs.Marking.{node_at}
use Rattle.ambiguity_check.proofs.SplitReads.{walk_reads, two_splits}
use Rattle.ambiguity_check.proofs.Walking.{walk_as}

module _ (columns : List Column) (first second : Sets) (together parted rejoined : List ℕ)
    (are : (phase : Phase) → AreMeetings columns (left_of first second phase)
    (right_of first second phase)
    (rows_in together parted rejoined phase)) where
  -- a walk of this many items leads to the node
  abbrev Walk : ℕ → Node → Type 0
  Walk items node = IsWalk (BeginsSplits first second) (Continues first second)
      (MeetIn together parted rejoined) items node

  -- the number of items may be said in another way
  as_many : (items items' : ℕ) (node : Node) → items ≡ items' → Walk items node → Walk items' node
  as_many =
      walk_as (BeginsSplits first second) (Continues first second) (MeetIn together parted rejoined)

  -- a walk of this many items leads to an end
  abbrev EndWalk : ℕ → Type 0
  EndWalk items = EndsAfter (BeginsSplits first second) (Continues first second)
      (MeetIn together parted rejoined) (EndsSplits first second) items

  -- a walk continues in a phase along a word
  goes_along : (phase : Phase) (word : Word) (items left right left' right' : ℕ)
      → Walk items (node_at phase left right) → IsWordOf columns word
      → LeadsOn (left_of first second phase) left word left'
      → LeadsOn (right_of first second phase) right word right'
      → Walk (items + length word) (node_at phase left' right')
  goes_along phase [] items left right left' right' walk is on on' =
      as_many items (items + 0) (node_at phase left' right') (omega arith)
      (subst (λ (l : ℕ). Walk items (node_at phase l right')) on
      (subst (λ (r : ℕ). Walk items (node_at phase left r)) on' walk))
  goes_along phase (item ∷ word) items left right left' right' walk is on on' =
      as_many (items + 1 + length word) (items + length (item ∷ word)) (node_at phase left' right')
      (omega arith)
      (goes_along phase word (items + 1) on.0 on'.0 left' right'
      (later items (node_at phase left right) (node_at phase on.0 on'.0) walk
      (inl (refl, on.1, on'.1)) ((are phase on.0 on'.0).1 (item, is.0, on.2, on'.2)))
      is.1 on.3 on'.3)

  -- a walk in the first part of both
  together_walk : (word : Word) (left right : ℕ) → IsWordOf columns word → Leads first word left
      → Leads first word right → Walk (length word) (node_at Together left right)
  together_walk [] left right is leads leads' = absurd leads
  together_walk (item ∷ word) left right is leads leads' =
      as_many (1 + length word) (length (item ∷ word)) (node_at Together left right) (omega arith)
      (goes_along Together word 1 leads.0 leads'.0 left right
      (at_once (node_at Together leads.0 leads'.0) (inl (refl, leads.1, leads'.1))
      ((are Together leads.0 leads'.0).1 (item, is.0, leads.2, leads'.2)))
      is.1 leads.3 leads'.3)

  -- a walk on which the left one ends its first part
  parted_walk : (u t : Word) (left right : ℕ) → 0 < length t → IsWordOf columns (u ++ t)
      → Spells first u → Leads second t left
      → Leads first (u ++ t) right → Walk (length (u ++ t)) (node_at Parted left right)
  parted_walk u [] left right some is spells leads leads' = absurd leads
  parted_walk [] (item ∷ t) left right some is spells leads leads' =
      as_many (1 + length t) (length (item ∷ t)) (node_at Parted left right) (omega arith)
      (goes_along Parted t 1 leads.0 leads'.0 left right
      (at_once (node_at Parted leads.0 leads'.0) (inr (spells, refl, leads.1, leads'.1))
      ((are Parted leads.0 leads'.0).1 (item, is.0, leads.2, leads'.2)))
      is.1 leads.3 leads'.3)
  parted_walk (x ∷ u) (item ∷ t) left right some is spells leads leads' =
      let words = word_parts columns (x ∷ u) (item ∷ t) is in
      let on = leads_parts first (x ∷ u) (item ∷ t) right (omega arith) leads' in
      as_many (length (x ∷ u) + 1 + length t) (length ((x ∷ u) ++ item ∷ t))
      (node_at Parted left right) (omega (arith, length-append (x ∷ u) (item ∷ t)))
      (goes_along Parted t (length (x ∷ u) + 1) leads.0 on.2.0 left right
      (later (length (x ∷ u)) (node_at Together spells.0 on.0) (node_at Parted leads.0 on.2.0)
      (together_walk (x ∷ u) spells.0 on.0 words.0 spells.1 on.1)
      (inr (spells.2, refl, leads.1, on.2.1)) ((are Parted leads.0 on.2.0).1
      (item, words.1.0, leads.2, on.2.2)))
      words.1.1 leads.3 on.2.3)

  -- two splits of one word, the first of which ends its first part before the second, are those of
  -- a walk to an end
  splits_walk : (u t v' : Word) → 0 < length t → IsWordOf columns (u ++ (t ++ v')) → Spells first u
      → Spells second (t ++ v')
      → Spells first (u ++ t) → Spells second v' → EndWalk (length (u ++ (t ++ v')))
  splits_walk u t [] some is spells by_second spells' nullable =
      let long : 0 < length (u ++ t) = omega (arith, length-append u t) in
      let on = spells_end second t some (rw append-nil at by_second) in
      let on' = spells_end first (u ++ t) long spells' in
      let node = node_at Parted on.0 on'.0 in (
        node,
        as_many (length (u ++ t)) (length (u ++ (t ++ []))) node
            (ap (λ w. length (u ++ w)) (sym (append-nil t)))
            (parted_walk u t on.0 on'.0 some (rw (append-nil t) at is) spells on.1 on'.1),
        inl (refl, nullable, on.2, on'.2),
      )
  splits_walk u t (item ∷ z) some is spells by_second spells' by_second' =
      let long : 0 < length (u ++ t) = omega (arith, length-append u t) in
      let words = word_parts columns (u ++ t) (item ∷ z) (rw append_assoc is) in
      let whole : 0 < length (t ++ item ∷ z) = omega (arith, length-append t (item ∷ z)) in
      let on = spells_end second (t ++ item ∷ z) whole by_second in
      let through = leads_parts second t (item ∷ z) on.0 some on.1 in
      let on' = spells_end first (u ++ t) long spells' in
      let node = node_at Rejoined on.0 by_second'.0 in (
        node,
        as_many (length (u ++ t) + 1 + length z) (length (u ++ (t ++ item ∷ z))) node
            (omega (
              arith,
              length-append u t,
              length-append u (t ++ item ∷ z),
              length-append t (item ∷ z),
            ))
            (goes_along Rejoined z (length (u ++ t) + 1) through.2.0 by_second'.1.0
            on.0 by_second'.0 (later (length (u ++ t)) (node_at Parted through.0 on'.0)
            (node_at Rejoined through.2.0 by_second'.1.0)
            (parted_walk u t through.0 on'.0 some words.0 spells through.1 on'.1)
            (inr (on'.2, refl, through.2.1, by_second'.1.1))
            ((are Rejoined through.2.0 by_second'.1.0).1
            (item, words.1.0, through.2.2, by_second'.1.2)))
            words.1.1 through.2.3 by_second'.1.3),
        inr (refl, on.2, by_second'.2),
      )

  module _ (r s : Regex) (of_r : AreOf first r) (of_s : AreOf second s) where
    -- where the second of two splits ends its first part later, a walk leads to an end
    later_walk : (u t v v' : Word) → IsWordOf columns (u ++ v) → v ≡ t ++ v'
        → In r u → In s v → In r (u ++ t) → In s v' → (t ≡ []) ⊎ EndWalk (length (u ++ v))
    later_walk u [] v v' is rest in_r in_s in_r' in_s' = inl refl
    later_walk u (item ∷ t) v v' is rest in_r in_s in_r' in_s' = inr
        (subst (λ (w : Word). EndWalk (length (u ++ w))) (sym rest)
        (splits_walk u (item ∷ t) v' (omega arith) (rw rest at is) ((of_r u).0 in_r)
        (rw rest at ((of_s v).0 in_s)) ((of_r (u ++ item ∷ t)).0 in_r') ((of_s v').0 in_s')))

    -- two splits of a word are one, or a walk of as many items leads to an end
    pub same_split : (u v u' v' : Word) → IsWordOf columns (u ++ v) → In r u → In s v
        → In r u' → In s v' → u ++ v ≡ u' ++ v' → (u ≡ u') ⊎ EndWalk (length (u ++ v))
    same_split u v u' v' is in_r in_s in_r' in_s' same = elim (comparable u v u' v' same) [
      | inl more ↦ ⊎_elim (λ t. inl (sym (more.1 ∙ ap (λ w. u ++ w) t ∙ append-nil u)))
          (λ walk. inr walk)
          (later_walk u more.0 v v' is more.2 in_r in_s (rw more.1 at in_r') in_s')
      | inr more ↦ ⊎_elim (λ t. inl (more.1 ∙ ap (λ w. u' ++ w) t ∙ append-nil u'))
          (λ walk. inr (subst (λ (w : Word). EndWalk (length w)) (sym same) walk))
          (later_walk u' more.0 v' v (rw same at is) more.2 in_r' in_s' (rw more.1 at in_r) in_s)
    ]

    -- a walk to an end is a word with two splits
    pub walk_splits : (items : ℕ) → EndWalk items → TwoSplitsOf columns r s items
    walk_splits items (node, walk, ends) =
        two_splits columns first second together parted rejoined are r s of_r of_s items node.phase
        node.left node.right
        (walk_reads columns first second together parted rejoined are items node walk) ends

    -- a word with two splits is one of a walk to an end
    pub splits_walks : (items : ℕ) → TwoSplitsOf columns r s items → EndWalk items
    splits_walks items (two, long) = subst EndWalk long
        (⊎_elim (λ same. absurd (two.differ same)) (λ walk. walk)
        (same_split two.u two.v two.u' two.v' two.word two.first.0 two.first.1
        two.second.0 two.second.1 two.same))

    -- the answer of a search
    pub one_split_says : (marks : List ℕ) (two : Bool)
        → AreReached (BeginsSplits first second) (Continues first second)
        (MeetIn together parted rejoined) marks
        → MatchBool two ((node : Node) × IsMarked marks node × EndsSplits first second node)
        ((node : Node) → IsMarked marks node → EndsSplits first second node → ⊥)
        → MatchBool (not two) (HaveOneSplit columns r s) (HaveTwoSplits columns r s)
    one_split_says marks true reached some =
        let walk = (reached some.0).0 some.1 in
        (walk_splits walk.0 (some.0, walk.1, some.2)).0
    one_split_says marks false reached none = λ u v u' v' is in_r in_s in_r' in_s' same.
        ⊎_elim (λ e. e) (λ end. absurd (none end.0
        ((reached end.0).1 (length (u ++ v), end.1)) end.2))
        (same_split u v u' v' is in_r in_s in_r' in_s' same)
