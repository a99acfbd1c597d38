-- Words that factor in two ways are those of walks.
use Rattle.std.proofs.Common.{◌≡◌, ℕ, ◌+◌, ◌<◌, ◌≤◌, ◌⊎◌, ⊎_elim, List, [], ◌∷◌, ◌++◌, ◌∙◌, Bool}
use Rattle.std.proofs.Common.{true, false, not, length, refl, sym, ap, subst, inl, inr, arith}
use Rattle.std.proofs.Common.{length-append}
use Rattle.std.specs.Prelude.{MatchBool}
use Rattle.std.specs.List.{AllByRecursion}
use Rattle.std.proofs.lemmas.List.{append-nil}
use Rattle.value_ops.specs.declared.field.Field.{Field}
use Rattle.item_schema.specs.declared.column.Column.{Column}
use Rattle.rate_expr.specs.Language.{In}
use Rattle.rate_expr.specs.Paths.{Leads, LeadsOn, Spells, AreOf}
use Rattle.rate_expr.specs.Rates.{Regex}
use Rattle.rate_expr.specs.Readings.{HasOneFactoring, HasTwoFactorings}
use Rattle.rate_expr.specs.Sets.{Sets}
use Rattle.rate_expr.specs.Words.{Word, IsWordOf, join}
use Rattle.rate_expr.proofs.PathsOn.{leads_parts}
use Rattle.rate_expr.proofs.Wording.{word_parts, comparable}
use Rattle.ambiguity_check.specs.declared.graph.Node.{Node}
use Rattle.ambiguity_check.specs.declared.graph.Phase.TheVariants.{Together, Parted}
use Rattle.ambiguity_check.specs.Factorings.{BeginsFactors, Factors, EndsFactors}
use Rattle.ambiguity_check.specs.Lengths.{TwoFactoringsOf, EndsAfter}
use Rattle.ambiguity_check.specs.Marked.{IsMarked, AreReached}
use Rattle.ambiguity_check.specs.Meetings.{AreMeetings}
use Rattle.ambiguity_check.specs.Overlaps.{IsInRows}
use Rattle.ambiguity_check.specs.Walks.{IsWalk, at_once, later}
use Rattle.ambiguity_check.proofs.FactorRuns.{RunsOn, runs_along, runs_from_end, all_as}
use Rattle.ambiguity_check.proofs.Marking.{node_at}
use Rattle.ambiguity_check.proofs.FactorReads.{AreRead, AreParted, walk_reads, two_factorings}
use Rattle.ambiguity_check.proofs.Walking.{walk_as}

-- where the empty word is in the rate, it factors in two ways
pub empty_factors : (columns : List Column) (sets : Sets) (r : Regex) → AreOf sets r
    → sets.nullable ≡ true
    → HasTwoFactorings columns r
empty_factors columns sets r of_r nullable = record {
  us = [] ∷ [];
  vs = [];
  word = tt;
  first = ((of_r []).1 nullable, tt);
  second = tt;
  same = refl;
  differ = λ same. cc;
}

module _ (columns : List Column) (sets : Sets) (rows : List ℕ)
    (are : AreMeetings columns sets sets rows) where
  -- a walk of this many items leads to the node
  abbrev Walk : ℕ → Node → Type 0
  Walk items node = IsWalk (BeginsFactors sets) (Factors sets) (IsInRows rows) items node

  -- the number of items may be said in another way
  as_many : (items items' : ℕ) (node : Node) → items ≡ items' → Walk items node → Walk items' node
  as_many = walk_as (BeginsFactors sets) (Factors sets) (IsInRows rows)

  -- a walk of this many items leads to an end
  abbrev pub EndWalk : ℕ → Type 0
  EndWalk items =
      EndsAfter (BeginsFactors sets) (Factors sets) (IsInRows rows) (EndsFactors sets) items

  -- one of at most this many items does
  abbrev pub ShortWalk : ℕ → Type 0
  ShortWalk items = (some : ℕ) × (some ≤ items) × EndWalk some

  -- a walk continues in the first factors
  goes_together : (word : Word) (items left right left' right' : ℕ)
      → Walk items (node_at Together left right) → IsWordOf columns word
      → LeadsOn sets left word left' → LeadsOn sets right word right'
      → Walk (items + length word) (node_at Together left' right')
  goes_together [] items left right left' right' walk is on on' =
      as_many items (items + 0) (node_at Together left' right') (omega arith)
      (subst (λ (l : ℕ). Walk items (node_at Together l right')) on
      (subst (λ (r : ℕ). Walk items (node_at Together left r)) on' walk))
  goes_together (item ∷ word) items left right left' right' walk is on on' =
      as_many (items + 1 + length word) (items + length (item ∷ word))
      (node_at Together left' right') (omega arith)
      (goes_together word (items + 1) on.0 on'.0 left' right'
      (later items (node_at Together left right) (node_at Together on.0 on'.0) walk
      (inl (refl, on.1, on'.1)) ((are on.0 on'.0).1 (item, is.0, on.2, on'.2)))
      is.1 on.3 on'.3)

  -- a walk in the first factors
  together_walk : (word : Word) (left right : ℕ) → IsWordOf columns word → Leads sets word left
      → Leads sets word right → Walk (length word) (node_at Together left right)
  together_walk [] left right is leads leads' = absurd leads
  together_walk (item ∷ word) left right is leads leads' =
      as_many (1 + length word) (length (item ∷ word)) (node_at Together left right) (omega arith)
      (goes_together word 1 leads.0 leads'.0 left right
      (at_once (node_at Together leads.0 leads'.0) (refl, leads.1, leads'.1)
      ((are leads.0 leads'.0).1 (item, is.0, leads.2, leads'.2)))
      is.1 leads.3 leads'.3)

  -- a walk continues after the first factor
  goes_parted : (word : Word) (items left right left' right' : ℕ)
      → Walk items (node_at Parted left right) → IsWordOf columns word
      → RunsOn sets left word left' → RunsOn sets right word right'
      → Walk (items + length word) (node_at Parted left' right')
  goes_parted [] items left right left' right' walk is on on' =
      as_many items (items + 0) (node_at Parted left' right') (omega arith)
      (subst (λ (l : ℕ). Walk items (node_at Parted l right')) on
      (subst (λ (r : ℕ). Walk items (node_at Parted left r)) on' walk))
  goes_parted (item ∷ word) items left right left' right' walk is on on' =
      as_many (items + 1 + length word) (items + length (item ∷ word)) (node_at Parted left' right')
      (omega arith)
      (goes_parted word (items + 1) on.0 on'.0 left' right'
      (later items (node_at Parted left right) (node_at Parted on.0 on'.0) walk (refl, on.1, on'.1)
      ((are on.0 on'.0).1 (item, is.0, on.2, on'.2)))
      is.1 on.3 on'.3)

  -- two factorings that begin with a factor and a longer one are those of a walk to an end
  factors_walk : (sets.nullable ≡ true → ⊥)
      → (u : Word) (item : List Field) (t : Word) (us vs : List Word)
      → IsWordOf columns (u ++ join us) → Spells sets u → AllByRecursion (Spells sets) us
      → Spells sets (u ++ item ∷ t)
      → AllByRecursion (Spells sets) vs → join us ≡ (item ∷ t) ++ join vs
      → EndWalk (length (u ++ join us))
  factors_walk not_empty [] item t us vs is spells all spells' all' same = absurd (not_empty spells)
  factors_walk not_empty (x ∷ u) item t [] vs is spells all spells' all' same = absurd (cc)
  factors_walk not_empty (x ∷ u) item t ([] ∷ us) vs is spells all spells' all' same = absurd
      (not_empty all.0)
  factors_walk not_empty (x ∷ u) item t ((y ∷ w) ∷ us) vs is spells all spells' all' same =
      let heads : y ≡ item = cc in
      let tails : w ++ join us ≡ t ++ join vs = cc in
      let words = word_parts columns (x ∷ u) (y ∷ (w ++ join us)) is in
      let through = leads_parts sets (x ∷ u) (item ∷ t) spells'.0 (omega arith) spells'.1 in
      let second = all.0 in
      let left = runs_from_end sets not_empty second.0 us second.2 all.1 in
      let right = runs_from_end sets not_empty spells'.0 vs spells'.2 all' in
      let left_run = runs_along sets second.1.0 w second.0 (join us) left.0 second.1.3 left.1 in
      let right_run = runs_along sets through.2.0 t spells'.0 (join vs) right.0
      through.2.3 right.1 in
      let node = node_at Parted left.0 right.0 in (
        node,
        as_many (length (x ∷ u) + 1 + length (w ++ join us))
            (length ((x ∷ u) ++ (y ∷ (w ++ join us)))) node
            (omega (arith, length-append (x ∷ u) (y ∷ (w ++ join us))))
            (goes_parted (w ++ join us) (length (x ∷ u) + 1) second.1.0 through.2.0 left.0 right.0
            (later (length (x ∷ u)) (node_at Together spells.0 through.0)
            (node_at Parted second.1.0 through.2.0)
            (together_walk (x ∷ u) spells.0 through.0 words.0 spells.1 through.1)
            (inr (spells.2, refl, second.1.1, through.2.1))
            ((are second.1.0 through.2.0).1 (y, words.1.0, second.1.2, rw heads through.2.2)))
            words.1.1 left_run (rw tails right_run)),
        (refl, left.2, right.2),
      )

  module _ (r : Regex) (of_r : AreOf sets r) where
    -- words of the rate are spelled
    all_spelled : (words : List Word) → AllByRecursion (In r) words
        → AllByRecursion (Spells sets) words
    all_spelled words all = all_as (In r) (Spells sets) (λ word. (of_r word).0) words all

    -- a walk to an end is a word with two factorings
    pub walk_factors : (items : ℕ) → EndWalk items → TwoFactoringsOf columns r items
    walk_factors items (node, walk, ends) =
        let parted : AreParted columns sets rows are items node.left node.right =
        subst (λ p. AreRead columns sets rows are items p node.left node.right) ends.0
        (walk_reads columns sets rows are items node walk) in
        two_factorings columns sets rows are r of_r items node.left node.right parted ends.1 ends.2

    module _ (not_empty : sets.nullable ≡ true → ⊥) where
      -- no word of the rate is empty
      some_items : (word : Word) → Spells sets word → 0 < length word
      some_items [] spells = absurd (not_empty spells)
      some_items (x ∷ word) spells = omega arith

      -- where one first factor is longer than the other, a walk leads to an end
      longer_walk : (u t : Word) (us vs : List Word)
          → IsWordOf columns (u ++ join us) → Spells sets u → AllByRecursion (Spells sets) us
          → Spells sets (u ++ t) → AllByRecursion (Spells sets) vs → join us ≡ t ++ join vs
          → (t ≡ []) ⊎ EndWalk (length (u ++ join us))
      longer_walk u [] us vs is spells all spells' all' same = inl refl
      longer_walk u (item ∷ t) us vs is spells all spells' all' same =
          inr (factors_walk not_empty u item t us vs is spells all spells' all' same)

      -- a walk of some of the items
      part_walk : (u rest : Word) → ShortWalk (length rest) → ShortWalk (length (u ++ rest))
      part_walk u rest (some, few, end) = (some, omega (arith, length-append u rest), end)

      -- two factorings of a word are one, or a walk of at most as many items leads to an end
      pub same_factors : (us vs : List Word) → IsWordOf columns (join us)
          → AllByRecursion (Spells sets) us → AllByRecursion (Spells sets) vs
          → join us ≡ join vs → (us ≡ vs) ⊎ ShortWalk (length (join us))
      same_factors [] [] is all all' same = inl refl
      same_factors [] (v ∷ vs) is all all' same =
          absurd (omega (arith, some_items v all'.0, ap length same, length-append v (join vs)))
      same_factors (u ∷ us) [] is all all' same =
          absurd (omega (arith, some_items u all.0, ap length same, length-append u (join us)))
      same_factors (u ∷ us) (v ∷ vs) is all all' same =
          elim (comparable u (join us) v (join vs) same) [
            | inl more ↦
                elim (longer_walk u more.0 us vs is all.0 all.1 (rw more.1 at all'.0)
                all'.1 more.2) [
                  | inr walk ↦ inr (length (u ++ join us), omega arith, walk)
                  | inl t ↦
                      let firsts : u ≡ v = sym (more.1 ∙ ap (λ w. u ++ w) t ∙ append-nil u) in
                      let rests : join us ≡ join vs = more.2 ∙ ap (λ w. w ++ join vs) t in
                      elim (same_factors us vs (word_parts columns u (join us) is).1
                      all.1 all'.1 rests) [
                        | inl others ↦ inl (cc)
                        | inr walk ↦ inr (part_walk u (join us) walk)
                      ]
                ]
            | inr more ↦ elim (longer_walk v more.0 vs us (rw same at is) all'.0 all'.1
                (rw more.1 at all.0) all.1 more.2) [
                  | inr walk ↦ inr (length (v ++ join vs), omega (arith, ap length same), walk)
                  | inl t ↦
                      let firsts : u ≡ v = more.1 ∙ ap (λ w. v ++ w) t ∙ append-nil v in
                      let rests : join us ≡ join vs = sym (more.2 ∙ ap (λ w. w ++ join us) t) in
                      elim (same_factors us vs (word_parts columns u (join us) is).1
                      all.1 all'.1 rests) [
                        | inl others ↦ inl (cc)
                        | inr walk ↦ inr (part_walk u (join us) walk)
                      ]
                ]
          ]

      -- a word with two factorings has a walk of at most as many items to an end
      pub factors_walks : (items : ℕ) → TwoFactoringsOf columns r items → ShortWalk items
      factors_walks items (two, long) = subst ShortWalk long
          (⊎_elim (λ same. absurd (two.differ same)) (λ walk. walk)
          (same_factors two.us two.vs two.word (all_spelled two.us two.first)
          (all_spelled two.vs two.second) two.same))

    -- the answer of a search
    pub one_factoring_says : (marks : List ℕ) (two : Bool) → (sets.nullable ≡ true → ⊥)
        → AreReached (BeginsFactors sets) (Factors sets) (IsInRows rows) marks
        → MatchBool two ((node : Node) × IsMarked marks node × EndsFactors sets node)
        ((node : Node) → IsMarked marks node → EndsFactors sets node → ⊥)
        → MatchBool (not two) (HasOneFactoring columns r) (HasTwoFactorings columns r)
    one_factoring_says marks true not_empty reached some =
        let walk = (reached some.0).0 some.1 in
        (walk_factors walk.0 (some.0, walk.1, some.2)).0
    one_factoring_says marks false not_empty reached none = λ us vs is all all' same.
        ⊎_elim (λ e. e) (λ short. absurd (none short.2.0
        ((reached short.2.0).1 (short.0, short.2.1)) short.2.2))
        (same_factors not_empty us vs is (all_spelled us all) (all_spelled vs all') same)
