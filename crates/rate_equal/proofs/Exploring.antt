-- The pairs to which letters lead, as those to which items lead, and as the search keeps them.
use Rattle.std.proofs.Common.{◌≡◌, ℕ, ◌+◌, List, [], ◌∷◌, ◌++◌, Some, refl, slice_get, subst, sym}
use Rattle.std.proofs.Common.{inl, inr}
use Rattle.std.specs.List.{Contains}
use Rattle.std.proofs.lemmas.List.Elements.{All-contains, Contains-push_cases}
use Rattle.value_ops.specs.declared.field.Field.{Field}
use Rattle.item_schema.specs.Items.{IsItemOf}
use Rattle.predicate_cells.specs.Cells.{Partition, cell_of, IsIn}
use Rattle.predicate_cells.proofs.CellsBelow.{cell_below}
use Rattle.predicate_cells.proofs.CellsFilled.{cells_have_items}
use Rattle.rate_expr.proofs.Wording.{word_more}
use Rattle.symbolic_nfa.specs.Automata.{Automaton}
use Rattle.symbolic_nfa.specs.States.{Steps}
use Rattle.symbolic_nfa.proofs.StatesOn.{steps_to-and}
use Rattle.symbolic_nfa.proofs.WordsAfter.{is_after-step}
use Rattle.rate_equal.specs.Added.{AreTooMany}
use Rattle.rate_equal.specs.Letters.{AreLetters, IsLetter, IsLetterOf}
use Rattle.rate_equal.specs.Pairs.{AreReached, AreWaysOnFrom, IsExplored, IsGrown, IsReached}
use Rattle.rate_equal.specs.Reach.{max_reach, ReachPairs}
use Rattle.rate_equal.specs.Targets.{AreFound, AreKnown, HasTargets, IsTarget, target}
use Rattle.rate_equal.specs.declared.known_sets.Known.{Known}
use Rattle.rate_equal.specs.declared.letters.Letter.{Letter}
use Rattle.rate_equal.specs.declared.pair.Pair.{Pair}
use Rattle.rate_equal.proofs.Added.{contains_found, found_grown}
use Rattle.rate_equal.proofs.Differing.{as_many_words}

module _ (first second : Automaton) where
  -- the item leads from the one pair to the other
  abbrev Leads : Pair → List Field → Pair → Type 0
  Leads from item to =
      Steps first.sets from.first item to.first × Steps second.sets from.second item to.second

  module _ (letters : List Letter) (are : AreLetters first second letters)
      (from : Pair) (ways : ℕ × ℕ) (on : AreWaysOnFrom first second from ways) where
    -- the items of a letter's cell lead where it does
    leads_by : (cell : ℕ) (letter : Letter) → IsLetterOf first second cell letter
        → (item : List Field) → IsIn first.cells cell item → Leads from item (target ways letter)
    leads_by cell letter (one, two) item is = (
      steps_to-and first.sets first.cells from.first cell ways.0 letter.first item on.0 one is,
      steps_to-and second.sets second.cells from.second cell ways.1 letter.second item on.1 two
          (subst (λ (cs : Partition). IsIn cs cell item) are.same is),
    )

    -- so each item leads where some letter does
    leads_to : (item : List Field) → IsItemOf first.cells.layout.columns item
        → (letter : Letter) × Contains letters letter × Leads from item (target ways letter)
    leads_to item is_item =
        let (letter, c, of) = are.whole (cell_of first.cells item) (cell_below first.cells item) in
        (letter, c, leads_by (cell_of first.cells item) letter of item (is_item, refl))

    module _ (begun : IsReached first second from) where
      -- words lead to where a letter leads
      target_reached : (to : Pair) → IsTarget letters ways to → IsReached first second to
      target_reached to (letter, c, same) =
          let (cell, lt, of) = All-contains (IsLetter first second) letters letter are.sound c in
          let (item, (is_item, in_cell)) = cells_have_items first.cells cell lt in
          let (one, two) = leads_by cell letter of item (is_item, in_cell) in
          let (word, is, (at, at')) = begun in
          subst (IsReached first second) same (
            word ++ item ∷ [],
            word_more first.cells.layout.columns word item is is_item,
            (
              is_after-step first.sets word from.first (target ways letter).first item at one,
              is_after-step second.sets word from.second (target ways letter).second item at' two,
            ),
          )

      module _ (old : List Pair) (reached : AreReached first second old) where
        -- where they are found, the pair is explored
        pub found_explored : (new : List Pair) (places : List ℕ)
            → AreFound letters ways old new places → IsExplored first second from old new
        found_explored new places found = record {
          reached = record {
            each = λ pair c. elim (found.each pair c) [
              | inl was ↦ reached.each pair was
              | inr is ↦ target_reached pair is
            ];
            few = found.few;
          };
          grown = found.grown;
          done = λ item is.
              let (letter, c, (one, two)) = leads_to item is in
              let there = found.targets.whole letter c in (
                target ways letter,
                contains_found new there.place (target ways letter) there.found,
                one,
                two,
              );
        }

        -- where they are too many, words lead to too many
        pub too_many_reached : AreTooMany old (IsTarget letters ways)
            → ReachPairs first.cells.layout.columns first.sets second.sets (max_reach + 1)
        too_many_reached many =
            as_many_words first second many.eq many.unlike many.pairs many.distinct
            (λ pair c. elim (many.each pair c) [
              | inl was ↦ reached.each pair was
              | inr is ↦ target_reached pair is
            ]) (max_reach + 1) many.count

module _ (letters : List Letter) where
  -- more pairs do not matter
  targets_grown : (ways : ℕ × ℕ) (old new : List Pair) (places : List ℕ) → IsGrown old new
      → HasTargets letters ways old places → HasTargets letters ways new places
  targets_grown ways old new places grown targets = record {
    within = λ place has. let (to, found, is) = targets.within place has in
        (to, found_grown old new place to grown found, is);
    whole = λ letter c. let there = targets.whole letter c in record {
      place = there.place;
      found = found_grown old new there.place (target ways letter) grown there.found;
      has = there.has;
    };
  }

  -- the targets along the known ways at a place
  pub known_at : (pairs : List Pair) (gone : List Known) (place : ℕ) (known other : Known)
      → AreKnown letters pairs gone → slice_get gone place ≡ Some known → known ≡ other
      → HasTargets letters other.ways pairs other.targets
  known_at pairs gone place known other are found same =
      subst (λ (k : Known). HasTargets letters k.ways pairs k.targets) same
      (are known (contains_found gone place known found))

  -- one more of the known ways
  pub known_more : (old new : List Pair) (gone : List Known) (known : Known)
      → AreKnown letters old gone → AreFound letters known.ways old new known.targets
      → AreKnown letters new (gone ++ known ∷ [])
  known_more old new gone known before found other c =
      elim (Contains-push_cases gone known other c) [
        | inl was ↦ targets_grown other.ways old new other.targets found.grown (before other was)
        | inr is ↦ subst (λ (k : Known). HasTargets letters k.ways new k.targets) is found.targets
      ]

  -- the same by its parts
  pub known_put : (old new : List Pair) (gone : List Known) (known : Known) (ways : ℕ × ℕ)
      (places : List ℕ) → known.ways ≡ ways → known.targets ≡ places → AreKnown letters old gone
      → AreFound letters ways old new places → AreKnown letters new (gone ++ known ∷ [])
  known_put old new gone known ways places same same' before found =
      known_more old new gone known before
      (subst (λ w. AreFound letters w old new known.targets) (sym same)
      (subst (λ ps. AreFound letters ways old new ps) (sym same') found))
