-- The positions that the items of the cells meet.
use Rattle.std.proofs.Common.{◌≡◌, inl, inr, ℕ, true, ◌+◌, ◌<◌, ◌≤◌, ◌↔◌, List, Some, length}
use Rattle.std.proofs.Common.{get_or, refl, sym, ap, ◌∙◌, subst, slice_get, slice_index, arith}
use Rattle.std.proofs.lemmas.Option.{get_or_from_slice_get, slice_get_within}
use Rattle.std.specs.List.{AllByRecursion, Contains}
use Rattle.std.proofs.lemmas.List.{length-map}
use Rattle.value_ops.specs.declared.field.Field.{Field}
use Rattle.item_schema.specs.Items.{IsItemOf}
use Rattle.predicate_cells.specs.Cells.{Partition, IsIn, cell_count, cell_of}
use Rattle.predicates.specs.Predicates.{Predicate, any}
use Rattle.predicates.specs.Truth.{holds}
use Rattle.rate_expr.specs.Paths.{Meets}
use Rattle.rate_expr.specs.Sets.{Sets, Has}
use Rattle.rate_expr.specs.Shared.{Shared, listed, AreShared}
use Rattle.rate_expr.proofs.Sharing.{listed_at, place_at}
use Rattle.symbolic_nfa.specs.Automata.{AreMet}
use Rattle.symbolic_nfa.specs.Tables.{AddsPositions}
use Rattle.symbolic_nfa.proofs.Lists.{all-at, all-each, one-at}
use Rattle.rate_expr.proofs.MaskSets.{below-has, below-more}

-- the masks have exactly the positions with a place below a bound that the items of the cells meet
pub record AreMetBelow (sets : Sets) (places : List ℕ) (cells : Partition) (masks : List ℕ)
    (bound : ℕ) : Type 0 where
  pub each : length masks ≡ cell_count cells
  pub below : (cell position : ℕ) → cell < cell_count cells → Has (slice_index masks cell) position
      → (place : ℕ) × (slice_get places position ≡ Some place) × (place < bound)
  pub sound : (cell position : ℕ) (item : List Field) → cell < cell_count cells
      → IsIn cells cell item → Has (slice_index masks cell) position → Meets sets position item
  pub whole : (cell position place : ℕ) (item : List Field) → cell < cell_count cells
      → IsIn cells cell item → slice_get places position ≡ Some place → place < bound
      → Meets sets position item → Has (slice_index masks cell) position

-- the set has exactly the cells of the items that the predicate holds of
abbrev pub AreHolding : Partition → Predicate → List ℕ → Type 0
AreHolding cells pred set = (item : List Field) → IsItemOf cells.layout.columns item
    → Contains set (cell_of cells item) ↔ (holds pred item ≡ true)

-- the mask has the positions of the place
abbrev pub AreAt : List ℕ → ℕ → ℕ → Type 0
AreAt places place mask =
    (position : ℕ) → Has mask position ↔ (slice_get places position ≡ Some place)

-- one bound further
pub met-added :
    (sets : Sets) (shared : Shared) (cells : Partition) (old new : List ℕ) (at : ℕ)
    (pred : Predicate) (positions : ℕ) (set : List ℕ) → listed shared ≡ sets.preds
    → AreMetBelow sets shared.places cells old at → slice_get shared.distinct at ≡ Some pred
    → AreAt shared.places at positions → AreHolding cells pred set
    → AddsPositions old new positions set → AreMetBelow sets shared.places cells new (at + 1)
met-added sets shared cells old new at pred positions set same_preds so_far kept placed
    holding adds = record {
      each = adds.same ∙ so_far.each;
      below = λ cell position low has.
          elim ((adds.has cell position (in_old cell low)).0 has) [
            | inl before ↦ let less = so_far.below cell position low before in
                let below = less.2 in (less.0, less.1, omega arith)
            | inr (here, is_in) ↦ (at, (placed position).0 here, omega arith)
          ];
      sound = λ cell position item low is_in has.
          elim ((adds.has cell position (in_old cell low)).0 has) [
            | inl before ↦ so_far.sound cell position item low is_in before
            | inr (here, of_set) ↦
                let there = subst (λ (k : ℕ). Contains set k) (sym is_in.1) of_set in
                (pred, read position ((placed position).0 here), (holding item is_in.0).0 there)
          ];
      whole = λ cell position place item low is_in has_place less meets.
          (adds.has cell position (in_old cell low)).1 (elim (below-more place at less) [
            | inr before ↦
                inl (so_far.whole cell position place item low is_in has_place before meets)
            | inl same ↦
                let here = has_place ∙ ap Some same in
                inr (
                  (placed position).1 here,
                  subst (λ (k : ℕ). Contains set k) is_in.1
                      ((holding item is_in.0).1 (truth position item here meets)),
                )
          ]);
    }
  where
    in_old : (cell : ℕ) → cell < cell_count cells → cell < length old
    in_old cell low = subst (λ (n : ℕ). cell < n) (sym so_far.each) low

    read : (position : ℕ) → slice_get shared.places position ≡ Some at
        → slice_get sets.preds position ≡ Some pred
    read position here =
        subst (λ (list : List Predicate). slice_get list position ≡ Some pred) same_preds
        (listed_at shared position at pred here kept)

    truth : (position : ℕ) (item : List Field) → slice_get shared.places position ≡ Some at
        → Meets sets position item → holds pred item ≡ true
    truth position item here (other, found, is_true) =
        subst (λ (q : Predicate). holds q item ≡ true)
        (one-at sets.preds position position other pred found refl (read position here)) is_true

-- all of them
pub met-all :
    (sets : Sets) (shared : Shared) (cells : Partition) (masks : List ℕ) (bound : ℕ)
    → listed shared ≡ sets.preds → AreShared shared
    → AreMetBelow sets shared.places cells masks bound → length shared.distinct ≤ bound
    → AreMet sets cells masks
met-all sets shared cells masks bound same_preds are all enough = (
  all.each,
  λ cell mask read.
      let is : get_or masks cell 0 ≡ mask = get_or_from_slice_get masks cell mask 0 read in
      let low : cell < cell_count cells =
      subst (λ (n : ℕ). cell < n) all.each (slice_get_within masks cell mask read) in
      record {
        within = below-has mask (length sets.preds) (λ position has.
            let at = all.below cell position low (subst (λ (m : ℕ). Has m position) (sym is) has) in
            let within = slice_get_within shared.places position at.0 at.1 in
            let long = length-map shared.places (λ (p : ℕ). get_or shared.distinct p any) in
            let same = ap length same_preds in
            omega arith);
        sound = λ position item is_in has.
            all.sound cell position item low is_in (subst (λ (m : ℕ). Has m position) (sym is) has);
        whole = λ position item is_in meets.
            let (pred, found, is_true) = meets in
            let at = place_at shared position pred are
            (subst (λ (list : List Predicate). slice_get list position ≡ Some pred)
            (sym same_preds) found) in
            let within = are.within position at.0 at.1 in
            subst (λ (m : ℕ). Has m position) is
            (all.whole cell position at.0 item low is_in at.1 (omega arith) meets);
      },
)

-- the predicates that are kept were decided
pub kept_decided :
    (P : Predicate → Type 0) (shared : Shared) (preds : List Predicate) (place : ℕ)
    (pred : Predicate) → listed shared ≡ preds → AreShared shared → AllByRecursion P preds
    → slice_get shared.distinct place ≡ Some pred → P pred
kept_decided P shared preds place pred same are all kept =
    let at = are.used place (slice_get_within shared.distinct place pred kept) in
    all-at P preds at.0 pred all
    (subst (λ (list : List Predicate). slice_get list at.0 ≡ Some pred) same
    (listed_at shared at.0 place pred at.1 kept))

-- and where all that are kept are decided, all are
pub all_decided :
    (P : Predicate → Type 0) (shared : Shared) (preds : List Predicate) → listed shared ≡ preds
    → AreShared shared → AllByRecursion P shared.distinct → AllByRecursion P preds
all_decided P shared preds same are all =
    all-each P preds (λ position pred found.
    let at = place_at shared position pred are
    (subst (λ (list : List Predicate). slice_get list position ≡ Some pred) (sym same) found) in
    all-at P shared.distinct at.0 pred all at.2)
