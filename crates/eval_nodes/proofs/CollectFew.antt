-- The starts of a collect that can continue are at most one more than its rate has positions.
use Rattle.std.proofs.Common.{◌≡◌, ◌≤◌, ◌<◌, ◌∙◌, ℕ, ◌+◌, false, List, [], ◌∷◌, ◌++◌, drop, length}
use Rattle.std.proofs.Common.{refl, sym, subst, arith, ◌⊎◌, inl, inr}
use Rattle.std.specs.Prelude.{eqb}
use Rattle.std.specs.List.{AllByRecursion, Contains, IsDistinct}
use Rattle.std.proofs.lemmas.Bool.{eqb-true, ne_eqb}
use Rattle.std.proofs.lemmas.Map.Keys.{IsDistinct-cons}
use Rattle.std.proofs.lemmas.Map.Steps.{length-le_from_distinct_below}
use Rattle.std.proofs.lemmas.Map.Views.{Contains-from_any}
use Rattle.value_ops.specs.declared.field.Field.{Field}
use Rattle.predicates.specs.Predicates.{Predicate}
use Rattle.item_schema.specs.declared.column.Column.{Column}
use Rattle.rate_expr.specs.Language.{In}
use Rattle.rate_expr.specs.Paths.{Leads, LeadsOn, Spells}
use Rattle.rate_expr.specs.Rates as rates
use Rattle.rate_expr.specs.Rates.{size_of}
use Rattle.rate_expr.specs.Sets.{Has, Sets}
use Rattle.rate_expr.specs.Words.{Word, IsWordOf}
use Rattle.rate_expr.proofs.Meetings.{length-preds_of}
use Rattle.rate_expr.proofs.PathSteps.{leads_on_below, meets_below}
use Rattle.rate_expr.proofs.PathsOn.{leads_append, leads_begun_parts, spells_at}
use Rattle.rate_expr.proofs.SetsOf.{are_sets_of, sets_of, sets_spell}
use Rattle.query_model.specs.Queries.{Qre, collect}
use Rattle.eval_nodes.specs.Starts.{AreApart, AreDifferent, ArePositions, IsLive}
use Rattle.eval_nodes.proofs.Members.{first_member, later_member, member_cases, no_member}
use Rattle.eval_nodes.proofs.Pieces.{at_end}

-- different numbers that are below a bound
apart_from : (x : ℕ) (xs : List ℕ) → (Contains xs x → ⊥) → AllByRecursion (λ y. eqb x y ≡ false) xs
apart_from x [] fresh = tt
apart_from x (y ∷ xs) fresh = (
  ne_eqb x y (λ same. fresh (subst (Contains (y ∷ xs)) (sym same) (first_member y xs))),
  apart_from x xs (λ there. fresh (later_member y x xs there)),
)

none_differ : IsDistinct eqb []
unfolding IsDistinct
none_differ = tt

differ : (xs : List ℕ) → AreDifferent xs → IsDistinct eqb xs
differ [] different = none_differ
differ (x ∷ xs) different =
    IsDistinct-cons eqb x xs (apart_from x xs different.0) (differ xs different.1)

few_below : (xs : List ℕ) (n : ℕ) → AreDifferent xs
    → ((x : ℕ) → Contains xs x → x < n) → length xs ≤ n
few_below xs n different below =
    length-le_from_distinct_below xs n (differ xs different)
    (λ x found. below x (Contains-from_any {eq = eqb} (λ a b. eqb-true a b) x xs found))

module _ (columns : List Column) (chosen : List ℕ) (sync : Predicate) (rate : rates.Regex)
    (f : Qre) (word : Word) (starts : List ℕ) where
  abbrev pub q : Qre
  q = collect chosen sync rate f

  abbrev sets : Sets
  sets = sets_of rate

  -- a path after the position is spelled by items and leads to an end
  abbrev LeadsOut : ℕ → Type 0
  LeadsOut position =
      (item : List Field) × (more : Word) × (end : ℕ) × IsWordOf columns (item ∷ more)
      × LeadsOn sets position (item ∷ more) end × Has sets.last end

  -- the piece is empty, or it leads to the position, and on
  abbrev StandsAt : ℕ → ℕ → Type 0
  StandsAt start position = Contains starts start
      × (((drop start word ≡ []) × (position ≡ size_of rate))
      ⊎ (Leads sets (drop start word) position × (position < size_of rate) × LeadsOut position))

  spelled : (u : Word) → In rate u → Spells sets u
  spelled u is = (sets_spell sets rate (are_sets_of rate) u).0 is

  leads_below : (u : Word) (position : ℕ) → Leads sets u position → position < size_of rate
  leads_below [] position leads = absurd leads
  leads_below (x ∷ u) position (begin, first, meets, path) =
      subst (λ (n : ℕ). position < n) (length-preds_of rate)
      (leads_on_below sets begin u position (meets_below sets begin x meets) path)

  -- a start that can continue stands at a position
  stands : (start : ℕ) → IsLive columns q word starts start
      → (position : ℕ) × StandsAt start position
  stands start (from, (item, more, more_is, in_rate)) = by (drop start word) refl
    where
      by : (u : Word) → drop start word ≡ u → (position : ℕ) × StandsAt start position
      by [] is = (size_of rate, (from, inl (is, refl)))
      by (x ∷ u) is =
          let (end, leads, last) = spelled ((x ∷ u) ++ item ∷ more)
          (subst (λ (w : Word). In rate (w ++ item ∷ more)) is in_rate) in
          let (between, begun, on) = leads_begun_parts sets x u (item ∷ more) end leads in (
            between,
            (
              from,
              inr (
                subst (λ (w : Word). Leads sets w between) (sym is) begun,
                leads_below (x ∷ u) between begun,
                (item, more, end, more_is, on, last),
              ),
            ),
          )

  -- a piece continues by what leads out of the position
  goes_out : (start position : ℕ) (item : List Field) (more : Word) (end : ℕ)
      → Leads sets (drop start word) position → LeadsOn sets position (item ∷ more) end
      → Has sets.last end → In rate (drop start word ++ item ∷ more)
  goes_out start position item more end leads on last =
      (sets_spell sets rate (are_sets_of rate) (drop start word ++ item ∷ more)).1
      (spells_at sets (drop start word ++ item ∷ more) end
      (leads_append sets (drop start word) position (item ∷ more) end leads on) last)

  -- two at one position are the same
  one_stands : (i j position : ℕ) → ArePositions word starts → AreApart columns q word starts
      → StandsAt i position → StandsAt j position → i ≡ j
  one_stands i j position positions apart (first, inl (none, at)) (second, inl (none', at')) =
      at_end word i (positions i first) none ∙ sym (at_end word j (positions j second) none')
  one_stands i j position positions apart (first, inl (none, at))
      (second, inr (leads, below, out)) =
      absurd (omega (arith, at, below))
  one_stands i j position positions apart (first, inr (leads, below, out))
      (second, inl (none, at)) =
      absurd (omega (arith, at, below))
  one_stands i j position positions apart (first, inr (leads, below, out))
      (second, inr (leads', below', out')) =
      let (item, more, end, more_is, on, last) = out in
      apart i j (item ∷ more) more_is first second (goes_out i position item more end leads on last)
      (goes_out j position item more end leads' on last)

  -- positions at which the starts stand, one for each
  record AreAt (all : List ℕ) : Type 0 where
    places : List ℕ
    count : length all ≡ length places
    different : AreDifferent places
    each : (position : ℕ) → Contains places position
        → (start : ℕ) × Contains all start × StandsAt start position

  are_at : (all : List ℕ) → ArePositions word starts → AreApart columns q word starts
      → AreDifferent all → ((i : ℕ) → Contains all i → IsLive columns q word starts i) → AreAt all
  are_at [] positions apart different live = record {
    places = [];
    count = refl;
    different = tt;
    each = λ position there. absurd (no_member position there);
  }
  are_at (x ∷ all) positions apart different live =
      let rest = are_at all positions apart different.1
      (λ i there. live i (later_member x i all there)) in
      let (position, at) = stands x (live x (first_member x all)) in
      let count = rest.count in
      record {
        places = position ∷ rest.places;
        count = omega (arith, count);
        different = (
          λ there.
              let (other, among, at_other) = rest.each position there in
              different.0 (subst (Contains all)
              (one_stands other x position positions apart at_other at) among),
          rest.different,
        );
        each = λ place there. elim (member_cases position place rest.places there) [
          | inl same ↦ (x, first_member x all, subst (StandsAt x) same at)
          | inr later ↦ let (start, among, at_start) = rest.each place later in
              (start, later_member x start all among, at_start)
        ];
      }

  below : (start position : ℕ) → StandsAt start position → position < size_of rate + 1
  below start position (from, inl (none, at)) = omega (arith, at)
  below start position (from, inr (leads, low, out)) = omega (arith, low)

  pub few_collect : (live : List ℕ) → ArePositions word starts → AreApart columns q word starts
      → AreDifferent live → ((i : ℕ) → Contains live i → IsLive columns q word starts i)
      → length live ≤ size_of rate + 1
  few_collect live positions apart different each =
      let at = are_at live positions apart different each in
      let count = at.count in
      let few = few_below at.places (size_of rate + 1) at.different
      (λ position there. let (start, among, stand) = at.each position there in
      below start position stand) in
      omega (arith, count, few)
