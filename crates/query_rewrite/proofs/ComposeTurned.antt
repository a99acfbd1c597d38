-- Compositions are grouped from the left. Each value of the middle query but the one on no values
-- comes after a value of the first one, so on a word on which the first one and the middle one have
-- values; and where the middle one has none on no values, no other is read.
use Rattle.std.proofs.Common.{◌≡◌, ◌≤◌, ◌∙◌, ◌+◌, ◌++◌, ℕ, List, [], ◌∷◌, refl, sym}
use Rattle.std.proofs.Common.{subst}
use Rattle.std.proofs.Common.{ap, arith, inl, inr, append-nil, append_assoc}
use Rattle.value_ops.specs.declared.field.Field.{Field}
use Rattle.value_ops.specs.declared.value.Value.{Value}
use Rattle.item_schema.specs.declared.column.Column.{Column}
use Rattle.item_schema.specs.Items.{fields_of_value}
use Rattle.rate_expr.specs.Words.{Word, IsWordOf}
use Rattle.rate_expr.proofs.Wording.{word_more}
use Rattle.query_model.specs.Bounds.{inner_of, width_of}
use Rattle.query_model.specs.Denotation.{Den, Emits, Outputs}
use Rattle.query_model.specs.Queries.{Qre, compose}
use Rattle.query_model.specs.QueryTypes.{derived_columns, type_of}
use Rattle.query_model.specs.Rules.{Standing, bound, free, IsClear, IsFedWell}
use Rattle.query_model.proofs.Decided.{value_or_none}
use Rattle.query_model.proofs.Defined.{outputs_some}
use Rattle.query_model.proofs.InRates.{den_in}
use Rattle.query_model.proofs.Unique.{IsOne, one_value, outputs_one}
use Rattle.query_rewrite.specs.Rewriting.{Turn}
use Rattle.query_rewrite.proofs.Alike.{IsAlike}
use Rattle.query_rewrite.proofs.Composed.{outputs_are}

-- what is emitted on one more item comes after the outputs before it
outputs_more : (D : Word → Value → Type 0) (before word out last : Word) (item : List Field)
    → Outputs D before word out → Emits D (before ++ word ++ item ∷ []) last
    → Outputs D before (word ++ item ∷ []) (out ++ last)
outputs_more D before [] out last item outputs emits =
    (out, last, outputs, subst (λ w. Emits D (w ++ item ∷ []) last) (append-nil before) emits, refl)
outputs_more D before (x ∷ word) out last item (first, others, emitted, outputs, whole) emits = (
  first,
  others ++ last,
  emitted,
  outputs_more D (before ++ x ∷ []) word others last item outputs
      (subst (λ w. Emits D w last) (regrouped before x word item) emits),
  ap (λ o. o ++ last) whole ∙ append_assoc first others last,
)
  where
    regrouped : (before : Word) (x : List Field) (word : Word) (item : List Field)
        → before ++ (x ∷ word) ++ item ∷ [] ≡ (before ++ x ∷ []) ++ word ++ item ∷ []
    regrouped before x word item =
        ap (λ w. w ++ item ∷ []) (sym (append_assoc before (x ∷ []) word))

-- the values of a query on the prefixes of `before ++ out` that are longer than `before`
abbrev After : (Word → Value → Type 0) → Word → Word → Word → Type 0
After D before [] items = items ≡ []
After D before (item ∷ out) items = Outputs D (before ++ item ∷ []) out items

-- the outputs are what is emitted first, and those after it
parted : (D : Word → Value → Type 0) (before out items : Word) → Outputs D before out items
    → (first : Word) × (others : Word) × Emits D before first × After D before out others
    × (items ≡ first ++ others)
parted D before [] items emits = (items, [], emits, refl, sym (append-nil items))
parted D before (item ∷ out) items outputs = outputs

module _ (columns : List Column) (f g : Qre) (one : IsOne columns (Den f)) where
  -- on a word on which the first query has a value, and whose outputs are these
  emitted : (word out items : Word) (x : Value) → IsWordOf columns word → Den f word x
      → Outputs (Den f) [] word out → Emits (Den g) out items → Emits (Den (compose f g)) word items
  emitted word out items x is den outputs (inl (z, outer, whole)) =
      inl (z, (x, out, den, outputs, outer), whole)
  emitted word out items x is den outputs (inr (none, empty)) =
      inr (
        (λ z (y, other, inner, others, outer).
            none z (subst (λ o. Den g o z)
            (outputs_one columns (Den f) one [] word other out tt is others outputs) outer)),
        empty,
      )

  -- on one on which it has none
  silent : (word : Word) → ((x : Value) → Den f word x → ⊥) → Emits (Den (compose f g)) word []
  silent word none = inr ((λ z (y, other, inner, others, outer). none y inner), refl)

  -- whatever the first query emits on the word, these come before it
  abbrev AreBefore : Word → Word → Type 0
  AreBefore word prior =
      (last : Word) → Emits (Den f) word last → Outputs (Den f) [] word (prior ++ last)

  -- also with one more item
  one_more : (word prior first : Word) (item : List Field)
      → Outputs (Den f) [] word (prior ++ first)
      → (last : Word) → Emits (Den f) (word ++ item ∷ []) last
      → Outputs (Den f) [] (word ++ item ∷ []) ((prior ++ first) ++ last)
  one_more word prior first item outputs last emits =
      outputs_more (Den f) [] word (prior ++ first) last item outputs emits

  -- the outputs of both are those of the second on the outputs of the first
  joined : (word rest out items prior : Word) → IsWordOf columns word → IsWordOf columns rest
      → AreBefore word prior → Outputs (Den f) word rest out → After (Den g) prior out items
      → Outputs (Den (compose f g)) word rest items
  joined word [] out items prior is rest_is before (inl (x, den, whole)) after =
      emitted word (prior ++ fields_of_value x ∷ []) items x is den
      (before (fields_of_value x ∷ []) (inl (x, den, refl)))
      (subst (λ o. After (Den g) prior o items) whole after)
  joined word [] out items prior is rest_is before (inr (none, empty)) after =
      let nothing : items ≡ [] = subst (λ o. After (Den g) prior o items) empty after in
      subst (Emits (Den (compose f g)) word) (sym nothing) (silent word none)
  joined word (item ∷ rest) out items prior is rest_is before
      (first, others, inl (x, den, emits), outputs, whole) after =
      let came : out ≡ fields_of_value x ∷ others = whole ∙ ap (λ o. o ++ others) emits in
      let (now, later, emits_now, after_now, all) =
      parted (Den g) (prior ++ fields_of_value x ∷ []) others items
      (subst (λ o. After (Den g) prior o items) came after) in
      let there = before (fields_of_value x ∷ []) (inl (x, den, refl)) in (
        now,
        later,
        emitted word (prior ++ fields_of_value x ∷ []) now x is den there emits_now,
        joined (word ++ item ∷ []) rest others later (prior ++ fields_of_value x ∷ [])
            (word_more columns word item is rest_is.0) rest_is.1
            (one_more word prior (fields_of_value x ∷ []) item there) outputs after_now,
        all,
      )
  joined word (item ∷ rest) out items prior is rest_is before
      (first, others, inr (none, empty), outputs, whole) after =
      let came : out ≡ others = whole ∙ ap (λ o. o ++ others) empty in
      let there : Outputs (Den f) [] word (prior ++ []) = before [] (inr (none, refl)) in (
        [],
        items,
        silent word none,
        joined (word ++ item ∷ []) rest others items prior
            (word_more columns word item is rest_is.0) rest_is.1
            (λ last emits. subst (λ p. Outputs (Den f) [] (word ++ item ∷ []) (p ++ last))
            (append-nil prior) (one_more word prior [] item there last emits)) outputs
            (subst (λ o. After (Den g) prior o items) came after),
        refl,
      )

  -- from the empty word on, where the second has no value on it
  pub outputs_joined : ((z : Value) → Den g [] z → ⊥) → (word out items : Word)
      → IsWordOf columns word → Outputs (Den f) [] word out → Outputs (Den g) [] out items
      → Outputs (Den (compose f g)) [] word items
  outputs_joined none word out items is first second =
      let (now, later, emits, after, whole) = parted (Den g) [] out items second in
      let quiet : now ≡ [] = elim emits [
        | inl (z, den, is_it) ↦ absurd (none z den)
        | inr (no_value, empty) ↦ empty
      ] in
      subst (Outputs (Den (compose f g)) [] word) (sym (whole ∙ ap (λ o. o ++ later) quiet))
      (joined [] word out later [] tt is (λ last emitted_last. emitted_last) first after)

-- a composition on the right is fed as its first query is
fed_first : (standing : Standing) (columns : List Column) (g h : Qre)
    → IsFedWell standing columns (compose g h) → IsFedWell standing columns g
fed_first free columns g h fed = tt
fed_first bound columns g h fed = fed

less_slots : (a b v : ℕ) → a + 1 + v ≤ b + 1 + v → a ≤ b
less_slots a b v less = omega arith

module _ (standing : Standing) (columns : List Column) (f g h : Qre) (can : Turn f g h)
    (clear : IsClear standing columns (compose f (compose g h))) where
  abbrev values : List Column
  values = derived_columns (type_of columns f)

  turned_clear : IsClear standing columns (compose (compose f g) h)
  turned_clear = (
    (clear.0, clear.1.0, clear.2.0, fed_first standing values g h clear.3),
    clear.1.1,
    clear.1.2,
    clear.1.3,
  )

  only_one : IsOne columns (Den f)
  only_one word v other is = one_value standing columns f word v other clear.0 is

  never_empty : (z : Value) → Den g [] z → ⊥
  never_empty z den = can.fed (den_in standing values g [] z clear.1.0 tt den)

  turned_there : (word : Word) (v : Value) → IsWordOf columns word
      → Den (compose f (compose g h)) word v → Den (compose (compose f g) h) word v
  turned_there word v is (x, out, den, outputs, (y, items, inner, others, outer)) = (
    y,
    items,
    (x, out, den, outputs, inner),
    outputs_joined columns f g only_one never_empty word out items is outputs others,
    outer,
  )

  turned_back : (word : Word) (v : Value) → IsWordOf columns word
      → Den (compose (compose f g) h) word v → Den (compose f (compose g h)) word v
  turned_back word v is (y, items, (x, out, den, outputs, inner), joined_outputs, outer) =
      let some = outputs_some values (Den g)
      (λ part part_is. value_or_none standing values g part clear.1.0 part_is) [] out tt
      (outputs_are standing columns f word out clear.0 is outputs) in
      let same : some.0 ≡ items = outputs_one columns (Den (compose f g))
      (λ part a b part_is. one_value standing columns (compose f g) part a b turned_clear.0 part_is)
      [] word some.0 items tt is
      (outputs_joined columns f g only_one never_empty word out some.0 is outputs some.1)
      joined_outputs in (
        x,
        out,
        den,
        outputs,
        (y, some.0, inner, some.1, subst (λ o. Den h o v) (sym same) outer),
      )

  pub compose_turned : IsAlike standing columns (compose f (compose g h)) (compose (compose f g) h)
  compose_turned = record {
    clear = turned_clear;
    type = refl;
    words = λ word. ((λ in_rate. in_rate), (λ in_rate. in_rate));
    positions = refl;
    places = refl;
    inner = less_slots (inner_of (compose (compose f g) h)) (inner_of (compose f (compose g h)))
        (width_of h) can.slots;
    nodes = omega arith;
    tests = refl;
    few_positions = λ few. ((few.0, few.1.0), few.1.1);
    few_cells = λ few. ((few.0, few.1, few.2.0), few.2.1, few.2.2);
    few_levels = λ few. ((few.0, few.1.0), few.1.1);
    no_collect = λ none. ((none.0, none.1.0), none.1.1);
    means = λ word v is. (turned_there word v is, turned_back word v is);
  }
