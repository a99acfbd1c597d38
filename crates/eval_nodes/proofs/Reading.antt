-- Left values read one after the other: whether one has an outer start, and how much they take.
use Rattle.std.proofs.Common.{◌≡◌, ◌==◌, ◌||◌, ◌+◌, ◌∙◌, ℕ, Bool, true, false, List, Some, get_or}
use Rattle.std.proofs.Common.{slice_get, take, ap}
use Rattle.std.proofs.lemmas.Bool.{eq-eqb, ne_eqb}
use Rattle.std.proofs.lemmas.List.Folds.{list_any_at, list_any_more}
use Rattle.std.proofs.lemmas.List.Sums.{sum_by_more}
use Rattle.std.proofs.lemmas.Option.{get_or_from_slice_get, slice_get_within}
use Rattle.value_ops.specs.declared.value.Value.{Value}
use Rattle.split_eval.specs.declared.entry.Entry.{Entry}
use Rattle.value_ops.specs.Sizes.{size_of_value}
use Rattle.eval_nodes.specs.Counts.{sizes_of}
use Rattle.eval_nodes.specs.Live.{is_outer}

pub outer_there : (es : List (Entry Value)) (i : ℕ) (e : Entry Value) (start : ℕ)
    → slice_get es i ≡ Some e → e.outer ≡ start → is_outer es start ≡ true
outer_there es i e start at same =
    list_any_at (λ (x : Entry Value). x.outer == start) es i e (slice_get_within es i e at)
    (ap (λ (x : Entry Value). x.outer == start) (get_or_from_slice_get es i e e at)
    ∙ eq-eqb e.outer start same)

pub outer_more : (es : List (Entry Value)) (i : ℕ) (e : Entry Value) (start : ℕ)
    → slice_get es i ≡ Some e → (e.outer ≡ start → ⊥) → is_outer (take i es) start ≡ false
    → is_outer (take (i + 1) es) start ≡ false
outer_more es i e start at differs before =
    list_any_more (λ (x : Entry Value). x.outer == start) es i e (slice_get_within es i e at)
    ∙ ap (λ (b : Bool). b || (get_or es i e).outer == start) before
    ∙ ap (λ (x : Entry Value). x.outer == start) (get_or_from_slice_get es i e e at)
    ∙ ne_eqb e.outer start differs

pub sizes_more : (es : List (Entry Value)) (i : ℕ) (e : Entry Value) → slice_get es i ≡ Some e
    → sizes_of (take (i + 1) es) ≡ sizes_of (take i es) + (2 + size_of_value e.value)
sizes_more es i e at =
    sum_by_more (λ (x : Entry Value). 2 + size_of_value x.value) es i e (slice_get_within es i e at)
    ∙ ap (λ (x : Entry Value). sizes_of (take i es) + (2 + size_of_value x.value))
    (get_or_from_slice_get es i e e at)
