-- Values that wait are put back.
use Rattle.std.proofs.Common.{◌≡◌, ◌≤◌, ◌+◌, ◌++◌, ◌∙◌, ℕ, zero, suc, Bool, List, []}
use Rattle.std.proofs.Common.{◌∷◌, Some, None}
use Rattle.std.proofs.Common.{cond, length, map, take, refl, sym, ap, subst, arith}
use Rattle.std.specs.List.{AllByRecursion, Contains, slice_get}
use Rattle.std.proofs.lemmas.Bool.{ne_eqb}
use Rattle.std.proofs.lemmas.List.{length-map, map-append, take_all}
use Rattle.value_ops.specs.declared.value.Value.{Value}
use Rattle.value_ops.specs.declared.value.ValueType.{ValueType}
use Rattle.value_ops.specs.Types.{IsValueOf}
use Rattle.split_eval.specs.declared.entry.Entry as held
use Rattle.split_eval.specs.Entries.{AreDistinct, Contents, entry_at}
use Rattle.eval_nodes.specs.Sound.{AreEntriesOf}
use Rattle.eval_nodes.specs.Starts.{AreDifferent}
use Rattle.eval_nodes.proofs.Members.{first_member, later_member}
use Rattle.eval_nodes.proofs.Runners.{take_one}
use Rattle.runner_snapshot.specs.declared.entries.Entry.{Entry}
use Rattle.eval_snapshot.specs.Dumped.{kept_entry}
use Rattle.eval_snapshot.specs.Fits.{FitsWaiting, FitWaiting}
use Rattle.eval_snapshot.specs.Means.{held_entry}
use Rattle.restored_nodes.proofs.Lists.{key_before}

abbrev inners_of : List Entry → List ℕ
inners_of entries = map (λ (entry : Entry). entry.inner) entries

-- where no entry has the inner start, none is found
pub none_found : (entries : List Entry) (inner : ℕ) → (Contains (inners_of entries) inner → ⊥)
    → entry_at (map held_entry entries) inner ≡ None
none_found [] inner none = refl
none_found (first ∷ rest) inner none =
    ap (λ (same : Bool). cond same (Some (held_entry first))
    (entry_at (map held_entry rest) inner))
    (ne_eqb first.inner inner (λ same. none (subst (Contains (first.inner ∷ inners_of rest)) same
    (first_member first.inner (inners_of rest)))))
    ∙ none_found rest inner (λ there. none (later_member first.inner inner (inners_of rest) there))

distinct_held : (entries : List Entry) → AreDifferent (inners_of entries)
    → AreDistinct (map held_entry entries)
distinct_held [] different = tt
distinct_held (first ∷ rest) different =
    (none_found rest first.inner different.0, distinct_held rest different.1)

typed_held : (type : ValueType) (position : ℕ) (entries : List Entry)
    → AllByRecursion (FitsWaiting type position) entries
    → AllByRecursion (λ (entry : held.Entry Value). IsValueOf type entry.value)
    (map held_entry entries)
typed_held type position [] all = tt
typed_held type position (first ∷ rest) all =
    (all.0.typed, typed_held type position rest all.1)

-- the same would be kept of them
pub kept_again : (entries : List Entry) → map kept_entry (map held_entry entries) ≡ entries
kept_again [] = refl
kept_again (first ∷ rest) = ap (λ (xs : List Entry). first ∷ xs) (kept_again rest)

-- they are sound if they fit
pub entries_sound : (type : ValueType) (places position room : ℕ) (entries : List Entry)
    → room ≡ places → FitWaiting type places position entries
    → AreEntriesOf type places (record { entries = map held_entry entries; room = room })
entries_sound type places position room entries is fit =
    let count = length-map entries held_entry in
    let few = fit.few in
    record {
      room = is;
      few = omega (arith, count, few, is);
      distinct = distinct_held entries fit.distinct;
      typed = typed_held type position entries fit.each;
    }

-- one of them is found at its place alone
pub none_before : (entries : List Entry) (i : ℕ) (entry : Entry)
    → AreDifferent (inners_of entries) → slice_get entries i ≡ Some entry
    → entry_at (map held_entry (take i entries)) entry.inner ≡ None
none_before entries i entry different at =
    none_found (take i entries) entry.inner
    (key_before (λ (one : Entry). one.inner) entries i entry different at)

-- as many as were read are held
pub held_count : (entries : List Entry) (i : ℕ) → i ≤ length entries
    → length (map held_entry (take i entries)) ≡ i
held_count entries zero few = refl
held_count (first ∷ rest) (suc i) few = ap suc (held_count rest i (omega (arith, few)))
held_count [] (suc i) few = absurd (omega (arith, few))

-- one more
pub entry_back : (entries : List Entry) (i : ℕ) (entry : Entry) (old new : List (held.Entry Value))
    (value : Value) → slice_get entries i ≡ Some entry → old ≡ map held_entry (take i entries)
    → value ≡ entry.value
    → new ≡ old ++ record { inner = entry.inner; outer = entry.outer; value = value } ∷ []
    → new ≡ map held_entry (take (i + 1) entries)
entry_back entries i entry old new value at before same after =
    let one : Value → held.Entry Value = (λ v.
    record { inner = entry.inner; outer = entry.outer; value = v }) in
    after ∙ ap (λ (xs : List (held.Entry Value)). xs ++ one value ∷ []) before
    ∙ ap (λ (v : Value). map held_entry (take i entries) ++ one v ∷ []) same
    ∙ sym (ap (map held_entry) (take_one entries i entry at)
    ∙ map-append held_entry (take i entries) (entry ∷ []))

-- all
pub all_held : (entries : List Entry) (i room : ℕ) (held : Contents Value) → length entries ≤ i
    → held.entries ≡ map held_entry (take i entries) → held.room ≡ room
    → held ≡ record { entries = map held_entry entries; room = room }
all_held entries i room held end are is =
    let whole : held.entries ≡ map held_entry entries =
    are ∙ ap (map held_entry) (take_all i entries end) in
    λ j. record { entries = whole j; room = is j }
