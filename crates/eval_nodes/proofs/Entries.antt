-- What is found among values that wait.
use Rattle.std.proofs.Common.{◌≡◌, ◌==◌, ℕ, ◌∙◌, Bool, true, false, cond, List, [], ◌∷◌, Some, refl}
use Rattle.std.proofs.Common.{sym, ap}
use Rattle.std.proofs.lemmas.Bool.{eqb-true}
use Rattle.std.proofs.lemmas.Option.{none-some, same_Some}
use Rattle.value_ops.specs.declared.value.Value.{Value}
use Rattle.split_eval.specs.Entries.{entry_at}
use Rattle.split_eval.specs.declared.entry.Entry.{Entry}
use Rattle.eval_nodes.specs.Represents.{IsEntry}

-- what is found has the inner start
pub found_inner : (entries : List (Entry Value)) (inner : ℕ) (entry : Entry Value)
    → entry_at entries inner ≡ Some entry → entry.inner ≡ inner
found_inner [] inner entry found = absurd (none-some entry found)
found_inner (x ∷ entries) inner entry found =
    first (x.inner == inner) refl (found_inner entries inner entry) found
  where
    first : (same : Bool) → (x.inner == inner) ≡ same
        → (entry_at entries inner ≡ Some entry → entry.inner ≡ inner)
        → cond same (Some x) (entry_at entries inner) ≡ Some entry → entry.inner ≡ inner
    first true is later there =
        ap (λ (e : Entry Value). e.inner) (sym (same_Some x entry there))
        ∙ eqb-true x.inner inner is
    first false is later there = later there

pub is_entry : (entries : List (Entry Value)) (inner : ℕ) (entry : Entry Value)
    → entry_at entries inner ≡ Some entry → IsEntry entries inner entry.outer entry.value
is_entry entries inner entry found =
    found ∙ ap (λ i. Some (record { inner = i; outer = entry.outer; value = entry.value }))
    (found_inner entries inner entry found)
