-- Starts that can continue, but for one: what is kept at them, and that nothing is kept at the one.
use Rattle.std.proofs.Common.{◌≡◌, ◌↔◌, ◌==◌, ◌&&◌, ◌∙◌, ℕ, Bool, true, false, cond, not, IsTrue}
use Rattle.std.proofs.Common.{List, None, refl, ap, subst}
use Rattle.std.proofs.lemmas.Bool.{eq-eqb, ne_eqb}
use Rattle.value_ops.specs.declared.value.Value.{Value}
use Rattle.split_eval.specs.Entries.{Contents, entry_at, live_entries}
use Rattle.split_eval.specs.declared.entry.Entry.{Entry}
use Rattle.split_eval.proofs.Found.{entry_at-live}

-- it can continue, and is not the one
abbrev pub elsewhere : ℕ → (ℕ → Bool) → ℕ → Bool
elsewhere at live start = not (start == at) && live start

can_continue : (same live : Bool) → IsTrue (not same && live) → IsTrue live
can_continue true live is = let wrong : false ≡ true = is in cc
can_continue false live is = is

-- those that are meant are not at the one
pub elsewhere_lives : (at : ℕ) (live : ℕ → Bool) (P : ℕ → Type 0) → (P at → ⊥)
    → ((start : ℕ) → IsTrue (live start) ↔ P start)
    → (start : ℕ) → IsTrue (elsewhere at live start) ↔ P start
elsewhere_lives at live P none lives start = (
  λ is. (lives start).0 (can_continue (start == at) (live start) is),
  λ there.
      ap (λ (same : Bool). not same && live start)
      (ne_eqb start at (λ same. none (subst P same there))) ∙ (lives start).1 there,
)

none_at : (entries : List (Entry Value)) (at : ℕ) (live : ℕ → Bool)
    → entry_at (live_entries (elsewhere at live) entries) at ≡ None
none_at entries at live =
    entry_at-live entries (elsewhere at live) at
    ∙ ap (λ (same : Bool). cond (not same && live at) (entry_at entries at) None)
    (eq-eqb at at refl)

-- nothing is kept at the one
pub fresh_elsewhere : (at : ℕ) (live : ℕ → Bool) (held kept : Contents Value)
    → kept.entries ≡ live_entries (elsewhere at live) held.entries → entry_at kept.entries at ≡ None
fresh_elsewhere at live held kept keeps =
    ap (λ (entries : List (Entry Value)). entry_at entries at) keeps ∙ none_at held.entries at live
