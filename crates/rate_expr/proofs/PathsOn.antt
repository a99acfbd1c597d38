-- Paths one after the other, and the words that they spell.
use Rattle.std.proofs.Common.{ℕ, ◌<◌, List, [], ◌∷◌, ◌++◌, length, refl, sym, subst, arith}
use Rattle.value_ops.specs.declared.field.Field.{Field}
use Rattle.rate_expr.specs.Paths.{Leads, LeadsOn, Spells}
use Rattle.rate_expr.specs.Sets.{Sets, Has}
use Rattle.rate_expr.specs.Words.{Word}

-- two paths on make one
pub leads_on_append :
    (sets : Sets) (from : ℕ) (u : Word) (between : ℕ) (v : Word) (to : ℕ)
    → LeadsOn sets from u between → LeadsOn sets between v to → LeadsOn sets from (u ++ v) to
leads_on_append sets from [] between v to here on =
    subst (λ (p : ℕ). LeadsOn sets p v to) (sym here) on
leads_on_append sets from (item ∷ u) between v to (next, follows, meets, path) on =
    (next, follows, meets, leads_on_append sets next u between v to path on)

-- a path on over two words stands somewhere between them
pub leads_on_parts :
    (sets : Sets) (from : ℕ) (u v : Word) (to : ℕ) → LeadsOn sets from (u ++ v) to
    → (between : ℕ) × LeadsOn sets from u between × LeadsOn sets between v to
leads_on_parts sets from [] v to path = (from, refl, path)
leads_on_parts sets from (item ∷ u) v to (next, follows, meets, path) =
    let rest = leads_on_parts sets next u v to path in
    (rest.0, (next, follows, meets, rest.1), rest.2)

-- a path from the beginning continues
pub leads_append :
    (sets : Sets) (u : Word) (between : ℕ) (v : Word) (to : ℕ)
    → Leads sets u between → LeadsOn sets between v to → Leads sets (u ++ v) to
leads_append sets [] between v to none on = absurd none
leads_append sets (item ∷ u) between v to (begin, first, meets, path) on =
    (begin, first, meets, leads_on_append sets begin u between v to path on)

-- a path over a word that is not empty and another stands somewhere between them
pub leads_begun_parts :
    (sets : Sets) (item : List Field) (u v : Word) (to : ℕ) → Leads sets ((item ∷ u) ++ v) to
    → (between : ℕ) × Leads sets (item ∷ u) between × LeadsOn sets between v to
leads_begun_parts sets item u v to (begin, first, meets, path) =
    let rest = leads_on_parts sets begin u v to path in
    (rest.0, (begin, first, meets, rest.1), rest.2)

-- the same where the first word has a length
pub leads_parts : (sets : Sets) (u v : Word) (to : ℕ) → 0 < length u → Leads sets (u ++ v) to
    → (mid : ℕ) × Leads sets u mid × LeadsOn sets mid v to
leads_parts sets [] v to some leads = absurd (omega arith)
leads_parts sets (x ∷ u) v to some leads =
    let parts = leads_on_parts sets leads.0 u v to leads.3 in
    (parts.0, (leads.0, leads.1, leads.2, parts.1), parts.2)

-- a word that leads somewhere has an item
pub leads_some : (sets : Sets) (word : Word) (to : ℕ) → Leads sets word to → 0 < length word
leads_some sets [] to leads = absurd leads
leads_some sets (x ∷ word) to leads = omega arith

-- a word that leads to an end is spelled
pub spells_at : (sets : Sets) (word : Word) (to : ℕ) → Leads sets word to → Has sets.last to
    → Spells sets word
spells_at sets [] to leads ends = absurd leads
spells_at sets (x ∷ word) to leads ends = (to, leads, ends)

-- a word of some items that is spelled leads to an end
pub spells_end : (sets : Sets) (word : Word) → 0 < length word → Spells sets word
    → (end : ℕ) × Leads sets word end × Has sets.last end
spells_end sets [] some spells = absurd (omega arith)
spells_end sets (x ∷ word) some spells = spells
