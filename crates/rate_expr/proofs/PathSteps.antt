-- The paths that a word spells, one item further on.
use Rattle.std.proofs.Common.{ℕ, ◌<◌, List, [], ◌∷◌, ◌++◌, length, refl, sym, subst, arith}
use Rattle.std.proofs.lemmas.Option.{slice_get_within}
use Rattle.value_ops.specs.declared.field.Field.{Field}
use Rattle.rate_expr.specs.Sets.{Sets, Has}
use Rattle.rate_expr.specs.Paths.{Meets, Follows, LeadsOn, Leads}
use Rattle.rate_expr.specs.Words.{Word}

-- a path after a position continues by an item
pub leads_on_more : (sets : Sets) (from : ℕ) (word : Word) (p : ℕ) (item : List Field) (q : ℕ)
    → LeadsOn sets from word p → Follows sets p q → Meets sets q item
    → LeadsOn sets from (word ++ item ∷ []) q
leads_on_more sets from [] p item q is follows meets =
    (q, subst (λ (b : ℕ). Follows sets b q) (sym is) follows, meets, refl)
leads_on_more sets from (x ∷ word) p item q on follows meets =
    (on.0, on.1, on.2, leads_on_more sets on.0 word p item q on.3 follows meets)

-- and without its last item it is a path too
pub leads_on_less : (sets : Sets) (from : ℕ) (word : Word) (item : List Field) (q : ℕ)
    → LeadsOn sets from (word ++ item ∷ []) q
    → (p : ℕ) × LeadsOn sets from word p × Follows sets p q × Meets sets q item
leads_on_less sets from [] item q on = (
  from,
  refl,
  subst (λ (n : ℕ). Follows sets from n) on.3 on.1,
  subst (λ (n : ℕ). Meets sets n item) on.3 on.2,
)
leads_on_less sets from (x ∷ word) item q on =
    let less = leads_on_less sets on.0 word item q on.3 in
    (less.0, (on.0, on.1, on.2, less.1), less.2, less.3)

-- a path of one item begins
pub leads_one : (sets : Sets) (item : List Field) (q : ℕ) → Has sets.first q → Meets sets q item
    → Leads sets (item ∷ []) q
leads_one sets item q begins meets = (q, begins, meets, refl)

-- and is no more than that
pub leads_only_one : (sets : Sets) (item : List Field) (q : ℕ) → Leads sets (item ∷ []) q
    → Has sets.first q × Meets sets q item
leads_only_one sets item q leads = (
  subst (λ (n : ℕ). Has sets.first n) leads.3 leads.1,
  subst (λ (n : ℕ). Meets sets n item) leads.3 leads.2,
)

-- a path continues by an item
pub leads_more : (sets : Sets) (word : Word) (p : ℕ) (item : List Field) (q : ℕ) → Leads sets word p
    → Follows sets p q → Meets sets q item → Leads sets (word ++ item ∷ []) q
leads_more sets [] p item q leads follows meets = absurd leads
leads_more sets (x ∷ word) p item q leads follows meets =
    (leads.0, leads.1, leads.2, leads_on_more sets leads.0 word p item q leads.3 follows meets)

-- and one of two items or more is a path without its last item too
pub leads_less : (sets : Sets) (word : Word) (item : List Field) (q : ℕ)
    → 0 < length word → Leads sets (word ++ item ∷ []) q
    → (p : ℕ) × Leads sets word p × Follows sets p q × Meets sets q item
leads_less sets [] item q some leads = absurd (omega arith)
leads_less sets (x ∷ word) item q some leads =
    let less = leads_on_less sets leads.0 word item q leads.3 in
    (less.0, (leads.0, leads.1, leads.2, less.1), less.2, less.3)

-- a position with a predicate is one of the positions
pub meets_below : (sets : Sets) (p : ℕ) (item : List Field) → Meets sets p item
    → p < length sets.preds
meets_below sets p item meets = slice_get_within sets.preds p meets.0 meets.1

-- a position after which words continue is one of those that have a set of followers
pub follows_below : (sets : Sets) (p q : ℕ) → Follows sets p q → p < length sets.follow
follows_below sets p q follows = slice_get_within sets.follow p follows.0 follows.1

-- a path after a position ends in one of the positions
pub leads_on_below : (sets : Sets) (from : ℕ) (word : Word) (q : ℕ) → from < length sets.preds
    → LeadsOn sets from word q → q < length sets.preds
leads_on_below sets from [] q below is = subst (λ (n : ℕ). n < length sets.preds) is below
leads_on_below sets from (item ∷ word) q below on =
    leads_on_below sets on.0 word q (meets_below sets on.0 item on.2) on.3

-- a path ends in one of the positions
pub leads_below : (sets : Sets) (word : Word) (q : ℕ) → Leads sets word q → q < length sets.preds
leads_below sets [] q leads = absurd leads
leads_below sets (item ∷ word) q leads =
    leads_on_below sets leads.0 word q (meets_below sets leads.0 item leads.2) leads.3
