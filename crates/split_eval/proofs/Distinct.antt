-- Lists of distinct entries.
use Rattle.std.proofs.Common.{◌≡◌, ◌∙◌, ◌++◌, ◌≤◌, ℕ, Bool, true, false, cond, List, [], ◌∷◌}
use Rattle.std.proofs.Common.{Option, None, length, refl, sym, ap, subst, arith}
use Rattle.std.specs.List.{items_where_true}
use Rattle.std.specs.List.Retain.{IsFiltered}
use Rattle.split_eval.specs.Entries.{entry_at, live_entries, AreDistinct}
use Rattle.split_eval.specs.declared.entry.Entry.{Entry}
use Rattle.split_eval.proofs.Found.{entry_at-put_other, either, entry_at-live, first_differs}
use Rattle.split_eval.proofs.Found.{found_after, none_after}

module _ {V : Type 0} where
  -- with one more, whose inner start none has
  pub AreDistinct-put : (es : List (Entry V)) (e : Entry V) → AreDistinct es
      → entry_at es e.inner ≡ None → AreDistinct (es ++ e ∷ [])
  AreDistinct-put [] e distinct none = (refl, tt)
  AreDistinct-put (x ∷ es) e distinct none =
      let first = entry_at-put_other es e x.inner (first_differs x es e.inner none) ∙ distinct.0 in
      (first, AreDistinct-put es e distinct.1 (none_after x es e.inner none))

  -- among some of the entries nothing is found where nothing is among all
  none_chosen : (bs : List Bool) (es : List (Entry V)) (inner : ℕ)
      → entry_at es inner ≡ None → entry_at (items_where_true bs es) inner ≡ None
  none_chosen [] es inner none = refl
  none_chosen (b ∷ bs) [] inner none = refl
  none_chosen (true ∷ bs) (x ∷ es) inner none =
      found_after x (items_where_true bs es) inner (first_differs x es inner none)
      ∙ none_chosen bs es inner (none_after x es inner none)
  none_chosen (false ∷ bs) (x ∷ es) inner none =
      none_chosen bs es inner (none_after x es inner none)

  -- some of distinct entries
  AreDistinct-chosen : (bs : List Bool) (es : List (Entry V)) → AreDistinct es
      → AreDistinct (items_where_true bs es)
  AreDistinct-chosen [] es distinct = tt
  AreDistinct-chosen (b ∷ bs) [] distinct = tt
  AreDistinct-chosen (true ∷ bs) (x ∷ es) distinct =
      (none_chosen bs es x.inner distinct.0, AreDistinct-chosen bs es distinct.1)
  AreDistinct-chosen (false ∷ bs) (x ∷ es) distinct = AreDistinct-chosen bs es distinct.1

  few_chosen : (bs : List Bool) (es : List (Entry V)) → length (items_where_true bs es) ≤ length es
  few_chosen [] es = omega arith
  few_chosen (b ∷ bs) [] = omega arith
  few_chosen (true ∷ bs) (x ∷ es) = omega (arith, few_chosen bs es)
  few_chosen (false ∷ bs) (x ∷ es) = omega (arith, few_chosen bs es)

  -- what a test keeps of distinct entries, whatever it answers
  pub AreDistinct-filtered : {P : Type 0} (R : P → Entry V → Bool → P → Type 0) (p : P)
      → (es kept : List (Entry V)) → IsFiltered R p es kept → AreDistinct es → AreDistinct kept
  AreDistinct-filtered R p es kept (bs, q, each, answered, is) distinct =
      subst AreDistinct (sym is) (AreDistinct-chosen bs es distinct)

  -- and how many
  pub few_filtered : {P : Type 0} (R : P → Entry V → Bool → P → Type 0) (p : P)
      → (es kept : List (Entry V)) → IsFiltered R p es kept → length kept ≤ length es
  few_filtered R p es kept (bs, q, each, answered, is) =
      subst (λ (xs : List (Entry V)). length xs ≤ length es) (sym is) (few_chosen bs es)

  none_live : (es : List (Entry V)) (is_live : ℕ → Bool) (inner : ℕ)
      → entry_at es inner ≡ None → entry_at (live_entries is_live es) inner ≡ None
  none_live es is_live inner none =
      entry_at-live es is_live inner
      ∙ ap (λ (found : Option (Entry V)). cond (is_live inner) found None) none
      ∙ either (is_live inner) None

  with_first : (live : Bool) (x : Entry V) (kept : List (Entry V)) → entry_at kept x.inner ≡ None
      → AreDistinct kept → AreDistinct (cond live (x ∷ kept) kept)
  with_first true x kept none distinct = (none, distinct)
  with_first false x kept none distinct = distinct

  -- the live ones of distinct entries
  pub AreDistinct-live : (es : List (Entry V)) (is_live : ℕ → Bool) → AreDistinct es
      → AreDistinct (live_entries is_live es)
  AreDistinct-live [] is_live distinct = tt
  AreDistinct-live (x ∷ es) is_live distinct =
      with_first (is_live x.inner) x (live_entries is_live es)
      (none_live es is_live x.inner distinct.0) (AreDistinct-live es is_live distinct.1)
