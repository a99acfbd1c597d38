-- What is found in lists of entries.
use Rattle.std.proofs.Common.{◌≡◌, ◌≢◌, ◌==◌, ◌++◌, ◌∙◌, ℕ, Bool, true, false, cond, not, List, []}
use Rattle.std.proofs.Common.{◌∷◌, Option, Some, None, if◌then◌else◌, refl, sym, ap}
use Rattle.std.proofs.lemmas.Bool.{eqb-true, eqb-false, eq-eqb, ne_eqb}
use Rattle.std.proofs.lemmas.Option.{none-some}
use Rattle.split_eval.specs.Entries.{entry_at, live_entries, without}
use Rattle.split_eval.specs.declared.entry.Entry.{Entry}

module _ {V : Type 0} where
  -- an entry is found before all after it
  pub found_first : (x : Entry V) (es : List (Entry V)) (inner : ℕ) → x.inner ≡ inner
      → entry_at (x ∷ es) inner ≡ Some x
  found_first x es inner is =
      ap (λ (same : Bool). cond same (Some x) (entry_at es inner)) (eq-eqb x.inner inner is)

  -- after an entry with another inner start the same is found as with it
  pub found_after : (x : Entry V) (es : List (Entry V)) (inner : ℕ) → x.inner ≢ inner
      → entry_at (x ∷ es) inner ≡ entry_at es inner
  found_after x es inner differs =
      ap (λ (same : Bool). cond same (Some x) (entry_at es inner)) (ne_eqb x.inner inner differs)

  -- where nothing is found, the first entry has another inner start
  pub first_differs : (x : Entry V) (es : List (Entry V)) (inner : ℕ)
      → entry_at (x ∷ es) inner ≡ None → x.inner ≢ inner
  first_differs x es inner none is = none-some x (sym none ∙ found_first x es inner is)

  -- and nothing is found after it
  pub none_after : (x : Entry V) (es : List (Entry V)) (inner : ℕ)
      → entry_at (x ∷ es) inner ≡ None → entry_at es inner ≡ None
  none_after x es inner none =
      sym (found_after x es inner (first_differs x es inner none)) ∙ none

  -- what is put is found where nothing was
  pub entry_at-put : (es : List (Entry V)) (e : Entry V) → entry_at es e.inner ≡ None
      → entry_at (es ++ e ∷ []) e.inner ≡ Some e
  entry_at-put [] e none = found_first e [] e.inner refl
  entry_at-put (x ∷ es) e none =
      found_after x (es ++ e ∷ []) e.inner (first_differs x es e.inner none)
      ∙ entry_at-put es e (none_after x es e.inner none)

  -- and elsewhere what was found before
  pub entry_at-put_other : (es : List (Entry V)) (e : Entry V) (inner : ℕ) → inner ≢ e.inner
      → entry_at (es ++ e ∷ []) inner ≡ entry_at es inner
  entry_at-put_other [] e inner differs = found_after e [] inner (λ is. differs (sym is))
  entry_at-put_other (x ∷ es) e inner differs =
      ap
      (λ (found : Option (Entry V)). cond (x.inner == inner) (Some x) found)
      (entry_at-put_other es e inner differs)

  -- one answer on both sides
  pub either : (live : Bool) (found : Option (Entry V)) → cond live found found ≡ found
  either true found = refl
  either false found = refl

  -- the first entry is kept or not, and is the one at the inner start or not
  live_first : (live same : Bool) (is_live : ℕ → Bool) (x : Entry V) (es kept : List (Entry V))
      → (inner : ℕ) → is_live x.inner ≡ live → (x.inner == inner) ≡ same
      → entry_at kept inner ≡ cond (is_live inner) (entry_at es inner) None
      → entry_at (cond live (x ∷ kept) kept) inner
      ≡ cond (is_live inner) (cond same (Some x) (entry_at es inner)) None
  live_first true true is_live x es kept inner live same found =
      let is : x.inner ≡ inner = eqb-true x.inner inner same in
      let now : is_live inner ≡ true = ap is_live (sym is) ∙ live in
      found_first x kept inner is ∙ sym (ap (λ (b : Bool). cond b (Some x) None) now)
  live_first true false is_live x es kept inner live same found =
      found_after x kept inner (eqb-false x.inner inner same) ∙ found
  live_first false true is_live x es kept inner live same found =
      let is : x.inner ≡ inner = eqb-true x.inner inner same in
      let now : is_live inner ≡ false = ap is_live (sym is) ∙ live in
      found
      ∙ ap (λ (b : Bool). cond b (entry_at es inner) None) now
      ∙ sym (ap (λ (b : Bool). cond b (Some x) None) now)
  live_first false false is_live x es kept inner live same found = found

  -- of the live ones the same is found, and of the others nothing
  pub entry_at-live : (es : List (Entry V)) (is_live : ℕ → Bool) (inner : ℕ)
      → entry_at (live_entries is_live es) inner
      ≡ (if is_live inner then entry_at es inner else None)
  entry_at-live [] is_live inner = sym (either (is_live inner) None)
  entry_at-live (x ∷ es) is_live inner =
      live_first (is_live x.inner) (x.inner == inner) is_live x es (live_entries is_live es) inner
      refl refl (entry_at-live es is_live inner)

  -- without the entries at an inner start nothing is found there
  pub entry_at-without : (es : List (Entry V)) (inner : ℕ)
      → entry_at (without es inner) inner ≡ None
  entry_at-without es inner =
      entry_at-live es (λ start. not (start == inner)) inner
      ∙ ap (λ (same : Bool). cond (not same) (entry_at es inner) None) (eq-eqb inner inner refl)

  -- and elsewhere what was found before
  pub entry_at-without_other : (es : List (Entry V)) (inner other : ℕ) → other ≢ inner
      → entry_at (without es inner) other ≡ entry_at es other
  entry_at-without_other es inner other differs =
      entry_at-live es (λ start. not (start == inner)) other
      ∙ ap (λ (same : Bool). cond (not same) (entry_at es other) None) (ne_eqb other inner differs)

  -- where nothing is found, nothing is left out
  pub without-none : (es : List (Entry V)) (inner : ℕ) → entry_at es inner ≡ None
      → without es inner ≡ es
  without-none [] inner none = refl
  without-none (x ∷ es) inner none =
      ap
      (λ (same : Bool). cond (not same) (x ∷ without es inner) (without es inner))
      (ne_eqb x.inner inner (first_differs x es inner none))
      ∙ ap (λ (rest : List (Entry V)). x ∷ rest)
      (without-none es inner (none_after x es inner none))
