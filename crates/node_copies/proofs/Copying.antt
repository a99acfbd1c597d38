-- Left values are copied one after the other.
use Rattle.std.proofs.Common.{◌≡◌, ◌+◌, ◌∙◌, ◌++◌, ℕ, zero, suc, List, [], ◌∷◌, Some, None}
use Rattle.std.proofs.Common.{slice_get, take, refl, sym, ap}
use Rattle.std.proofs.lemmas.List.{take_more}
use Rattle.std.proofs.lemmas.Option.{none-some, get_or_from_slice_get, slice_get_within}
use Rattle.split_eval.specs.Entries.{entry_at, AreDistinct}
use Rattle.split_eval.specs.declared.entry.Entry.{Entry}
use Rattle.split_eval.proofs.Found.{found_after}
use Rattle.split_eval.proofs.Places.{entry_at-place}

module _ {V : Type 0} where
  -- before an entry none has its inner start
  pub none_before : (es : List (Entry V)) (i : ℕ) (e : Entry V) → AreDistinct es
      → slice_get es i ≡ Some e → entry_at (take i es) e.inner ≡ None
  none_before [] i e distinct at = absurd (none-some e at)
  none_before (x ∷ es) zero e distinct at = refl
  none_before (x ∷ es) (suc i) e distinct at =
      found_after x (take i es) e.inner
      (λ is. none-some e (sym (ap (λ (start : ℕ). entry_at es start) (sym is) ∙ distinct.0)
      ∙ entry_at-place es i e distinct.1 at))
      ∙ none_before es i e distinct.1 at

  -- one more
  pub take_entry : (es : List (Entry V)) (i : ℕ) (e : Entry V) → slice_get es i ≡ Some e
      → take (i + 1) es ≡ take i es ++ e ∷ []
  take_entry es i e at =
      take_more es i e (slice_get_within es i e at)
      ∙ ap (λ (x : Entry V). take i es ++ x ∷ []) (get_or_from_slice_get es i e e at)

  -- and it is put
  pub put_entry : (es : List (Entry V)) (i : ℕ) (e : Entry V) (old new : List (Entry V)) (v : V)
      → slice_get es i ≡ Some e
      → old ≡ take i es → v ≡ e.value
      → new ≡ old ++ record { inner = e.inner; outer = e.outer; value = v } ∷ []
      → new ≡ take (i + 1) es
  put_entry es i e old new v at before same after =
      after
      ∙ ap
      (λ (xs : List (Entry V)). xs ++ record { inner = e.inner; outer = e.outer; value = v } ∷ [])
      before
      ∙ ap (λ (y : V). take i es ++ record { inner = e.inner; outer = e.outer; value = y } ∷ [])
      same ∙ sym (take_entry es i e at)
