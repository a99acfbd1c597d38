-- What is kept in its room, where an entry is put, and where some are left out.
use Rattle.std.proofs.Common.{◌≡◌, ◌∙◌, ◌++◌, ◌<◌, ◌≤◌, ℕ, Bool, true, false, cond, List, [], ◌∷◌}
use Rattle.std.proofs.Common.{None, length, sym, subst, arith}
use Rattle.std.specs.List.Retain.{IsFiltered}
use Rattle.std.proofs.lemmas.List.{length-append}
use Rattle.split_eval.specs.Entries.{entry_at, live_entries, IsKept}
use Rattle.split_eval.specs.declared.entry.Entry.{Entry}
use Rattle.split_eval.proofs.Distinct.{AreDistinct-filtered, AreDistinct-live, AreDistinct-put}
use Rattle.split_eval.proofs.Distinct.{few_filtered}

module _ {V : Type 0} where
  -- one more, where there is room and none has its inner start
  pub IsKept-put : (es now : List (Entry V)) (e : Entry V) (room capacity grown : ℕ)
      → now ≡ es ++ e ∷ [] → IsKept es room capacity → length es < room
      → entry_at es e.inner ≡ None → grown ≡ capacity → IsKept now room grown
  IsKept-put es now e room capacity grown is was spare none more =
      let count = length-append es (e ∷ []) in
      subst (λ (xs : List (Entry V)). IsKept xs room grown) (sym is) (record {
        reserved = more ∙ was.reserved;
        few = omega (arith, count, spare);
        distinct = AreDistinct-put es e was.distinct none;
      })

  -- those of which a test said so
  pub IsKept-filtered : {P : Type 0} (R : P → Entry V → Bool → P → Type 0) (p : P)
      → (es now : List (Entry V)) (room capacity same : ℕ)
      → IsFiltered R p es now → IsKept es room capacity → same ≡ capacity → IsKept now room same
  IsKept-filtered R p es now room capacity same kept was is =
      let few = was.few in
      let fewer = few_filtered R p es now kept in
      record {
        reserved = is ∙ was.reserved;
        few = omega (arith, few, fewer);
        distinct = AreDistinct-filtered R p es now kept was.distinct;
      }

  few_first : (live : Bool) (x : Entry V) (es kept : List (Entry V)) → length kept ≤ length es
      → length (cond live (x ∷ kept) kept) ≤ length (x ∷ es)
  few_first true x es kept few = omega (arith, few)
  few_first false x es kept few = omega (arith, few)

  few_live : (es : List (Entry V)) (is_live : ℕ → Bool)
      → length (live_entries is_live es) ≤ length es
  few_live [] is_live = omega arith
  few_live (x ∷ es) is_live =
      few_first (is_live x.inner) x es (live_entries is_live es) (few_live es is_live)

  -- the live ones
  pub IsKept-live : (es now : List (Entry V)) (is_live : ℕ → Bool) (room capacity same : ℕ)
      → now ≡ live_entries is_live es → IsKept es room capacity → same ≡ capacity
      → IsKept now room same
  IsKept-live es now is_live room capacity same is was as_before =
      let few = was.few in
      let fewer = few_live es is_live in
      subst (λ (xs : List (Entry V)). IsKept xs room same) (sym is) (record {
        reserved = as_before ∙ was.reserved;
        few = omega (arith, few, fewer);
        distinct = AreDistinct-live es is_live was.distinct;
      })
