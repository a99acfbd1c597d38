-- Nodes that are cleared: they stand for the empty word, without a start, and are sound.
use Rattle.std.proofs.Common.{◌≡◌, ◌∙◌, ℕ, ◌+◌, ◌*◌, zero, suc, false, List, [], ◌∷◌, ◌++◌, Option}
use Rattle.std.proofs.Common.{Some, None, length, set, slice_get, refl, sym, ap, subst, arith}
use Rattle.std.specs.Prelude.{ℤ}
use Rattle.std.specs.List.{AllByRecursion, Contains}
use Rattle.std.proofs.lemmas.List.{length-append}
use Rattle.std.proofs.lemmas.Option.{none-some, same_Some}
use Rattle.value_ops.specs.declared.value.Value.{Value}
use Rattle.expressions.specs.Expressions.{Expression}
use Rattle.value_ops.specs.Types.{IsValueOf}
use Rattle.predicates.specs.Predicates.{Predicate}
use Rattle.item_schema.specs.declared.column.Column.{Column}
use Rattle.rate_expr.specs.Rates as rates
use Rattle.rate_expr.specs.Readings.{HasExtension}
use Rattle.query_model.specs.Bounds.{places_of, slots_of}
use Rattle.query_model.specs.Denotation.{Den}
use Rattle.query_model.specs.Queries.{Qre, atom, eps, choice, split, iter, combine, apply, compose}
use Rattle.query_model.specs.Queries.{collect}
use Rattle.query_model.specs.QueryTypes.{derived_columns, type_of}
use Rattle.query_model.specs.Rates.{rate_of}
use Rattle.query_model.specs.Rules.{HasNoCollect}
use Rattle.memory_bound.specs.KeysMet.{keys_met}
use Rattle.split_eval.specs.Entries as entries
use Rattle.split_eval.specs.declared.entry.Entry.{Entry}
use Rattle.compose_eval.specs.Followers.{Contents, live_instances, outers_of, retired}
use Rattle.compose_eval.specs.declared.instance.Instance.{Instance}
use Rattle.value_ops.specs.Sizes.{size_of_answer}
use Rattle.eval_nodes.specs.Counts.{stored_in}
use Rattle.eval_nodes.specs.Cleared.{AreCleared, IsCleared, IsClearedIn}
use Rattle.eval_nodes.specs.Runners.{IsSoundOf}
use Rattle.eval_nodes.specs.Holdings.{Holding, atom_held, eps_held, choice_held, combine_held}
use Rattle.eval_nodes.specs.Holdings.{apply_held, split_held, iter_held, compose_held, Seen}
use Rattle.eval_nodes.specs.Represents.{AreWaiting, KeepsFew}
use Rattle.eval_nodes.specs.Sound.{AreEntriesOf, IsSound, IsSoundWithin, IsTyped}
use Rattle.eval_nodes.specs.Starts.{AreDifferent}
use Rattle.eval_nodes.proofs.Instances.{all_joined, all_mapped, all_retired, kept_count}
use Rattle.eval_nodes.proofs.Made.{new_chain, new_split}
use Rattle.eval_nodes.proofs.Members.{no_member}
use Rattle.eval_nodes.proofs.StoredNone.{silent_few}

-- no entries, in the same room
no_entries : (type : _) (places : ℕ) (old new : entries.Contents Value)
    → AreEntriesOf type places old → new.entries ≡ [] → new.room ≡ old.room
    → AreEntriesOf type places new
no_entries type places old new are none same =
    let few = ap length none in
    record {
      room = same ∙ are.room;
      few = omega (arith, few);
      distinct = subst entries.AreDistinct (sym none) tt;
      typed = subst (AllByRecursion (λ (e : Entry Value). IsValueOf type e.value)) (sym none) tt;
    }

module _ {R : Type 0} (seen : R → Seen R) where
  pub clear_atom : (pred : Predicate) (e : Expression) (found : Option ℕ)
      → IsCleared seen (atom pred e) (atom_held found) (atom_held None)
  clear_atom pred e found = λ no_collect columns position sound. (
    λ others start. (λ is. absurd (none-some start is), λ there. absurd (no_member start there.0)),
    λ now. tt,
  )

  -- nothing is kept for the empty word
  pub clear_eps : (number : ℤ) (held : Holding R) → IsCleared seen (eps number) held held
  clear_eps number eps_held = λ no_collect columns position sound. (λ others. tt, λ now. tt)
  clear_eps number held = λ no_collect columns position sound. absurd sound

  -- no collect is cleared
  pub clear_collect : (chosen : List ℕ) (sync : Predicate) (rate : rates.Regex) (f : Qre)
      (held : Holding R) → IsCleared seen (collect chosen sync rate f) held held
  clear_collect chosen sync rate f held = λ no_collect columns position sound. absurd no_collect

  pub clear_choice : (f g : Qre) (a b a' b' : Holding R) → IsCleared seen f a a'
      → IsCleared seen g b b' → IsCleared seen (choice f g) (choice_held a b) (choice_held a' b')
  clear_choice f g a b a' b' first second = λ no_collect columns position sound.
      let x = first no_collect.0 columns position sound.0 in
      let y = second no_collect.1 columns position sound.1 in
      (λ others. (x.0 others, y.0 others), λ now. (x.1 now, y.1 now))

  pub clear_combine : (f g : Qre) (e : Expression) (a b a' b' : Holding R) → IsCleared seen f a a'
      → IsCleared seen g b b'
      → IsCleared seen (combine f g e) (combine_held a b) (combine_held a' b')
  clear_combine f g e a b a' b' first second = λ no_collect columns position sound.
      let x = first no_collect.0 columns position sound.0 in
      let y = second no_collect.1 columns position sound.1 in
      (λ others. (x.0 others, y.0 others), λ now. (x.1 now, y.1 now))

  pub clear_apply : (f : Qre) (e : Expression) (a a' : Holding R) → IsCleared seen f a a'
      → IsCleared seen (apply f e) (apply_held a) (apply_held a')
  clear_apply f e a a' first =
      λ no_collect columns position sound. first no_collect columns position sound

  pub clear_split : (f g : Qre) (e : Expression) (a b a' b' : Holding R)
      (held new : entries.Contents Value) → IsCleared seen f a a' → IsCleared seen g b b'
      → new.entries ≡ [] → new.room ≡ held.room
      → IsCleared seen (split f g e) (split_held a b held) (split_held a' b' new)
  clear_split f g e a b a' b' held new first second none room = λ no_collect columns position sound.
      let x = first no_collect.0 columns position sound.0 in
      let y = second no_collect.1 columns position sound.1 in (
        λ others.
            let is = new_split seen others f g a' b' new.room (x.0 others) (y.0 others)
            (room ∙ sound.2.room) in (
              is.0,
              is.1,
              subst (AreWaiting (Den f) (HasExtension others (rate_of g)) [] []) (sym none) is.2,
              is.3,
            ),
        λ now. (x.1 now, y.1 now, no_entries _ _ held new sound.2 none room),
      )

  pub clear_iter : (f : Qre) (number : ℤ) (e : Expression) (a a' : Holding R)
      (held new : entries.Contents Value) → IsCleared seen f a a' → new.entries ≡ []
      → new.room ≡ held.room
      → IsCleared seen (iter f number e) (iter_held a held) (iter_held a' new)
  clear_iter f number e a a' held new first none room = λ no_collect columns position sound.
      let x = first no_collect columns position sound.0 in (
        λ others.
            let is = new_chain seen others f number e a' new.room (x.0 others)
            (room ∙ sound.1.room) in (
              is.0,
              subst (AreWaiting (Den (iter f number e)) (HasExtension others (rate_of f)) [] [])
                  (sym none) is.1,
              is.2,
            ),
        λ now. (x.1 now, no_entries _ _ held new sound.1 none room),
      )

  -- one more of the runners
  first_cleared : (q : Qre) (old new : List R) (x w : R) → new ≡ old → slice_get new zero ≡ Some x
      → IsClearedIn seen q x w → AreCleared seen q 1 old (set new zero w)
  first_cleared q old [] x w same at is = absurd (none-some x at)
  first_cleared q [] (z ∷ new) x w same at is = cc
  first_cleared q (y ∷ old) (z ∷ new) x w same at is =
      let heads : z ≡ y = cc in
      let tails : new ≡ old = cc in
      (subst (λ (r : R). IsClearedIn seen q r w) (sym (same_Some z x at) ∙ heads) is, tails)

  pub one_cleared : (q : Qre) (i : ℕ) (old new : List R) (x w : R) → AreCleared seen q i old new
      → slice_get new i ≡ Some x → IsClearedIn seen q x w
      → AreCleared seen q (suc i) old (set new i w)
  one_cleared q zero old new x w are at is = first_cleared q old new x w are at is
  one_cleared q (suc i) (y ∷ old) (z ∷ new) x w are at is =
      (are.0, one_cleared q i old new x w are.1 at is)
  one_cleared q (suc i) [] [] x w are at is = absurd (none-some x at)
  one_cleared q (suc i) [] (z ∷ new) x w are at is = absurd are
  one_cleared q (suc i) (y ∷ old) [] x w are at is = absurd are

  -- a cleared runner is sound
  cleared_soundly : (columns : List Column) (q : Qre) (old new : R) → HasNoCollect q
      → IsClearedIn seen q old new → IsSoundOf seen columns q old → IsSoundOf seen columns q new
  cleared_soundly columns q old new no_collect is sound = record {
    node = subst (λ (n : ℕ). IsSound seen columns q n (seen new).node) (sym is.position)
        ((is.node no_collect columns (seen old).position sound.node).1 (seen old).position);
    answer = subst (IsTyped (type_of columns q)) (sym is.answer) tt;
  }

  -- it keeps little
  cleared_keeps : (columns : List Column) (q : Qre) (old new : R) → HasNoCollect q
      → IsClearedIn seen q old new → IsSoundOf seen columns q old
      → KeepsFew seen (stored_in seen q) (slots_of q) new
  cleared_keeps columns q old new no_collect is sound =
      let node = silent_few seen columns q (seen new).node
      ((is.node no_collect columns (seen old).position sound.node).0 columns) in
      let none = ap size_of_answer is.answer in
      omega (arith, node, none)

  all_keep : (columns : List Column) (q : Qre) (count : ℕ) (old new : List R) → HasNoCollect q
      → count ≡ length old → AreCleared seen q count old new
      → AllByRecursion (IsSoundOf seen columns q) old
      → AllByRecursion (KeepsFew seen (stored_in seen q) (slots_of q)) new
  all_keep columns q zero [] new no_collect many are all =
      subst (AllByRecursion (KeepsFew seen (stored_in seen q) (slots_of q))) (sym are) tt
  all_keep columns q zero (y ∷ old) new no_collect many are all = absurd (omega (arith, many))
  all_keep columns q (suc count) [] [] no_collect many are all = tt
  all_keep columns q (suc count) [] (z ∷ new) no_collect many are all = absurd are
  all_keep columns q (suc count) (y ∷ old) [] no_collect many are all = absurd are
  all_keep columns q (suc count) (y ∷ old) (z ∷ new) no_collect many are all = (
    cleared_keeps columns q y z no_collect are.0 all.0,
    all_keep columns q count old new no_collect (omega (arith, many)) are.1 all.1,
  )

  all_cleared : (columns : List Column) (q : Qre) (count : ℕ) (old new : List R) → HasNoCollect q
      → count ≡ length old → AreCleared seen q count old new
      → AllByRecursion (IsSoundOf seen columns q) old
      → AllByRecursion (IsSoundOf seen columns q) new × (length new ≡ length old)
  all_cleared columns q zero old new no_collect many are all = (
    subst (AllByRecursion (IsSoundOf seen columns q)) (sym are) all,
    ap length are,
  )
  all_cleared columns q (suc count) [] [] no_collect many are all = (tt, refl)
  all_cleared columns q (suc count) [] (z ∷ new) no_collect many are all = absurd are
  all_cleared columns q (suc count) (y ∷ old) [] no_collect many are all = absurd are
  all_cleared columns q (suc count) (y ∷ old) (z ∷ new) no_collect many are all =
      let rest = all_cleared columns q count old new no_collect (omega (arith, many)) are.1 all.1 in
      ((cleared_soundly columns q y z no_collect are.0 all.0, rest.0), ap suc rest.1)

  none_live : (live : List (Instance R)) → live_instances (λ start. false) live ≡ []
  none_live [] = refl
  none_live (x ∷ live) = none_live live

  pub clear_compose : (f g : Qre) (a a' : Holding R) (held resting new : Contents R)
      → IsCleared seen f a a' → resting.live ≡ live_instances (λ start. false) held.live
      → resting.idle ≡ held.idle ++ retired (λ start. false) held.live
      → new.live ≡ resting.live → AreCleared seen g (length resting.idle) resting.idle new.idle
      → IsCleared seen (compose f g) (compose_held a held) (compose_held a' new)
  clear_compose f g a a' held resting new first live idle same are =
      λ no_collect columns position sound.
      let x = first no_collect.0 columns position sound.0 in
      let derived = derived_columns (type_of columns f) in
      let none : new.live ≡ [] = same ∙ live ∙ none_live held.live in
      let each = all_mapped (λ (one : Instance R). IsSoundWithin seen (IsSoundOf seen derived g)
      (position + 1) one.follower)
      (λ (one : Instance R). IsSoundOf seen derived g one.follower) held.live
      (λ one is. is.sound) sound.3 in
      let all : AllByRecursion (IsSoundOf seen derived g) resting.idle =
      subst (AllByRecursion (IsSoundOf seen derived g)) (sym idle)
      (all_joined (IsSoundOf seen derived g) held.idle (retired (λ start. false) held.live) sound.4
      (all_retired (IsSoundOf seen derived g) (λ start. false) held.live each)) in
      let (after, many) = all_cleared derived g (length resting.idle) resting.idle new.idle
      no_collect.1 refl are all in
      let few = all_mapped (KeepsFew seen (stored_in seen g) (slots_of g))
      (KeepsFew seen (stored_in seen g) (slots_of g * (1 + keys_met (compose f g) []))) new.idle
      (λ runner little. omega (arith, little))
      (all_keep derived g (length resting.idle) resting.idle new.idle no_collect.1 refl are all) in
      let count : length held.live + length held.idle ≡ places_of f + 1 = sound.2 in
      let nobody = ap length none in
      let parts = kept_count (λ start. false) held.live in
      let gone = ap length (none_live held.live) in
      let rests = ap length idle ∙ length-append held.idle (retired (λ start. false) held.live) in
      let full : length new.live + length new.idle ≡ places_of f + 1 =
      omega (arith, count, nobody, parts, gone, rests, many) in
      let nowhere : (start : ℕ) → Contains (outers_of new.live) start → ⊥ =
      (λ start there. no_member start
      (subst (λ (xs : List (Instance R)). Contains (outers_of xs) start) none there)) in
      let different : AreDifferent (outers_of new.live) =
      subst (λ (xs : List (Instance R)). AreDifferent (outers_of xs)) (sym none) tt in (
        λ others. (
          x.0 others,
          record {
            distinct = different;
            there = λ start. (
              λ there. absurd (nowhere start there),
              λ continues. absurd (no_member start continues.0),
            );
            each = λ start runner there.
                absurd (no_member (record { outer = start; follower = runner })
                (subst (λ (xs : List (Instance R)). Contains xs
                (record { outer = start; follower = runner })) none there));
            full = full;
          },
          few,
        ),
        λ now. (
          x.1 now,
          different,
          full,
          subst (AllByRecursion
              (λ (one : Instance R). IsSoundWithin seen (IsSoundOf seen derived g) (now + 1)
              one.follower)) (sym none) tt,
          after,
        ),
      )
