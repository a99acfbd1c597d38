-- A copy of a node stands for what the node stands for, is sound, and keeps as much.
use Rattle.std.proofs.Common.{◌≡◌, ◌∙◌, ℕ, ◌+◌, ◌*◌, List, [], ◌∷◌, drop, length, sym, ap, subst}
use Rattle.std.proofs.Common.{arith}
use Rattle.std.specs.List.{Contains}
use Rattle.value_ops.specs.declared.value.Value.{Value}
use Rattle.value_ops.specs.declared.value.ValueType.TheVariants.{Number}
use Rattle.item_schema.specs.declared.column.Column.{Column}
use Rattle.rate_expr.specs.After.{IsAfter}
use Rattle.rate_expr.specs.FirstLastFollow.{AreSetsOf}
use Rattle.rate_expr.specs.Readings.{HasExtension}
use Rattle.rate_expr.specs.Words.{Word}
use Rattle.query_model.specs.Bounds.{places_of, slots_of}
use Rattle.query_model.specs.Denotation.{Den}
use Rattle.query_model.specs.Following.{IsAnswer}
use Rattle.query_model.specs.Queries.{Qre, atom, eps, choice, split, iter, combine, apply, compose}
use Rattle.query_model.specs.Queries.{collect}
use Rattle.query_model.specs.QueryTypes.{derived_columns, type_of}
use Rattle.query_model.specs.Rates.{rate_of}
use Rattle.split_eval.specs.Entries as entries
use Rattle.compose_eval.specs.Followers.{Contents, followers_of}
use Rattle.symbolic_nfa.specs.Automata.{Automaton}
use Rattle.memory_bound.specs.KeysMet.{keys_met}
use Rattle.eval_nodes.specs.Copies.{AreAlike, IsCopy, IsCopyOf}
use Rattle.value_ops.specs.Sizes.{size_of_answer}
use Rattle.eval_nodes.specs.Counts.{size_of_runner, sizes_of, stored_in}
use Rattle.eval_nodes.specs.Runners.{FollowsWord, IsSoundOf}
use Rattle.eval_nodes.specs.Holdings.{Holding, atom_held, eps_held, choice_held, combine_held}
use Rattle.eval_nodes.specs.Holdings.{apply_held, split_held, iter_held, compose_held, collect_held}
use Rattle.eval_nodes.specs.Holdings.{Seen}
use Rattle.eval_nodes.specs.Keyed.{AreTracked, StandFor}
use Rattle.eval_nodes.specs.Represents.{AreWaiting, KeepsFew, Represents}
use Rattle.eval_nodes.specs.Sound.{AreEntriesOf, IsSound, IsSoundWithin, IsTyped}
use Rattle.eval_nodes.specs.Starts.{AreDifferent, IsLive}
use Rattle.eval_nodes.proofs.Alike.{all_alike, all_followers, as_many_alike, followers_all}
use Rattle.eval_nodes.proofs.Alike.{followers_many, original, sums_alike}
use Rattle.eval_nodes.proofs.CollectCopies.{track_stands, tracks_sound, tracks_stand, tracks_stored}

module _ {R : Type 0} (seen : R → Seen R) where
  all_copied : (q : Qre) (old new : Contents R)
      → AreAlike (IsCopyOf seen (IsCopy seen q)) (followers_of old.live) (followers_of new.live)
      → AreAlike (IsCopyOf seen (IsCopy seen q)) old.idle new.idle
      → length new.live + length new.idle ≡ length old.live + length old.idle
  all_copied q old new live idle =
      let lives = as_many_alike (IsCopyOf seen (IsCopy seen q)) (followers_of old.live)
      (followers_of new.live) live in
      let rests = as_many_alike (IsCopyOf seen (IsCopy seen q)) old.idle new.idle idle in
      let before = followers_many old.live in
      let after = followers_many new.live in
      omega (arith, lives, rests, before, after)

  -- a runner keeps as much as its node does
  pub size_same : (q : Qre) (was runner : R) → IsCopyOf seen (IsCopy seen q) was runner
      → stored_in seen q (seen runner).node ≡ stored_in seen q (seen was).node
      → size_of_runner seen (stored_in seen q) runner ≡ size_of_runner seen (stored_in seen q) was
  size_same q was runner copied node =
      let answer = ap size_of_answer copied.answer in omega (arith, node, answer)

  pub copy_stored : (q : Qre) (old new : Holding R) → IsCopy seen q old new
      → stored_in seen q new ≡ stored_in seen q old
  copy_stored (atom pred e) (atom_held found) new copy = ap (stored_in seen (atom pred e)) copy
  copy_stored (eps number) eps_held new copy = ap (stored_in seen (eps number)) copy
  copy_stored (choice f g) (choice_held a b) (choice_held a' b') copy =
      let x = copy_stored f a a' copy.0 in let y = copy_stored g b b' copy.1 in omega (arith, x, y)
  copy_stored (choice f g) (choice_held a b) new copy = absurd copy
  copy_stored (combine f g e) (combine_held a b) (combine_held a' b') copy =
      let x = copy_stored f a a' copy.0 in let y = copy_stored g b b' copy.1 in omega (arith, x, y)
  copy_stored (combine f g e) (combine_held a b) new copy = absurd copy
  copy_stored (apply f e) (apply_held a) (apply_held a') copy = copy_stored f a a' copy
  copy_stored (apply f e) (apply_held a) new copy = absurd copy
  copy_stored (split f g e) (split_held a b left) (split_held a' b' left') copy =
      let x = copy_stored f a a' copy.0 in
      let y = copy_stored g b b' copy.1 in
      let z = ap (λ (s : entries.Contents Value). sizes_of s.entries) copy.2 in
      omega (arith, x, y, z)
  copy_stored (split f g e) (split_held a b left) new copy = absurd copy
  copy_stored (iter f number e) (iter_held a so_far) (iter_held a' so_far') copy =
      let x = copy_stored f a a' copy.0 in
      let z = ap (λ (s : entries.Contents Value). sizes_of s.entries) copy.1 in
      omega (arith, x, z)
  copy_stored (iter f number e) (iter_held a so_far) new copy = absurd copy
  copy_stored (compose f g) (compose_held a held) (compose_held a' held') copy =
      let x = copy_stored f a a' copy.0 in
      let size : R → ℕ = (λ (runner : R). 1 + size_of_runner seen (stored_in seen g) runner) in
      let one : (was runner : R) → IsCopyOf seen (IsCopy seen g) was runner
      → size runner ≡ size was =
      (λ was runner copied.
      let same = size_same g was runner copied
      (copy_stored g (seen was).node (seen runner).node copied.node) in
      omega (arith, same)) in
      let lives = sums_alike (IsCopyOf seen (IsCopy seen g)) size (followers_of held.live)
      (followers_of held'.live) one copy.1.live in
      let rests = sums_alike (IsCopyOf seen (IsCopy seen g)) size held.idle held'.idle
      one copy.1.idle in
      omega (arith, x, lives, rests)
  copy_stored (compose f g) (compose_held a held) new copy = absurd copy
  copy_stored (collect chosen sync rate f) (collect_held all) (collect_held all') copy =
      tracks_stored seen (IsCopy seen f) (stored_in seen f) all.tracks all'.tracks
      (λ was runner copied. size_same f was runner copied
      (copy_stored f (seen was).node (seen runner).node copied.node)) copy.tracks
  copy_stored (collect chosen sync rate f) (collect_held all) new copy = absurd copy
  copy_stored q old new copy = ap (stored_in seen q) copy

  pub copy_represents : (columns : List Column) (q : Qre) (old new : Holding R) (word : Word)
      (starts : List ℕ) → IsCopy seen q old new → Represents seen columns q old word starts
      → Represents seen columns q new word starts
  copy_represents columns (atom pred e) (atom_held found) new word starts copy rep =
      subst (λ (h : Holding R). Represents seen columns (atom pred e) h word starts) (sym copy) rep
  copy_represents columns (eps number) eps_held new word starts copy rep =
      subst (λ (h : Holding R). Represents seen columns (eps number) h word starts) (sym copy) rep
  copy_represents columns (choice f g) (choice_held a b) (choice_held a' b') word
      starts copy rep = (
        copy_represents columns f a a' word starts copy.0 rep.0,
        copy_represents columns g b b' word starts copy.1 rep.1,
      )
  copy_represents columns (choice f g) (choice_held a b) new word starts copy rep = absurd copy
  copy_represents columns (combine f g e) (combine_held a b) (combine_held a' b') word
      starts copy rep = (
        copy_represents columns f a a' word starts copy.0 rep.0,
        copy_represents columns g b b' word starts copy.1 rep.1,
      )
  copy_represents columns (combine f g e) (combine_held a b) new word starts copy rep = absurd copy
  copy_represents columns (apply f e) (apply_held a) (apply_held a') word starts copy rep =
      copy_represents columns f a a' word starts copy rep
  copy_represents columns (apply f e) (apply_held a) new word starts copy rep = absurd copy
  copy_represents columns (split f g e) (split_held a b left) (split_held a' b' left') word
      starts copy rep = (
        copy_represents columns f a a' word starts copy.0 rep.0,
        (rep.1.0, rep.1.1, copy_represents columns g b b' word rep.1.0 copy.1 rep.1.2),
        subst (λ (s : entries.Contents Value). AreWaiting (Den f) (HasExtension columns (rate_of g))
            word starts s.entries)
            (sym copy.2) rep.2,
        ap (λ (s : entries.Contents Value). s.room) copy.2 ∙ rep.3,
      )
  copy_represents columns (split f g e) (split_held a b left) new word starts copy rep = absurd copy
  copy_represents columns (iter f number e) (iter_held a so_far) (iter_held a' so_far') word
      starts copy rep = (
        (rep.0.0, rep.0.1, copy_represents columns f a a' word rep.0.0 copy.0 rep.0.2),
        subst (λ (s : entries.Contents Value).
            AreWaiting (Den (iter f number e)) (HasExtension columns (rate_of f)) word
            starts s.entries)
            (sym copy.1) rep.1,
        ap (λ (s : entries.Contents Value). s.room) copy.1 ∙ rep.2,
      )
  copy_represents columns (iter f number e) (iter_held a so_far) new word starts copy rep =
      absurd copy
  copy_represents columns (compose f g) (compose_held a held) (compose_held a' held') word
      starts copy rep =
      let row = rep.1 in
      let full = row.full in
      let many = all_copied g held held' copy.1.live copy.1.idle in (
        copy_represents columns f a a' word starts copy.0 rep.0,
        record {
          distinct = subst AreDifferent (sym copy.1.starts) row.distinct;
          there = λ start. (
            λ there. (row.there start).0
                (subst (λ (xs : List ℕ). Contains xs start) copy.1.starts there),
            λ live. subst (λ (xs : List ℕ). Contains xs start) (sym copy.1.starts)
                ((row.there start).1 live),
          );
          each = λ start runner there.
              let (was, among, copied) = original (IsCopyOf seen (IsCopy seen g)) held.live
              held'.live start runner copy.1.starts copy.1.live there in
              let (out, outputs, follows) = row.each start was among in (
                out,
                outputs,
                record {
                  position = copied.position ∙ follows.position;
                  node = copy_represents (derived_columns (type_of columns f)) g (seen was).node
                      (seen runner).node out (0 ∷ []) copied.node follows.node;
                  answer = subst (IsAnswer g out) (sym copied.answer) follows.answer;
                },
              );
          full = omega (arith, many, full);
        },
        all_alike (IsCopyOf seen (IsCopy seen g))
            (KeepsFew seen (stored_in seen g) (slots_of g * (1 + keys_met (compose f g) word)))
            held.idle held'.idle (λ was runner copied few.
            let same = size_same g was runner copied
            (copy_stored g (seen was).node (seen runner).node copied.node) in
            omega (arith, few, same)) copy.1.idle rep.2,
      )
  copy_represents columns (compose f g) (compose_held a held) new word starts copy rep = absurd copy
  copy_represents columns (collect chosen sync rate f) (collect_held all) (collect_held all') word
      starts copy rep =
      let follows : (u : Word) (was runner : R) → IsCopyOf seen (IsCopy seen f) was runner
      → FollowsWord seen columns f u was → FollowsWord seen columns f u runner =
      (λ u was runner copied follows. record {
        position = copied.position ∙ follows.position;
        node = copy_represents columns f (seen was).node (seen runner).node u (0 ∷ [])
            copied.node follows.node;
        answer = subst (IsAnswer f u) (sym copied.answer) follows.answer;
      }) in (
        subst (λ (a : Automaton). AreSetsOf a.sets rate) (sym copy.nfa) rep.0,
        ap (λ (a : Automaton). a.cells.layout.columns) copy.nfa ∙ rep.1,
        tracks_stand seen (IsCopy seen f) (IsLive columns (collect chosen sync rate f) word starts)
            (λ start track. IsAfter all'.nfa.sets (drop start word) track.state
            × StandFor (FollowsWord seen columns f) chosen sync (drop start word) track.keys)
            all.tracks all'.tracks
            (λ was track copied is. track_stands seen (IsCopy seen f) (FollowsWord seen columns f)
            chosen sync all'.nfa.sets (λ start. drop start word) was track follows
            copied is) copy.tracks
            (subst
            (λ (a : Automaton). AreTracked (IsLive columns (collect chosen sync rate f) word starts)
            (λ start track. IsAfter a.sets (drop start word) track.state
            × StandFor (FollowsWord seen columns f) chosen sync (drop start word) track.keys)
            all.tracks) (sym copy.nfa) rep.2),
      )
  copy_represents columns (collect chosen sync rate f) (collect_held all) new word starts copy rep =
      absurd copy
  copy_represents columns q old new word starts copy rep = absurd rep

  pub copy_sound : (columns : List Column) (q : Qre) (position : ℕ) (old new : Holding R)
      → IsCopy seen q old new → IsSound seen columns q position old
      → IsSound seen columns q position new
  copy_sound columns (atom pred e) position (atom_held found) new copy sound =
      subst (IsSound seen columns (atom pred e) position) (sym copy) sound
  copy_sound columns (eps number) position eps_held new copy sound =
      subst (IsSound seen columns (eps number) position) (sym copy) sound
  copy_sound columns (choice f g) position (choice_held a b) (choice_held a' b') copy sound = (
    copy_sound columns f position a a' copy.0 sound.0,
    copy_sound columns g position b b' copy.1 sound.1,
  )
  copy_sound columns (choice f g) position (choice_held a b) new copy sound = absurd copy
  copy_sound columns (combine f g e) position (combine_held a b) (combine_held a' b') copy sound = (
    copy_sound columns f position a a' copy.0 sound.0,
    copy_sound columns g position b b' copy.1 sound.1,
  )
  copy_sound columns (combine f g e) position (combine_held a b) new copy sound = absurd copy
  copy_sound columns (apply f e) position (apply_held a) (apply_held a') copy sound =
      copy_sound columns f position a a' copy sound
  copy_sound columns (apply f e) position (apply_held a) new copy sound = absurd copy
  copy_sound columns (split f g e) position (split_held a b left)
      (split_held a' b' left') copy sound = (
        copy_sound columns f position a a' copy.0 sound.0,
        copy_sound columns g position b b' copy.1 sound.1,
        subst (AreEntriesOf (type_of columns f) (places_of g)) (sym copy.2) sound.2,
      )
  copy_sound columns (split f g e) position (split_held a b left) new copy sound = absurd copy
  copy_sound columns (iter f number e) position (iter_held a so_far)
      (iter_held a' so_far') copy sound = (
        copy_sound columns f position a a' copy.0 sound.0,
        subst (AreEntriesOf Number (places_of f)) (sym copy.1) sound.1,
      )
  copy_sound columns (iter f number e) position (iter_held a so_far) new copy sound = absurd copy
  copy_sound columns (compose f g) position (compose_held a held)
      (compose_held a' held') copy sound =
      let derived = derived_columns (type_of columns f) in
      let count : length held.live + length held.idle ≡ places_of f + 1 = sound.2 in
      let many = all_copied g held held' copy.1.live copy.1.idle in
      let one : (was runner : R) → IsCopyOf seen (IsCopy seen g) was runner
      → IsSoundOf seen derived g was
      → IsSoundOf seen derived g runner =
      (λ was runner copied is. record {
        node = subst (λ (n : ℕ). IsSound seen derived g n (seen runner).node) (sym copied.position)
            (copy_sound derived g (seen was).position (seen was).node (seen runner).node
            copied.node is.node);
        answer = subst (IsTyped (type_of derived g)) (sym copied.answer) is.answer;
      }) in (
        copy_sound columns f position a a' copy.0 sound.0,
        subst AreDifferent (sym copy.1.starts) sound.1,
        many ∙ count,
        followers_all (IsSoundWithin seen (IsSoundOf seen derived g) (position + 1)) held'.live
            (all_alike (IsCopyOf seen (IsCopy seen g))
            (IsSoundWithin seen (IsSoundOf seen derived g) (position + 1))
            (followers_of held.live) (followers_of held'.live)
            (λ was runner copied is.
            let within = is.within in
            let same = copied.position in
            record { within = omega (arith, within, same); sound = one was runner copied is.sound })
            copy.1.live
            (all_followers (IsSoundWithin seen (IsSoundOf seen derived g) (position + 1))
            held.live sound.3)),
        all_alike (IsCopyOf seen (IsCopy seen g)) (IsSoundOf seen derived g) held.idle held'.idle
            one copy.1.idle sound.4,
      )
  copy_sound columns (compose f g) position (compose_held a held) new copy sound = absurd copy
  copy_sound columns (collect chosen sync rate f) position (collect_held all)
      (collect_held all') copy sound =
      let (distinct, keys) = tracks_sound seen (IsCopy seen f) (IsSoundOf seen columns f) position
      all.tracks all'.tracks (λ was runner copied is. record {
        node = subst (λ (n : ℕ). IsSound seen columns f n (seen runner).node) (sym copied.position)
            (copy_sound columns f (seen was).position (seen was).node (seen runner).node
            copied.node is.node);
        answer = subst (IsTyped (type_of columns f)) (sym copied.answer) is.answer;
      }) copy.tracks sound.3 sound.4 in (
        subst (λ (a : Automaton). AreSetsOf a.sets rate) (sym copy.nfa) sound.0,
        ap (λ (a : Automaton). a.cells.layout.columns) copy.nfa ∙ sound.1,
        sound.2,
        distinct,
        keys,
      )
  copy_sound columns (collect chosen sync rate f) position (collect_held all) new copy sound =
      absurd copy
  copy_sound columns q position old new copy sound = absurd sound
