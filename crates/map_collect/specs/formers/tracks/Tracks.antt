-- For the prover. Tracks as a type that may hold followers that hold tracks.
use Rattle.std.specs.Prelude.{◌≡◌, ◌==◌, ℕ, false, List, [], ◌∷◌, map}
use mathlib.Core.Path.{refl, sym, subst}
use mathlib.Core.Former.{Former, this, const, pair, list, via}
use native.Mathlib.Bridge.{le_prop}
use base.Stored.{code_map, gcons, coded_ℕ}
use denote.RattleType.{RattleType}
use denote.HoleLaws.{Alike}
use denote.HolePlaces.{Recodes, struct_places, laid}
use denote.Hole.Fix.{over}
use denote.Param.Weighed.{Weighed, w_const, w_list, w_pair, w_via}
use denote.Model.Placed.{view_places}
use Rattle.std.specs.List.{AllByRecursion, AllByRecursion-prop, IsDistinct, IsDistinct-prop}
use Rattle.std.specs.formers.vec.Vec as vec
use Rattle.std.specs.declared.alloc.Global.{Global}
use Rattle.std.specs.contracts.alloc.Global as heap
use Rattle.std.specs.contracts.impls.GlobalAllocator.TheImpl.{ghosts}
use Rattle.predicate_cells.specs.Cells.{Partition}
use Rattle.rate_expr.specs.After.{IsStateOf}
use Rattle.rate_expr.specs.Sets.{Sets}
use Rattle.rate_expr.specs.declared.state.State.{State}
use Rattle.rate_expr.specs.declared.state.State.TheVariants.{Initial, At}
use Rattle.symbolic_nfa.specs.Automata.{Automaton}
use Rattle.map_collect.specs.Coding.{code_of_nfa, code_of_state, code_of_track}
use Rattle.map_collect.specs.Tracks.{starts_of, states_of, AreTracks, Contents}
use Rattle.map_collect.specs.formers.keyed.Keyed as keyed
use Rattle.map_collect.specs.declared.keys.Keys.{Keys}
use Rattle.map_collect.specs.declared.track.Track.{Track}
use Rattle.map_collect.specs.contracts.keys.Keys as keys
use Rattle.map_collect.specs.contracts.track.Track as track
use Rattle.map_collect.specs.declared.tracks.Tracks.TheInside.{Inside}
use Rattle.map_collect.specs.declared.tracks.Tracks.TheView.{view, invariant}
use Rattle.map_collect.specs.contracts.tracks.Tracks as C
use Rattle.map_collect.specs.contracts.tracks.Tracks.TheInside as I

-- the followers by key are values of `g`
abbrev keys_former : Former {0} → Former {0}
keys_former g =
    via (pair g (keyed.the_former g)) (λ X. Keys (g.Of X)) (λ X k. (k.fallback, k.keyed))
    (λ X v. record { fallback = v.0; keyed = v.1 }) (λ X k. refl) (λ X v. refl)

abbrev keys_weighed : {g : Former {0}} → Weighed g → Weighed (keys_former g)
keys_weighed {g} w = w_via (w_pair w (keyed.the_weighed w)) (λ X. Keys (g.Of X))
    (λ X k. (k.fallback, k.keyed)) (λ X v. record { fallback = v.0; keyed = v.1 })
    (λ X k. refl) (λ X v. refl)

-- the same with a start and a state
abbrev track_former : Former {0} → Former {0}
track_former g = via (pair (const ℕ) (pair (const State) (keys_former g))) (λ X. Track (g.Of X))
    (λ X t. (t.start, (t.state, t.keys)))
    (λ X v. record { start = v.0; state = v.1.0; keys = v.1.1 }) (λ X t. refl) (λ X v. refl)

abbrev track_weighed : {g : Former {0}} → Weighed g → Weighed (track_former g)
track_weighed {g} w = w_via (w_pair (w_const ℕ) (w_pair (w_const State) (keys_weighed w)))
    (λ X. Track (g.Of X)) (λ X t. (t.start, (t.state, t.keys)))
    (λ X v. record { start = v.0; state = v.1.0; keys = v.1.1 }) (λ X t. refl) (λ X v. refl)

abbrev pub the_former : Former {0} → Former {0}
the_former g = via (pair (const Automaton) (list (track_former g))) (λ X. Contents (g.Of X))
    (λ X c. (c.nfa, c.tracks)) (λ X v. record { nfa = v.0; tracks = v.1 })
    (λ X c. refl) (λ X v. refl)

abbrev pub the_weighed : {g : Former {0}} → Weighed g → Weighed (the_former g)
the_weighed {g} w = w_via (w_pair (w_const Automaton) (w_list (track_weighed w)))
    (λ X. Contents (g.Of X)) (λ X c. (c.nfa, c.tracks)) (λ X v. record { nfa = v.0; tracks = v.1 })
    (λ X c. refl) (λ X v. refl)

-- no position, and no column
no_sets : Sets
no_sets = record { nullable = false; first = 0; last = 0; follow = []; preds = [] }

no_cells : Partition
no_cells = record { layout = record { has_header = false; columns = [] }; preds = [] }

pub the_empty : Contents ⊥
the_empty = record { nfa = record { sets = no_sets; cells = no_cells }; tracks = [] }

abbrev fields : Former {0}
fields = via (pair (const Automaton) (vec.the_former (track_former this) Global)) Inside
    (λ X a. (a.nfa, a.tracks)) (λ X v. record { nfa = v.0; tracks = v.1 })
    (λ X a. refl) (λ X v. refl)

IsStateOf-prop : (sets : Sets) (state : State) → (p q : IsStateOf sets state) → p ≡ q
IsStateOf-prop sets Initial p q = refl
IsStateOf-prop sets (At mask) p q = le_prop p q

AreTracks-prop : {X : Type 0} (sets : Sets) (tracks : List (Track X))
    → (p q : AreTracks sets tracks) → p ≡ q
AreTracks-prop sets tracks p q = λ i. record {
  distinct = IsDistinct-prop ◌==◌ (starts_of tracks) p.distinct q.distinct i;
  states = AllByRecursion-prop (IsStateOf sets) (IsStateOf-prop sets) (states_of tracks)
      p.states q.states i;
}

module _ {X Y : Type 0} (h : X → Y) where
  -- the same keys, with `h` applied to their followers
  abbrev on_keys : Keys X → Keys Y
  on_keys k = record { fallback = h k.fallback; keyed = (keyed.the_former this).map X Y h k.keyed }

  abbrev on_track : Track X → Track Y
  on_track t = record { start = t.start; state = t.state; keys = on_keys t.keys }

  same_starts : (ts : List (Track X)) → starts_of (map on_track ts) ≡ starts_of ts
  same_starts [] = refl
  same_starts (t ∷ ts) = λ i. t.start ∷ same_starts ts i

  same_states : (ts : List (Track X)) → states_of (map on_track ts) ≡ states_of ts
  same_states [] = refl
  same_states (t ∷ ts) = λ i. t.state ∷ same_states ts i

  AreTracks-over : (sets : Sets) (ts : List (Track X)) → AreTracks sets ts
      → AreTracks sets (map on_track ts)
  AreTracks-over sets ts are = record {
    distinct = subst (IsDistinct ◌==◌) (sym (same_starts ts)) are.distinct;
    states = subst (AllByRecursion (IsStateOf sets)) (sym (same_states ts)) are.states;
  }

  AreTracks-under : (sets : Sets) (ts : List (Track X)) → AreTracks sets (map on_track ts)
      → AreTracks sets ts
  AreTracks-under sets ts are = record {
    distinct = subst (IsDistinct ◌==◌) (same_starts ts) are.distinct;
    states = subst (AllByRecursion (IsStateOf sets)) (same_states ts) are.states;
  }

module _ (R S : RattleType) (h : R.Denot → S.Denot) where
  keys_places : Alike R S h → Alike (keys.the_row R) (keys.the_row S) (on_keys h)
  keys_places a = struct_places (keys.the_type R) (keys.the_type S)
      (h, ((keyed.the_former this).map R.Denot S.Denot h, tt)) (on_keys h) (λ k. refl) refl
      (laid _ _ _ a, (laid _ _ _ (keyed.the_places R S h a), tt))

  track_places : Alike R S h → Alike (track.the_row R) (track.the_row S) (on_track h)
  track_places a = struct_places (track.the_type R) (track.the_type S)
      ((λ n. n), ((λ s. s), (on_keys h, tt))) (on_track h) (λ t. refl) refl (
        (refl, (λ n. refl, λ n. refl)),
        ((refl, (λ s. refl, λ s. refl)), (laid _ _ _ (keys_places a), tt)),
      )

  pub the_places : Alike R S h
      → Alike (C.the_row R) (C.the_row S) ((the_former this).map R.Denot S.Denot h)
  the_places a = view_places fields (the_former this) view (λ X Y k u. refl) (λ X u. refl)
      R.Denot S.Denot h (C.the_row R).coded (C.the_row S).coded
      (invariant R.Denot) (invariant S.Denot) (λ u. AreTracks-prop _ _) (λ u. AreTracks-prop _ _)
      (λ u. AreTracks-over h _ _) (λ u. AreTracks-under h _ _)
      (over (I.the_row R)) (over (I.the_row S))
      (struct_places (I.the_type R) (I.the_type S) ((λ n. n), (vec.mapped (on_track h), tt))
      _ (λ d. refl) refl (
        (refl, (λ n. refl, λ n. refl)),
        (
          laid _ _ _ (vec.the_places heap.the_row ghosts (track.the_row R) (track.the_row S)
              (on_track h) (track_places a)),
          tt,
        ),
      ))

  recoded : Recodes R S h → (t : Track R.Denot)
      → (code_of_track S.coded).code (on_track h t) ≡ (code_of_track R.coded).code t
  recoded e t = λ i. gcons (coded_ℕ.code t.start) (gcons (code_of_state.code t.state)
      (gcons (e t.keys.fallback i) (keyed.the_codes_placed R S h e t.keys.keyed i)))

  pub the_codes_placed : Recodes R S h
      → Recodes (C.the_row R) (C.the_row S) ((the_former this).map R.Denot S.Denot h)
  the_codes_placed e c = λ i. gcons (code_of_nfa.code c.nfa)
      (sym (code_map (code_of_track R.coded).code (code_of_track S.coded).code (on_track h)
      (λ t. sym (recoded e t)) c.tracks) i)
