-- A collect stays sound.
use Rattle.std.proofs.Common.{◌≡◌, ◌∙◌, ℕ, ◌+◌, List, [], ◌∷◌, ◌++◌, Option, Some, None, sym, ap}
use Rattle.std.proofs.Common.{subst, arith, inl, inr}
use Rattle.std.specs.List.{AllByRecursion, Contains}
use Rattle.std.proofs.lemmas.List.{map-append}
use Rattle.value_ops.specs.declared.field.Field.{Field}
use Rattle.value_ops.specs.declared.value.Value.TheVariants as value
use Rattle.value_ops.specs.declared.value.ValueType.TheVariants.{Table}
use Rattle.value_ops.specs.Types.{IsTable, IsValueOf}
use Rattle.predicates.specs.Predicates.{Predicate}
use Rattle.item_schema.specs.declared.column.Column.{Column}
use Rattle.item_schema.specs.Items.{IsItemOf}
use Rattle.rate_expr.specs.FirstLastFollow.{AreSetsOf}
use Rattle.rate_expr.specs.Rates as rates
use Rattle.rate_expr.specs.Sets.{Sets}
use Rattle.rate_expr.specs.declared.state.State.TheVariants.{Initial}
use Rattle.query_model.specs.Queries.{Qre, collect}
use Rattle.query_model.specs.Rules.{bound, IsClear}
use Rattle.symbolic_nfa.specs.Automata.{Automaton}
use Rattle.map_collect.specs.Followers.{Followers}
use Rattle.map_collect.specs.Tracks.{Advances, AllAdvance, Contents, starts_of, KeepsExtending}
use Rattle.map_collect.specs.declared.keys.Keys.{Keys}
use Rattle.map_collect.specs.declared.track.Track.{Track}
use Rattle.eval_nodes.specs.Runners.{IsSoundOf}
use Rattle.eval_nodes.specs.Holdings.{Seen, collect_held}
use Rattle.eval_nodes.specs.Sound.{IsSoundWithin}
use Rattle.eval_nodes.specs.Starts.{AreDifferent}
use Rattle.eval_nodes.proofs.Instances.{all_joined, different_more}
use Rattle.eval_nodes.proofs.Zips.{zip_all, zip_same}
use Rattle.step_laws.specs.declared.hit.Hit.{Hit}
use Rattle.step_laws.specs.Collects.{AreSoundOf}
use Rattle.step_laws.specs.Pushes.{AddsStart, AreNew, ArePushed, IsFirstTable, IsPushedAt, IsTabled}
use Rattle.step_laws.specs.Steps.{IsHitAt, IsHitOf, StartsSoundly, StepsSoundly}
use Rattle.step_laws.proofs.Tracked.{kept_all, kept_apart}

table_typed : (found : Hit) (table : _) → found.value ≡ value.Table table → IsTable table
    → IsValueOf Table found.value
table_typed found table is typed = subst (IsValueOf Table) (sym is) typed

module _ {R : Type 0} (seen : R → Seen R) where
  -- the starts differ, and the runners of each are sound with at most this many items
  pub record AreSoundTracks (columns : List Column) (query : Qre) (most : ℕ)
      (all : List (Track R)) : Type 0 where
    pub distinct : AreDifferent (starts_of all)
    pub keys : AllByRecursion (λ (track : Track R). AreSoundOf seen columns query most track.keys)
        all

  pushed_soundly : (columns : List Column) (chosen : List ℕ) (sync : Predicate) (f : Qre)
      (nfa : Automaton) (most : ℕ) (item : List Field) (old advanced pushed : List (Track R))
      → IsClear bound columns f → IsItemOf columns item → AllAdvance nfa.sets item old advanced
      → ArePushed seen f chosen sync item advanced pushed
      → AreSoundTracks columns f most old → AreSoundTracks columns f (most + 1) pushed
  pushed_soundly columns chosen sync f nfa most item old advanced pushed clear is_item
      advances pushes sound =
      let P : Track R → Track R → Type 0 = Advances nfa.sets item in
      let Q : Track R → Track R → Type 0 = IsPushedAt seen f chosen sync item in
      let same : starts_of pushed ≡ starts_of old =
      zip_same Q (λ (t : Track R). t.start) (λ (t : Track R). t.start) advanced pushed
      (λ mid now one. one.start) pushes ∙ zip_same P (λ (t : Track R). t.start)
      (λ (t : Track R). t.start) old advanced (λ was mid one. one.start) advances in
      record {
        distinct = subst AreDifferent (sym same) sound.distinct;
        keys = zip_all Q (λ (t : Track R). AreSoundOf seen columns f most t.keys)
            (λ (t : Track R). AreSoundOf seen columns f (most + 1) t.keys) advanced pushed
            (λ mid now one is. one.keys.sound bound columns most clear is_item is) pushes
            (zip_all P (λ (t : Track R). AreSoundOf seen columns f most t.keys)
            (λ (t : Track R). AreSoundOf seen columns f most t.keys) old advanced
            (λ was mid one is. subst (AreSoundOf seen columns f most) (sym one.keys) is)
            advances sound.keys);
      }

  kept_soundly : (columns : List Column) (f : Qre) (nfa : Automaton) (most : ℕ)
      (pushed kept : List (Track R)) → KeepsExtending nfa pushed kept
      → AreSoundTracks columns f most pushed → AreSoundTracks columns f most kept
  kept_soundly columns f nfa most pushed kept keeps sound = record {
    distinct = kept_apart nfa pushed kept keeps sound.distinct;
    keys = kept_all nfa (λ (t : Track R). AreSoundOf seen columns f most t.keys) pushed kept
        keeps sound.keys;
  }

  tabled_typed : (all : Contents R) (hit : Option Hit) → IsTabled seen all hit → IsHitOf Table hit
  tabled_typed all None none = tt
  tabled_typed all (Some found) one = table_typed found one.table one.value one.typed

  pub sound_step_collect : (chosen : List ℕ) (sync : Predicate) (rate : rates.Regex) (f : Qre)
      (old advanced pushed kept : Contents R) (now : ℕ) (item : List Field) (hit : Option Hit)
      → AllAdvance old.nfa.sets item old.tracks advanced.tracks → pushed.nfa ≡ old.nfa
      → ArePushed seen f chosen sync item advanced.tracks pushed.tracks → IsTabled seen pushed hit
      → KeepsExtending pushed.nfa pushed.tracks kept.tracks → kept.nfa ≡ pushed.nfa
      → StepsSoundly seen (collect chosen sync rate f) (collect_held old) now item
      (collect_held kept) hit
  sound_step_collect chosen sync rate f old advanced pushed kept now item hit advances same pushes
      tabled keeps same_kept =
      λ standing columns position is_next clear is_item sound.
      let before : AreSoundTracks columns f position old.tracks =
      record { distinct = sound.3; keys = sound.4 } in
      let after : AreSoundTracks columns f now kept.tracks =
      subst (λ (n : ℕ). AreSoundTracks columns f n kept.tracks) (sym is_next)
      (kept_soundly columns f pushed.nfa (position + 1) pushed.tracks kept.tracks keeps
      (pushed_soundly columns chosen sync f old.nfa position item old.tracks advanced.tracks
      pushed.tracks clear.0 is_item advances pushes before)) in
      record {
        node = (
          subst (λ (a : Automaton). AreSetsOf a.sets rate) (sym (same_kept ∙ same)) sound.0,
          ap (λ (a : Automaton). a.cells.layout.columns) (same_kept ∙ same) ∙ sound.1,
          sound.2,
          after.distinct,
          after.keys,
        );
        hit = tabled_typed pushed hit tabled;
      }

  -- a start
  put_soundly : (columns : List Column) (f : Qre) (at : ℕ) (tracks : List (Track R)) (keys : Keys R)
      → IsClear bound columns f → (Contains (starts_of tracks) at → ⊥) → AreNew seen f keys
      → AreSoundTracks columns f at tracks
      → AreSoundTracks columns f at
      (tracks ++ record { start = at; state = Initial; keys = keys } ∷ [])
  put_soundly columns f at tracks keys clear fresh are sound =
      let x : Track R = record { start = at; state = Initial; keys = keys } in
      let is = are.fallback.sound bound columns clear in
      let within = is.within in
      record {
        distinct = subst AreDifferent (sym (map-append (λ (t : Track R). t.start) tracks (x ∷ [])))
            (different_more (starts_of tracks) at sound.distinct fresh);
        keys = all_joined (λ (t : Track R). AreSoundOf seen columns f at t.keys) tracks
            (x ∷ []) sound.keys (
              record {
                fallback = record { within = omega (arith, within); sound = is.sound };
                keyed = subst (λ (keyed : Followers R).
                    AllByRecursion (IsSoundWithin seen (IsSoundOf seen columns f) at)
                    keyed.followers)
                    (sym are.keyed) tt;
              },
              tt,
            );
      }

  first_typed : (sets : Sets) (at : ℕ) (hit : Option Hit) → IsFirstTable sets at hit
      → IsHitAt Table at hit
  first_typed sets at None none = tt
  first_typed sets at (Some found) (same, is, typed, accepted) =
      (same, table_typed found [] is typed)

  pub sound_start_collect : (chosen : List ℕ) (sync : Predicate) (rate : rates.Regex) (f : Qre)
      (old new : Contents R) (at : ℕ) (hit : Option Hit) → AddsStart seen f old at new
      → IsFirstTable old.nfa.sets at hit
      → StartsSoundly seen (collect chosen sync rate f) (collect_held old) at (collect_held new) hit
  sound_start_collect chosen sync rate f old new at hit (same, puts) first =
      λ standing columns clear sound.
      let before : AreSoundTracks columns f at old.tracks =
      record { distinct = sound.3; keys = sound.4 } in
      let after : AreSoundTracks columns f at new.tracks = elim puts [
        | inl (can, keys, are, is_put) ↦ subst (AreSoundTracks columns f at) (sym is_put)
            (put_soundly columns f at old.tracks keys clear.0 can.1 are before)
        | inr (cannot, stays) ↦ subst (AreSoundTracks columns f at) (sym stays) before
      ] in
      record {
        node = (
          subst (λ (a : Automaton). AreSetsOf a.sets rate) (sym same) sound.0,
          ap (λ (a : Automaton). a.cells.layout.columns) same ∙ sound.1,
          sound.2,
          after.distinct,
          after.keys,
        );
        hit = first_typed old.nfa.sets at hit first;
      }
