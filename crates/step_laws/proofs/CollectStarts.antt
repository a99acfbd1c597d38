-- A collect: a start.
use Rattle.std.proofs.Common.{◌≡◌, ◌∙◌, ◌↔◌, ℕ, List, [], ◌∷◌, ◌++◌, Option, Some, None, drop}
use Rattle.std.proofs.Common.{length, refl, sym, ap, subst, inl, inr}
use Rattle.std.specs.List.{AllZip, Contains}
use Rattle.std.proofs.lemmas.List.{map-append}
use Rattle.std.proofs.lemmas.List.Elements.{Contains-append_left, Contains-push}
use Rattle.std.proofs.lemmas.List.Elements.{Contains-push_cases}
use Rattle.predicates.specs.Predicates.{Predicate}
use Rattle.item_schema.specs.declared.column.Column.{Column}
use Rattle.rate_expr.specs.After.{IsAfter}
use Rattle.rate_expr.specs.FirstLastFollow.{AreSetsOf}
use Rattle.rate_expr.specs.Rates as rates
use Rattle.rate_expr.specs.Readings.{HasExtension}
use Rattle.rate_expr.specs.Sets.{Sets}
use Rattle.rate_expr.specs.Words.{Word}
use Rattle.rate_expr.specs.declared.state.State.TheVariants.{Initial}
use Rattle.rate_expr.proofs.SetsOf.{sets_spell}
use Rattle.query_model.specs.Denotation.{Den, projection}
use Rattle.query_model.specs.Queries.{Qre, collect}
use Rattle.query_model.specs.Rules.{bound, IsClear}
use Rattle.symbolic_nfa.specs.Automata.{Automaton}
use Rattle.symbolic_nfa.specs.States.{Extends}
use Rattle.symbolic_nfa.proofs.WordsAfter.{extends-in, is_accepted-in}
use Rattle.map_collect.specs.Followers.{Followers}
use Rattle.map_collect.specs.Tracks.{Contents, starts_of}
use Rattle.map_collect.specs.declared.keys.Keys.{Keys}
use Rattle.map_collect.specs.declared.track.Track.{Track}
use Rattle.eval_nodes.specs.Runners.{FollowsWord}
use Rattle.eval_nodes.specs.Holdings.{Seen, collect_held}
use Rattle.eval_nodes.specs.Starts.{AreDifferent, IsLive}
use Rattle.eval_nodes.proofs.Instances.{different_more}
use Rattle.eval_nodes.proofs.Pieces.{after_end}
use Rattle.step_laws.specs.declared.hit.Hit.{Hit}
use Rattle.step_laws.specs.Collects.{StandsFor}
use Rattle.step_laws.specs.Pushes.{AddsStart, AreNew, IsFirstTable}
use Rattle.step_laws.specs.Steps.{IsFirstHit, Starts}
use Rattle.step_laws.proofs.CollectSteps.{RowOf, TrackOf}

module _ {R : Type 0} (seen : R → Seen R) where
  -- keys with no key stand for the empty word
  pub stand_new : (columns : List Column) (f : Qre) (chosen : List ℕ)
      (sync : Predicate) (keys : Keys R)
      → IsClear bound columns f → AreNew seen f keys → StandsFor seen columns f chosen sync [] keys
  stand_new columns f chosen sync keys clear are = record {
    fallback = are.fallback.word bound columns clear;
    names = ap (λ (keyed : Followers R). keyed.names) are.keyed;
    each = subst (λ (keyed : Followers R).
        AllZip (λ key runner. FollowsWord seen columns f (projection chosen sync key []) runner)
        keyed.names keyed.followers)
        (sym are.keyed) tt;
  }

  module _ (columns : List Column) (chosen : List ℕ) (sync : Predicate) (rate : rates.Regex)
      (f : Qre)
      (nfa : Automaton) (clear : IsClear bound columns f) (of_rate : AreSetsOf nfa.sets rate)
      (on : nfa.cells.layout.columns ≡ columns) (word : Word) (starts : List ℕ) (at : ℕ)
      (end : at ≡ length word) where
    -- a word of the rate begins where the initial state extends
    begins_is : Extends nfa Initial ↔ HasExtension columns rate (drop at word)
    begins_is =
        subst (λ (cs : List Column). Extends nfa Initial ↔ HasExtension cs rate (drop at word)) on
        (extends-in nfa rate (drop at word) Initial (sets_spell nfa.sets rate of_rate)
        (subst (λ (u : Word). IsAfter nfa.sets u Initial) (sym (after_end word at end)) tt))

    -- it is put
    row_with : (tracks : List (Track R)) (keys : Keys R) → (Contains starts at → ⊥)
        → RowOf seen columns chosen sync rate f nfa
        (IsLive columns (collect chosen sync rate f) word starts) word tracks
        → Extends nfa Initial → AreNew seen f keys
        → RowOf seen columns chosen sync rate f nfa
        (IsLive columns (collect chosen sync rate f) word (starts ++ at ∷ []))
        word (tracks ++ record { start = at; state = Initial; keys = keys } ∷ [])
    row_with tracks keys fresh row extends are =
        let x : Track R = record { start = at; state = Initial; keys = keys } in
        let all : starts_of (tracks ++ x ∷ []) ≡ starts_of tracks ++ at ∷ [] =
        map-append (λ (t : Track R). t.start) tracks (x ∷ []) in
        record {
          distinct = subst AreDifferent (sym all)
              (different_more (starts_of tracks) at row.distinct
              (λ there. fresh ((row.there at).0 there).0));
          there = λ start. (
            λ there. elim (Contains-push_cases (starts_of tracks) at start
                (subst (λ (xs : List ℕ). Contains xs start) all there)) [
                  | inl old ↦
                      let (from, continues) = (row.there start).0 old in
                      (Contains-append_left starts (at ∷ []) start from, continues)
                  | inr same ↦ subst
                      (IsLive columns (collect chosen sync rate f) word (starts ++ at ∷ [])) same
                      (Contains-push starts at, begins_is.0 extends)
                ],
            λ (from, continues). subst (λ (xs : List ℕ). Contains xs start) (sym all)
                (elim (Contains-push_cases starts at start from) [
                  | inl old ↦ Contains-append_left (starts_of tracks) (at ∷ []) start
                      ((row.there start).1 (old, continues))
                  | inr same ↦ subst (Contains (starts_of tracks ++ at ∷ [])) same
                      (Contains-push (starts_of tracks) at)
                ]),
          );
          each = λ track there. elim (Contains-push_cases tracks x track there) [
            | inl old ↦ row.each track old
            | inr same ↦ subst
                (λ (t : Track R). TrackOf seen columns chosen sync rate f nfa word t.start t) same (
                  subst (λ (u : Word). IsAfter nfa.sets u Initial) (sym (after_end word at end)) tt,
                  subst (λ (u : Word). StandsFor seen columns f chosen sync u keys)
                      (sym (after_end word at end))
                      (stand_new columns f chosen sync keys clear are),
                )
          ];
        }

    -- no word can begin
    row_without : (tracks : List (Track R)) → (Extends nfa Initial → ⊥)
        → RowOf seen columns chosen sync rate f nfa
        (IsLive columns (collect chosen sync rate f) word starts) word tracks
        → RowOf seen columns chosen sync rate f nfa
        (IsLive columns (collect chosen sync rate f) word (starts ++ at ∷ [])) word tracks
    row_without tracks dead row = record {
      distinct = row.distinct;
      there = λ start. (
        λ there.
            let (from, continues) = (row.there start).0 there in
            (Contains-append_left starts (at ∷ []) start from, continues),
        λ (from, continues). elim (Contains-push_cases starts at start from) [
          | inl old ↦ (row.there start).1 (old, continues)
          | inr same ↦ absurd (dead (begins_is.1
              (subst (λ (s : ℕ). HasExtension columns rate (drop s word)) (sym same) continues)))
        ],
      );
      each = row.each;
    }

  -- the empty word has no keys, and so the empty table
  first_table : (columns : List Column) (chosen : List ℕ) (sync : Predicate) (rate : rates.Regex)
      (f : Qre) (sets : Sets) (at : ℕ) (hit : Option Hit) → AreSetsOf sets rate
      → IsFirstTable sets at hit → IsFirstHit (Den (collect chosen sync rate f)) at hit
  first_table columns chosen sync rate f sets at None of_rate none =
      λ v (entries, in_rate, each, same).
      none ((is_accepted-in sets rate [] Initial (sets_spell sets rate of_rate) tt).1 in_rate)
  first_table columns chosen sync rate f sets at (Some found) of_rate
      (same, value, typed, accepted) = (
        same,
        (
          [],
          (is_accepted-in sets rate [] Initial (sets_spell sets rate of_rate) tt).0 accepted,
          refl,
          value,
        ),
      )

  pub start_collect : (chosen : List ℕ) (sync : Predicate) (rate : rates.Regex) (f : Qre)
      (old new : Contents R) (at : ℕ) (hit : Option Hit) → AddsStart seen f old at new
      → IsFirstTable old.nfa.sets at hit
      → Starts seen (collect chosen sync rate f) (collect_held old) at (collect_held new) hit
  start_collect chosen sync rate f old new at hit (same, puts) first =
      λ standing columns word starts clear is positions rep fresh end apart.
      let row = (λ (tracks : List (Track R)). RowOf seen columns chosen sync rate f old.nfa
      (IsLive columns (collect chosen sync rate f) word (starts ++ at ∷ [])) word tracks) in
      let after : RowOf seen columns chosen sync rate f old.nfa
      (IsLive columns (collect chosen sync rate f) word (starts ++ at ∷ [])) word new.tracks =
      elim puts [
        | inl (can, keys, are, is_put) ↦ subst row (sym is_put)
            (row_with columns chosen sync rate f old.nfa clear.0 rep.0 rep.1 word starts at end
            old.tracks keys fresh rep.2 can.0 are)
        | inr (cannot, stays) ↦ subst row (sym stays)
            (row_without columns chosen sync rate f old.nfa clear.0 rep.0 rep.1 word starts
            at end old.tracks
            (λ extends. cannot (extends, λ there. fresh ((rep.2.there at).0 there).0)) rep.2)
      ] in
      record {
        after = (
          subst (λ (a : Automaton). AreSetsOf a.sets rate) (sym same) rep.0,
          ap (λ (a : Automaton). a.cells.layout.columns) same ∙ rep.1,
          subst (λ (a : Automaton). RowOf seen columns chosen sync rate f a
              (IsLive columns (collect chosen sync rate f) word (starts ++ at ∷ [])) word
              new.tracks) (sym same) after,
        );
        hit = first_table columns chosen sync rate f old.nfa.sets at hit rep.0 first;
      }
