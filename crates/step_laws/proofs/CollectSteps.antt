-- A collect: a step.
use Rattle.std.proofs.Common.{◌≡◌, ◌∙◌, ◌≤◌, ◌↔◌, ℕ, List, [], ◌∷◌, ◌++◌, Option, Some, None, drop}
use Rattle.std.proofs.Common.{length, sym, ap, subst}
use Rattle.std.specs.List.{Contains}
use Rattle.std.proofs.lemmas.Option.{same_Some}
use Rattle.value_ops.specs.declared.field.Field.{Field}
use Rattle.predicates.specs.Predicates.{Predicate}
use Rattle.item_schema.specs.declared.column.Column.{Column}
use Rattle.rate_expr.specs.After.{IsAfter}
use Rattle.rate_expr.specs.FirstLastFollow.{AreSetsOf}
use Rattle.rate_expr.specs.Language.{In}
use Rattle.rate_expr.specs.Rates as rates
use Rattle.rate_expr.specs.Readings.{HasExtension}
use Rattle.rate_expr.specs.Words.{Word, IsWordOf}
use Rattle.rate_expr.specs.declared.state.State.{State}
use Rattle.rate_expr.proofs.SetsOf.{sets_spell}
use Rattle.rate_expr.proofs.Wording.{word_parts}
use Rattle.query_model.specs.Denotation.{Den}
use Rattle.query_model.specs.Queries.{Qre, collect}
use Rattle.query_model.specs.Rules.{bound, IsClear}
use Rattle.symbolic_nfa.specs.Automata.{Automaton}
use Rattle.symbolic_nfa.specs.States.{Extends, IsAccepted}
use Rattle.symbolic_nfa.proofs.WordsAfter.{extends-in, is_accepted-in, is_after-step}
use Rattle.map_collect.specs.Tracks.{Advances, AllAdvance, Contents, starts_of, states_of}
use Rattle.map_collect.specs.Tracks.{KeepsExtending, NoneAccepted}
use Rattle.map_collect.specs.declared.keys.Keys.{Keys}
use Rattle.map_collect.specs.declared.track.Track.{Track}
use Rattle.eval_nodes.specs.Holdings.{Seen, collect_held}
use Rattle.eval_nodes.specs.Keyed.{AreTracked}
use Rattle.eval_nodes.specs.Starts.{AreDifferent, ArePositions, IsLive}
use Rattle.eval_nodes.proofs.Instances.{all_member}
use Rattle.eval_nodes.proofs.Pieces.{drop_more, word_after}
use Rattle.eval_nodes.proofs.Zips.{part_there, read_part, read_there, whole_there, zip_member}
use Rattle.eval_nodes.proofs.Zips.{zip_same}
use Rattle.step_laws.specs.declared.hit.Hit.{Hit}
use Rattle.step_laws.specs.Collects.{StandsFor}
use Rattle.step_laws.specs.Pushes.{ArePushed, IsPushedAt, IsTabled, IsTabledAt}
use Rattle.step_laws.specs.Steps.{IsHit, Steps}
use Rattle.step_laws.proofs.Quiet.{extension_before}
use Rattle.step_laws.proofs.Tracked.{kept_apart, kept_track, track_kept}

module _ {R : Type 0} (seen : R → Seen R) (columns : List Column) (chosen : List ℕ)
    (sync : Predicate)
    (rate : rates.Regex) (f : Qre) where
  abbrev pub q : Qre
  q = collect chosen sync rate f

  -- the state and the keys are those after the piece
  abbrev pub TrackOf : Automaton → Word → ℕ → Track R → Type 0
  TrackOf nfa word start track = IsAfter nfa.sets (drop start word) track.state
      × StandsFor seen columns f chosen sync (drop start word) track.keys

  -- the starts, whatever these are
  abbrev pub RowOf : Automaton → (ℕ → Type 0) → Word → List (Track R) → Type 0
  RowOf nfa lives word all = AreTracked lives (TrackOf nfa word) all

  module _ (nfa : Automaton) (clear : IsClear bound columns f) (word : Word) (item : List Field)
      (starts : List ℕ) (is : IsWordOf columns (word ++ item ∷ []))
      (positions : ArePositions word starts) where
    -- the item goes by at one
    goes_by : (was mid now : Track R) → was.start ≤ length word → Advances nfa.sets item was mid
        → IsPushedAt seen f chosen sync item mid now → TrackOf nfa word was.start was
        → TrackOf nfa (word ++ item ∷ []) now.start now
    goes_by was mid now inside advances pushed (holds_after, stands) =
        let same : now.start ≡ was.start = pushed.start ∙ advances.start in
        let more = drop_more word item was.start inside in
        let after = is_after-step nfa.sets (drop was.start word) was.state mid.state item
        holds_after advances.state in
        let keys = pushed.keys.word bound columns (drop was.start word) clear
        (subst (IsWordOf columns) more (word_after columns (word ++ item ∷ []) was.start is))
        (subst (λ (keys : Keys R). StandsFor seen columns f chosen sync (drop was.start word) keys)
        (sym advances.keys) stands)
        in
        subst (λ (start : ℕ). TrackOf nfa (word ++ item ∷ []) start now) (sym same) (
          subst (λ (u : Word). IsAfter nfa.sets u now.state) (sym more)
              (subst (IsAfter nfa.sets (drop was.start word ++ item ∷ []))
              (sym pushed.state) after),
          subst (λ (u : Word). StandsFor seen columns f chosen sync u now.keys) (sym more) keys,
        )

    -- and at all
    row_on : (old advanced pushed : List (Track R))
        → RowOf nfa (IsLive columns q word starts) word old
        → AllAdvance nfa.sets item old advanced → ArePushed seen f chosen sync item advanced pushed
        → RowOf nfa (IsLive columns q word starts) (word ++ item ∷ []) pushed
    row_on old advanced pushed row advances pushes =
        let P : Track R → Track R → Type 0 = Advances nfa.sets item in
        let Q : Track R → Track R → Type 0 = IsPushedAt seen f chosen sync item in
        let same : starts_of pushed ≡ starts_of old =
        zip_same Q (λ (t : Track R). t.start) (λ (t : Track R). t.start) advanced pushed
        (λ mid now one. one.start) pushes ∙ zip_same P (λ (t : Track R). t.start)
        (λ (t : Track R). t.start) old advanced (λ was mid one. one.start) advances in
        record {
          distinct = subst AreDifferent (sym same) row.distinct;
          there = λ start. (
            λ there. (row.there start).0 (subst (λ (xs : List ℕ). Contains xs start) same there),
            λ live. subst (λ (xs : List ℕ). Contains xs start) (sym same)
                ((row.there start).1 live),
          );
          each = λ now there.
              let (mid, among, one) = zip_member Q advanced pushed now there pushes in
              let (was, before, goes) = zip_member P old advanced mid among advances in
              let from = (row.there was.start).0
              (part_there (λ (t : Track R). t.start) old was before) in
              goes_by was mid now (positions was.start from.0) goes one (row.each was before);
        }

    module _ (of_rate : AreSetsOf nfa.sets rate) (on : nfa.cells.layout.columns ≡ columns) where
      -- a state after a word extends exactly where the word has an extension
      extends_is : (u : Word) (state : State) → IsAfter nfa.sets u state
          → Extends nfa state ↔ HasExtension columns rate u
      extends_is u state holds_after =
          subst (λ (cs : List Column). Extends nfa state ↔ HasExtension cs rate u) on
          (extends-in nfa rate u state (sets_spell nfa.sets rate of_rate) holds_after)

      -- those whose piece can continue stay
      row_kept : (pushed kept : List (Track R)) → KeepsExtending nfa pushed kept
          → RowOf nfa (IsLive columns q word starts) (word ++ item ∷ []) pushed
          → RowOf nfa (IsLive columns q (word ++ item ∷ []) starts) (word ++ item ∷ []) kept
      row_kept pushed kept keeps row =
          let old = word_parts columns word (item ∷ []) is in
          record {
            distinct = kept_apart nfa pushed kept keeps row.distinct;
            there = λ start. (
              λ there.
                  let (track, among, same) = whole_there (λ (t : Track R). t.start)
                  kept start there in
                  let (was, extends) = kept_track nfa pushed kept track keeps among in
                  let from = (row.there track.start).0
                  (part_there (λ (t : Track R). t.start) pushed track was) in
                  let holds_after = (row.each track was).0 in
                  subst (IsLive columns q (word ++ item ∷ []) starts) same (
                    from.0,
                    (extends_is (drop track.start (word ++ item ∷ [])) track.state holds_after).0
                        extends,
                  ),
              λ live.
                  let before = extension_before columns rate (drop start word) item old.1
                  (subst (HasExtension columns rate)
                  (drop_more word item start (positions start live.0)) live.1) in
                  let (track, among, same) = whole_there (λ (t : Track R). t.start) pushed start
                  ((row.there start).1 (live.0, before)) in
                  let holds_after = (row.each track among).0 in
                  let extends =
                  (extends_is (drop track.start (word ++ item ∷ [])) track.state holds_after).1
                  (subst (λ (at : ℕ). HasExtension columns rate (drop at (word ++ item ∷ [])))
                  (sym same) live.1) in
                  subst (Contains (starts_of kept)) same
                  (part_there (λ (t : Track R). t.start) kept track
                  (track_kept nfa pushed kept track keeps among extends)),
            );
            each = λ track there. row.each track (kept_track nfa pushed kept track keeps there).0;
          }

      -- a piece in the rate is that of a start that is there
      accepted_there : (pushed : List (Track R))
          → RowOf nfa (IsLive columns q word starts) (word ++ item ∷ []) pushed
          → (start : ℕ) → Contains starts start → In rate (drop start (word ++ item ∷ []))
          → (track : Track R) × Contains pushed track × IsAccepted nfa.sets track.state
      accepted_there pushed row start from in_rate =
          let old = word_parts columns word (item ∷ []) is in
          let (track, among, same) = whole_there (λ (t : Track R). t.start) pushed start
          ((row.there start).1 (
            from,
            (
              item,
              [],
              old.1,
              subst (In rate) (drop_more word item start (positions start from)) in_rate,
            ),
          )) in (
            track,
            among,
            (is_accepted-in nfa.sets rate (drop track.start (word ++ item ∷ [])) track.state
                (sets_spell nfa.sets rate of_rate) (row.each track among).0).1
                (subst (λ (at : ℕ). In rate (drop at (word ++ item ∷ []))) (sym same) in_rate),
          )

      none_tabled : (pushed : List (Track R))
          → RowOf nfa (IsLive columns q word starts) (word ++ item ∷ []) pushed
          → NoneAccepted nfa.sets pushed → IsHit (Den q) (word ++ item ∷ []) starts None
      none_tabled pushed row none = record {
        sound = tt;
        complete = λ start v from (entries, in_rate, each, same).
            let (track, among, accepted) = accepted_there pushed row start from in_rate in
            all_member (λ (state : State). IsAccepted nfa.sets state → ⊥) (states_of pushed)
            track.state none (part_there (λ (t : Track R). t.state) pushed track among) accepted;
      }

  -- the hit is the table of the keys of its start
  one_tabled : (all : Contents R) (clear : IsClear bound columns q) (word : Word)
      (lives : ℕ → Type 0) (starts : List ℕ) (found : Hit) → IsWordOf columns word
      → AreSetsOf all.nfa.sets rate → ((start : ℕ) → lives start → Contains starts start)
      → RowOf all.nfa lives word all.tracks → IsTabledAt seen all found
      → IsHit (Den q) word starts (Some found)
  one_tabled all clear word lives starts found is of_rate among row one =
      let first = one.accepted in
      let (track, at, state) = read_part (λ (t : Track R). t.state) all.tracks one.place
      first.state first.there in
      let (other, at_start, start) = read_part (λ (t : Track R). t.start) all.tracks one.place
      found.start one.start in
      let (third, at_keys, keys) = read_part (λ (t : Track R). t.keys) all.tracks one.place
      one.keys one.there in
      let starts_here : track.start ≡ found.start =
      ap (λ (t : Track R). t.start) (same_Some track other (sym at ∙ at_start)) ∙ start in
      let keys_here : track.keys ≡ one.keys =
      ap (λ (t : Track R). t.keys) (same_Some track third (sym at ∙ at_keys)) ∙ keys in
      let there = read_there all.tracks one.place track at in
      let (holds_after, stands) = row.each track there in
      let u = drop track.start word in
      let in_rate = (is_accepted-in all.nfa.sets rate u track.state
      (sets_spell all.nfa.sets rate of_rate) holds_after).0
      (subst (IsAccepted all.nfa.sets) (sym state) first.accepted) in
      let entries = one.entries bound columns f chosen sync u clear.0 clear.1
      (word_after columns word track.start is)
      (subst (λ (keys : Keys R). StandsFor seen columns f chosen sync u keys) keys_here stands) in
      record {
        sound = subst (λ (start : ℕ). Contains starts start × Den q (drop start word) found.value)
            starts_here (
              among track.start ((row.there track.start).0
                  (part_there (λ (t : Track R). t.start) all.tracks track there)),
              (one.table, in_rate, entries, one.value),
            );
        complete = tt;
      }

module _ {R : Type 0} (seen : R → Seen R) where
  pub step_collect : (chosen : List ℕ) (sync : Predicate) (rate : rates.Regex) (f : Qre)
      (old advanced pushed kept : Contents R) (now : ℕ) (item : List Field) (hit : Option Hit)
      → AllAdvance old.nfa.sets item old.tracks advanced.tracks → pushed.nfa ≡ old.nfa
      → ArePushed seen f chosen sync item advanced.tracks pushed.tracks → IsTabled seen pushed hit
      → KeepsExtending pushed.nfa pushed.tracks kept.tracks → kept.nfa ≡ pushed.nfa
      → Steps seen (collect chosen sync rate f) (collect_held old) now item (collect_held kept) hit
  step_collect chosen sync rate f old advanced pushed kept now item hit advances same pushes tabled
      keeps same_kept =
      λ standing columns word starts clear is positions rep end apart.
      let whole : IsClear bound columns (collect chosen sync rate f) = clear in
      let of_rate : AreSetsOf pushed.nfa.sets rate =
      subst (λ (a : Automaton). AreSetsOf a.sets rate) (sym same) rep.0 in
      let on : pushed.nfa.cells.layout.columns ≡ columns =
      ap (λ (a : Automaton). a.cells.layout.columns) same ∙ rep.1 in
      let row = subst (λ (a : Automaton).
      RowOf seen columns chosen sync rate f a
      (IsLive columns (collect chosen sync rate f) word starts) (word ++ item ∷ []) pushed.tracks)
      (sym same) (row_on seen columns chosen sync rate f old.nfa clear.0 word item starts is
      positions old.tracks advanced.tracks pushed.tracks rep.2 advances pushes) in
      let narrowed = row_kept seen columns chosen sync rate f pushed.nfa clear.0 word item starts is
      positions of_rate on pushed.tracks kept.tracks keeps row in
      record {
        after = (
          subst (λ (a : Automaton). AreSetsOf a.sets rate) (sym same_kept) of_rate,
          ap (λ (a : Automaton). a.cells.layout.columns) same_kept ∙ on,
          subst (λ (a : Automaton). RowOf seen columns chosen sync rate f a
              (IsLive columns (collect chosen sync rate f) (word ++ item ∷ []) starts)
              (word ++ item ∷ []) kept.tracks)
              (sym same_kept) narrowed,
        );
        hit = found hit columns word starts whole is positions of_rate on row tabled;
      }
    where
      found : (hit : Option Hit) (columns : List Column) (word : Word) (starts : List ℕ)
          → IsClear bound columns (collect chosen sync rate f)
          → IsWordOf columns (word ++ item ∷ []) → ArePositions word starts
          → AreSetsOf pushed.nfa.sets rate → pushed.nfa.cells.layout.columns ≡ columns
          → RowOf seen columns chosen sync rate f pushed.nfa
          (IsLive columns (collect chosen sync rate f) word starts)
          (word ++ item ∷ []) pushed.tracks → IsTabled seen pushed hit
          → IsHit (Den (collect chosen sync rate f)) (word ++ item ∷ []) starts hit
      found None columns word starts clear is positions of_rate on row none =
          none_tabled seen columns chosen sync rate f pushed.nfa clear.0 word item starts is
          positions of_rate on pushed.tracks row none
      found (Some one) columns word starts clear is positions of_rate on row is_table =
          one_tabled seen columns chosen sync rate f pushed clear (word ++ item ∷ [])
          (IsLive columns (collect chosen sync rate f) word starts) starts one is of_rate
          (λ start live. live.0) row is_table
