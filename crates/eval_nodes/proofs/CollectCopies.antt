-- A copy of a collect stands for what it stands for, is sound, and keeps as much.
use Rattle.std.proofs.Common.{◌≡◌, ◌∙◌, ℕ, ◌+◌, List, [], ◌∷◌, refl, sym, ap, subst, arith, inl}
use Rattle.std.proofs.Common.{inr}
use Rattle.std.specs.Prelude.{filter}
use Rattle.std.specs.List.{AllByRecursion, AllZip, Contains, sum_by}
use Rattle.predicates.specs.Predicates.{Predicate}
use Rattle.predicates.specs.Truth.{holds}
use Rattle.rate_expr.specs.After.{IsAfter}
use Rattle.rate_expr.specs.Words.{Word}
use Rattle.query_model.specs.Denotation.{projection}
use Rattle.map_collect.specs.Keys.{fallback_of, followers_of, names_of}
use Rattle.map_collect.specs.Tracks.{starts_of}
use Rattle.map_collect.specs.declared.keys.Keys.{Keys}
use Rattle.map_collect.specs.declared.track.Track.{Track}
use Rattle.eval_nodes.specs.Copies.{AreAlike, AreCopiedKeys, IsCopiedTrack, IsCopyOf}
use Rattle.eval_nodes.specs.Counts.{size_of_runner, size_of_state, size_of_track}
use Rattle.eval_nodes.specs.Holdings.{Holding, Seen}
use Rattle.eval_nodes.specs.Keyed.{AreTracked, StandFor}
use Rattle.eval_nodes.specs.Sound.{AreSoundKeys, IsSoundWithin}
use Rattle.eval_nodes.specs.Starts.{AreDifferent}
use Rattle.eval_nodes.proofs.Alike.{all_alike, sums_alike}
use Rattle.eval_nodes.proofs.Members.{first_member, later_member, member_cases, no_member}

-- lists that are alike: one of the second has one of the first at its place
pub alike_member : {A : Type 0} (P : A → A → Type 0) (xs ys : List A) (y : A)
    → AreAlike P xs ys → Contains ys y → (x : A) × Contains xs x × P x y
alike_member P [] [] y alike there = absurd (no_member y there)
alike_member P (x ∷ xs) (z ∷ ys) y alike there = elim (member_cases z y ys there) [
  | inl same ↦ (x, first_member x xs, subst (P x) same alike.0)
  | inr later ↦ let (w, among, is) = alike_member P xs ys y alike.1 later in
      (w, later_member x w xs among, is)
]
alike_member P [] (z ∷ ys) y alike there = absurd alike
alike_member P (x ∷ xs) [] y alike there = absurd alike

module _ {R : Type 0} (seen : R → Seen R) (is_copy : Holding R → Holding R → Type 0) where
  pub same_starts : (old new : List (Track R)) → AreAlike (IsCopiedTrack seen is_copy) old new
      → starts_of new ≡ starts_of old
  same_starts [] [] alike = refl
  same_starts (x ∷ old) (y ∷ new) alike = λ i. alike.0.start i ∷ same_starts old new alike.1 i
  same_starts [] (y ∷ new) alike = absurd alike
  same_starts (x ∷ old) [] alike = absurd alike

  zip_alike : {A : Type 0} (P : A → R → Type 0) (names : List A) (old new : List R)
      → ((name : A) (was runner : R) → IsCopyOf seen is_copy was runner → P name was
      → P name runner)
      → AreAlike (IsCopyOf seen is_copy) old new → AllZip P names old → AllZip P names new
  zip_alike P [] [] [] each alike zip = tt
  zip_alike P (name ∷ names) (x ∷ old) (y ∷ new) each alike zip =
      (each name x y alike.0 zip.0, zip_alike P names old new each alike.1 zip.1)
  zip_alike P names [] (y ∷ new) each alike zip = absurd alike
  zip_alike P names (x ∷ old) [] each alike zip = absurd alike
  zip_alike P [] (x ∷ old) (y ∷ new) each alike zip = absurd zip
  zip_alike P (name ∷ names) [] [] each alike zip = absurd zip

  keys_stand : (follows : Word → R → Type 0) (chosen : List ℕ) (sync : Predicate) (word : Word)
      (old new : Keys R)
      → ((u : Word) (was runner : R) → IsCopyOf seen is_copy was runner → follows u was
      → follows u runner)
      → AreCopiedKeys seen is_copy old new → StandFor follows chosen sync word old
      → StandFor follows chosen sync word new
  keys_stand follows chosen sync word old new each copied stands = record {
    fallback = each (filter (holds sync) word) (fallback_of old) (fallback_of new) copied.fallback
        stands.fallback;
    names = copied.names ∙ stands.names;
    each = subst (λ (names : List (List ℕ)).
        AllZip (λ key runner. follows (projection chosen sync key word) runner) names
        (followers_of new)) (sym copied.names)
        (zip_alike (λ key runner. follows (projection chosen sync key word) runner) (names_of old)
        (followers_of old)
        (followers_of new)
        (λ key was runner one is. each (projection chosen sync key word) was runner one is)
        copied.keyed stands.each);
  }

  pub tracks_stand : (lives : ℕ → Type 0) (tracks : ℕ → Track R → Type 0) (old new : List (Track R))
      → ((was track : Track R) → IsCopiedTrack seen is_copy was track → tracks was.start was
      → tracks track.start track)
      → AreAlike (IsCopiedTrack seen is_copy) old new → AreTracked lives tracks old
      → AreTracked lives tracks new
  tracks_stand lives tracks old new each alike row =
      let same = same_starts old new alike in
      record {
        distinct = subst AreDifferent (sym same) row.distinct;
        there = λ start. (
          λ there. (row.there start).0 (subst (λ (xs : List ℕ). Contains xs start) same there),
          λ live. subst (λ (xs : List ℕ). Contains xs start) (sym same) ((row.there start).1 live),
        );
        each = λ track there.
            let (was, among, one) = alike_member (IsCopiedTrack seen is_copy) old new
            track alike there in
            each was track one (row.each was among);
      }

  -- the state and the keys after a piece
  pub track_stands : (follows : Word → R → Type 0) (chosen : List ℕ) (sync : Predicate) (sets : _)
      (word : ℕ → Word) (was track : Track R)
      → ((u : Word) (was runner : R) → IsCopyOf seen is_copy was runner → follows u was
      → follows u runner)
      → IsCopiedTrack seen is_copy was track
      → IsAfter sets (word was.start) was.state
      × StandFor follows chosen sync (word was.start) was.keys
      → IsAfter sets (word track.start) track.state
      × StandFor follows chosen sync (word track.start) track.keys
  track_stands follows chosen sync sets word was track each copied (after, stands) =
      subst (λ (start : ℕ). IsAfter sets (word start) track.state
      × StandFor follows chosen sync (word start) track.keys)
      (sym copied.start) (
        subst (IsAfter sets (word was.start)) (sym copied.state) after,
        keys_stand follows chosen sync (word was.start) was.keys track.keys each copied.keys stands,
      )

  keys_sound : (is_sound : R → Type 0) (most : ℕ) (old new : Keys R)
      → ((was runner : R) → IsCopyOf seen is_copy was runner → is_sound was → is_sound runner)
      → AreCopiedKeys seen is_copy old new → AreSoundKeys seen is_sound most old
      → AreSoundKeys seen is_sound most new
  keys_sound is_sound most old new each copied sound =
      let one : (was runner : R) → IsCopyOf seen is_copy was runner
      → IsSoundWithin seen is_sound most was
      → IsSoundWithin seen is_sound most runner =
      (λ was runner copied is.
      let within = is.within in
      let same = copied.position in
      record { within = omega (arith, within, same); sound = each was runner copied is.sound }) in
      record {
        fallback = one (fallback_of old) (fallback_of new) copied.fallback sound.fallback;
        keyed = all_alike (IsCopyOf seen is_copy) (IsSoundWithin seen is_sound most)
            (followers_of old) (followers_of new) one copied.keyed sound.keyed;
      }

  pub tracks_sound : (is_sound : R → Type 0) (most : ℕ) (old new : List (Track R))
      → ((was runner : R) → IsCopyOf seen is_copy was runner → is_sound was → is_sound runner)
      → AreAlike (IsCopiedTrack seen is_copy) old new
      → AreDifferent (starts_of old)
      → AllByRecursion (λ (t : Track R). AreSoundKeys seen is_sound most t.keys) old
      → AreDifferent (starts_of new)
      × AllByRecursion (λ (t : Track R). AreSoundKeys seen is_sound most t.keys) new
  tracks_sound is_sound most old new each alike distinct all = (
    subst AreDifferent (sym (same_starts old new alike)) distinct,
    all_alike (IsCopiedTrack seen is_copy)
        (λ (t : Track R). AreSoundKeys seen is_sound most t.keys) old new
        (λ was track copied is. keys_sound is_sound most was.keys track.keys each copied.keys is)
        alike all,
  )

  -- they keep as much
  pub tracks_stored : (size : Holding R → ℕ) (old new : List (Track R))
      → ((was runner : R) → IsCopyOf seen is_copy was runner
      → size_of_runner seen size runner ≡ size_of_runner seen size was)
      → AreAlike (IsCopiedTrack seen is_copy) old new
      → sum_by (λ (t : Track R). size_of_track seen size t) new
      ≡ sum_by (λ (t : Track R). size_of_track seen size t) old
  tracks_stored size old new each alike =
      sums_alike (IsCopiedTrack seen is_copy) (λ (t : Track R). size_of_track seen size t) old new
      (λ was track copied.
      let state : size_of_state track.state ≡ size_of_state was.state =
      ap size_of_state copied.state in
      let fallback = each (fallback_of was.keys) (fallback_of track.keys) copied.keys.fallback in
      let keyed : sum_by (λ (r : R). 1 + size_of_runner seen size r) (followers_of track.keys)
      ≡ sum_by (λ (r : R). 1 + size_of_runner seen size r) (followers_of was.keys) =
      sums_alike (IsCopyOf seen is_copy) (λ (r : R). 1 + size_of_runner seen size r)
      (followers_of was.keys) (followers_of track.keys)
      (λ r s one. let same = each r s one in omega (arith, same)) copied.keys.keyed in
      omega (arith, state, fallback, keyed)) alike
