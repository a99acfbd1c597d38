-- The starts of a collect: those that are there, and those that stay.
use Rattle.std.proofs.Common.{◌<◌, ℕ, List, [], ◌∷◌, length, sym, subst, arith, inl, inr}
use Rattle.std.specs.List.{AllByRecursion, Contains}
use Rattle.std.proofs.lemmas.List.{length-map}
use Rattle.std.proofs.lemmas.Option.{slice_get_within}
use Rattle.rate_expr.specs.Sets.{Sets}
use Rattle.symbolic_nfa.specs.Automata.{Automaton}
use Rattle.symbolic_nfa.specs.States.{Extends}
use Rattle.map_collect.specs.Tracks.{starts_of, states_of, IsFirstAccepted, KeepsExtending}
use Rattle.map_collect.specs.declared.track.Track.{Track}
use Rattle.eval_nodes.specs.Starts.{AreDifferent}
use Rattle.eval_nodes.proofs.Members.{first_member, later_member, member_cases, no_member}
use Rattle.eval_nodes.proofs.Zips.{part_there, whole_there}

-- the first accepted start is there
pub accepted_within : {R : Type 0} (sets : Sets) (tracks : List (Track R)) (i : ℕ)
    → IsFirstAccepted sets tracks i → i < length tracks
accepted_within {R} sets tracks i first =
    let within = slice_get_within (states_of tracks) i first.state first.there in
    let many = length-map tracks (λ (t : Track R). t.state) in
    omega (arith, within, many)

module _ {R : Type 0} (nfa : Automaton) where
  -- one that stays was there, and its state extends
  pub kept_track : (tracks kept : List (Track R)) (x : Track R) → KeepsExtending nfa tracks kept
      → Contains kept x → Contains tracks x × Extends nfa x.state
  kept_track [] kept x keeps there =
      absurd (no_member x (subst (λ (ts : List (Track R)). Contains ts x) keeps there))
  kept_track (t ∷ tracks) kept x keeps there = elim keeps [
    | inl (extends, others, is, rest) ↦
        elim (member_cases t x others (subst (λ (ts : List (Track R)). Contains ts x) is there)) [
          | inl same ↦ (
            subst (Contains (t ∷ tracks)) same (first_member t tracks),
            subst (λ (y : Track R). Extends nfa y.state) same extends,
          )
          | inr later ↦
              let (among, continues) = kept_track tracks others x rest later in
              (later_member t x tracks among, continues)
        ]
    | inr (dead, rest) ↦
        let (among, continues) = kept_track tracks kept x rest there in
        (later_member t x tracks among, continues)
  ]

  -- and the other way round
  pub track_kept : (tracks kept : List (Track R)) (x : Track R) → KeepsExtending nfa tracks kept
      → Contains tracks x → Extends nfa x.state → Contains kept x
  track_kept [] kept x keeps there extends = absurd (no_member x there)
  track_kept (t ∷ tracks) kept x keeps there extends = elim keeps [
    | inl (continues, others, is, rest) ↦
        subst (λ (ts : List (Track R)). Contains ts x) (sym is)
        (elim (member_cases t x tracks there) [
          | inl same ↦ subst (Contains (t ∷ others)) same (first_member t others)
          | inr later ↦ later_member t x others (track_kept tracks others x rest later extends)
        ])
    | inr (dead, rest) ↦ elim (member_cases t x tracks there) [
      | inl same ↦ absurd (dead (subst (λ (y : Track R). Extends nfa y.state) (sym same) extends))
      | inr later ↦ track_kept tracks kept x rest later extends
    ]
  ]

  pub kept_apart : (tracks kept : List (Track R)) → KeepsExtending nfa tracks kept
      → AreDifferent (starts_of tracks) → AreDifferent (starts_of kept)
  kept_apart [] kept keeps different =
      subst (λ (ts : List (Track R)). AreDifferent (starts_of ts)) (sym keeps) tt
  kept_apart (t ∷ tracks) kept keeps different = elim keeps [
    | inl (extends, others, is, rest) ↦
        subst (λ (ts : List (Track R)). AreDifferent (starts_of ts)) (sym is) (
          λ there.
              let (x, among, same) = whole_there (λ (y : Track R). y.start) others t.start there in
              different.0 (subst (Contains (starts_of tracks)) same
              (part_there (λ (y : Track R). y.start) tracks x
              (kept_track tracks others x rest among).0)),
          kept_apart tracks others rest different.1,
        )
    | inr (dead, rest) ↦ kept_apart tracks kept rest different.1
  ]

  pub kept_all : (P : Track R → Type 0) (tracks kept : List (Track R))
      → KeepsExtending nfa tracks kept → AllByRecursion P tracks → AllByRecursion P kept
  kept_all P [] kept keeps all = subst (AllByRecursion P) (sym keeps) tt
  kept_all P (t ∷ tracks) kept keeps all = elim keeps [
    | inl (extends, others, is, rest) ↦
        subst (AllByRecursion P) (sym is) (all.0, kept_all P tracks others rest all.1)
    | inr (dead, rest) ↦ kept_all P tracks kept rest all.1
  ]
