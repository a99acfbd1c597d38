-- Whether a start of a collect is there, as it is looked up.
use Rattle.std.proofs.Common.{◌≡◌, ◌∙◌, ℕ, Bool, true, false, List, Option, None, Some, IsTrue}
use Rattle.std.proofs.Common.{slice_get, refl, sym}
use Rattle.std.specs.Prelude.{IfNone, IfSome, is_some}
use Rattle.std.specs.List.{list_any, Contains}
use Rattle.map_collect.specs.Tracks.{begins_at, starts_of}
use Rattle.map_collect.specs.declared.track.Track.{Track}
use Rattle.eval_nodes.proofs.Living.{start_read, start_there}
use Rattle.eval_nodes.proofs.Zips.{read_there}

not_true : (b : Bool) → (IsTrue b → ⊥) → false ≡ b
not_true true never = absurd (never refl)
not_true false never = refl

-- it is there where the look-up has a place
pub place_read : {R : Type 0} (tracks : List (Track R)) (start : ℕ) (place : Option ℕ)
    (found : Bool) → found ≡ is_some place
    → IfSome place (λ i. slice_get (starts_of tracks) i ≡ Some start)
    → IfNone place (Contains (starts_of tracks) start → ⊥)
    → found ≡ list_any (begins_at start) tracks
place_read tracks start None found is some none =
    is
    ∙ not_true (list_any (begins_at start) tracks) (λ there. none (start_there tracks start there))
place_read tracks start (Some i) found is some none =
    is ∙ sym (start_read tracks start (read_there (starts_of tracks) i start some))
