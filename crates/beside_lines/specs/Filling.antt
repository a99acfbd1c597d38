-- For the prover. Runs of queries take a line together, one after the other.
use Rattle.std.specs.Prelude.{◌≡◌, ◌≤◌, ℕ, ◌+◌, max, List, [], ◌∷◌, ◌++◌, map}
use Rattle.std.specs.List.{AllZip}
use Rattle.io_edge.specs.Lines.{Shown}
use Rattle.rate_expr.specs.Words.{Word}
use Rattle.stream_run.specs.SessionLaws.{after_none}
use Rattle.stream_run.specs.Sessions.{IsAfter, Origin, RepliesTo, origin_of}
use Rattle.stream_run.specs.declared.session.Session.{Session}
use Rattle.beside_lines.specs.Besides.{AreBeside, column}

-- each of a list is led from old to new in turn, and `before` is led to `after` on the way
abbrev pub AllInTurn : {A B : Type 0} → (A → A → B → B → Type 0) → List A → List A → B → B
    → Type 0
AllInTurn Leads [] [] before after = after ≡ before
AllInTurn {B = B} Leads (old ∷ olds) (new ∷ news) before after =
    (middle : B) × Leads old new before middle × AllInTurn Leads olds news middle after
AllInTurn Leads _ _ before after = ⊥

module _ {F : Type 0} where
  -- a session takes the line, and its column comes after the bytes before it
  pub record Fills (follows : F → Word → Type 0) (position : F → ℕ) (line : Shown)
      (old new : Session F) (before after : List ℕ) : Type 0 where
    pub reply : List ℕ
    pub replies : RepliesTo follows line reply old new
    pub filled : after ≡ before ++ column reply
    pub one : position new.follower ≤ position old.follower + 1

  -- the origins of runs
  abbrev pub origins_of : List (Session F) → List (Origin F)
  origins_of sessions = map origin_of sessions

  -- from where the first ones stand, the others stand after these lines
  abbrev pub AreAfter : (F → Word → Type 0) → List (Session F) → List Shown → List (Session F)
      → Type 0
  AreAfter follows firsts lines nows =
      AllZip (λ first now. IsAfter follows (origin_of first) lines now) firsts nows

  -- the most items that one of them has taken
  abbrev pub most : (F → ℕ) → List (Session F) → ℕ
  most position [] = 0
  most position (session ∷ sessions) = max (position session.follower) (most position sessions)

  module _ (follows : F → Word → Type 0) where
    -- they stand where they are
    pub all_after_none : (sessions : List (Session F)) → AreAfter follows sessions [] sessions
    all_after_none [] = tt
    all_after_none (session ∷ sessions) = (after_none follows session, all_after_none sessions)

    -- of no lines nothing is written
    pub none_beside : (sessions : List (Session F))
        → AreBeside follows (origins_of sessions) [] []
    none_beside sessions meanings begin i = []
