-- Statement. What a copy of a node keeps: the same, with a copy of each runner.
use Rattle.std.specs.Prelude.{◌≡◌, List, [], ◌∷◌}
use Rattle.query_model.specs.Queries.{Qre, atom, eps, choice, split, iter, combine, apply, compose}
use Rattle.query_model.specs.Queries.{collect}
use Rattle.compose_eval.specs.Followers.{Contents, followers_of, outers_of}
use Rattle.map_collect.specs.Keys.{fallback_of, followers_of as keyed_followers, names_of}
use Rattle.map_collect.specs.Tracks as tracks
use Rattle.map_collect.specs.declared.keys.Keys.{Keys}
use Rattle.map_collect.specs.declared.track.Track.{Track}
use Rattle.eval_nodes.specs.Holdings.{Holding, atom_held, eps_held, choice_held, combine_held}
use Rattle.eval_nodes.specs.Holdings.{apply_held, split_held, iter_held, compose_held, collect_held}
use Rattle.eval_nodes.specs.Holdings.{Seen}

-- each of one list has the relation to the one at the same place of the other
abbrev pub AreAlike : {A : Type 0} → (A → A → Type 0) → List A → List A → Type 0
AreAlike P [] [] = Unit {0}
AreAlike P (x ∷ xs) (y ∷ ys) = P x y × AreAlike P xs ys
AreAlike P xs ys = ⊥

module _ {R : Type 0} (seen : R → Seen R) where
  pub record IsCopyOf (is_copy : Holding R → Holding R → Type 0) (old new : R) : Type 0 where
    pub position : (seen new).position ≡ (seen old).position
    pub answer : (seen new).answer ≡ (seen old).answer
    pub node : is_copy (seen old).node (seen new).node

  -- copies of the runners of a compose, from the same starts
  pub record AreCopied (is_copy : Holding R → Holding R → Type 0)
      (old new : Contents R) : Type 0 where
    pub starts : outers_of new.live ≡ outers_of old.live
    pub live : AreAlike (IsCopyOf is_copy) (followers_of old.live) (followers_of new.live)
    pub idle : AreAlike (IsCopyOf is_copy) old.idle new.idle
    pub room : new.room ≡ old.room

  -- copies of the runners for keys
  pub record AreCopiedKeys (is_copy : Holding R → Holding R → Type 0)
      (old new : Keys R) : Type 0 where
    pub fallback : IsCopyOf is_copy (fallback_of old) (fallback_of new)
    pub names : names_of new ≡ names_of old
    pub keyed : AreAlike (IsCopyOf is_copy) (keyed_followers old) (keyed_followers new)

  -- the same start and state, and copies of its runners
  pub record IsCopiedTrack (is_copy : Holding R → Holding R → Type 0)
      (old new : Track R) : Type 0 where
    pub start : new.start ≡ old.start
    pub state : new.state ≡ old.state
    pub keys : AreCopiedKeys is_copy old.keys new.keys

  -- copies of the starts of a collect, of the same automaton
  pub record AreCopiedTracks (is_copy : Holding R → Holding R → Type 0)
      (old new : tracks.Contents R) : Type 0 where
    pub nfa : new.nfa ≡ old.nfa
    pub tracks : AreAlike (IsCopiedTrack is_copy) old.tracks new.tracks

  -- for nodes of the query's shape; the copy of any other node is empty
  abbrev pub IsCopy : Qre → Holding R → Holding R → Type 0
  IsCopy (atom pred expression) (atom_held found) new = new ≡ atom_held found
  IsCopy (eps number) eps_held new = new ≡ eps_held
  IsCopy (choice f g) (choice_held a b) (choice_held a' b') = IsCopy f a a' × IsCopy g b b'
  IsCopy (choice f g) (choice_held a b) new = ⊥
  IsCopy (combine f g expression) (combine_held a b) (combine_held a' b') =
      IsCopy f a a' × IsCopy g b b'
  IsCopy (combine f g expression) (combine_held a b) new = ⊥
  IsCopy (apply f expression) (apply_held a) (apply_held a') = IsCopy f a a'
  IsCopy (apply f expression) (apply_held a) new = ⊥
  IsCopy (split f g expression) (split_held a b left) (split_held a' b' left') =
      IsCopy f a a' × IsCopy g b b' × (left' ≡ left)
  IsCopy (split f g expression) (split_held a b left) new = ⊥
  IsCopy (iter f number expression) (iter_held a so_far) (iter_held a' so_far') =
      IsCopy f a a' × (so_far' ≡ so_far)
  IsCopy (iter f number expression) (iter_held a so_far) new = ⊥
  IsCopy (compose f g) (compose_held a held) (compose_held a' held') =
      IsCopy f a a' × AreCopied (IsCopy g) held held'
  IsCopy (compose f g) (compose_held a held) new = ⊥
  IsCopy (collect chosen sync rate f) (collect_held all) (collect_held all') =
      AreCopiedTracks (IsCopy f) all all'
  IsCopy (collect chosen sync rate f) (collect_held all) new = ⊥
  IsCopy query old new = new ≡ eps_held
