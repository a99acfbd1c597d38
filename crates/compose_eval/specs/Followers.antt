-- Statement. The followers of a right operand: those that a start of the left one feeds, and idle
-- ones.
use Rattle.std.specs.Prelude.{◌≡◌, ◌==◌, ◌+◌, ◌≤◌, ℕ, zero, suc, Bool, not, List, [], ◌∷◌, ◌++◌}
use Rattle.std.specs.Prelude.{length, filter, map, find, slice_get, Option, Some, refl}
use Rattle.std.specs.List.{IsDistinct}
use Rattle.std.specs.Coded.{Coded, code_by, coded×, coded_list, coded_ℕ}
use Rattle.compose_eval.specs.declared.instance.Instance.{Instance}

-- the instances in the order in which they began, the idle followers in the order in which they
-- became idle, and for how many followers there is room in all
pub record Contents (R : Type 0) : Type 0 where
  pub live : List (Instance R)
  pub idle : List R
  pub room : ℕ

module _ {R : Type 0} where
  -- whether the instance is fed from this start
  abbrev pub is_at : ℕ → Instance R → Bool
  is_at outer instance = instance.outer == outer

  -- the first instance that is fed from this start
  abbrev pub instance_at : List (Instance R) → ℕ → Option (Instance R)
  instance_at live outer = find (is_at outer) live

  -- the starts that feed the instances
  abbrev pub outers_of : List (Instance R) → List ℕ
  outers_of live = map (λ instance. instance.outer) live

  -- their followers, in the same order
  abbrev pub followers_of : List (Instance R) → List R
  followers_of live = map (λ instance. instance.follower) live

  -- no two are fed from the same start
  abbrev pub AreDistinct : List (Instance R) → Type 0
  AreDistinct live = IsDistinct ◌==◌ (outers_of live)

  -- the instance at this index is fed from this start
  abbrev pub IsAt : List (Instance R) → ℕ → ℕ → Type 0
  IsAt live i outer =
      (follower : R) × (slice_get live i ≡ Some (record { outer = outer; follower = follower }))

  -- those whose start is live
  abbrev pub live_instances : (ℕ → Bool) → List (Instance R) → List (Instance R)
  live_instances is_live live = filter (λ instance. is_live instance.outer) live

  -- the followers of the others
  abbrev pub retired : (ℕ → Bool) → List (Instance R) → List R
  retired is_live live =
      followers_of (filter (λ instance. not (is_live instance.outer)) live)

  -- the list in which the instance at this index has another follower
  abbrev pub with_follower : List (Instance R) → ℕ → R → List (Instance R)
  with_follower [] i follower = []
  with_follower (instance ∷ live) zero follower =
      record { outer = instance.outer; follower = follower } ∷ live
  with_follower (instance ∷ live) (suc i) follower = instance ∷ with_follower live i follower

  -- the last idle follower is now fed from this start
  pub record Wakes (outer : ℕ) (old new : Contents R) : Type 0 where
    pub follower : R
    pub last : old.idle ≡ new.idle ++ follower ∷ []
    pub woken : new.live ≡ old.live ++ record { outer = outer; follower = follower } ∷ []

  -- memory for exactly `room` followers is reserved for each list, and together they have no more
  pub record IsKept (live : List (Instance R)) (idle : List R)
      (room live_capacity idle_capacity : ℕ) : Type 0 where
    pub live_reserved : live_capacity ≡ room
    pub idle_reserved : idle_capacity ≡ room
    pub few : length live + length idle ≤ room
    pub distinct : AreDistinct live

-- each call at a start answers as the test does
abbrev pub AnswersAs : {F : Type 0} → (F → ℕ → Bool → Type 0) → F → (ℕ → Bool) → Type 0
AnswersAs post live is_live =
    (start : ℕ) (answer : Bool) → post live start answer → answer ≡ is_live start

-- stored as the start and the follower
abbrev pub instance_code : {R : Type 0} → Coded R → Coded (Instance R)
instance_code {R} code =
    code_by (ℕ × R) (coded× coded_ℕ code) (λ instance. (instance.outer, instance.follower))
    (λ pair. record { outer = pair.0; follower = pair.1 }) (λ _. refl)

-- stored as the lists and the room
abbrev pub contents_code : {R : Type 0} → Coded R → Coded (Contents R)
contents_code {R} code = code_by (List (Instance R) × (List R × ℕ))
    (coded× (coded_list (instance_code code)) (coded× (coded_list code) coded_ℕ))
    (λ held. (held.live, (held.idle, held.room)))
    (λ parts. record { live = parts.0; idle = parts.1.0; room = parts.1.1 }) (λ _. refl)
