-- Statement. Followers by the bytes of their keys.
use Rattle.std.specs.Prelude.{◌≡◌, ℕ, List, [], ◌∷◌, ◌++◌, length, refl}
use Rattle.std.specs.List.{IsDistinct}
use Rattle.std.specs.Str.{bytes_eq}
use Rattle.std.specs.Coded.{Coded, code_by, coded×, coded_list, coded_ℕ}

-- the keys in the order in which they first came, and their followers in the same order
pub record Followers (R : Type 0) : Type 0 where
  pub names : List (List ℕ)
  pub followers : List R

-- no two have the same bytes
abbrev pub AreDistinct : List (List ℕ) → Type 0
AreDistinct names = IsDistinct bytes_eq names

module _ {R : Type 0} where
  -- the list with one more key and its follower, which are appended
  abbrev pub with_key : List ℕ → R → Followers R → Followers R
  with_key key follower old = record {
    names = old.names ++ key ∷ [];
    followers = old.followers ++ follower ∷ [];
  }

  -- the keys are distinct, and each has a follower
  pub record AreKept (names : List (List ℕ)) (followers : List R) : Type 0 where
    pub distinct : AreDistinct names
    pub each : length followers ≡ length names

-- stored as the two lists
abbrev pub code_of_followers : {R : Type 0} → Coded R → Coded (Followers R)
code_of_followers {R} code = code_by (List (List ℕ) × List R)
    (coded× (coded_list (coded_list coded_ℕ)) (coded_list code))
    (λ keyed. (keyed.names, keyed.followers))
    (λ parts. record { names = parts.0; followers = parts.1 }) (λ _. refl)
