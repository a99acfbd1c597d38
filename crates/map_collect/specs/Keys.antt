-- Statement. The followers by keys, and the default one.
use Rattle.std.specs.Prelude.{ℕ, List}
use Rattle.map_collect.specs.Followers.{Followers}
use Rattle.map_collect.specs.declared.keys.Keys.{Keys}

module _ {R : Type 0} where
  -- the default follower, as which the follower of a later key begins
  abbrev pub fallback_of : Keys R → R
  fallback_of keys = keys.fallback

  -- the keys that came, with their followers
  abbrev pub keyed_of : Keys R → Followers R
  keyed_of keys = keys.keyed

  abbrev pub names_of : Keys R → List (List ℕ)
  names_of keys = (keyed_of keys).names

  abbrev pub followers_of : Keys R → List R
  followers_of keys = (keyed_of keys).followers
