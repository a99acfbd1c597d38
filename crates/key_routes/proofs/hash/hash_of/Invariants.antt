use Rattle.std.proofs.Common.{◌≡◌, drop, fold}
use Rattle.key_routes.specs.Hashes.{hash_of, hash_with}
use Rattle.key_routes.proofs.hash.hash_of.Given as goal

-- the hash so far goes on to that of the whole key
abbrev pub invariant-bytes : goal.invariant-bytes
invariant-bytes l = fold hash_with l.hash (drop l.byte-index l.key) ≡ hash_of l.key
