-- Statement. The shard of a key: the 64-bit FNV-1a hash of its bytes, its halves joined by
-- exclusive or, and of that the remainder by the number of shards.
use Rattle.std.specs.Prelude.{ℕ, ◌*◌, ◌/◌, ◌%◌, ◌^◌, List, bit_xor, fold}

-- the hash of no bytes, which that hash calls its offset basis
abbrev pub offset_basis : ℕ
offset_basis = 14695981039346656037

-- its prime
abbrev pub hash_prime : ℕ
hash_prime = 1099511628211

-- the hash after one more byte
abbrev pub hash_with : ℕ → ℕ → ℕ
hash_with hash byte = bit_xor hash byte * hash_prime % 2 ^ 64

-- the hash of bytes, from the first to the last
abbrev pub hash_of : List ℕ → ℕ
hash_of bytes = fold hash_with offset_basis bytes

-- the halves of a hash, joined
abbrev pub folded : ℕ → ℕ
folded hash = bit_xor (hash / 2 ^ 32) (hash % 2 ^ 32)

-- the home of a key among so many shards, counted from 0
abbrev pub shard_of_key : ℕ → List ℕ → ℕ
shard_of_key shards key = folded (hash_of key) % shards
