-- Which bytes are words.
use Rattle.std.proofs.Common.{◌≡◌, ◌<◌, ◌^◌, ◌+◌, ℕ, Bool, true, false, ◌&&◌, List, [], ◌∷◌}
use Rattle.std.proofs.Common.{◌++◌}
use Rattle.std.proofs.lemmas.Bool.{and_parts}
use Rattle.std.specs.List.{AllByRecursion, list_all}
use Rattle.query_tokens.specs.Raw.{IsWord, is_word_byte, is_word_start}
use Rattle.std.specs.Prelude.{IsTrue}

-- the bytes are a word
abbrev pub is_word : List ℕ → Bool
is_word [] = false
is_word (byte ∷ rest) = is_word_start byte && list_all is_word_byte rest

all_bytes : (bytes : List ℕ) → list_all is_word_byte bytes ≡ true
    → AllByRecursion (λ b. IsTrue (is_word_byte b)) bytes
all_bytes [] all = tt
all_bytes (byte ∷ rest) all =
    let parts = and_parts (is_word_byte byte) (list_all is_word_byte rest) all in
    (parts.0, all_bytes rest parts.1)

pub known : (bytes : List ℕ) → is_word bytes ≡ true → IsWord bytes
known [] is = absurd (cc)
known (byte ∷ rest) is =
    let parts = and_parts (is_word_start byte) (list_all is_word_byte rest) is in
    (parts.0, all_bytes rest parts.1)
