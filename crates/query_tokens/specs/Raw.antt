-- Statement. The bytes of one token, and what may stand between tokens.
use Rattle.std.specs.Prelude.{◌≡◌, ◌≢◌, ◌≤◌, ◌<◌, ◌⊎◌, ℕ, ◌+◌, ◌*◌, Bool, ◌||◌, ◌==◌, false, List}
use Rattle.std.specs.Prelude.{[], ◌∷◌, ◌++◌, All, IsTrue}
use Rattle.std.specs.List.{flat_map, AllByRecursion}
use Rattle.std.specs.Char.{is_ascii_alphabetic, is_ascii_alphanumeric}
use Rattle.std.specs.Char.{digit_value}
use Rattle.std.specs.Str.Parse.{IsNumeral, without_leading_sign}
use Rattle.query_tokens.specs.declared.token.TokenKind.{TokenKind}
use Rattle.query_tokens.specs.declared.token.TokenKind.TheVariants.{Word, Number, Text, Open, Close}
use Rattle.query_tokens.specs.declared.token.TokenKind.TheVariants.{Comma}

-- a word can begin with the byte
abbrev pub is_word_start : ℕ → Bool
is_word_start byte = is_ascii_alphabetic byte || byte == 95

-- a word can have the byte after its first
abbrev pub is_word_byte : ℕ → Bool
is_word_byte byte = is_ascii_alphanumeric byte || byte == 95

-- the bytes are one word
abbrev pub IsWord : List ℕ → Type 0
IsWord [] = ⊥
IsWord (byte ∷ rest) =
    IsTrue (is_word_start byte) × AllByRecursion (λ b. IsTrue (is_word_byte b)) rest

-- a byte that stands for itself in a string: from a space to `~` except for the quote and the
-- backslash, or 0x80 and above
abbrev pub IsPlain : ℕ → Type 0
IsPlain byte = ((32 ≤ byte) × (byte ≤ 126) × (byte ≢ 34) × (byte ≢ 92)) ⊎ (128 ≤ byte)

-- the digit is hexadecimal, of either case
abbrev pub IsHex : ℕ → Type 0
IsHex digit = digit_value digit < 16

-- a part of a string: a byte that stands for itself, `\"`, `\\`, or `\x` and two hexadecimal digits
pub data IsPart : List ℕ → ℕ → Type 0 where
  plain : (byte : ℕ) → IsPlain byte → IsPart (byte ∷ []) byte
  quote : IsPart (92 ∷ 34 ∷ []) 34
  backslash : IsPart (92 ∷ 92 ∷ []) 92
  code : (high low : ℕ) → IsHex high → IsHex low
      → IsPart (92 ∷ 120 ∷ high ∷ low ∷ []) (16 * digit_value high + digit_value low)

-- parts, one after the other, and the bytes for which they stand
abbrev pub AreParts : List ℕ → List ℕ → Type 0
AreParts raw [] = raw ≡ []
AreParts raw (byte ∷ bytes) =
    (part : List ℕ) × (rest : List ℕ) × (raw ≡ part ++ rest) × IsPart part byte
    × AreParts rest bytes

-- the bytes of a string with its quotes, and the bytes for which it stands
pub record IsString (raw bytes : List ℕ) : Type 0 where
  pub parts : List ℕ
  pub quoted : raw ≡ 34 ∷ parts ++ 34 ∷ []
  pub stand : AreParts parts bytes

-- the bytes are one token of this kind
abbrev pub IsRaw : TokenKind → List ℕ → Type 0
IsRaw Word raw = IsWord raw
IsRaw Number raw = IsNumeral 10 (without_leading_sign raw)
IsRaw Text raw = (bytes : List ℕ) × IsString raw bytes
IsRaw Open raw = raw ≡ 40 ∷ []
IsRaw Close raw = raw ≡ 41 ∷ []
IsRaw Comma raw = raw ≡ 44 ∷ []

-- the bytes are a token of this kind, and together with the bytes after them they make no longer
-- token
pub record IsLongest (kind : TokenKind) (raw rest : List ℕ) : Type 0 where
  pub token : IsRaw kind raw
  pub longest : (other : TokenKind) (more beyond : List ℕ) → rest ≡ more ++ beyond
      → IsRaw other (raw ++ more) → more ≡ []

-- the bytes begin with no token
abbrev pub BeginsNone : List ℕ → Type 0
BeginsNone bytes =
    (kind : TokenKind) (raw beyond : List ℕ) → bytes ≡ raw ++ beyond → IsRaw kind raw → ⊥

-- a space, a tab, a CR or an LF
abbrev pub is_space : ℕ → Bool
is_space byte = byte == 32 || byte == 9 || byte == 13 || byte == 10

-- a piece between tokens: a space, or a comment from `#` to before the next LF, and that LF
abbrev pub IsBlankPiece : List ℕ → Type 0
IsBlankPiece piece = ((byte : ℕ) × IsTrue (is_space byte) × (piece ≡ byte ∷ []))
    ⊎ ((comment : List ℕ) × All (λ b. b ≢ 10) comment × (piece ≡ 35 ∷ comment ++ 10 ∷ []))

-- the bytes are nothing but such pieces
pub record IsBlank (bytes : List ℕ) : Type 0 where
  pub pieces : List (List ℕ)
  pub each : AllByRecursion IsBlankPiece pieces
  pub whole : bytes ≡ flat_map (λ piece. piece) pieces

-- the same at the end of a text, where the last comment may lack its LF
pub record IsBlankToEnd (bytes : List ℕ) : Type 0 where
  pub front : List ℕ
  pub blank : IsBlank front
  pub last : (bytes ≡ front)
      ⊎ ((comment : List ℕ) × All (λ b. b ≢ 10) comment × (bytes ≡ front ++ 35 ∷ comment))

-- there are bytes, and they do not begin with a piece that may stand between tokens
abbrev pub BeginsNoBlank : List ℕ → Type 0
BeginsNoBlank [] = ⊥
BeginsNoBlank (byte ∷ rest) = (is_space byte ≡ false) × (byte ≢ 35)
