-- For the prover. The length of what is at the front of a text.
use Rattle.std.specs.Prelude.{◌≡◌, ◌≤◌, ◌⊎◌, ℕ, ◌+◌, Bool, ◌||◌, ◌==◌, nat_lt, if◌then◌else◌, List}
use Rattle.std.specs.Prelude.{[], ◌∷◌, ◌++◌, length, take, take_while, drop, Option, Some, None}
use Rattle.std.specs.Char.{is_ascii_digit}
use Rattle.query_tokens.specs.declared.token.TokenKind.{TokenKind}
use Rattle.query_tokens.specs.declared.token.TokenKind.TheVariants.{Word, Number, Text, Open, Close}
use Rattle.query_tokens.specs.declared.token.TokenKind.TheVariants.{Comma}
use Rattle.query_tokens.specs.Raw.{is_word_start, IsRaw, IsLongest, BeginsNone, BeginsNoBlank}
use Rattle.query_tokens.specs.Raw.{IsBlank, IsBlankToEnd}

-- the bytes begin with blank of this length, after which comes a byte that is no blank
pub record BlankUpTo (bytes : List ℕ) (len : ℕ) : Type 0 where
  pub blank : List ℕ
  pub rest : List ℕ
  pub split : bytes ≡ blank ++ rest
  pub is_blank : IsBlank blank
  pub no_blank : BeginsNoBlank rest
  pub is : len ≡ length blank

-- the blank at the front has this length, up to another byte or to the end
abbrev pub IsBlankLength : List ℕ → ℕ → Type 0
IsBlankLength bytes len = ((len ≡ length bytes) × IsBlankToEnd bytes) ⊎ BlankUpTo bytes len

-- the bytes begin with a token of this kind and length, and with no longer one of the kind
pub record Begins (kind : TokenKind) (bytes : List ℕ) (len : ℕ) : Type 0 where
  pub within : len ≤ length bytes
  pub token : IsRaw kind (take len bytes)
  pub longest : (raw beyond : List ℕ) → bytes ≡ raw ++ beyond → IsRaw kind raw → length raw ≤ len

-- the length of the token of this kind at the front, if there is one
abbrev pub IsLength : TokenKind → List ℕ → Option ℕ → Type 0
IsLength kind bytes None = (raw beyond : List ℕ) → bytes ≡ raw ++ beyond → IsRaw kind raw → ⊥
IsLength kind bytes (Some len) = Begins kind bytes len

-- a number can begin with the byte
abbrev pub is_number_start : ℕ → Bool
is_number_start byte = (byte == 43 || byte == 45) || is_ascii_digit byte

-- the kind of a token that begins with the byte
abbrev pub kind_of : ℕ → Option TokenKind
kind_of byte =
    if byte == 40 then Some Open
    else (if byte == 41 then Some Close
    else (if byte == 44 then Some Comma
    else (if byte == 34 then Some Text
    else (if is_number_start byte then Some Number
    else (if is_word_start byte then Some Word else None)))))

-- the kind of a token that begins with the first byte
abbrev pub kind_at : List ℕ → Option TokenKind
kind_at [] = None
kind_at (byte ∷ rest) = kind_of byte

-- the length of a sign at the front
abbrev pub sign_len : List ℕ → ℕ
sign_len [] = 0
sign_len (byte ∷ rest) = if byte == 43 || byte == 45 then 1 else 0

-- the length of the digits at the front, and of a sign before them, if there are any digits
abbrev pub number_len : List ℕ → Option ℕ
number_len bytes =
    let digits = length (take_while is_ascii_digit (drop (sign_len bytes) bytes)) in
    if nat_lt 0 digits then Some (sign_len bytes + digits) else None

-- the bytes begin with a token of this kind and length, and with no longer one; or with no token
abbrev pub IsFirst : List ℕ → Option (TokenKind × ℕ) → Type 0
IsFirst bytes None = BeginsNone bytes
IsFirst bytes (Some found) =
    (found.1 ≤ length bytes) × IsLongest found.0 (take found.1 bytes) (drop found.1 bytes)
