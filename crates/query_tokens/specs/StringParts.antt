-- For the prover. The parts of a string, read from the front.
use Rattle.std.specs.Prelude.{◌≡◌, ℕ, ◌+◌, ◌*◌, Bool, ◌||◌, ◌&&◌, not, ◌==◌, nat_lt, nat_le}
use Rattle.std.specs.Prelude.{if◌then◌else◌, List, [], ◌∷◌, ◌++◌, length, Option, Some, None}
use Rattle.std.specs.Char.{digit_value}
use Rattle.query_tokens.specs.Raw.{AreParts}

-- the value of a hexadecimal digit of either case
abbrev pub hex_of : ℕ → Option ℕ
hex_of digit = if nat_lt (digit_value digit) 16 then Some (digit_value digit) else None

-- the byte that two hexadecimal digits stand for
abbrev pub byte_of : Option ℕ → Option ℕ → Option ℕ
byte_of (Some high) (Some low) = Some (16 * high + low)
byte_of (Some high) None = None
byte_of None low = None

-- the byte that the two hexadecimal digits at the front stand for
abbrev pub code_of : List ℕ → Option ℕ
code_of [] = None
code_of (high ∷ []) = None
code_of (high ∷ low ∷ rest) = byte_of (hex_of high) (hex_of low)

-- the byte that is written in digits, and the length of such a part
abbrev pub coded : Option ℕ → Option (ℕ × ℕ)
coded None = None
coded (Some byte) = Some (byte, 4)

-- the part whose backslash comes before these bytes: the byte for which it stands, and its length
abbrev pub escape_of : List ℕ → Option (ℕ × ℕ)
escape_of [] = None
escape_of (second ∷ rest) =
    if second == 34 || second == 92 then Some (second, 2)
    else (if second == 120 then coded (code_of rest) else None)

-- the byte stands for itself
abbrev pub is_plain : ℕ → Bool
is_plain byte =
    (nat_le 32 byte && nat_le byte 126 && not (byte == 34) && not (byte == 92)) || nat_le 128 byte

-- the part at the front: the byte for which it stands, and its length
abbrev pub part_of : List ℕ → Option (ℕ × ℕ)
part_of [] = None
part_of (first ∷ rest) =
    if first == 92 then escape_of rest else (if is_plain first then Some (first, 1) else None)

-- the bytes begin with parts of a string and its closing quote, which together have this length
pub record Closes (bytes : List ℕ) (len : ℕ) : Type 0 where
  pub parts : List ℕ
  pub values : List ℕ
  pub beyond : List ℕ
  pub split : bytes ≡ parts ++ 34 ∷ beyond
  pub stand : AreParts parts values
  pub is : len ≡ length parts + 1

-- the length up to the closing quote, if there is one
abbrev pub IsClosing : List ℕ → Option ℕ → Type 0
IsClosing bytes None = (len : ℕ) → Closes bytes len → ⊥
IsClosing bytes (Some len) = Closes bytes len
