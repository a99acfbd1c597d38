-- Statement. Where a character stands in bytes, by the table of well-formed sequences that defines
-- UTF-8.
use Rattle.std.specs.Prelude.{ℕ, ◌==◌, ◌&&◌, ◌||◌, nat_le, nat_lt, Bool, false}
use Rattle.std.specs.Prelude.{if◌then◌else◌, List, [], ◌∷◌, Option, Some, None}

-- a byte from one to another
abbrev pub is_from : ℕ → ℕ → ℕ → Bool
is_from least greatest byte = nat_le least byte && nat_le byte greatest

-- a byte that goes on with a character
abbrev pub goes_on : ℕ → Bool
goes_on byte = is_from 0x80 0xBF byte

-- two bytes that are a character
abbrev pub are_two : ℕ → ℕ → Bool
are_two first second = is_from 0xC2 0xDF first && goes_on second

-- two bytes that begin a character of three
abbrev pub begin_three : ℕ → ℕ → Bool
begin_three first second =
    (first == 0xE0 && is_from 0xA0 0xBF second)
    || (is_from 0xE1 0xEC first && goes_on second)
    || (first == 0xED && is_from 0x80 0x9F second)
    || (is_from 0xEE 0xEF first && goes_on second)

-- two bytes that begin a character of four
abbrev pub begin_four : ℕ → ℕ → Bool
begin_four first second =
    (first == 0xF0 && is_from 0x90 0xBF second)
    || (is_from 0xF1 0xF3 first && goes_on second)
    || (first == 0xF4 && is_from 0x80 0x8F second)

-- the first byte is there and goes on, and so are and do the first two
abbrev pub one_goes_on : List ℕ → Bool
one_goes_on (byte ∷ bytes) = goes_on byte
one_goes_on [] = false

abbrev pub two_go_on : List ℕ → Bool
two_go_on (byte ∷ bytes) = goes_on byte && one_goes_on bytes
two_go_on [] = false

-- how many bytes a character has after its first one, which is not of ASCII, where these bytes come
-- after that; none if it begins no character
abbrev pub more_after : ℕ → List ℕ → Option ℕ
more_after first [] = None
more_after first (second ∷ bytes) =
    if are_two first second then Some 1
    else (if begin_three first second && one_goes_on bytes then Some 2
    else (if begin_four first second && two_go_on bytes then Some 3 else None))

-- the same after any first byte
abbrev pub following : ℕ → List ℕ → Option ℕ
following first bytes = if nat_lt first 0x80 then Some 0 else more_after first bytes
