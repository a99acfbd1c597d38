-- Statement. The text of a number that is counted in the smallest unit.
use Rattle.std.specs.Prelude.{ℕ, ◌-◌, ◌==◌, if◌then◌else◌, ℤ, List, [], ◌∷◌, ◌++◌, codes, drop}
use Rattle.std.specs.Prelude.{length, replicate, take, unsigned_abs}
use Rattle.std.specs.Fmt.{decimal, sign_text}
use Rattle.std.specs.Int.{is_negative}

-- these digits, or a zero where there are none
abbrev pub or_zero : List ℕ → List ℕ
or_zero [] = codes "0"
or_zero (digit ∷ digits) = digit ∷ digits

-- a size by its digits, with a point before the last ones, of which there are this many: where the
-- size has fewer, zeros stand before it
abbrev pub pointed : ℕ → List ℕ → List ℕ
pointed digits size =
    if digits == 0 then size
    else or_zero (take (length size - digits) size) ++ codes "."
    ++ replicate (digits - length size) 48 ++ drop (length size - digits) size

-- a number of smallest units, with `digits` digits after the point
abbrev pub decimal_text : ℕ → ℤ → List ℕ
decimal_text digits number =
    sign_text (is_negative number) ++ pointed digits (decimal (unsigned_abs number))
