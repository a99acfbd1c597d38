-- Statement. Numbers, and why a computation has none.
use Rattle.std.specs.Prelude.{ℤ, pos, negsuc, ◌+ℤ◌, ◌^◌, nat_lt, if◌then◌else◌, List, fold}
use Rattle.value_ops.specs.declared.scalar.Scalar.{Scalar}
use Rattle.value_ops.specs.declared.scalar.Scalar.TheVariants.{Number, Overflow}

-- the number, or overflow where it is not from -2^63 to 2^63 - 1
abbrev pub in_range : ℤ → Scalar
in_range (pos n) = if nat_lt n (2 ^ 63) then Number (pos n) else Overflow
in_range (negsuc n) = if nat_lt n (2 ^ 63) then Number (negsuc n) else Overflow

-- what is said of two numbers, or else the leftmost operand that is no number
abbrev pub on_numbers : (ℤ → ℤ → Scalar) → Scalar → Scalar → Scalar
on_numbers said (Number first) (Number second) = said first second
on_numbers said (Number first) failed = failed
on_numbers said failed second = failed

-- the exact sum of two numbers, in range, or else the leftmost operand that is no number
abbrev pub add : Scalar → Scalar → Scalar
add first second = on_numbers (λ a b. in_range (a +ℤ b)) first second

-- a first value and then each of the numbers, added from left to right
abbrev pub total : Scalar → List ℤ → Scalar
total first numbers = fold (λ sum number. add sum (Number number)) first numbers
