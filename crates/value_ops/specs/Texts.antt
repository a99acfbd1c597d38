-- Statement. Texts as lists of bytes.
use Rattle.std.specs.Prelude.{ℕ, Bool, nat_lt, List, IsTrue}
use Rattle.std.specs.List.{list_all}

-- each of the numbers is a byte
abbrev pub are_bytes : List ℕ → Bool
are_bytes numbers = list_all (λ number. nat_lt number 256) numbers

-- the numbers are those of a text
abbrev pub IsText : List ℕ → Type 0
IsText numbers = IsTrue (are_bytes numbers)
