-- Statement. How numbers compare.
use Rattle.std.specs.Prelude.{ℤ, int_lt, int_le, Bool, not}
use Rattle.std.specs.Ordering.{int_eq}
use Rattle.language_base.specs.declared.compare.Compare.{Compare}
use Rattle.language_base.specs.declared.compare.Compare.TheVariants.{Lt, Le, Gt, Ge, Eq, Ne}

-- whether the comparison holds of two numbers
abbrev pub compares : Compare → ℤ → ℤ → Bool
compares Lt first second = int_lt first second
compares Le first second = int_le first second
compares Gt first second = int_lt second first
compares Ge first second = int_le second first
compares Eq first second = int_eq first second
compares Ne first second = not (int_eq first second)
