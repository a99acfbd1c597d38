-- Statement. What a test that may run out of memory tells.
use Rattle.std.specs.Prelude.{◌↔◌, Bool, IsTrue, Result, Ok, Err}

-- the answer, if there is one, says whether it is so
abbrev pub Tells : {E : Type 0} → Result Bool E → Type 0 → Type 0
Tells (Ok told) so = IsTrue told ↔ so
Tells (Err error) so = Unit {0}
