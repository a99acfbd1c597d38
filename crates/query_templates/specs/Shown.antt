-- For the prover. The names that the table of the program holds.
use Rattle.std.specs.Prelude.{ℕ, List}
use Rattle.query_templates.specs.declared.language.LanguageName.{LanguageName}

-- a name as a plain list
abbrev pub shown : LanguageName → List ℕ
shown name = name.0.now
