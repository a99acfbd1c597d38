-- Statement. Predicates, regardless of how they lie in memory.
use Rattle.std.specs.Prelude.{ℕ, ℤ, List}
use Rattle.language_base.specs.declared.compare.Compare.{Compare}
use Rattle.language_base.specs.declared.compare.Compare.TheVariants.{Lt, Le, Gt, Ge, Eq, Ne}

-- a test of the field in a column, counted from 0, or tests that are joined
pub data Predicate : Type 0 where
  any : Predicate
  eq : ℕ → ℤ → Predicate
  ne : ℕ → ℤ → Predicate
  lt : ℕ → ℤ → Predicate
  le : ℕ → ℤ → Predicate
  gt : ℕ → ℤ → Predicate
  ge : ℕ → ℤ → Predicate
  between : ℕ → ℤ → ℤ → Predicate
  eq_text : ℕ → List ℕ → Predicate
  ne_text : ℕ → List ℕ → Predicate
  is_num : ℕ → Predicate
  conjunction : Predicate → Predicate → Predicate
  disjunction : Predicate → Predicate → Predicate
  negation : Predicate → Predicate

-- the test that compares the field with a number
abbrev pub comparison : Compare → ℕ → ℤ → Predicate
comparison Lt column number = lt column number
comparison Le column number = le column number
comparison Gt column number = gt column number
comparison Ge column number = ge column number
comparison Eq column number = eq column number
comparison Ne column number = ne column number
