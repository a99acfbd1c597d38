-- Rows that answers are put into one after the other.
use Rattle.std.proofs.Common.{◌≡◌, ◌<◌, ◌≤◌, ℕ, ◌+◌, ◌∙◌, List, Option, None, length, get_or, sym}
use Rattle.value_ops.specs.declared.value.Value.{Value}
use Rattle.expressions.specs.Expressions.{Expression}
use Rattle.slow_eval.specs.Rows.{IsPut}
use Rattle.std.proofs.lemmas.List.{get_or_default}

-- what is read inside of a row is the answer there
pub read_answer : (row : List (Option Value)) (place : ℕ) (answer : Option Value)
    → answer ≡ get_or row place answer → place < length row → get_or row place None ≡ answer
read_answer row place answer is inside = get_or_default row place None answer inside ∙ sym is

-- a row that is joined up to the place `at` of the other row
pub record IsBegun (expression : Expression) (left : Value)
    (right : List (Option Value)) (from at : ℕ)
    (old new : List (Option Value)) : Type 0 where
  pub count : length new ≡ length old
  pub before : (place : ℕ) → place < from → get_or new place None ≡ get_or old place None
  pub done : (place : ℕ) → place < at
      → IsPut expression left (get_or right place None) (get_or old (from + place) None)
      (get_or new (from + place) None)
  pub later : (place : ℕ) → at ≤ place
      → get_or new (from + place) None ≡ get_or old (from + place) None
