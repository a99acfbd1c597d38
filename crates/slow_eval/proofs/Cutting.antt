-- Fronts of words, and what is after them.
use Rattle.std.proofs.Common.{append_assoc, ◌≡◌, ◌≤◌, ℕ, ◌+◌, ◌-◌, ◌++◌, ◌∙◌, List, length, take}
use Rattle.std.proofs.Common.{drop, refl, sym, subst, ap, arith, length-append, length-take-le}
use Rattle.std.proofs.Common.{take-append-drop, take_at, drop_at, take_all, length-drop}
use Rattle.item_schema.specs.declared.column.Column.{Column}
use Rattle.rate_expr.specs.Words.{Word, IsWordOf}
use Rattle.rate_expr.proofs.Wording.{word_parts}

-- where the two parts of a front stand in the word
pub record IsCut (word : Word) (place : ℕ) (first second : Word) : Type 0 where
  pub count : length first + length second ≡ place
  pub front : first ≡ take (length first) word
  pub rest : second ≡ take (length second) (drop (length first) word)

pub cut : (word : Word) (place : ℕ) (first second : Word) → place ≤ length word
    → take place word ≡ first ++ second → IsCut word place first second
cut word place first second inside whole =
    let after = drop place word in
    let all : word ≡ first ++ (second ++ after) =
    sym (take-append-drop place word) ∙ ap (λ u. u ++ drop place word) whole
    ∙ append_assoc first second (drop place word) in
    record {
      count = sym (length-append first second) ∙ sym (ap length whole)
          ∙ length-take-le place word inside;
      front = sym (ap (take (length first)) all
          ∙ take_at first (second ++ drop place word) (length first) refl);
      rest = sym (ap (λ u. take (length second) (drop (length first) u)) all
          ∙ ap (take (length second))
          (drop_at first (second ++ drop place word) (length first) refl)
          ∙ take_at second (drop place word) (length second) refl);
    }

-- both parts of a word of the columns are such words
pub front_word : (columns : List Column) (word : Word) (place : ℕ) → IsWordOf columns word
    → IsWordOf columns (take place word)
front_word columns word place is =
    (word_parts columns (take place word) (drop place word)
    (subst (IsWordOf columns) (sym (take-append-drop place word)) is)).0

pub rest_word : (columns : List Column) (word : Word) (place : ℕ) → IsWordOf columns word
    → IsWordOf columns (drop place word)
rest_word columns word place is =
    (word_parts columns (take place word) (drop place word)
    (subst (IsWordOf columns) (sym (take-append-drop place word)) is)).1

-- all that is after a front
pub rest_is : (word : Word) (place : ℕ)
    → take (length word - place) (drop place word) ≡ drop place word
rest_is word place =
    take_all (length word - place) (drop place word) (omega (arith, length-drop place word))
