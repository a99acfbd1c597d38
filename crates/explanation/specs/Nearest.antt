-- Statement. What is often meant by a word that begins no form of its place, or a form with other
-- arguments. It is looked up in the rows for what has to stand there, from the first on. Rows and
-- words are constants of the code.
use Rattle.std.specs.Prelude.{ℕ, Bool, true, false, ◌&&◌, List, [], ◌∷◌, map, Option, Some, None}
use Rattle.std.specs.Prelude.{if◌then◌else◌}
use Rattle.std.specs.Borrow.{Bor}
use Rattle.std.specs.Char.{is_ascii_uppercase}
use Rattle.std.specs.List.{list_any}
use Rattle.std.specs.Str.{bytes_eq}
use Rattle.query_forms.specs.declared.term_place.TermPlace.{TermPlace}
use Rattle.query_forms.specs.declared.term_place.TermPlace.TheVariants as place
use Rattle.explanation.specs.declared.suggestion.TheConstants.{LOWER_CASE}
use Rattle.explanation.specs.declared.nearest_words.TheConstants as words
use Rattle.explanation.specs.declared.expectation.Standing.{Standing}
use Rattle.explanation.specs.declared.expectation.Standing.TheVariants.{Top, In, Nothing}

-- rows of texts as lists of their bytes
abbrev pub shown_row : List (Bor (List ℕ)) → List (List ℕ)
shown_row row = map (λ text. text.now) row

abbrev pub shown_rows : List (List (Bor (List ℕ))) → List (List (List ℕ))
shown_rows rows = map shown_row rows

-- the rows for a place in a call
unfoldable pub rows_of : TermPlace → List (List (List ℕ))
rows_of place.Kind = map (λ row. map (λ text. text.now) row) words.KINDS
rows_of place.Query = map (λ row. map (λ text. text.now) row) words.QUERIES
rows_of place.Key = map (λ row. map (λ text. text.now) row) words.KEYS
rows_of place.Rate = map (λ row. map (λ text. text.now) row) words.RATES
rows_of place.Pred = map (λ row. map (λ text. text.now) row) words.PREDICATES
rows_of place.Expr = map (λ row. map (λ text. text.now) row) words.EXPRESSIONS
rows_of place.Compare = map (λ row. map (λ text. text.now) row) words.COMPARISONS
rows_of place.Number = map (λ row. map (λ text. text.now) row) words.NUMBERS
rows_of _ = []

-- the rows for what has to stand at a place
unfoldable pub rows_at : Standing → List (List (List ℕ))
rows_at Top = map (λ row. map (λ text. text.now) row) words.TOPS
rows_at (In place) = rows_of place
rows_at Nothing = []

-- the sentence of a row with this word
abbrev pub said_in : List (List ℕ) → List ℕ → Option (List ℕ)
said_in (known ∷ sentence ∷ []) word = if bytes_eq known word then Some sentence else None
said_in _ word = None

-- the first sentence, if there is one, or else the second
abbrev pub said_or : Option (List ℕ) → Option (List ℕ) → Option (List ℕ)
said_or (Some sentence) other = Some sentence
said_or None other = other

-- the sentence of the first row with this word
abbrev pub nearest_in : List (List (List ℕ)) → List ℕ → Option (List ℕ)
nearest_in [] word = None
nearest_in (row ∷ rows) word = said_or (said_in row word) (nearest_in rows word)

-- words of the language may stand at a place in a call, and not only names, numbers or strings
abbrev pub has_words : TermPlace → Bool
has_words place.Name = false
has_words place.Number = false
has_words place.Literal = false
has_words place.Text = false
has_words place.Digits = false
has_words place.Index = false
has_words _ = true

-- the same for what has to stand at a place
abbrev pub has_forms : Standing → Bool
has_forms (In place) = has_words place
has_forms _ = true

-- some letter is a capital
abbrev pub has_upper : List ℕ → Bool
has_upper word = list_any is_ascii_uppercase word

-- what is often meant by the word where this has to stand; no word of the language has a capital
abbrev pub nearest_to : Standing → List ℕ → Option (List ℕ)
nearest_to standing word = said_or (nearest_in (rows_at standing) word)
    (if has_forms standing && has_upper word then Some LOWER_CASE.now else None)
