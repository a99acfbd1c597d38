-- Statement. The sentence for the forms of what has to stand at a place. The words are constants of
-- the code.
use Rattle.std.specs.Prelude.{ℕ, List}
use Rattle.query_forms.specs.declared.term_place.TermPlace.{TermPlace}
use Rattle.query_forms.specs.declared.term_place.TermPlace.TheVariants.{Mode, Column, Kind, Query}
use Rattle.query_forms.specs.declared.term_place.TermPlace.TheVariants.{Rate, Pred, Literal, Expr}
use Rattle.query_forms.specs.declared.term_place.TermPlace.TheVariants.{Compare, Name, Number, Text}
use Rattle.query_forms.specs.declared.term_place.TermPlace.TheVariants.{Digits, Index, Key}
use Rattle.explanation.specs.declared.form_sentence.TheConstants as words
use Rattle.explanation.specs.declared.expectation.Standing.{Standing}
use Rattle.explanation.specs.declared.expectation.Standing.TheVariants.{Top, In, Nothing}

-- the forms of a place in a call
unfoldable pub forms_of_place : TermPlace → List ℕ
forms_of_place Mode = words.MODE.now
forms_of_place Column = words.COLUMN.now
forms_of_place Kind = words.KIND.now
forms_of_place Query = words.QUERY.now
forms_of_place Key = words.KEY.now
forms_of_place Rate = words.RATE.now
forms_of_place Pred = words.PREDICATE.now
forms_of_place Literal = words.LITERAL.now
forms_of_place Expr = words.EXPRESSION.now
forms_of_place Compare = words.COMPARISON.now
forms_of_place Name = words.NAME.now
forms_of_place Number = words.NUMBER.now
forms_of_place Text = words.TEXT.now
forms_of_place Digits = words.DIGITS.now
forms_of_place Index = words.INDEX.now

-- the forms of what has to stand at a place
abbrev pub forms_of : Standing → List ℕ
forms_of Top = words.TOP.now
forms_of (In place) = forms_of_place place
forms_of Nothing = words.TOP.now
