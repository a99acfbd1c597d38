-- Statement. What may stand at a place of a body: by the forms of the language, but for the ranges
-- of numbers and for what stands inside of a call.
use Rattle.std.specs.Prelude.{ℕ, Bool, true, false, ◌||◌, List, [], ◌∷◌, Option, Some, None}
use Rattle.language_base.specs.declared.span.Span.{Span}
use Rattle.query_tokens.specs.declared.token.Token.{Token}
use Rattle.query_tokens.specs.declared.token.TokenKind.{TokenKind}
use Rattle.query_tokens.specs.declared.token.TokenKind.TheVariants as kind
use Rattle.query_forms.specs.Forms.{fits_string, fits_word, places_of}
use Rattle.query_forms.specs.declared.term_place.TermPlace.{TermPlace}
use Rattle.query_forms.specs.declared.term_place.TermPlace.TheVariants.{Mode, Column, Kind, Query}
use Rattle.query_forms.specs.declared.term_place.TermPlace.TheVariants.{Key, Rate, Pred, Literal}
use Rattle.query_forms.specs.declared.term_place.TermPlace.TheVariants.{Expr, Compare, Name, Number}
use Rattle.query_forms.specs.declared.term_place.TermPlace.TheVariants.{Text, Digits, Index}
use Rattle.query_templates.specs.Names.{part_at}

-- all kinds of places
abbrev pub all_places : List TermPlace
all_places =
    Mode ∷ Column ∷ Kind ∷ Query ∷ Key ∷ Rate ∷ Pred ∷ Literal ∷ Expr ∷ Compare ∷ Name ∷ Number
    ∷ Text ∷ Digits ∷ Index ∷ []

-- a number may stand there
abbrev pub takes_number : TermPlace → Bool
takes_number Literal = true
takes_number Expr = true
takes_number Number = true
takes_number Digits = true
takes_number Index = true
takes_number _ = false

-- the name of a column may
abbrev pub takes_column : TermPlace → Bool
takes_column Key = true
takes_column Expr = true
takes_column Name = true
takes_column _ = false

-- a query may, or a rate, a test, a comparison, or a part of a stream
abbrev pub takes_query : TermPlace → Bool
takes_query Query = true
takes_query _ = false

abbrev pub takes_rate : TermPlace → Bool
takes_rate Rate = true
takes_rate _ = false

abbrev pub takes_test : TermPlace → Bool
takes_test Pred = true
takes_test _ = false

abbrev pub takes_comparison : TermPlace → Bool
takes_comparison Compare = true
takes_comparison _ = false

abbrev pub takes_stream_part : TermPlace → Bool
takes_stream_part Mode = true
takes_stream_part Column = true
takes_stream_part Kind = true
takes_stream_part _ = false

-- one term may stand at both places
abbrev pub go_together : TermPlace → TermPlace → Bool
go_together Mode other = takes_stream_part other
go_together Column other = takes_stream_part other
go_together Kind other = takes_stream_part other
go_together Query other = takes_query other
go_together Key other = takes_column other
go_together Rate other = takes_rate other
go_together Pred other = takes_test other
go_together Literal other = takes_number other || fits_string other
go_together Expr other = takes_number other || takes_column other
go_together Compare other = takes_comparison other
go_together Name other = takes_column other
go_together Number other = takes_number other
go_together Text other = fits_string other
go_together Digits other = takes_number other
go_together Index other = takes_number other

-- a word of these bytes may
abbrev pub takes_word : TermPlace → Option (List ℕ) → Bool
takes_word at None = false
takes_word at (Some bytes) = fits_word at bytes

-- a token of this kind may
abbrev pub takes_kind : TermPlace → TokenKind → Option (List ℕ) → Bool
takes_kind at kind.Word bytes = takes_word at bytes
takes_kind at kind.Number bytes = takes_number at
takes_kind at kind.Text bytes = fits_string at
takes_kind at _ bytes = false

unfoldable pub takes_token : List ℕ → TermPlace → Token → Bool
takes_token text at token = takes_kind at token.kind (part_at text token.span)

-- the places of the arguments of a call with this head, if it may
abbrev pub inner_places : TermPlace → Option (List ℕ) → ℕ → Option (List TermPlace)
inner_places at None count = None
inner_places at (Some head) count = places_of at head count

unfoldable pub places_inside : List ℕ → TermPlace → Span → ℕ → Option (List TermPlace)
places_inside text at head count = inner_places at (part_at text head) count
