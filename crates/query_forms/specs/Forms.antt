-- Statement. The forms: at each place the words, numbers, strings and calls that may stand there.
use Rattle.std.specs.Prelude.{ℕ, ℤ, pos, Bool, true, false, ◌&&◌, ◌||◌, ◌==◌, List, [], ◌∷◌, length}
use Rattle.std.specs.Prelude.{nat_le, replicate, codes, Option, Some, None, if◌then◌else◌}
use Rattle.std.specs.Str.{bytes_eq}
use Rattle.language_base.specs.declared.span.Span.{Span}
use Rattle.query_trees.specs.Trees.{first_of_two}
use Rattle.query_forms.specs.declared.term_place.TermPlace.{TermPlace}
use Rattle.query_forms.specs.declared.term_place.TermPlace.TheVariants.{Mode, Column, Kind, Query}
use Rattle.query_forms.specs.declared.term_place.TermPlace.TheVariants.{Rate, Pred, Literal, Expr}
use Rattle.query_forms.specs.declared.term_place.TermPlace.TheVariants.{Compare, Name, Number, Text}
use Rattle.query_forms.specs.declared.term_place.TermPlace.TheVariants.{Digits, Index, Key}
use Rattle.query_forms.specs.Terms.{Terms, word, number, string, call, count_of}

-- a head word and the places of its arguments
pub record Form : Type 0 where
  pub head : List ℕ
  pub arguments : List TermPlace

abbrev form : List ℕ → List TermPlace → Form
form head arguments = record { head = head; arguments = arguments }

-- the calls that may stand at each place
abbrev pub forms_at : TermPlace → List Form
forms_at Column = form (codes "col") (Name ∷ Kind ∷ []) ∷ []
forms_at Kind = form (codes "fixed") (Digits ∷ []) ∷ []
forms_at Query =
    form (codes "atom") (Pred ∷ Expr ∷ [])
    ∷ form (codes "eps") (Number ∷ [])
    ∷ form (codes "or") (Query ∷ Query ∷ [])
    ∷ form (codes "split") (Query ∷ Query ∷ Expr ∷ [])
    ∷ form (codes "iter") (Query ∷ Number ∷ Expr ∷ [])
    ∷ form (codes "combine") (Query ∷ Query ∷ Expr ∷ [])
    ∷ form (codes "apply") (Query ∷ Expr ∷ [])
    ∷ form (codes "compose") (Query ∷ Query ∷ [])
    ∷ form (codes "collect") (Key ∷ Pred ∷ Rate ∷ Query ∷ [])
    ∷ []
forms_at Key =
    form (codes "key") (replicate 2 Name)
    ∷ form (codes "key") (replicate 3 Name)
    ∷ form (codes "key") (replicate 4 Name)
    ∷ []
forms_at Rate =
    form (codes "item") (Pred ∷ [])
    ∷ form (codes "seq") (Rate ∷ Rate ∷ [])
    ∷ form (codes "alt") (Rate ∷ Rate ∷ [])
    ∷ form (codes "star") (Rate ∷ [])
    ∷ []
forms_at Pred =
    form (codes "eq") (Name ∷ Literal ∷ [])
    ∷ form (codes "ne") (Name ∷ Literal ∷ [])
    ∷ form (codes "lt") (Name ∷ Number ∷ [])
    ∷ form (codes "le") (Name ∷ Number ∷ [])
    ∷ form (codes "gt") (Name ∷ Number ∷ [])
    ∷ form (codes "ge") (Name ∷ Number ∷ [])
    ∷ form (codes "between") (Name ∷ Number ∷ Number ∷ [])
    ∷ form (codes "isnum") (Name ∷ [])
    ∷ form (codes "and") (Pred ∷ Pred ∷ [])
    ∷ form (codes "or") (Pred ∷ Pred ∷ [])
    ∷ form (codes "not") (Pred ∷ [])
    ∷ []
forms_at Expr =
    form (codes "neg") (Expr ∷ [])
    ∷ form (codes "abs") (Expr ∷ [])
    ∷ form (codes "add") (Expr ∷ Expr ∷ [])
    ∷ form (codes "sub") (Expr ∷ Expr ∷ [])
    ∷ form (codes "mul") (Expr ∷ Expr ∷ [])
    ∷ form (codes "div") (Expr ∷ Expr ∷ [])
    ∷ form (codes "rem") (Expr ∷ Expr ∷ [])
    ∷ form (codes "min") (Expr ∷ Expr ∷ [])
    ∷ form (codes "max") (Expr ∷ Expr ∷ [])
    ∷ form (codes "if") (Compare ∷ Expr ∷ Expr ∷ [])
    ∷ form (codes "tsum") (Name ∷ [])
    ∷ form (codes "tcount") (Name ∷ [])
    ∷ form (codes "tmax") (Name ∷ Expr ∷ [])
    ∷ form (codes "tmin") (Name ∷ Expr ∷ [])
    ∷ form (codes "tget") (Name ∷ Text ∷ Expr ∷ [])
    ∷ form (codes "part") (Name ∷ Index ∷ [])
    ∷ form (codes "rec") (replicate 2 Expr)
    ∷ form (codes "rec") (replicate 3 Expr)
    ∷ form (codes "rec") (replicate 4 Expr)
    ∷ form (codes "rec") (replicate 5 Expr)
    ∷ form (codes "rec") (replicate 6 Expr)
    ∷ form (codes "rec") (replicate 7 Expr)
    ∷ form (codes "rec") (replicate 8 Expr)
    ∷ []
forms_at Compare =
    form (codes "lt") (Expr ∷ Expr ∷ [])
    ∷ form (codes "le") (Expr ∷ Expr ∷ [])
    ∷ form (codes "gt") (Expr ∷ Expr ∷ [])
    ∷ form (codes "ge") (Expr ∷ Expr ∷ [])
    ∷ form (codes "eq") (Expr ∷ Expr ∷ [])
    ∷ form (codes "ne") (Expr ∷ Expr ∷ [])
    ∷ []
forms_at _ = []

-- the places of the arguments of the first of these forms that has this head word and
-- number of arguments
abbrev pub places_in : List Form → List ℕ → ℕ → Option (List TermPlace)
places_in [] head count = None
places_in (first ∷ rest) head count =
    if bytes_eq first.head head && (length first.arguments == count) then Some first.arguments
    else places_in rest head count

-- the places of the arguments, where a call of this head word with this many has a
-- form of its place
abbrev pub places_of : TermPlace → List ℕ → ℕ → Option (List TermPlace)
places_of place head count = places_in (forms_at place) head count

-- the words that may stand at each place
abbrev pub fits_word : TermPlace → List ℕ → Bool
fits_word Mode bytes = bytes_eq bytes (codes "plain") || bytes_eq bytes (codes "header")
fits_word Kind bytes = bytes_eq bytes (codes "int") || bytes_eq bytes (codes "text")
fits_word Query bytes = true
fits_word Key bytes = true
fits_word Rate bytes = bytes_eq bytes (codes "eps")
fits_word Pred bytes = bytes_eq bytes (codes "any")
fits_word Expr bytes = true
fits_word Name bytes = true
fits_word _ bytes = false

-- the number is from 1 to 9
abbrev pub is_digits : ℤ → Bool
is_digits (pos n) = nat_le 1 n && nat_le n 9
is_digits _ = false

-- the number is from 1 to 8
abbrev pub is_index : ℤ → Bool
is_index (pos n) = nat_le 1 n && nat_le n 8
is_index _ = false

-- the numbers that may stand at each place
abbrev pub fits_number : TermPlace → ℤ → Bool
fits_number Literal value = true
fits_number Expr value = true
fits_number Number value = true
fits_number Digits value = is_digits value
fits_number Index value = is_index value
fits_number _ value = false

-- whether a string may stand at the place
abbrev pub fits_string : TermPlace → Bool
fits_string Literal = true
fits_string Text = true
fits_string _ = false

-- the place of a term that has none of the forms of its place, or else what is unfit inside it
abbrev pub unfit_in : Option (List TermPlace) → Span → (List TermPlace → Option Span) → Option Span
unfit_in None span inside = Some span
unfit_in (Some places) span inside = inside places

-- The place of the first term, in text order, that has none of the forms of its place, where the
-- terms themselves have these places. A term comes before its arguments.
abbrev pub first_unfit : List TermPlace → Terms → Option Span
first_unfit (place ∷ places) (word bytes span rest) =
    if fits_word place bytes then first_unfit places rest else Some span
first_unfit (place ∷ places) (number value span rest) =
    if fits_number place value then first_unfit places rest else Some span
first_unfit (place ∷ places) (string bytes span rest) =
    if fits_string place then first_unfit places rest else Some span
first_unfit (place ∷ places) (call head arguments span rest) = first_of_two
    (unfit_in (places_of place head (count_of arguments)) span
    (λ inner. first_unfit inner arguments))
    (first_unfit places rest)
first_unfit _ _ = None
