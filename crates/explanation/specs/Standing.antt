-- Statement. What has to stand at a place of a text, by the calls around it: from the outermost one
-- on, the forms of the language say what each of its arguments is.
use Rattle.std.specs.Prelude.{ℕ, zero, suc, ◌+◌, ◌-◌, ◌==◌, ◌&&◌, List, codes, slice_get, take}
use Rattle.std.specs.Prelude.{drop, Option, Some, None, if◌then◌else◌}
use Rattle.std.specs.Str.{bytes_eq}
use Rattle.query_forms.specs.Forms.{places_of}
use Rattle.query_forms.specs.declared.term_place.TermPlace.{TermPlace}
use Rattle.query_forms.specs.declared.term_place.TermPlace.TheVariants as place
use Rattle.explanation.specs.Calls.{call_at, level_of}
use Rattle.explanation.specs.declared.calls.Word.{Word}
use Rattle.explanation.specs.declared.expectation.Standing.{Standing}
use Rattle.explanation.specs.declared.expectation.Standing.TheVariants.{Top, In, Nothing}

-- the bytes of a word
abbrev pub word_in : List ℕ → Word → List ℕ
word_in text word = take (word.to - word.from) (drop word.from text)

-- an argument of a stream, a let or a main query
abbrev pub top_argument : List ℕ → ℕ → Standing
top_argument head argument =
    if bytes_eq head (codes "stream")
    then In (if argument == 0 then place.Mode else place.Column)
    else (if bytes_eq head (codes "let") && (argument == 0) then In place.Name else In place.Query)

-- an argument, by the places of all arguments
abbrev pub argument_in : Option (List TermPlace) → ℕ → Option TermPlace
argument_in (Some places) argument = slice_get places argument
argument_in None argument = None

-- the first place, if there is one, or else the second
abbrev pub place_or : Option TermPlace → Option TermPlace → Option TermPlace
place_or (Some place) other = Some place
place_or None other = other

-- what has to stand at such a place
abbrev pub standing_of : Option TermPlace → Standing
standing_of (Some place) = In place
standing_of None = Nothing

-- an argument of a call with this head, given what the call has to be; forms have one to four
-- arguments
abbrev pub argument_of : Standing → List ℕ → ℕ → Standing
argument_of Top head argument = top_argument head argument
argument_of (In place) head argument = standing_of (place_or
    (place_or (argument_in (places_of place head 1) argument)
    (argument_in (places_of place head 2) argument))
    (place_or (argument_in (places_of place head 3) argument)
    (argument_in (places_of place head 4) argument)))
argument_of Nothing head argument = Nothing

-- after a text, by the calls at the first levels alone
abbrev pub standing_in : List ℕ → ℕ → Standing
standing_in text zero = Top
standing_in text (suc level) = let call = call_at text (level + 1) in
    argument_of (standing_in text level) (word_in text call.head) call.argument

-- at a place of the text
abbrev pub standing_at : List ℕ → ℕ → Standing
standing_at text place = standing_in (take place text) (level_of (take place text))
