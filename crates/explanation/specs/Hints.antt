-- Statement. Which hint fits the place of a refusal, by the bytes there and around it and by the
-- head of the term.
use Rattle.std.specs.Prelude.{ℕ, ◌+◌, ◌-◌, Bool, false, ◌==◌, ◌&&◌, ◌||◌, nat_le, List, [], length}
use Rattle.std.specs.Prelude.{take, drop, codes, slice_get, Option, Some, None, if◌then◌else◌}
use Rattle.std.specs.Char.{is_ascii_digit}
use Rattle.std.specs.List.{prefix_len, take_while}
use Rattle.std.specs.Str.{bytes_eq}
use Rattle.language_base.specs.declared.refusal.Refusal.{Refusal}
use Rattle.language_base.specs.declared.rule.Rule.{Rule}
use Rattle.language_base.specs.declared.rule.Rule.TheVariants as rule
use Rattle.language_base.specs.declared.span.Span.{Span}
use Rattle.query_tokens.specs.Raw.{is_word_byte}
use Rattle.explanation.specs.declared.hint.Hint.{Hint}
use Rattle.explanation.specs.declared.hint.Hint.TheVariants.{Point, SingleQuote, SmartQuote}
use Rattle.explanation.specs.declared.hint.Hint.TheVariants.{BadString, Comment, Comparison}
use Rattle.explanation.specs.declared.hint.Hint.TheVariants.{Arithmetic, Connective, Mark}
use Rattle.explanation.specs.declared.hint.Hint.TheVariants.{ByteOrderMark, NotAscii, MissingComma}
use Rattle.explanation.specs.declared.hint.Hint.TheVariants.{MissingTerm, NoHead, EmptyWord}
use Rattle.explanation.specs.declared.hint.Hint.TheVariants.{TwoTypes, OtherType, Iterated}
use Rattle.explanation.specs.declared.hint.Hint.TheVariants.{ValueCells, RateItem}

-- the bytes of a term
abbrev pub term_at : List ℕ → Span → List ℕ
term_at text span = take (span.to - span.from) (drop span.from text)

-- the word before the brackets of a call; empty if the term is a single word or begins with none
abbrev pub head_of : List ℕ → List ℕ
head_of term =
    if prefix_len is_word_byte term == length term then [] else take_while is_word_byte term

-- it is a digit
abbrev pub is_digit : Option ℕ → Bool
is_digit (Some byte) = is_ascii_digit byte
is_digit None = false

-- a slash or a minus begins a comment in other languages, if another one or a star comes after it
abbrev pub begins_comment : ℕ → Option ℕ → Bool
begins_comment byte None = false
begins_comment byte (Some after) =
    (byte == 47 && (after == 47 || after == 42)) || (byte == 45 && after == 45)

-- three bytes of UTF-8: a byte order mark, or a quote in print
abbrev pub foreign_of : ℕ → ℕ → ℕ → Hint
foreign_of byte second third =
    if byte == 239 && second == 187 && third == 191 then ByteOrderMark
    else (if byte == 226 && second == 128 && nat_le 152 third && nat_le third 159 then SmartQuote
    else NotAscii)

-- the hint for a byte that is not ASCII, by the two bytes after it
abbrev pub foreign_hint : ℕ → Option ℕ → Option ℕ → Hint
foreign_hint byte (Some second) (Some third) = foreign_of byte second third
foreign_hint byte _ _ = NotAscii

-- the hint for a byte that begins no token, by that byte alone
abbrev pub mark_hint : ℕ → Option Hint
mark_hint byte =
    if byte == 39 then Some SingleQuote
    else (if byte == 34 then Some BadString
    else (if byte == 60 || byte == 62 || byte == 61 || byte == 33 then Some Comparison
    else (if byte == 43 || byte == 45 || byte == 42 || byte == 47 || byte == 37 then Some Arithmetic
    else (if byte == 38 || byte == 124 then Some Connective
    else (if byte == 91 || byte == 93 || byte == 123 || byte == 125 || byte == 59 || byte == 58
    then Some Mark else None)))))

-- the same by the bytes before and after it too
abbrev pub ascii_hint : Option ℕ → ℕ → Option ℕ → Option Hint
ascii_hint before byte after =
    if byte == 46 then (if is_digit before then Some Point else None)
    else (if begins_comment byte after then Some Comment else mark_hint byte)

-- the hint for a byte that begins no token and stands at this place of the text
abbrev pub token_hint : List ℕ → ℕ → ℕ → Option Hint
token_hint text from byte =
    if nat_le 128 byte
    then Some (foreign_hint byte (slice_get text (from + 1)) (slice_get text (from + 2)))
    else ascii_hint (slice_get text (from - 1)) byte (slice_get text (from + 1))

-- the hint for a token that may not stand where it does, by its first byte
abbrev pub piece_hint : ℕ → Option Hint
piece_hint byte =
    if byte == 40 then Some NoHead
    else (if byte == 41 || byte == 44 then Some MissingTerm
    else (if byte == 43 || byte == 45 then Some Arithmetic else Some MissingComma))

-- the hint for a call whose operands, or the values of whose expression, have the wrong types
abbrev pub type_hint : List ℕ → Option Hint
type_hint head =
    if bytes_eq head (codes "or") then Some TwoTypes
    else (if bytes_eq head (codes "iter") then Some Iterated
    else (if bytes_eq head (codes "split") || bytes_eq head (codes "combine")
    || bytes_eq head (codes "apply") then Some OtherType else None))

-- the hint for a rule that is broken at a place which begins with this byte
abbrev pub hint_at : Rule → List ℕ → Span → ℕ → Option Hint
hint_at rule.Token text span byte = token_hint text span.from byte
hint_at rule.Term text span byte = piece_hint byte
hint_at rule.Name text span byte =
    if bytes_eq (term_at text span) (codes "eps") then Some EmptyWord else None
hint_at rule.Mismatch text span byte = type_hint (head_of (term_at text span))
hint_at rule.Cells text span byte =
    if bytes_eq (head_of (term_at text span)) (codes "compose") then Some ValueCells else None
hint_at rule.Empty text span byte =
    if bytes_eq (head_of (term_at text span)) (codes "collect") then Some RateItem else None
hint_at _ text span byte = None

-- the hint at a byte; there is none at the end of the text
abbrev pub hint_in : Rule → List ℕ → Span → Option ℕ → Option Hint
hint_in rule text span (Some byte) = hint_at rule text span byte
hint_in rule text span None = None

-- the hint for a refusal of the text, if there is one
unfoldable pub hint_of : List ℕ → Refusal → Option Hint
hint_of text refusal = hint_in refusal.rule text refusal.span (slice_get text refusal.span.from)

-- the word that a term begins with
abbrev pub word_at : List ℕ → Span → List ℕ
word_at text span = take_while is_word_byte (term_at text span)
