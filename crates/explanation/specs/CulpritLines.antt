-- Statement. The lines that say which name a refusal is about. The words are constants of the code.
use Rattle.std.specs.Prelude.{ℕ, List, [], ◌++◌, codes, Option, Some, None}
use Rattle.language_base.specs.declared.span.Span.{Span}
use Rattle.explanation.specs.Hints.{term_at}
use Rattle.explanation.specs.declared.culprit.Culprit.{Culprit}
use Rattle.explanation.specs.declared.culprit.Culprit.TheVariants.{TwiceColumn, TwiceLet, NoLet}
use Rattle.explanation.specs.declared.culprit.Culprit.TheVariants.{NoColumn, NoValue, OtherValue}
use Rattle.explanation.specs.declared.culprit.Culprit.TheVariants.{OfValue, NotOne, NotTwo, Texts}
use Rattle.explanation.specs.declared.culprit.Culprit.TheVariants.{Numbers, Key, Collected, NoTable}
use Rattle.explanation.specs.declared.culprit.Culprit.TheVariants.{NoRecord, TwiceKey}
use Rattle.explanation.specs.declared.culprit_line.TheConstants as words

-- which names are known where it stands, if that is why it is refused
unfoldable pub known_there : Culprit → List ℕ
known_there (TwiceColumn span) = []
known_there (TwiceLet span) = []
known_there (TwiceKey span) = []
known_there (NoLet span) = words.QUERY_NAMES.now
known_there (NoColumn span) = words.COLUMN_NAMES.now
known_there (NoValue span) = words.VALUE_NAME.now
known_there (OtherValue span) = words.VALUE_NAMES.now
known_there (OfValue span) = words.VALUE_KINDS.now
known_there (NotOne span) = words.ONE_NAME.now
known_there (NotTwo span) = words.TWO_NAMES.now
known_there (Texts span) = []
known_there (Numbers span) = []
known_there (Key span) = []
known_there (Collected span) = []
known_there (NoTable span) = []
known_there (NoRecord span) = []

-- what is said about the name
unfoldable pub said_of : Culprit → List ℕ
said_of (TwiceColumn span) = words.TWICE_COLUMN.now
said_of (TwiceLet span) = words.TWICE_LET.now
said_of (TwiceKey span) = words.TWICE_KEY.now
said_of (NoLet span) = words.NO_LET.now
said_of (NoColumn span) = words.UNKNOWN.now
said_of (NoValue span) = words.UNKNOWN.now
said_of (OtherValue span) = words.ONE_UNKNOWN.now
said_of (OfValue span) = words.OTHER_KIND.now
said_of (NotOne span) = words.UNKNOWN.now
said_of (NotTwo span) = words.UNKNOWN.now
said_of (Texts span) = words.TEXTS.now
said_of (Numbers span) = words.NUMBERS.now
said_of (Key span) = words.KEY.now
said_of (Collected span) = words.COLLECTED.now
said_of (NoTable span) = words.NO_TABLE.now
said_of (NoRecord span) = words.NO_RECORD.now

-- where it stands in the text
abbrev pub place_of : Culprit → Span
place_of (TwiceColumn span) = span
place_of (TwiceLet span) = span
place_of (TwiceKey span) = span
place_of (NoLet span) = span
place_of (NoColumn span) = span
place_of (NoValue span) = span
place_of (OtherValue span) = span
place_of (OfValue span) = span
place_of (NotOne span) = span
place_of (NotTwo span) = span
place_of (Texts span) = span
place_of (Numbers span) = span
place_of (Key span) = span
place_of (Collected span) = span
place_of (NoTable span) = span
place_of (NoRecord span) = span

-- what is said about a name, and the name
abbrev pub named_line : List ℕ → List ℕ → List ℕ
named_line what name = what ++ name ++ codes "\n"

-- the lines for the name that a refusal is about, if it is about one
abbrev pub culprit_line : List ℕ → Option Culprit → List ℕ
culprit_line text (Some culprit) =
    known_there culprit ++ named_line (said_of culprit) (term_at text (place_of culprit))
culprit_line text None = []
