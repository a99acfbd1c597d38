-- Statement. What is said about the rule that is broken: a sentence for it, how to mend the query,
-- and what is often meant. For the rule `form` these are the forms of what has to stand at the
-- place.
use Rattle.std.specs.Prelude.{ℕ, List, [], length, nat_lt, ◌++◌, codes, Option, Some, None}
use Rattle.std.specs.Prelude.{if◌then◌else◌}
use Rattle.language_base.specs.declared.refusal.Refusal.{Refusal}
use Rattle.language_base.specs.declared.rule.Rule.{Rule}
use Rattle.language_base.specs.declared.rule.Rule.TheVariants as rule
use Rattle.language_base.specs.declared.span.Span.{Span}
use Rattle.explanation.specs.Calls.{call_at, level_of}
use Rattle.explanation.specs.CulpritLines.{named_line}
use Rattle.explanation.specs.FormSentences.{forms_of}
use Rattle.explanation.specs.HintSentences.{hint_sentence}
use Rattle.explanation.specs.Hints.{hint_of, word_at}
use Rattle.explanation.specs.Nearest.{nearest_to}
use Rattle.explanation.specs.Sentences.{broken_in, mended_by}
use Rattle.explanation.specs.Standing.{standing_at, word_in}
use Rattle.explanation.specs.declared.advice.TheConstants.{OPEN_AFTER}
use Rattle.explanation.specs.declared.hint.Hint.{Hint}
use Rattle.explanation.specs.declared.limit.Limit.{Limit}

-- a sentence on a line of its own
abbrev pub line : List ℕ → List ℕ
line sentence = sentence ++ codes "\n"

-- a hint, if there is one
abbrev pub hint_line : Option Hint → List ℕ
hint_line (Some hint) = line (hint_sentence hint)
hint_line None = []

-- what is often meant, if that is known
abbrev pub nearest_line : Option (List ℕ) → List ℕ
nearest_line (Some sentence) = line sentence
nearest_line None = []

-- what is often meant by the word at the place, and the forms of what has to stand there
abbrev pub form_lines : List ℕ → Span → List ℕ
form_lines text place = let standing = standing_at text place.from in
    nearest_line (nearest_to standing (word_at text place)) ++ line (forms_of standing)

-- at the end of the text, the word of the innermost open call
abbrev pub open_call_line : List ℕ → Span → List ℕ
open_call_line text place =
    if nat_lt place.from (length text) then []
    else named_line OPEN_AFTER.now (word_in text (call_at text (level_of text)).head)

-- the same, for the rule `term` alone
abbrev pub open_line : Rule → List ℕ → Span → List ℕ
open_line rule.Term text place = open_call_line text place
open_line other text place = []

-- how to mend a query that breaks another rule than `form`, and what is often meant
abbrev pub repair : List ℕ → Refusal → List ℕ
repair text refusal = line (mended_by refusal.rule) ++ hint_line (hint_of text refusal)
    ++ open_line refusal.rule text refusal.span

-- how to mend a query that breaks the rule
abbrev pub mending : Rule → List ℕ → Refusal → List ℕ
mending rule.Form text refusal = form_lines text refusal.span
mending other text refusal = repair text refusal

-- the rule, or the limit that is exceeded, and how to mend the query
unfoldable pub advice : List ℕ → Refusal → Option Limit → List ℕ
advice text refusal limit =
    line (broken_in text refusal limit) ++ mending refusal.rule text refusal
