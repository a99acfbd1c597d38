-- Statement. The sentence for each hint. The words are constants of the code.
use Rattle.std.specs.Prelude.{ℕ, List}
use Rattle.explanation.specs.declared.hint.Hint.{Hint}
use Rattle.explanation.specs.declared.hint.Hint.TheVariants.{Point, SingleQuote, SmartQuote}
use Rattle.explanation.specs.declared.hint.Hint.TheVariants.{BadString, Comment, Comparison}
use Rattle.explanation.specs.declared.hint.Hint.TheVariants.{Arithmetic, Connective, Mark}
use Rattle.explanation.specs.declared.hint.Hint.TheVariants.{ByteOrderMark, NotAscii, MissingComma}
use Rattle.explanation.specs.declared.hint.Hint.TheVariants.{MissingTerm, NoHead, EmptyWord}
use Rattle.explanation.specs.declared.hint.Hint.TheVariants.{TwoTypes, OtherType, Iterated}
use Rattle.explanation.specs.declared.hint.Hint.TheVariants.{ValueCells, RateItem}
use Rattle.explanation.specs.declared.hint_sentence.TheConstants as words

-- what is often meant
unfoldable pub hint_sentence : Hint → List ℕ
hint_sentence Point = words.POINT.now
hint_sentence SingleQuote = words.SINGLE_QUOTE.now
hint_sentence SmartQuote = words.SMART_QUOTE.now
hint_sentence BadString = words.BAD_STRING.now
hint_sentence Comment = words.COMMENT.now
hint_sentence Comparison = words.COMPARISON.now
hint_sentence Arithmetic = words.ARITHMETIC.now
hint_sentence Connective = words.CONNECTIVE.now
hint_sentence Mark = words.MARK.now
hint_sentence ByteOrderMark = words.BYTE_ORDER_MARK.now
hint_sentence NotAscii = words.NOT_ASCII.now
hint_sentence MissingComma = words.MISSING_COMMA.now
hint_sentence MissingTerm = words.MISSING_TERM.now
hint_sentence NoHead = words.NO_HEAD.now
hint_sentence EmptyWord = words.EMPTY_WORD.now
hint_sentence TwoTypes = words.TWO_TYPES.now
hint_sentence OtherType = words.OTHER_TYPE.now
hint_sentence Iterated = words.ITERATED.now
hint_sentence ValueCells = words.VALUE_CELLS.now
hint_sentence RateItem = words.RATE_ITEM.now
