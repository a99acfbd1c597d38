-- For the prover. The steps of a reader of terms, which remembers nothing but a `ReaderState`.
use Rattle.std.specs.Prelude.{ℕ, ◌+◌, ◌-◌, Bool, false, ◌==◌, if◌then◌else◌, List, Option, Some}
use Rattle.std.specs.Prelude.{None, fold}
use Rattle.query_tokens.specs.declared.token.Token.{Token}
use Rattle.query_tokens.specs.declared.token.TokenKind.{TokenKind}
use Rattle.query_tokens.specs.declared.token.TokenKind.TheVariants.{Word, Number, Text, Open, Close}
use Rattle.query_tokens.specs.declared.token.TokenKind.TheVariants.{Comma}
use Rattle.query_trees.specs.declared.reader_state.ReaderState.{ReaderState}
use Rattle.query_trees.specs.declared.reader_state.ReaderState.TheVariants.{AfterTerm, AfterWord}
use Rattle.query_trees.specs.declared.reader_state.ReaderState.TheVariants.{Argument}

-- the number in the place
abbrev pub calls_of : ReaderState → ℕ
calls_of (AfterTerm calls) = calls
calls_of (AfterWord calls) = calls
calls_of (Argument calls) = calls

-- the place after a token with which a term begins, inside `calls` calls
abbrev pub begin : ℕ → TokenKind → Option ReaderState
begin calls Word = Some (AfterWord calls)
begin calls Number = Some (AfterTerm calls)
begin calls Text = Some (AfterTerm calls)
begin calls Open = None
begin calls Close = None
begin calls Comma = None

-- the place after a token that comes after an argument, inside one call more than `calls`
abbrev pub continue_inside : ℕ → TokenKind → Option ReaderState
continue_inside calls Word = None
continue_inside calls Number = None
continue_inside calls Text = None
continue_inside calls Open = None
continue_inside calls Close = Some (AfterTerm calls)
continue_inside calls Comma = Some (Argument calls)

-- the place after a token that comes after a term, inside `calls` calls
abbrev pub continue_calls : ℕ → TokenKind → Option ReaderState
continue_calls calls kind = if calls == 0 then begin 0 kind else continue_inside (calls - 1) kind

-- the place after a token that comes after a word, inside `calls` calls
abbrev pub call_or_continue : ℕ → TokenKind → Option ReaderState
call_or_continue calls Open = Some (Argument calls)
call_or_continue calls Word = continue_calls calls Word
call_or_continue calls Number = continue_calls calls Number
call_or_continue calls Text = continue_calls calls Text
call_or_continue calls Close = continue_calls calls Close
call_or_continue calls Comma = continue_calls calls Comma

-- the place after a token of this kind, if it may come
abbrev pub step : ReaderState → TokenKind → Option ReaderState
step (AfterTerm calls) kind = continue_calls calls kind
step (AfterWord calls) kind = call_or_continue calls kind
step (Argument calls) kind = begin (calls + 1) kind

-- the same, if all tokens before it could come
abbrev pub after : Option ReaderState → Token → Option ReaderState
after None token = None
after (Some place) token = step place token.kind

-- the place after all tokens, if they may come
abbrev pub walk : Option ReaderState → List Token → Option ReaderState
walk place tokens = fold after place tokens

-- the place at the start of a text
abbrev pub start : Option ReaderState
start = Some (AfterTerm 0)

-- whether the text may end there
abbrev pub may_end : ReaderState → Bool
may_end (AfterTerm calls) = calls == 0
may_end (AfterWord calls) = calls == 0
may_end (Argument calls) = false

-- whether the text may end after such a walk
abbrev pub ends : Option ReaderState → Bool
ends None = false
ends (Some place) = may_end place
