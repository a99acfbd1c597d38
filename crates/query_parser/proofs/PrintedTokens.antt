-- The bytes of a printed text are those of its tokens.
use Rattle.std.proofs.Common.{◌≡◌, inl, ℕ, ◌+◌, List, [], ◌∷◌, ◌++◌, length, refl, sym, ap, ◌∙◌}
use Rattle.std.proofs.Common.{subst, arith, append_assoc, append-nil, length-append}
use Rattle.query_tokens.specs.declared.token.Token.{Token}
use Rattle.query_tokens.specs.declared.token.TokenKind.{TokenKind}
use Rattle.query_tokens.specs.declared.token.TokenKind.TheVariants.{Word, Number, Text, Open, Close}
use Rattle.query_tokens.specs.declared.token.TokenKind.TheVariants.{Comma}
use Rattle.query_tokens.specs.Raw.{IsWord, IsRaw, IsLongest, IsBlank}
use Rattle.query_tokens.specs.Tokens.{AreTokens}
use Rattle.query_parser.proofs.LongestTokens.{EndToken, longest-word, longest-string, longest-open}
use Rattle.query_parser.proofs.LongestTokens.{longest-close, longest-comma}
use Rattle.query_parser.proofs.PrintedNumbers.{longest-number}
use Rattle.query_parser.proofs.PrintedLayout.{Printed, nothing, single, applied, token_at}
use Rattle.query_parser.proofs.PrintedLayout.{call_bytes, more_bytes, argument_bytes, top_bytes}
use Rattle.query_parser.proofs.PrintedLayout.{call_tokens, more_tokens, argument_tokens, top_tokens}
use Rattle.query_parser.proofs.PrintedLayout.{inner_at, close_at, HasSome, IsSingle, AreRaw}

-- nothing is blank
pub blank-none : IsBlank []
blank-none = record { pieces = []; each = tt; whole = refl }

-- so is a space
blank-space : IsBlank (32 ∷ [])
blank-space = record { pieces = (32 ∷ []) ∷ []; each = (inl (32, refl, refl), tt); whole = refl }

-- so is an LF
blank-line : IsBlank (10 ∷ [])
blank-line = record { pieces = (10 ∷ []) ∷ []; each = (inl (10, refl, refl), tt); whole = refl }

-- a token after blank
token-stands : (kind : TokenKind) (raw rest blank : List ℕ) (at start : ℕ) (tokens : List Token)
    → IsBlank blank → start ≡ at + length blank → IsLongest kind raw rest
    → AreTokens (start + length raw) rest tokens
    → AreTokens at (blank ++ (raw ++ rest)) (token_at kind start (length raw) ∷ tokens)
token-stands kind raw rest blank at start tokens is_blank from longest are = (
  rest,
  record {
    blank = blank;
    raw = raw;
    split = refl;
    is_blank = is_blank;
    is_token = longest;
    from = from;
    to = refl;
  },
  are,
)

-- a mark at once
mark-stands : (kind : TokenKind) (mark : ℕ) (rest : List ℕ) (at : ℕ) (tokens : List Token)
    → IsLongest kind (mark ∷ []) rest → AreTokens (at + 1) rest tokens
    → AreTokens at (mark ∷ rest) (token_at kind at 1 ∷ tokens)
mark-stands kind mark rest at tokens longest are =
    token-stands kind (mark ∷ []) rest [] at at tokens blank-none (omega arith) longest are

-- a term by itself is as long as possible
longest-single : (kind : TokenKind) (raw rest : List ℕ) → IsSingle kind → IsRaw kind raw
    → EndToken rest → IsLongest kind raw rest
longest-single Word raw rest is token ends = longest-word raw rest token ends
longest-single Number raw rest is token ends = longest-number raw rest token ends
longest-single Text raw rest is token ends = longest-string raw token.0 rest token.1
longest-single Open raw rest is token ends = absurd is
longest-single Close raw rest is token ends = absurd is
longest-single Comma raw rest is token ends = absurd is

-- tokens of bytes that are followed by others, with the tokens of those
abbrev AreBefore : ℕ → List ℕ → List Token → ℕ → Type 0
AreBefore at bytes tokens end =
    (after : List ℕ) (others : List Token) → EndToken after → AreTokens end after others
    → AreTokens at (bytes ++ after) (tokens ++ others)

-- a call after blank
call-stands : (head : List ℕ) (arguments : Printed) (inner : List Token) (blank rest : List ℕ)
    (at start : ℕ) (others : List Token) → IsBlank blank → start ≡ at + length blank → IsWord head
    → AreBefore (inner_at start head) (argument_bytes arguments) inner
    (close_at start head arguments) → AreTokens (close_at start head arguments + 1) rest others
    → AreTokens at (blank ++ call_bytes head (argument_bytes arguments) rest)
    (call_tokens start head arguments inner others)
call-stands head arguments inner blank rest at start others is_blank from is_word before are =
    let place = close_at start head arguments in
    let after = token_at Close place 1 ∷ others in
    let closed = mark-stands Close 41 rest place others (longest-close rest) are in
    let inside = before (41 ∷ rest) after refl closed in
    let opened = mark-stands Open 40 _ (start + length head) (inner ++ after)
    (longest-open _) inside in
    token-stands Word head _ blank at start
    (token_at Open (start + length head) 1 ∷ inner ++ after) is_blank from
    (longest-word head _ is_word refl) opened

-- what stands after an argument ends it
more-ends : (rest : Printed) (others after : List ℕ) → EndToken after
    → EndToken (more_bytes rest others ++ after)
more-ends nothing others after ends = ends
more-ends (single kind raw rest) others after ends = refl
more-ends (applied head arguments rest) others after ends = refl

-- what stands after an argument
more-before : (rest : Printed) (at end : ℕ)
    → end ≡ at + length (more_bytes rest (argument_bytes rest))
    → (HasSome rest → (place : ℕ) → place ≡ at + 2 + length (argument_bytes rest)
    → AreBefore (at + 1) (32 ∷ argument_bytes rest) (argument_tokens (at + 2) rest) place)
    → AreBefore at (more_bytes rest (argument_bytes rest))
    (more_tokens at rest (argument_tokens (at + 2) rest)) end
more-before nothing at end is before after others ends are =
    subst (λ place. AreTokens place after others) (is ∙ omega arith) are
more-before (single kind raw rest) at end is before after others ends are =
    mark-stands Comma 44 _ at (argument_tokens (at + 2) (single kind raw rest) ++ others)
    (longest-comma _) (before tt end (omega (arith, is)) after others ends are)
more-before (applied head arguments rest) at end is before after others ends are =
    mark-stands Comma 44 _ at (argument_tokens (at + 2) (applied head arguments rest) ++ others)
    (longest-comma _) (before tt end (omega (arith, is)) after others ends are)

-- a call's bytes before others
call_bytes-before : (head inner rest after : List ℕ)
    → call_bytes head inner rest ++ after ≡ call_bytes head inner (rest ++ after)
call_bytes-before head inner rest after =
    append_assoc head (40 ∷ (inner ++ 41 ∷ rest)) after
    ∙ ap (λ l. head ++ 40 ∷ l) (append_assoc inner (41 ∷ rest) after)

-- how many bytes a call has with those after it
call_bytes-length : (head inner rest : List ℕ)
    → length (call_bytes head inner rest) ≡ length head + 1 + length inner + 1 + length rest
call_bytes-length head inner rest =
    omega (arith, length-append head (40 ∷ (inner ++ 41 ∷ rest)), length-append inner (41 ∷ rest))

-- a call's tokens before others
call_tokens-before : (at : ℕ) (head : List ℕ) (arguments : Printed)
    (inner others after : List Token) → call_tokens at head arguments inner others ++ after
    ≡ call_tokens at head arguments inner (others ++ after)
call_tokens-before at head arguments inner others after =
    ap (λ l. token_at Word at (length head) ∷ token_at Open (at + length head) 1 ∷ l)
    (append_assoc inner (token_at Close (close_at at head arguments) 1 ∷ others) after)

-- arguments after blank
arguments-before : (terms : Printed) (blank : List ℕ) (at start end : ℕ) → AreRaw terms
    → HasSome terms → IsBlank blank → start ≡ at + length blank
    → end ≡ start + length (argument_bytes terms) → (after : List ℕ) (others : List Token)
    → EndToken after → AreTokens end after others → AreTokens at
    (blank ++ (argument_bytes terms ++ after)) (argument_tokens start terms ++ others)
arguments-before nothing blank at start end raws some is_blank from to after others ends are =
    absurd some
arguments-before (single kind raw rest) blank at start end raws some is_blank from to after
    others ends are =
    let next = start + length raw in
    let more = more_bytes rest (argument_bytes rest) in
    let tokens = more_tokens next rest (argument_tokens (next + 2) rest) in
    subst (λ l. AreTokens at (blank ++ l) (token_at kind start (length raw) ∷ tokens ++ others))
    (sym (append_assoc raw more after))
    (token-stands kind raw (more ++ after) blank at start (tokens ++ others) is_blank from
    (longest-single kind raw (more ++ after) raws.0 raws.1
    (more-ends rest (argument_bytes rest) after ends))
    (more-before rest next end (omega (arith, to, length-append raw more))
    (λ has place is. arguments-before rest (32 ∷ []) (next + 1) (next + 2) place raws.2 has
    blank-space (omega arith) is)
    after others ends are))
arguments-before (applied head arguments rest) blank at start end raws some is_blank from to after
    others ends are =
    let next = close_at start head arguments + 1 in
    let bytes = argument_bytes arguments in
    let inner = argument_tokens (inner_at start head) arguments in
    let more = more_bytes rest (argument_bytes rest) in
    let tokens = more_tokens next rest (argument_tokens (next + 2) rest) in
    subst (λ l. AreTokens at (blank ++ l) (call_tokens start head arguments inner tokens ++ others))
    (sym (call_bytes-before head bytes more after))
    (subst (AreTokens at (blank ++ call_bytes head bytes (more ++ after)))
    (sym (call_tokens-before start head arguments inner tokens others))
    (call-stands head arguments inner blank (more ++ after) at start (tokens ++ others)
    is_blank from raws.0
    (arguments-before arguments [] (inner_at start head) (inner_at start head)
    (close_at start head arguments) raws.2 raws.1 blank-none (omega arith) refl)
    (more-before rest next end (omega (arith, to, call_bytes-length head bytes more))
    (λ has place is. arguments-before rest (32 ∷ []) (next + 1) (next + 2) place raws.3 has
    blank-space (omega arith) is)
    after others ends are)))

-- a file after blank
pub file-tokens : (terms : Printed) (blank : List ℕ) (at start : ℕ) → AreRaw terms → IsBlank blank
    → start ≡ at + length blank → AreTokens at (blank ++ top_bytes terms) (top_tokens start terms)
file-tokens nothing blank at start raws is_blank from =
    record { front = blank; blank = is_blank; last = inl (append-nil blank) }
file-tokens (single kind raw rest) blank at start raws is_blank from =
    token-stands kind raw (10 ∷ top_bytes rest) blank at
    start (top_tokens (start + length raw + 1) rest) is_blank from
    (longest-single kind raw _ raws.0 raws.1 refl)
    (file-tokens rest (10 ∷ []) (start + length raw) (start + length raw + 1) raws.2
    blank-line refl)
file-tokens (applied head arguments rest) blank at start raws is_blank from =
    call-stands head arguments (argument_tokens (inner_at start head) arguments) blank
    (10 ∷ top_bytes rest) at start (top_tokens (close_at start head arguments + 1 + 1) rest)
    is_blank from raws.0
    (arguments-before arguments [] (inner_at start head) (inner_at start head)
    (close_at start head arguments) raws.2 raws.1 blank-none (omega arith) refl)
    (file-tokens rest (10 ∷ []) (close_at start head arguments + 1)
    (close_at start head arguments + 1 + 1) raws.3 blank-line refl)
