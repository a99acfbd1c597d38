-- Where the tokens and terms of a printed text lie. A printed list of terms is seen as tokens and
-- calls; it lies from a place on, with a gap of this many bytes between its terms.
use Rattle.std.proofs.Common.{◌≡◌, ℕ, ◌+◌, List, [], ◌∷◌, ◌++◌, length, refl, sym, ap, ◌∙◌}
use Rattle.std.proofs.Common.{append_assoc, append-nil}
use Rattle.std.specs.Prelude.{codes}
use Rattle.std.specs.Fmt.{signed_decimal}
use Rattle.language_base.specs.declared.span.Span.{Span}
use Rattle.query_tokens.specs.declared.token.Token.{Token}
use Rattle.query_tokens.specs.declared.token.TokenKind.{TokenKind}
use Rattle.query_tokens.specs.declared.token.TokenKind.TheVariants.{Word, Number, Text, Open, Close}
use Rattle.query_tokens.specs.declared.token.TokenKind.TheVariants.{Comma}
use Rattle.query_tokens.specs.Raw.{IsWord, IsRaw}
use Rattle.query_trees.specs.Trees as trees
use Rattle.query_trees.specs.Trees.{Trees}
use Rattle.query_forms.specs.Terms.{Terms, none, word, number, string, call}
use Rattle.query_parser.specs.Printing.{string_text, joined, arguments_text, file_text}

-- printed terms: none, or a token or a call, and those after it
pub data Printed : Type 0 where
  nothing : Printed
  single : TokenKind → List ℕ → Printed → Printed
  applied : List ℕ → Printed → Printed → Printed

-- the terms as they are printed
abbrev pub printed : Terms → Printed
printed none = nothing
printed (word bytes span rest) = single Word bytes (printed rest)
printed (number value span rest) = single Number (signed_decimal value) (printed rest)
printed (string bytes span rest) = single Text (string_text bytes) (printed rest)
printed (call head arguments span rest) = applied head (printed arguments) (printed rest)

-- a call's bytes before others
abbrev pub call_bytes : List ℕ → List ℕ → List ℕ → List ℕ
call_bytes head inner rest = head ++ 40 ∷ (inner ++ 41 ∷ rest)

-- what stands after an argument
abbrev pub more_bytes : Printed → List ℕ → List ℕ
more_bytes nothing others = []
more_bytes _ others = 44 ∷ 32 ∷ others

-- the bytes of arguments
abbrev pub argument_bytes : Printed → List ℕ
argument_bytes nothing = []
argument_bytes (single kind raw rest) = raw ++ more_bytes rest (argument_bytes rest)
argument_bytes (applied head arguments rest) =
    call_bytes head (argument_bytes arguments) (more_bytes rest (argument_bytes rest))

-- the bytes of a file
abbrev pub top_bytes : Printed → List ℕ
top_bytes nothing = []
top_bytes (single kind raw rest) = raw ++ 10 ∷ top_bytes rest
top_bytes (applied head arguments rest) =
    call_bytes head (argument_bytes arguments) (10 ∷ top_bytes rest)

-- this many bytes from a place on
abbrev pub span_at : ℕ → ℕ → Span
span_at at count = record { from = at; to = at + count }

-- a token of this many bytes at a place
abbrev pub token_at : TokenKind → ℕ → ℕ → Token
token_at kind at count = record { kind = kind; span = span_at at count }

-- the place of the arguments of a call that is at a place
abbrev pub inner_at : ℕ → List ℕ → ℕ
inner_at at head = at + length head + 1

-- the place of its `)`
abbrev pub close_at : ℕ → List ℕ → Printed → ℕ
close_at at head arguments = inner_at at head + length (argument_bytes arguments)

-- its place
abbrev pub call_span : ℕ → List ℕ → Printed → Span
call_span at head arguments = record { from = at; to = close_at at head arguments + 1 }

-- the trees of printed terms
abbrev pub trees_at : ℕ → ℕ → Printed → Trees
trees_at gap at nothing = trees.none
trees_at gap at (single kind raw rest) =
    trees.leaf (token_at kind at (length raw)) (trees_at gap (at + length raw + gap) rest)
trees_at gap at (applied head arguments rest) =
    trees.call (token_at Word at (length head)) (trees_at 2 (inner_at at head) arguments)
    (call_span at head arguments) (trees_at gap (close_at at head arguments + 1 + gap) rest)

-- a call's tokens before others
abbrev pub call_tokens : ℕ → List ℕ → Printed → List Token → List Token → List Token
call_tokens at head arguments inner others =
    token_at Word at (length head) ∷ token_at Open (at + length head) 1
    ∷ inner ++ token_at Close (close_at at head arguments) 1 ∷ others

-- the tokens after an argument
abbrev pub more_tokens : ℕ → Printed → List Token → List Token
more_tokens at nothing others = []
more_tokens at _ others = token_at Comma at 1 ∷ others

-- the tokens of arguments
abbrev pub argument_tokens : ℕ → Printed → List Token
argument_tokens at nothing = []
argument_tokens at (single kind raw rest) = token_at kind at (length raw)
    ∷ more_tokens (at + length raw) rest (argument_tokens (at + length raw + 2) rest)
argument_tokens at (applied head arguments rest) =
    call_tokens at head arguments (argument_tokens (inner_at at head) arguments)
    (more_tokens (close_at at head arguments + 1) rest
    (argument_tokens (close_at at head arguments + 1 + 2) rest))

-- the tokens of a file
abbrev pub top_tokens : ℕ → Printed → List Token
top_tokens at nothing = []
top_tokens at (single kind raw rest) =
    token_at kind at (length raw) ∷ top_tokens (at + length raw + 1) rest
top_tokens at (applied head arguments rest) =
    call_tokens at head arguments (argument_tokens (inner_at at head) arguments)
    (top_tokens (close_at at head arguments + 1 + 1) rest)

-- the terms with the places at which they are printed
abbrev pub placed : ℕ → ℕ → Terms → Terms
placed gap at none = none
placed gap at (word bytes span rest) =
    word bytes (span_at at (length bytes)) (placed gap (at + length bytes + gap) rest)
placed gap at (number value span rest) = number value (span_at at (length (signed_decimal value)))
    (placed gap (at + length (signed_decimal value) + gap) rest)
placed gap at (string bytes span rest) = string bytes (span_at at (length (string_text bytes)))
    (placed gap (at + length (string_text bytes) + gap) rest)
placed gap at (call head arguments span rest) =
    call head (placed 2 (inner_at at head) arguments) (call_span at head (printed arguments))
    (placed gap (close_at at head (printed arguments) + 1 + gap) rest)

-- there is something
abbrev pub HasSome : Printed → Type 0
HasSome nothing = ⊥
HasSome _ = Unit {0}

-- a kind of a term by itself
abbrev pub IsSingle : TokenKind → Type 0
IsSingle Word = Unit {0}
IsSingle Number = Unit {0}
IsSingle Text = Unit {0}
IsSingle _ = ⊥

-- each token is one of its kind, and a call has an argument
abbrev pub AreRaw : Printed → Type 0
AreRaw nothing = Unit {0}
AreRaw (single kind raw rest) = IsSingle kind × IsRaw kind raw × AreRaw rest
AreRaw (applied head arguments rest) =
    IsWord head × HasSome arguments × AreRaw arguments × AreRaw rest

-- a call's text, taken apart from its head on
call_text-is : (head inner rest : List ℕ)
    → head ++ codes "(" ++ inner ++ codes ")" ++ rest ≡ call_bytes head inner rest
call_text-is head inner rest =
    append_assoc (head ++ codes "(" ++ inner) (codes ")") rest
    ∙ append_assoc (head ++ codes "(") inner (41 ∷ rest)
    ∙ append_assoc head (codes "(") (inner ++ 41 ∷ rest)

-- what stands after an argument in the text
joined-is : (first : List ℕ) (rest : Terms) (others : List ℕ)
    → joined first rest others ≡ first ++ more_bytes (printed rest) others
joined-is first none others = sym (append-nil first)
joined-is first (word bytes span rest) others = append_assoc first (codes ", ") others
joined-is first (number value span rest) others = append_assoc first (codes ", ") others
joined-is first (string bytes span rest) others = append_assoc first (codes ", ") others
joined-is first (call head arguments span rest) others = append_assoc first (codes ", ") others

-- the text of arguments is these bytes
pub arguments_text-is : (terms : Terms) → arguments_text terms ≡ argument_bytes (printed terms)
arguments_text-is none = refl
arguments_text-is (word bytes span rest) =
    joined-is bytes rest _ ∙ ap (λ l. bytes ++ more_bytes (printed rest) l) (arguments_text-is rest)
arguments_text-is (number value span rest) =
    joined-is (signed_decimal value) rest _
    ∙ ap (λ l. signed_decimal value ++ more_bytes (printed rest) l) (arguments_text-is rest)
arguments_text-is (string bytes span rest) =
    joined-is (string_text bytes) rest _
    ∙ ap (λ l. string_text bytes ++ more_bytes (printed rest) l) (arguments_text-is rest)
arguments_text-is (call head arguments span rest) =
    joined-is _ rest _
    ∙ call_text-is head (arguments_text arguments) (more_bytes (printed rest) (arguments_text rest))
    ∙ ap (λ l. call_bytes head l (more_bytes (printed rest) (arguments_text rest)))
    (arguments_text-is arguments)
    ∙ ap (λ l. call_bytes head (argument_bytes (printed arguments)) (more_bytes (printed rest) l))
    (arguments_text-is rest)

-- and the text of a file these
pub file_text-is : (terms : Terms) → file_text terms ≡ top_bytes (printed terms)
file_text-is none = refl
file_text-is (word bytes span rest) =
    append_assoc bytes (codes "\n") _ ∙ ap (λ l. bytes ++ 10 ∷ l) (file_text-is rest)
file_text-is (number value span rest) =
    append_assoc (signed_decimal value) (codes "\n") _
    ∙ ap (λ l. signed_decimal value ++ 10 ∷ l) (file_text-is rest)
file_text-is (string bytes span rest) =
    append_assoc (string_text bytes) (codes "\n") _
    ∙ ap (λ l. string_text bytes ++ 10 ∷ l) (file_text-is rest)
file_text-is (call head arguments span rest) =
    append_assoc (head ++ codes "(" ++ arguments_text arguments ++ codes ")") (codes "\n") _
    ∙ call_text-is head (arguments_text arguments) (10 ∷ file_text rest)
    ∙ ap (λ l. call_bytes head l (10 ∷ file_text rest)) (arguments_text-is arguments)
    ∙ ap (λ l. call_bytes head (argument_bytes (printed arguments)) (10 ∷ l)) (file_text-is rest)
