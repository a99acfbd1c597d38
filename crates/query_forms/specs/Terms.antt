-- Statement. Lists of terms with what they say and their places, and the trees that say so.
use Rattle.std.specs.Prelude.{◌≡◌, ◌≤◌, ℕ, ◌+◌, ℤ, List, length, slice_range}
use Rattle.std.specs.Str.Parse.{signed_digits_value}
use Rattle.language_base.specs.declared.span.Span.{Span}
use Rattle.query_tokens.specs.declared.token.Token.{Token}
use Rattle.query_tokens.specs.declared.token.TokenKind.TheVariants.{Word, Number, Text}
use Rattle.query_tokens.specs.Raw.{IsRaw, IsString}
use Rattle.query_trees.specs.Trees as trees
use Rattle.query_trees.specs.Trees.{Trees}

-- a list of terms: none, or a first term and the terms after it
pub data Terms : Type 0 where
  none : Terms
  word : List ℕ → Span → Terms → Terms
  number : ℤ → Span → Terms → Terms
  -- the bytes that the string stands for
  string : List ℕ → Span → Terms → Terms
  -- the head word, the arguments, the place of the whole, and the terms after it
  call : List ℕ → Terms → Span → Terms → Terms

-- the bytes at a place of the text
abbrev pub bytes_at : List ℕ → Span → List ℕ
bytes_at text span = slice_range text span.from span.to

-- the token's place is one in the text, and the bytes there are a token of its kind
pub record IsTokenOf (text : List ℕ) (token : Token) : Type 0 where
  pub order : token.span.from ≤ token.span.to
  pub within : token.span.to ≤ length text
  pub raw : IsRaw token.kind (bytes_at text token.span)

-- all tokens of the terms are tokens of the text
abbrev pub AreOf : List ℕ → Trees → Type 0
AreOf text trees.none = Unit {0}
AreOf text (trees.leaf token rest) = IsTokenOf text token × AreOf text rest
AreOf text (trees.call head arguments span rest) =
    IsTokenOf text head × AreOf text arguments × AreOf text rest

-- the trees, whose tokens are those of the text, say these terms
abbrev pub Say : List ℕ → Trees → Terms → Type 0
Say text trees.none none = Unit {0}
Say text (trees.leaf token rest) (word bytes span more) =
    (token.kind ≡ Word) × (bytes ≡ bytes_at text token.span) × (span ≡ token.span)
    × Say text rest more
Say text (trees.leaf token rest) (number value span more) =
    (token.kind ≡ Number) × (value ≡ signed_digits_value 10 (bytes_at text token.span))
    × (span ≡ token.span) × Say text rest more
Say text (trees.leaf token rest) (string bytes span more) =
    (token.kind ≡ Text) × IsString (bytes_at text token.span) bytes × (span ≡ token.span)
    × Say text rest more
Say text (trees.call head arguments place rest) (call bytes inner span more) =
    (bytes ≡ bytes_at text head.span) × (span ≡ place) × Say text arguments inner
    × Say text rest more
Say text _ _ = ⊥

-- how many terms there are
abbrev pub count_of : Terms → ℕ
count_of none = 0
count_of (word bytes span rest) = count_of rest + 1
count_of (number value span rest) = count_of rest + 1
count_of (string bytes span rest) = count_of rest + 1
count_of (call bytes arguments span rest) = count_of rest + 1
