-- Trees say one list of terms.
use Rattle.std.proofs.Common.{◌≡◌, ℕ, List, inl, inr, refl, subst}
use Rattle.std.specs.Str.Parse.{signed_digits_value}
use Rattle.query_tokens.specs.declared.token.Token.{Token}
use Rattle.query_tokens.specs.Raw.{IsRaw}
use Rattle.query_trees.specs.Terms.{IsLeaf, AreMore, AreArguments, AreTerms}
use Rattle.query_trees.specs.Trees as trees
use Rattle.query_trees.specs.Trees.{Trees}
use Rattle.query_forms.specs.Terms.{Terms, none, word, number, string, call, bytes_at, AreOf, Say}
use Rattle.query_tokens.proofs.OneWay.{one_string}

-- the leaves are words, numbers and strings
abbrev Leaves : Trees → Type 0
Leaves trees.none = Unit {0}
Leaves (trees.leaf token rest) = IsLeaf token × Leaves rest
Leaves (trees.call head arguments span rest) = Leaves arguments × Leaves rest

leaves_of_more : (rest : Trees) (others : List Token) → AreMore (AreArguments rest) rest others
    → ((tokens : List Token) → AreArguments rest tokens → Leaves rest) → Leaves rest
leaves_of_more trees.none others more inside = tt
leaves_of_more (trees.leaf token rest) others (comma, more, split, is, arguments) inside =
    inside more arguments
leaves_of_more (trees.call head inner span rest) others (comma, more, split, is, arguments) inside =
    inside more arguments

leaves_of_arguments : (arguments : Trees) (tokens : List Token) → AreArguments arguments tokens
    → Leaves arguments
leaves_of_arguments trees.none tokens are = absurd are
leaves_of_arguments (trees.leaf token rest) tokens (others, split, is, more) =
    (is, leaves_of_more rest others more (leaves_of_arguments rest))
leaves_of_arguments (trees.call head arguments span rest) tokens (others, calls, more) = (
  leaves_of_arguments arguments calls.inner calls.holds,
  leaves_of_more rest others more (leaves_of_arguments rest),
)

leaves_of_terms : (list : Trees) (tokens : List Token) → AreTerms list tokens → Leaves list
leaves_of_terms trees.none tokens are = tt
leaves_of_terms (trees.leaf token rest) tokens (others, split, is, more) =
    (is, leaves_of_terms rest others more)
leaves_of_terms (trees.call head arguments span rest) tokens (others, calls, more) =
    (leaves_of_arguments arguments calls.inner calls.holds, leaves_of_terms rest others more)

some_of_leaves : (text : List ℕ) (list : Trees) → Leaves list → AreOf text list
    → (terms : Terms) × Say text list terms
some_of_leaves text trees.none leaves are = (none, tt)
some_of_leaves text (trees.leaf token rest) (inl is_word, leaves) (token_of, are) =
    let more = some_of_leaves text rest leaves are in
    (word (bytes_at text token.span) token.span more.0, (is_word, refl, refl, more.1))
some_of_leaves text (trees.leaf token rest) (inr (inl is_number), leaves) (token_of, are) =
    let more = some_of_leaves text rest leaves are in (
      number (signed_digits_value 10 (bytes_at text token.span)) token.span more.0,
      (is_number, refl, refl, more.1),
    )
some_of_leaves text (trees.leaf token rest) (inr (inr is_text), leaves) (token_of, are) =
    let more = some_of_leaves text rest leaves are in
    let stands = subst (λ kind. IsRaw kind (bytes_at text token.span)) is_text token_of.raw in
    (string stands.0 token.span more.0, (is_text, stands.1, refl, more.1))
some_of_leaves text (trees.call head arguments span rest) (inner, leaves)
    (token_of, arguments_of, are) =
    let inside = some_of_leaves text arguments inner arguments_of in
    let more = some_of_leaves text rest leaves are in
    (call (bytes_at text head.span) inside.0 span more.0, (refl, refl, inside.1, more.1))

-- some terms
pub some_terms : (text : List ℕ) (tokens : List Token) (list : Trees) → AreTerms list tokens
    → AreOf text list → (terms : Terms) × Say text list terms
some_terms text tokens list are of_text =
    some_of_leaves text list (leaves_of_terms list tokens are) of_text

-- and no others
pub one_terms : (text : List ℕ) (list : Trees) (terms others : Terms) → Say text list terms
    → Say text list others → others ≡ terms
one_terms text trees.none none none say say' = refl
one_terms text trees.none none (word bytes span rest) say say' = absurd say'
one_terms text trees.none none (number value span rest) say say' = absurd say'
one_terms text trees.none none (string bytes span rest) say say' = absurd say'
one_terms text trees.none none (call head arguments span rest) say say' = absurd say'
one_terms text trees.none (word bytes span rest) others say say' = absurd say
one_terms text trees.none (number value span rest) others say say' = absurd say
one_terms text trees.none (string bytes span rest) others say say' = absurd say
one_terms text trees.none (call head arguments span rest) others say say' = absurd say
one_terms text (trees.leaf token list) none others say say' = absurd say
one_terms text (trees.leaf token list) (call head arguments span rest) others say say' = absurd say
one_terms text (trees.leaf token list) (word bytes span rest) none say say' = absurd say'
one_terms text (trees.leaf token list) (word bytes span rest) (word bytes' span' rest') say say' =
    cc (one_terms text list rest rest' say.3 say'.3)
one_terms text (trees.leaf token list) (word bytes span rest) (number value' span' rest') say say' =
    absurd (cc)
one_terms text (trees.leaf token list) (word bytes span rest) (string bytes' span' rest') say say' =
    absurd (cc)
one_terms text (trees.leaf token list) (word bytes span rest) (call head' arguments' span' rest')
    say say' = absurd say'
one_terms text (trees.leaf token list) (number value span rest) none say say' = absurd say'
one_terms text (trees.leaf token list) (number value span rest) (word bytes' span' rest') say say' =
    absurd (cc)
one_terms text (trees.leaf token list) (number value span rest)
    (number value' span' rest') say say' =
    cc (one_terms text list rest rest' say.3 say'.3)
one_terms text (trees.leaf token list) (number value span rest) (string bytes' span' rest') say
    say' = absurd (cc)
one_terms text (trees.leaf token list) (number value span rest) (call head' arguments' span' rest')
    say say' = absurd say'
one_terms text (trees.leaf token list) (string bytes span rest) none say say' = absurd say'
one_terms text (trees.leaf token list) (string bytes span rest) (word bytes' span' rest') say say' =
    absurd (cc)
one_terms text (trees.leaf token list) (string bytes span rest) (number value' span' rest') say
    say' = absurd (cc)
one_terms text (trees.leaf token list) (string bytes span rest)
    (string bytes' span' rest') say say' =
    cc (
      one_terms text list rest rest' say.3 say'.3,
      one_string (bytes_at text token.span) bytes bytes' say.1 say'.1,
    )
one_terms text (trees.leaf token list) (string bytes span rest) (call head' arguments' span' rest')
    say say' = absurd say'
one_terms text (trees.call first inner place list) none others say say' = absurd say
one_terms text (trees.call first inner place list) (word bytes span rest) others say say' =
    absurd say
one_terms text (trees.call first inner place list) (number value span rest) others say say' =
    absurd say
one_terms text (trees.call first inner place list) (string bytes span rest) others say say' =
    absurd say
one_terms text (trees.call first inner place list) (call head arguments span rest) none say say' =
    absurd say'
one_terms text (trees.call first inner place list) (call head arguments span rest)
    (word bytes' span' rest') say say' = absurd say'
one_terms text (trees.call first inner place list) (call head arguments span rest)
    (number value' span' rest') say say' = absurd say'
one_terms text (trees.call first inner place list) (call head arguments span rest)
    (string bytes' span' rest') say say' = absurd say'
one_terms text (trees.call first inner place list) (call head arguments span rest)
    (call head' arguments' span' rest') say say' =
    cc (
      one_terms text inner arguments arguments' say.2 say'.2,
      one_terms text list rest rest' say.3 say'.3,
    )
