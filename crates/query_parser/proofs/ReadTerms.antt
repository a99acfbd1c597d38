-- The terms that a text is read to can be written.
use Rattle.std.proofs.Common.{◌≡◌, ◌<◌, ◌≤◌, ℕ, ◌+◌, false, ltb, List, None, sym, subst, arith}
use Rattle.std.proofs.lemmas.Bool.{ltb-false}
use Rattle.std.specs.Prelude.{All}
use Rattle.language_base.specs.Limits.{max_level}
use Rattle.query_tokens.specs.declared.token.Token.{Token}
use Rattle.query_tokens.specs.declared.token.TokenKind.TheVariants.{Word}
use Rattle.query_tokens.specs.Raw.{IsWord, IsRaw}
use Rattle.query_trees.specs.Trees as trees
use Rattle.query_trees.specs.Trees.{Trees, first_deep}
use Rattle.query_forms.specs.Terms.{Terms, none, word, number, string, call, bytes_at, IsTokenOf}
use Rattle.query_forms.specs.Terms.{Say}
use Rattle.query_parser.specs.Printing.{AreWritable, HasTerm}
use Rattle.query_parser.specs.TreeReading.{HasTree}
use Rattle.query_parser.proofs.OptionCases.{first_of_two-none, refused-none}
use Rattle.query_parser.proofs.ReadTrees.{AreTrees}
use Rattle.query_parser.proofs.ReadStrings.{string-bytes}

-- a level that is not too deep
level-within : (level : ℕ) → ltb max_level level ≡ false → level ≤ max_level
level-within level e = omega (arith, ltb-false max_level level e)

-- a word that a token says
word-said : (text : List ℕ) (token : Token) (bytes : List ℕ) → token.kind ≡ Word
    → IsTokenOf text token → bytes ≡ bytes_at text token.span → IsWord bytes
word-said text token bytes kind is said =
    subst IsWord (sym said) (subst (λ k. IsRaw k (bytes_at text token.span)) kind is.raw)

-- where there is a tree, it says a term
term-said : (text : List ℕ) (trees : Trees) (terms : Terms) → Say text trees terms
    → HasTree trees → HasTerm terms
term-said text trees.none terms say has = absurd has
term-said text (trees.leaf token rest) none say has = say
term-said text (trees.leaf token rest) (word bytes span more) say has = tt
term-said text (trees.leaf token rest) (number value span more) say has = tt
term-said text (trees.leaf token rest) (string bytes span more) say has = tt
term-said text (trees.leaf token rest) (call head arguments span more) say has = tt
term-said text (trees.call head arguments span rest) none say has = say
term-said text (trees.call head arguments span rest) (word bytes span' more) say has = tt
term-said text (trees.call head arguments span rest) (number value span' more) say has = tt
term-said text (trees.call head arguments span rest) (string bytes span' more) say has = tt
term-said text (trees.call head arguments span rest) (call head' inner span' more) say has = tt

-- terms that trees of a text's tokens say
pub said-writable : (text : List ℕ) (trees : Trees) (terms : Terms) (level : ℕ)
    → All (λ byte. byte < 256) text → Say text trees terms → AreTrees (IsTokenOf text) trees
    → first_deep level trees ≡ None → AreWritable level terms
said-writable text trees.none none level small say are deep = tt
said-writable text (trees.leaf token rest) (word bytes span more) level small
    (kind, said, place, others) are deep =
    let parts = refused-none (ltb max_level level) token.span (first_deep level rest) deep in (
      level-within level parts.0,
      word-said text token bytes kind are.0 said,
      said-writable text rest more level small others are.1 parts.1,
    )
said-writable text (trees.leaf token rest) (number value span more) level small
    (kind, said, place, others) are deep =
    let parts = refused-none (ltb max_level level) token.span (first_deep level rest) deep in
    (level-within level parts.0, said-writable text rest more level small others are.1 parts.1)
said-writable text (trees.leaf token rest) (string bytes span more) level small
    (kind, said, place, others) are deep =
    let parts = refused-none (ltb max_level level) token.span (first_deep level rest) deep in (
      level-within level parts.0,
      string-bytes text token.span bytes small said,
      said-writable text rest more level small others are.1 parts.1,
    )
said-writable text (trees.call head arguments place rest) (call bytes inner span more) level small
    (said, is, inside, others) are deep =
    let parts = refused-none (ltb max_level level) place _ deep in
    let both = first_of_two-none (first_deep (level + 1) arguments)
    (first_deep level rest) parts.1 in (
      level-within level parts.0,
      word-said text head bytes are.1 are.0 said,
      term-said text arguments inner inside are.2,
      said-writable text arguments inner (level + 1) small inside are.3 both.0,
      said-writable text rest more level small others are.4 both.1,
    )
said-writable text _ _ level small say are deep = absurd say
