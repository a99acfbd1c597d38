-- For the prover. What is read from tokens that are known to be terms.
use Rattle.std.specs.Prelude.{◌≡◌, ℕ, ◌+◌, nat_lt, if◌then◌else◌, List, [], ◌∷◌, ◌++◌, Option, Some}
use Rattle.std.specs.Prelude.{None, Vec, Result, Ok, Err}
use Rattle.std.specs.declared.alloc.Global.{Global}
use Rattle.language_base.specs.Limits.{max_level}
use Rattle.language_base.specs.declared.span.Span.{Span}
use Rattle.query_tokens.specs.declared.token.Token.{Token}
use Rattle.query_tokens.specs.declared.token.TokenKind.{TokenKind}
use Rattle.query_tokens.specs.declared.token.TokenKind.TheVariants.{Open, Close}
use Rattle.query_trees.specs.declared.stop.TreeStop.{TreeStop}
use Rattle.query_trees.specs.declared.stop.TreeStop.TheVariants.{NoList, Deep, Memory}
use Rattle.query_trees.specs.declared.tree.Tree.{Tree}
use Rattle.query_trees.specs.Terms.{IsLeaf, Calls, AreArguments, AreTerms}
use Rattle.query_trees.specs.Trees.{Trees, none, leaf, call, tree_before, trees_of, first_deep}

-- the tokens begin with one of this kind
abbrev pub NextIs : TokenKind → List Token → Type 0
NextIs kind [] = ⊥
NextIs kind (token ∷ rest) = token.kind ≡ kind

-- the tokens begin with the first of the terms, and the other tokens follow
abbrev pub Begins : Trees → List Token → List Token → Type 0
Begins none tokens others = ⊥
Begins (leaf token rest) tokens others = (tokens ≡ token ∷ others) × IsLeaf token
Begins (call head arguments span rest) tokens others =
    Calls head span (AreArguments arguments) tokens others

-- the same, and the first term is not continued by a `(`
pub record IsBefore (trees : Trees) (tokens others : List Token) : Type 0 where
  pub begins : Begins trees tokens others
  pub no_open : NextIs Open others → ⊥

-- the tokens are the arguments and then the others, which begin with `)`
pub record AreInCall (trees : Trees) (tokens others : List Token) : Type 0 where
  pub inner : List Token
  pub split : tokens ≡ inner ++ others
  pub holds : AreArguments trees inner
  pub closes : NextIs Close others

-- the terms after the first
abbrev pub after_first : Trees → Trees
after_first none = none
after_first (leaf token rest) = rest
after_first (call head arguments span rest) = rest

-- the place of the first term
abbrev pub place_of_first : Trees → Option Span
place_of_first none = None
place_of_first (leaf token rest) = Some token.span
place_of_first (call head arguments span rest) = Some span

-- the place of what is first too deep in the arguments of the first term, which have this level
abbrev pub deep_in_arguments : ℕ → Trees → Option Span
deep_in_arguments level none = None
deep_in_arguments level (leaf token rest) = None
deep_in_arguments level (call head arguments span rest) = first_deep level arguments

-- the place of what is first too deep in the first term, which has this level
abbrev pub deep_in_first : ℕ → Trees → Option Span
deep_in_first level trees =
    if nat_lt max_level level then place_of_first trees else deep_in_arguments (level + 1) trees

-- the stop says that the first of the terms is too deep, and where
abbrev pub IsDeepFirst : Trees → TreeStop → Type 0
IsDeepFirst trees (NoList span) = ⊥
IsDeepFirst trees (Deep span) = place_of_first trees ≡ Some span
IsDeepFirst trees Memory = ⊥

-- what reading the first of the terms gives, which has this level and is followed by the other
-- tokens
abbrev pub IsFirst : ℕ → Trees → List Token → List Token → Result Tree TreeStop → Type 0
IsFirst level trees others left (Ok tree) =
    (trees ≡ tree_before tree (after_first trees)) × (left ≡ others)
    × (deep_in_first level trees ≡ None)
IsFirst level trees others left (Err (NoList span)) = ⊥
IsFirst level trees others left (Err (Deep span)) = deep_in_first level trees ≡ Some span
IsFirst level trees others left (Err Memory) = Unit {0}

-- what reading all terms gives, which have this level and are followed by the other tokens
abbrev pub AreRead : ℕ → Trees → List Token → List Token
    → Result (Vec Tree Global) TreeStop → Type 0
AreRead level trees others left (Ok list) =
    (trees ≡ trees_of list.items) × (left ≡ others) × (first_deep level trees ≡ None)
AreRead level trees others left (Err (NoList span)) = ⊥
AreRead level trees others left (Err (Deep span)) = first_deep level trees ≡ Some span
AreRead level trees others left (Err Memory) = Unit {0}

-- whatever terms the tokens are, the stop says that the first is too deep, and where
abbrev pub FirstIsDeep : List Token → TreeStop → Type 0
FirstIsDeep tokens stop =
    (trees : Trees) (others : List Token) → IsBefore trees tokens others → IsDeepFirst trees stop

-- whatever terms the tokens are, reading the first gives this result and leaves these tokens
abbrev pub ReadsFirst : ℕ → List Token → List Token → Result Tree TreeStop → Type 0
ReadsFirst level tokens left result =
    (trees : Trees) (others : List Token) → IsBefore trees tokens others
    → IsFirst level trees others left result

-- whatever arguments the tokens are up to a `)`, reading these gives this result and leaves these
-- tokens
abbrev pub ReadsInCall : ℕ → List Token → List Token → Result (Vec Tree Global) TreeStop → Type 0
ReadsInCall level tokens left result =
    (trees : Trees) (others : List Token) → AreInCall trees tokens others
    → AreRead level trees others left result

-- whatever terms the tokens are, reading all gives this result and leaves these tokens
abbrev pub ReadsAll : List Token → List Token → Result (Vec Tree Global) TreeStop → Type 0
ReadsAll tokens left result =
    (trees : Trees) → AreTerms trees tokens → AreRead 1 trees [] left result
