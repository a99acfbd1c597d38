-- A term, read token by token.
use Rattle.std.proofs.Common.{◌≡◌, ℕ, ◌+◌, ◌≤◌, List, [], ◌∷◌, ◌++◌, None, Ok, Err, Vec, refl, sym}
use Rattle.std.proofs.Common.{ap, ◌∙◌, subst}
use Rattle.std.proofs.lemmas.Bool.{le-ltb}
use Rattle.std.specs.declared.alloc.Global.{Global}
use Rattle.language_base.specs.Limits.{max_level}
use Rattle.language_base.specs.declared.span.Span.{Span}
use Rattle.query_tokens.specs.declared.token.Token.{Token}
use Rattle.query_tokens.specs.declared.token.TokenKind.TheVariants.{Open}
use Rattle.query_trees.specs.declared.stop.TreeStop.{TreeStop}
use Rattle.query_trees.specs.declared.stop.TreeStop.TheVariants.{NoList, Deep, Memory}
use Rattle.query_trees.specs.declared.tree.Tree.{Tree}
use Rattle.query_trees.specs.Terms.{Calls, AreArguments}
use Rattle.query_trees.specs.Trees.{Trees, none, leaf, call, tree_before, trees_of}
use Rattle.query_trees.specs.Reads.{ReadsInCall, NextIs, Begins, IsBefore, AreInCall, after_first}
use Rattle.query_trees.specs.Reads.{deep_in_arguments, deep_in_first, IsFirst}

-- up to the most levels only its arguments may be
deep-within : (level : ℕ) (trees : Trees) → level ≤ max_level
    → deep_in_first level trees ≡ deep_in_arguments (level + 1) trees
deep-within level trees within = let b = le-ltb max_level level within in rw b refl

-- the tokens begin with this one and `(`, and the inner ones follow
pub record BeginsCall (tokens : List Token) (head : Token) (inner : List Token) : Type 0 where
  pub open_ : Token
  pub split : tokens ≡ head ∷ open_ ∷ inner
  pub opens : open_.kind ≡ Open

-- as they are read, one after the other
pub begins-call :
    (tokens rest inner : List Token) (head open_ : Token) → tokens ≡ head ∷ rest
    → rest ≡ open_ ∷ inner → NextIs Open rest → BeginsCall tokens head inner
begins-call tokens rest inner head open_ first next opens = record {
  open_ = open_;
  split = first ∙ ap (λ (x : List Token). head ∷ x) next;
  opens = subst (NextIs Open) next opens;
}

-- a word and `(` at the front are those of a call, whose arguments follow
pub record IsCall (trees : Trees) (head : Token) (inner others : List Token) : Type 0 where
  pub arguments : Trees
  pub span : Span
  pub rest : Trees
  pub close : Token
  pub is : trees ≡ call head arguments span rest
  pub in_call : AreInCall arguments inner (close ∷ others)
  pub place : span ≡ record { from = head.span.from; to = close.span.to }

-- so it is
pub is-call :
    (trees : Trees) (tokens others inner : List Token) (head : Token) → IsBefore trees tokens others
    → BeginsCall tokens head inner → IsCall trees head inner others
is-call none tokens others inner head is begins = absurd is.begins
is-call (leaf token rest) tokens others inner head is begins =
    let stands : Begins (leaf token rest) tokens others = is.begins in
    let e : others ≡ begins.open_ ∷ inner = cc (begins.split, stands.0) in
    absurd (is.no_open (subst (NextIs Open) (sym e) begins.opens))
is-call (call word arguments span rest) tokens others inner head is begins =
    let c : Calls word span (AreArguments arguments) tokens others = is.begins in
    let same : word ≡ head = cc (begins.split, c.split) in
    let e : inner ≡ c.inner ++ c.close ∷ others = cc (begins.split, c.split) in
    record {
      arguments = arguments;
      span = span;
      rest = rest;
      close = c.close;
      is = ap (λ (h : Token). call h arguments span rest) same;
      in_call = record { inner = c.inner; split = e; holds = c.holds; closes = c.closes };
      place =
          c.place ∙ ap (λ (h : Token). record { from = h.span.from; to = c.close.span.to }) same;
    }

-- a call is read
pub call-read :
    (level : ℕ) (tokens inner now after : List Token) (head close : Token)
    (list : Vec Tree Global) (tree : Tree) → level ≤ max_level → BeginsCall tokens head inner
    → ReadsInCall (level + 1) inner now (Ok list) → now ≡ close ∷ after
    → ((rest : Trees) → tree_before tree rest
    ≡ call head (trees_of list.items) (record { from = head.span.from; to = close.span.to }) rest)
    → (trees : Trees) (others : List Token) → IsBefore trees tokens others
    → IsFirst level trees others after (Ok tree)
call-read level tokens inner now after head close list tree within begins reads closing made
    trees others is =
    let c = is-call trees tokens others inner head is begins in
    let got = reads c.arguments (c.close ∷ others) c.in_call in
    let same : c.close ≡ close = cc (got.1, closing) in
    let left : after ≡ others = cc (got.1, closing) in
    let further : after_first trees ≡ c.rest = ap after_first c.is in
    let place : c.span ≡ record { from = head.span.from; to = close.span.to } =
    c.place ∙ ap (λ (h : Token). record { from = head.span.from; to = h.span.to }) same in
    let deep : deep_in_first level trees ≡ None =
    deep-within level trees within ∙ (ap (deep_in_arguments (level + 1)) c.is ∙ got.2) in
    let is_made = made (after_first trees) in
    let whole : trees ≡ tree_before tree (after_first trees) =
    c.is ∙ (rw (got.0, place, ← further) (sym is_made)) in
    (whole, left, deep)

-- the arguments of a call are not read
pub call-err :
    (level : ℕ) (tokens inner now left : List Token) (head : Token) (stop : TreeStop)
    → level ≤ max_level → BeginsCall tokens head inner
    → ReadsInCall (level + 1) inner now (Err stop) → (trees : Trees) (others : List Token)
    → IsBefore trees tokens others → IsFirst level trees others left (Err stop)
call-err level tokens inner now left head (NoList span) within begins reads trees others is =
    let c = is-call trees tokens others inner head is begins in
    reads c.arguments (c.close ∷ others) c.in_call
call-err level tokens inner now left head (Deep span) within begins reads trees others is =
    let c = is-call trees tokens others inner head is begins in
    deep-within level trees within
    ∙ (ap (deep_in_arguments (level + 1)) c.is ∙ reads c.arguments (c.close ∷ others) c.in_call)
call-err level tokens inner now left head Memory within begins reads trees others is = tt

-- after the arguments of a call something follows
pub call-ends :
    (level : ℕ) (tokens inner now : List Token) (head : Token) (list : Vec Tree Global)
    → BeginsCall tokens head inner → ReadsInCall (level + 1) inner now (Ok list) → now ≡ []
    → (trees : Trees) (others : List Token) → IsBefore trees tokens others → ⊥
call-ends level tokens inner now head list begins reads end trees others is =
    let c = is-call trees tokens others inner head is begins in
    let got = reads c.arguments (c.close ∷ others) c.in_call in
    let left = got.1 in
    absurd (cc)
