-- The first of several terms, by their tokens.
use Rattle.std.proofs.Common.{◌≡◌, ◌⊎◌, inl, inr, List, [], ◌∷◌, ◌++◌, refl, sym, ap, ◌∙◌, subst}
use Rattle.std.proofs.Common.{append_assoc}
use Rattle.query_tokens.specs.declared.token.Token.{Token}
use Rattle.query_tokens.specs.declared.token.TokenKind.{TokenKind}
use Rattle.query_tokens.specs.declared.token.TokenKind.TheVariants.{Open, Close, Comma}
use Rattle.query_trees.specs.Terms.{AreMore, AreArguments, AreTerms}
use Rattle.query_trees.specs.Trees.{Trees, none, leaf, call}
use Rattle.query_trees.specs.Reads.{NextIs, IsBefore, AreInCall, after_first}

-- tokens do not begin in two ways
pub no_two : (a b : TokenKind) (tokens : List Token) → (a ≡ b → ⊥) → NextIs a tokens
    → NextIs b tokens → ⊥
no_two a b [] differ is other = is
no_two a b (token ∷ rest) differ is other = differ (sym is ∙ other)

-- an empty list begins with no token
pub no_next : (kind : TokenKind) (tokens : List Token) → tokens ≡ [] → NextIs kind tokens → ⊥
no_next kind [] e is = is
no_next kind (token ∷ rest) e is = absurd (cc)

-- after an argument come the others, which begin with `)`, or a comma and further arguments
abbrev pub Follows : Trees → List Token → List Token → Type 0
Follows rest tokens others = ((rest ≡ none) × (tokens ≡ others) × NextIs Close others)
    ⊎ ((comma : Token) × (more : List Token) × (tokens ≡ comma ∷ more) × (comma.kind ≡ Comma)
    × AreInCall rest more others)

-- what may stand after an argument, and that it is no `(`
pub record HasFollowing (rest : Trees) (tokens others : List Token) : Type 0 where
  pub follows : Follows rest tokens others
  pub no_open : NextIs Open tokens → ⊥

-- so it is after an argument
more-follows :
    (rest : Trees) (tokens others : List Token) → AreMore (AreArguments rest) rest tokens
    → NextIs Close others → HasFollowing rest (tokens ++ others) others
more-follows none tokens others more closes =
    let e : tokens ++ others ≡ others = rw more refl in
    record {
      follows = inl (refl, e, closes);
      no_open = λ is. no_two Close Open others (λ k. cc) closes (subst (NextIs Open) e is);
    }
more-follows (leaf token rest) tokens others (comma, more, split, is_comma, are) closes =
    let e : tokens ++ others ≡ comma ∷ more ++ others = rw split refl in
    let in_call : AreInCall (leaf token rest) (more ++ others) others =
    record { inner = more; split = refl; holds = are; closes = closes } in
    record {
      follows = inr (comma, more ++ others, e, is_comma, in_call);
      no_open = λ is. let k : comma.kind ≡ Open = subst (NextIs Open) e is in absurd (cc);
    }
more-follows (call head inner span rest) tokens others (comma, more, split, is_comma, are) closes =
    let e : tokens ++ others ≡ comma ∷ more ++ others = rw split refl in
    let in_call : AreInCall (call head inner span rest) (more ++ others) others =
    record { inner = more; split = refl; holds = are; closes = closes } in
    record {
      follows = inr (comma, more ++ others, e, is_comma, in_call);
      no_open = λ is. let k : comma.kind ≡ Open = subst (NextIs Open) e is in absurd (cc);
    }

-- the first of arguments stands before the rest of them
pub record HasFirst (trees : Trees) (tokens others : List Token) : Type 0 where
  pub after : List Token
  pub first : IsBefore trees tokens after
  pub follows : Follows (after_first trees) after others

-- so it does
pub first-in_call : (trees : Trees) (tokens others : List Token) → AreInCall trees tokens others
    → HasFirst trees tokens others
first-in_call none tokens others are = absurd are.holds
first-in_call (leaf token rest) tokens others are =
    let held : AreArguments (leaf token rest) are.inner = are.holds in
    let has = more-follows rest held.0 others held.3 are.closes in
    record {
      after = held.0 ++ others;
      first = record {
        begins = (are.split ∙ ap (λ (x : List Token). x ++ others) held.1, held.2);
        no_open = has.no_open;
      };
      follows = has.follows;
    }
first-in_call (call head arguments span rest) tokens others are =
    let held : AreArguments (call head arguments span rest) are.inner = are.holds in
    let c = held.1 in
    let has = more-follows rest held.0 others held.2 are.closes in
    record {
      after = held.0 ++ others;
      first = record {
        begins = record {
          open_ = c.open_;
          inner = c.inner;
          close = c.close;
          split = are.split ∙ (ap (λ (x : List Token). x ++ others) c.split
              ∙ append_assoc (head ∷ c.open_ ∷ c.inner) (c.close ∷ held.0) others);
          word = c.word;
          opens = c.opens;
          holds = c.holds;
          closes = c.closes;
          place = c.place;
        };
        no_open = has.no_open;
      };
      follows = has.follows;
    }

-- terms begin with no `(`
pub terms-no_open : (trees : Trees) (tokens : List Token) → AreTerms trees tokens
    → NextIs Open tokens → ⊥
terms-no_open none tokens are opens = no_next Open tokens are opens
terms-no_open (leaf token rest) tokens (others, split, inl is, are) opens =
    let k : token.kind ≡ Open = subst (NextIs Open) split opens in absurd (cc)
terms-no_open (leaf token rest) tokens (others, split, inr (inl is), are) opens =
    let k : token.kind ≡ Open = subst (NextIs Open) split opens in absurd (cc)
terms-no_open (leaf token rest) tokens (others, split, inr (inr is), are) opens =
    let k : token.kind ≡ Open = subst (NextIs Open) split opens in absurd (cc)
terms-no_open (call head arguments span rest) tokens (others, c, are) opens =
    let k : head.kind ≡ Open = subst (NextIs Open) c.split opens in
    let word = c.word in absurd (cc)

-- the first of terms stands before the rest of them
pub record HasFirstTerm (trees : Trees) (tokens : List Token) : Type 0 where
  pub after : List Token
  pub first : IsBefore trees tokens after
  pub are : AreTerms (after_first trees) after

-- so it does
pub first-term : (trees : Trees) (tokens : List Token) → AreTerms trees tokens → (tokens ≡ [] → ⊥)
    → HasFirstTerm trees tokens
first-term none tokens are some = absurd (some are)
first-term (leaf token rest) tokens (others, split, is_leaf, are) some = record {
  after = others;
  first = record { begins = (split, is_leaf); no_open = terms-no_open rest others are };
  are = are;
}
first-term (call head arguments span rest) tokens (others, c, are) some = record {
  after = others;
  first = record { begins = c; no_open = terms-no_open rest others are };
  are = are;
}
