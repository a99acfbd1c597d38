-- One token after another.
use Rattle.std.proofs.Common.{◌≡◌, ℕ, ◌+◌, ◌-◌, ◌<◌, ◌≤◌, List, [], ◌∷◌, ◌++◌, length, take, drop}
use Rattle.std.proofs.Common.{Some, inl, inr, sym, ap, ◌∙◌, subst, arith}
use Rattle.std.proofs.lemmas.List.{append_assoc, length-append, length-take-le, length-drop}
use Rattle.std.proofs.lemmas.List.{drop-drop, drop_at, take-append-drop}
use Rattle.query_tokens.specs.declared.token.Token.{Token}
use Rattle.query_tokens.specs.declared.token.TokenKind.{TokenKind}
use Rattle.query_tokens.specs.Raw.{BeginsNone}
use Rattle.query_tokens.specs.Tokens.{FailsAt, AreTokens, FaultAfter}
use Rattle.query_tokens.specs.Front.{IsBlankLength, BlankUpTo, IsFirst}
use Rattle.query_tokens.specs.Next.{IsTokenAt}
use Rattle.query_tokens.proofs.FirstBytes.{raw_not_empty}

-- blank that ends before the text does
up_to : (bytes : List ℕ) (blank : ℕ) → IsBlankLength bytes blank → blank < length bytes
    → BlankUpTo bytes blank
up_to bytes blank (inl (all, to_end)) less = absurd (omega (arith, all))
up_to bytes blank (inr found) less = found

-- what stands after it
after : (bytes : List ℕ) (blank : ℕ) (found : BlankUpTo bytes blank) → found.rest ≡ drop blank bytes
after bytes blank found =
    sym (ap (drop blank) found.split ∙ drop_at found.blank found.rest blank (sym found.is))

-- no token after the blank
pub fails_at : (place : ℕ) (bytes : List ℕ) (blank : ℕ) → IsBlankLength bytes blank
    → blank < length bytes → BeginsNone (drop blank bytes) → FailsAt place bytes (place + blank)
fails_at place bytes blank is less none =
    let found = up_to bytes blank is less in
    record {
      blank = found.blank;
      rest = found.rest;
      split = found.split;
      is_blank = found.is_blank;
      no_blank = found.no_blank;
      no_token = subst BeginsNone (sym (after bytes blank found)) none;
      is = ap (λ n. place + n) found.is;
    }

-- a token after the blank
pub stands_at : (place : ℕ) (bytes : List ℕ) (blank : ℕ) (kind : TokenKind) (len : ℕ)
    → IsBlankLength bytes blank → blank < length bytes
    → IsFirst (drop blank bytes) (Some (kind, len)) → IsTokenAt place bytes
    (record { kind = kind; span = record { from = place + blank; to = place + blank + len } })
stands_at place bytes blank kind len is less first =
    let found = up_to bytes blank is less in
    let here = drop blank bytes in
    let beyond : drop len here ≡ drop (place + blank + len - place) bytes =
    let same : blank + len ≡ place + blank + len - place = omega arith in
    drop-drop len blank bytes ∙ ap (λ n. drop n bytes) same in
    let long : length (take len here) ≡ len = length-take-le len here first.0 in
    record {
      stands = record {
        blank = found.blank;
        raw = take len here;
        split = found.split ∙ ap (λ r. found.blank ++ r) (after bytes blank found
            ∙ sym (take-append-drop len here) ∙ ap (λ r. take len here ++ r) beyond);
        is_blank = found.is_blank;
        is_token = rw (← beyond) first.1;
        from = ap (λ n. place + n) found.is;
        to = ap (λ n. place + blank + n) (sym long);
      };
      later = omega (arith, raw_not_empty kind (take len here) first.1.token, long);
      within = omega (arith, length-drop blank bytes, first.0);
    }

-- the text from the end of a token that stands at a place of it
rest_at : (text : List ℕ) (place to : ℕ) → place ≤ to
    → drop (to - place) (drop place text) ≡ drop to text
rest_at text place to later =
    let same : place + (to - place) ≡ to = omega arith in
    drop-drop (to - place) place text ∙ ap (λ n. drop n text) same

-- the tokens after it are the text's after it and what was before
pub tokens_more : (text : List ℕ) (place : ℕ) (before : List Token) (token : Token)
    → IsTokenAt place (drop place text) token
    → ((others : List Token) → AreTokens place (drop place text) others
    → AreTokens 0 text (before ++ others))
    → (others : List Token) → AreTokens token.span.to (drop token.span.to text) others
    → AreTokens 0 text ((before ++ token ∷ []) ++ others)
tokens_more text place before token at continues others are =
    let rest = rest_at text place token.span.to (omega (arith, at.later)) in
    rw append_assoc (continues (token ∷ others)
    (drop (token.span.to - place) (drop place text), at.stands, rw rest are))

-- and so is a fault after it
pub fault_more : (text : List ℕ) (place : ℕ) (before : List Token) (token : Token)
    → IsTokenAt place (drop place text) token
    → ((others : List Token) (fault : ℕ) → FaultAfter place (drop place text) others fault
    → FaultAfter 0 text (before ++ others) fault)
    → (others : List Token) (fault : ℕ)
    → FaultAfter token.span.to (drop token.span.to text) others fault
    → FaultAfter 0 text ((before ++ token ∷ []) ++ others) fault
fault_more text place before token at continues others fault fails =
    let rest = rest_at text place token.span.to (omega (arith, at.later)) in
    rw append_assoc (continues (token ∷ others) fault
    (drop (token.span.to - place) (drop place text), at.stands, rw rest fails))

-- blank is within the bytes
pub blank_within : (bytes : List ℕ) (blank : ℕ) → IsBlankLength bytes blank → blank ≤ length bytes
blank_within bytes blank (inl (all, to_end)) = omega (arith, all)
blank_within bytes blank (inr found) =
    omega (arith, found.is, ap length found.split ∙ length-append found.blank found.rest)
