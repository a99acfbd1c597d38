-- The tokens of a text are the bytes at their places.
use Rattle.std.proofs.Common.{◌≡◌, ℕ, ◌+◌, ◌-◌, ◌≤◌, List, [], ◌∷◌, ◌++◌, length, drop, slice_range}
use Rattle.std.proofs.Common.{refl, sym, ap, ◌∙◌, subst, arith, length-append, append_assoc}
use Rattle.std.proofs.Math.Seq.{drop-append_seam, take-append_seam}
use Rattle.std.specs.List.{AllByRecursion}
use Rattle.query_tokens.specs.declared.token.Token.{Token}
use Rattle.query_tokens.specs.Tokens.{AreTokens}
use Rattle.query_tokens.specs.Raw.{IsRaw}
use Rattle.query_forms.specs.Terms.{IsTokenOf, bytes_at}

-- what stands between a front and a rest
pub range_between : (front here rest : List ℕ) (from to : ℕ) → from ≡ length front
    → to ≡ from + length here →
    slice_range (front ++ (here ++ rest)) from to ≡ here
range_between front here rest from to starts ends =
    let after : drop from (front ++ (here ++ rest)) ≡ here ++ rest =
    ap (λ n. drop n (front ++ (here ++ rest))) starts ∙ drop-append_seam front (here ++ rest) in
    let count : to - from ≡ length here = omega arith in
    rw (after, count) (take-append_seam here rest)

-- each token that stands after a front is one of the whole text
tokens_after : (whole front text : List ℕ) (at : ℕ) (tokens : List Token) → whole ≡ front ++ text
    → at ≡ length front →
    AreTokens at text tokens → AllByRecursion (IsTokenOf whole) tokens
tokens_after whole front text at [] split starts are = tt
tokens_after whole front text at (token ∷ tokens) split starts (rest, stands, others) =
    let before = front ++ stands.blank in
    let whole_is : whole ≡ before ++ (stands.raw ++ rest) =
    split ∙ ap (λ bytes. front ++ bytes) stands.split
    ∙ sym (append_assoc front stands.blank (stands.raw ++ rest)) in
    let from : token.span.from ≡ length before =
    stands.from ∙ omega (arith, starts, length-append front stands.blank) in
    let within : token.span.to ≤ length whole =
    omega (
      arith,
      from,
      stands.to,
      ap length whole_is,
      length-append before (stands.raw ++ rest),
      length-append stands.raw rest,
    ) in
    let here : bytes_at whole token.span ≡ stands.raw =
    ap (λ bytes. bytes_at bytes token.span) whole_is
    ∙ range_between before stands.raw rest token.span.from token.span.to from stands.to in
    let ends : token.span.to ≡ length (before ++ stands.raw) =
    omega (arith, from, stands.to, length-append before stands.raw) in (
      record {
        order = omega (arith, stands.to);
        within = within;
        raw = subst (IsRaw token.kind) (sym here) stands.is_token.token;
      },
      tokens_after whole (before ++ stands.raw) rest token.span.to tokens
          (whole_is ∙ sym (append_assoc before stands.raw rest)) ends others,
    )

-- each token of a text
pub tokens_of_text : (text : List ℕ) (tokens : List Token) → AreTokens 0 text tokens →
    AllByRecursion (IsTokenOf text) tokens
tokens_of_text text tokens are = tokens_after text [] text 0 tokens refl refl are
