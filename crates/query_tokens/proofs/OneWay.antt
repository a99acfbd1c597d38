-- A text is taken apart in one way.
use Rattle.std.proofs.Common.{◌≡◌, ◌≢◌, ℕ, ◌≤◌, inl, inr, Bool, true, false, ◌||◌, ◌==◌, List, []}
use Rattle.std.proofs.Common.{◌∷◌, ◌++◌, length, take, drop, Some, None, refl, sym, ap, ◌∙◌, subst}
use Rattle.std.proofs.Common.{arith}
use Rattle.std.proofs.lemmas.Bool.{cases_lt}
use Rattle.std.proofs.lemmas.Bool.Decides.{nat_tests}
use Rattle.std.proofs.lemmas.List.{length-append, take_at, drop_at, take-append-drop}
use Rattle.std.proofs.lemmas.List.{take-append-le, drop-append-le, nil_from_length}
use Rattle.query_tokens.specs.declared.token.Token.{Token}
use Rattle.query_tokens.specs.declared.token.TokenKind.{TokenKind}
use Rattle.query_tokens.specs.Raw.{is_space, IsBlankToEnd, BeginsNoBlank, IsRaw, IsLongest}
use Rattle.query_tokens.specs.Raw.{IsString}
use Rattle.query_tokens.specs.Tokens.{Stands, FailsAt, AreTokens, FaultAfter}
use Rattle.query_tokens.specs.Front.{kind_of, kind_at}
use Rattle.query_tokens.proofs.Blanks.{to_end_counts, up_to_counts}
use Rattle.query_tokens.proofs.Closing.{one_reading}
use Rattle.query_tokens.proofs.FirstBytes.{raw_kind_at, raw_not_empty}

-- a space begins no token
space_begins_none : (byte : ℕ) → is_space byte ≡ true → kind_of byte ≡ None
space_begins_none byte is =
    by_tests (byte == 32) (byte == 9) (byte == 13) (byte == 10) refl refl refl refl is
  where
    by_tests : (a b c d : Bool) → (byte == 32) ≡ a → (byte == 9) ≡ b → (byte == 13) ≡ c
        → (byte == 10) ≡ d → (((a || b) || c) || d) ≡ true → kind_of byte ≡ None
    by_tests true b c d ha hb hc hd e = let same : byte ≡ 32 =
        grind (arith, nat_tests) in ap kind_of same
    by_tests false true c d ha hb hc hd e = let same : byte ≡ 9 =
        grind (arith, nat_tests) in ap kind_of same
    by_tests false false true d ha hb hc hd e = let same : byte ≡ 13 =
        grind (arith, nat_tests) in ap kind_of same
    by_tests false false false true ha hb hc hd e = let same : byte ≡ 10 =
        grind (arith, nat_tests) in ap kind_of same
    by_tests false false false false ha hb hc hd e = absurd (cc)

-- a byte that begins a token is no blank
first_no_blank : (byte : ℕ) (kind : TokenKind) → kind_of byte ≡ Some kind
    → (is_space byte ≡ false) × (byte ≢ 35)
first_no_blank byte kind is = (by_test (is_space byte) refl, λ hash. absurd (cc (ap kind_of hash)))
  where
    by_test : (space : Bool) → is_space byte ≡ space → space ≡ false
    by_test false s = refl
    by_test true s = absurd (cc (space_begins_none byte s))

-- a token begins no blank
token_no_blank : (kind : TokenKind) (raw rest : List ℕ) → IsRaw kind raw
    → BeginsNoBlank (raw ++ rest)
token_no_blank kind [] rest is_raw = absurd (omega (arith, raw_not_empty kind [] is_raw))
token_no_blank kind (b ∷ raw) rest is_raw =
    first_no_blank b kind (raw_kind_at kind (b ∷ raw) rest is_raw)

-- bytes of the same length at the front of the same bytes are the same
same_front : (front front' rest rest' : List ℕ) → front ++ rest ≡ front' ++ rest'
    → length front' ≡ length front → (front' ≡ front) × (rest' ≡ rest)
same_front front front' rest rest' same long = (
  sym (take_at front' rest' (length front) long) ∙ ap (take (length front)) (sym same)
      ∙ take_at front rest (length front) refl,
  sym (drop_at front' rest' (length front) long) ∙ ap (drop (length front)) (sym same)
      ∙ drop_at front rest (length front) refl,
)

-- no other token is longer than the longest
no_longer : (kind kind' : TokenKind) (raw raw' rest rest' : List ℕ) → IsLongest kind raw rest
    → IsRaw kind' raw' → raw ++ rest ≡ raw' ++ rest' → length raw' ≤ length raw
no_longer kind kind' raw raw' rest rest' longest token same =
    elim (cases_lt (length raw) (length raw')) [
      | inl less ↦
          let more = drop (length raw) raw' in
          let front : take (length raw) raw' ≡ raw =
          sym (take-append-le (length raw) raw' rest' (omega arith))
          ∙ ap (take (length raw)) (sym same) ∙ take_at raw rest (length raw) refl in
          let beyond : rest ≡ more ++ rest' =
          sym (drop_at raw rest (length raw) refl) ∙ ap (drop (length raw)) same
          ∙ drop-append-le (length raw) raw' rest' (omega arith) in
          let whole : raw' ≡ raw ++ more =
          sym (take-append-drop (length raw) raw') ∙ ap (λ r. r ++ more) front in
          let none = longest.longest kind' more rest' beyond (subst (IsRaw kind') whole token) in
          omega (arith, ap length whole ∙ length-append raw more, ap length none)
      | inr not_less ↦ not_less
    ]

-- the longest token is one
one_token : (kind kind' : TokenKind) (raw raw' rest rest' : List ℕ) → IsLongest kind raw rest
    → IsLongest kind' raw' rest' → raw ++ rest ≡ raw' ++ rest'
    → (kind' ≡ kind) × (raw' ≡ raw) × (rest' ≡ rest)
one_token kind kind' raw raw' rest rest' longest longest' same =
    let less = no_longer kind kind' raw raw' rest rest' longest longest'.token same in
    let more = no_longer kind' kind raw' raw rest' rest longest' longest.token (sym same) in
    let fronts = same_front raw raw' rest rest' same (omega (arith, less, more)) in
    let kinds : Some kind' ≡ Some kind = sym (raw_kind_at kind' raw' rest' longest'.token)
    ∙ ap kind_at (sym same) ∙ raw_kind_at kind raw rest longest.token in
    (cc, fronts.0, fronts.1)

-- what stands at a place is one token, and one rest
stands_once : (at : ℕ) (text : List ℕ) (token token' : Token) (rest rest' : List ℕ)
    → Stands at text token rest → Stands at text token' rest' → (token' ≡ token) × (rest' ≡ rest)
stands_once at text token token' rest rest' s s' =
    let here = up_to_counts text s.blank (s.raw ++ rest) s.split s.is_blank
    (token_no_blank token.kind s.raw rest s.is_token.token) in
    let here' = up_to_counts text s'.blank (s'.raw ++ rest') s'.split s'.is_blank
    (token_no_blank token'.kind s'.raw rest' s'.is_token.token) in
    let fronts = same_front s.blank s'.blank (s.raw ++ rest) (s'.raw ++ rest')
    (sym s.split ∙ s'.split) (omega (arith, here, here')) in
    let one = one_token token.kind token'.kind s.raw s'.raw rest rest' s.is_token s'.is_token
    (sym fronts.1) in
    let from : token'.span.from ≡ token.span.from = omega (arith, s.from, s'.from, here, here') in
    let to : token'.span.to ≡ token.span.to = omega (arith, s.to, s'.to, from, ap length one.1) in
    (λ i. record { kind = one.0 i; span = record { from = from i; to = to i } }, one.2)

-- where a token stands the text is not blank to its end
stands_not_end : (at : ℕ) (text : List ℕ) (token : Token) (rest : List ℕ)
    → Stands at text token rest → IsBlankToEnd text → ⊥
stands_not_end at text token rest s to_end =
    let here = up_to_counts text s.blank (s.raw ++ rest) s.split s.is_blank
    (token_no_blank token.kind s.raw rest s.is_token.token) in
    let long = ap length s.split ∙ length-append s.blank (s.raw ++ rest) in
    omega (
      arith,
      here,
      to_end_counts text to_end,
      long,
      length-append s.raw rest,
      raw_not_empty token.kind s.raw s.is_token.token,
    )

-- nor does it lack a token there
stands_not_fault : (at place : ℕ) (text : List ℕ) (token : Token) (rest : List ℕ)
    → Stands at text token rest → FailsAt at text place → ⊥
stands_not_fault at place text token rest s f =
    let here = up_to_counts text s.blank (s.raw ++ rest) s.split s.is_blank
    (token_no_blank token.kind s.raw rest s.is_token.token) in
    let there = up_to_counts text f.blank f.rest f.split f.is_blank f.no_blank in
    let fronts = same_front s.blank f.blank (s.raw ++ rest) f.rest (sym s.split ∙ f.split)
    (omega (arith, here, there)) in
    f.no_token token.kind s.raw rest fronts.1 s.is_token.token

-- blank to the end leaves no byte for a fault
end_not_fault : (at place : ℕ) (text : List ℕ) → IsBlankToEnd text → FailsAt at text place → ⊥
end_not_fault at place text to_end f =
    let there = up_to_counts text f.blank f.rest f.split f.is_blank f.no_blank in
    let long = ap length f.split ∙ length-append f.blank f.rest in
    let none = nil_from_length f.rest (omega (arith, there, to_end_counts text to_end, long)) in
    subst BeginsNoBlank none f.no_blank

-- a place of fault is one
fails_once : (at place other : ℕ) (text : List ℕ) → FailsAt at text place
    → FailsAt at text other → other ≡ place
fails_once at place other text f f' =
    let here = up_to_counts text f.blank f.rest f.split f.is_blank f.no_blank in
    let there = up_to_counts text f'.blank f'.rest f'.split f'.is_blank f'.no_blank in
    omega (arith, here, there, f.is, f'.is)

-- a text has one list of tokens
pub one_list : (at : ℕ) (text : List ℕ) (tokens others : List Token) → AreTokens at text tokens
    → AreTokens at text others → others ≡ tokens
one_list at text [] [] are are' = refl
one_list at text [] (o ∷ others) are (rest', s', are') =
    absurd (stands_not_end at text o rest' s' are)
one_list at text (t ∷ tokens) [] (rest, s, are) are' = absurd (stands_not_end at text t rest s are')
one_list at text (t ∷ tokens) (o ∷ others) (rest, s, are) (rest', s', are') =
    let same = stands_once at text t o rest rest' s s' in
    let moved : AreTokens t.span.to rest others =
    subst (λ (x : Token). AreTokens x.span.to rest others) same.0
    (subst (λ r. AreTokens o.span.to r others) same.1 are') in
    cc (same.0, one_list t.span.to rest tokens others are moved)

-- a text that has tokens has no fault
pub no_fault : (at place : ℕ) (text : List ℕ) (tokens before : List Token)
    → AreTokens at text tokens → FaultAfter at text before place → ⊥
no_fault at place text [] [] are fails = end_not_fault at place text are fails
no_fault at place text [] (o ∷ before) are (rest', s', fails) =
    stands_not_end at text o rest' s' are
no_fault at place text (t ∷ tokens) [] (rest, s, are) fails =
    stands_not_fault at place text t rest s fails
no_fault at place text (t ∷ tokens) (o ∷ before) (rest, s, are) (rest', s', fails) =
    let same = stands_once at text t o rest rest' s s' in
    let moved : FaultAfter t.span.to rest before place =
    subst (λ (x : Token). FaultAfter x.span.to rest before place) same.0
    (subst (λ r. FaultAfter o.span.to r before place) same.1 fails) in
    no_fault t.span.to place rest tokens before are moved

-- a text has one place of fault
pub one_place : (at place other : ℕ) (text : List ℕ) (before others : List Token)
    → FaultAfter at text before place → FaultAfter at text others other → other ≡ place
one_place at place other text [] [] fails fails' = fails_once at place other text fails fails'
one_place at place other text [] (o ∷ others) fails (rest', s', fails') =
    absurd (stands_not_fault at place text o rest' s' fails)
one_place at place other text (t ∷ before) [] (rest, s, fails) fails' =
    absurd (stands_not_fault at other text t rest s fails')
one_place at place other text (t ∷ before) (o ∷ others) (rest, s, fails) (rest', s', fails') =
    let same = stands_once at text t o rest rest' s s' in
    let moved : FaultAfter t.span.to rest others other =
    subst (λ (x : Token). FaultAfter x.span.to rest others other) same.0
    (subst (λ r. FaultAfter o.span.to r others other) same.1 fails') in
    one_place t.span.to place other rest before others fails moved

-- a string stands for one list of bytes
pub one_string : (raw bytes others : List ℕ) → IsString raw bytes → IsString raw others
    → others ≡ bytes
one_string raw bytes others string string' =
    let same : 34 ∷ (string'.parts ++ 34 ∷ []) ≡ 34 ∷ (string.parts ++ 34 ∷ []) =
    sym string'.quoted ∙ string.quoted in
    (one_reading others bytes string'.parts string.parts [] [] string'.stand string.stand
    (ap (drop 1) same)).1
