-- Tokens that are as long as possible.
use Rattle.std.proofs.Common.{◌≡◌, ◌≢◌, ◌≤◌, ◌<◌, inl, inr, ◌⊎◌, ℕ, Bool, true, false, cond, eqb}
use Rattle.std.proofs.Common.{leb, List, [], ◌∷◌, ◌++◌, length, get_or, drop, refl, sym, ap, ◌∙◌}
use Rattle.std.proofs.Common.{subst, arith, append_assoc, length-append}
use Rattle.std.proofs.lemmas.Bool.{false≢true, ne_eqb, le-leb, or_left, and_from}
use Rattle.std.proofs.lemmas.Str.Parse.{digit_from_value}
use Rattle.std.specs.Prelude.{IsTrue}
use Rattle.std.specs.List.{AllByRecursion}
use Rattle.std.specs.Char.{digit_value}
use Rattle.std.specs.Str.Parse.{AllDigits, IsNumeral, without_leading_sign}
use Rattle.query_tokens.specs.declared.token.TokenKind.{TokenKind}
use Rattle.query_tokens.specs.declared.token.TokenKind.TheVariants.{Word, Number, Text, Open, Close}
use Rattle.query_tokens.specs.declared.token.TokenKind.TheVariants.{Comma}
use Rattle.query_tokens.specs.Raw.{is_word_start, is_word_byte, IsWord, IsString, IsRaw, IsLongest}
use Rattle.query_parser.proofs.StringParts.{parts-one_end}

-- bytes that continue no word and no number
abbrev pub EndToken : List ℕ → Type 0
EndToken [] = Unit {0}
EndToken (byte ∷ rest) = is_word_byte byte ≡ false

-- what holds of each element holds of one in the middle
all-middle : (P : ℕ → Type 0) (front : List ℕ) (byte : ℕ) (more : List ℕ)
    → AllByRecursion P (front ++ byte ∷ more) → P byte
all-middle P [] byte more all = all.0
all-middle P (x ∷ front) byte more all = all-middle P front byte more all.1

-- a digit in the middle of digits
digits-middle : (front : List ℕ) (byte : ℕ) (more : List ℕ) → AllDigits 10 (front ++ byte ∷ more)
    → digit_value byte < 10
digits-middle [] byte more all = all.0
digits-middle (x ∷ front) byte more all = digits-middle front byte more all.1

-- a word may continue with a digit
digit-word_byte : (byte : ℕ) → digit_value byte < 10 → is_word_byte byte ≡ true
digit-word_byte byte small =
    let range = digit_from_value byte small in
    or_left _ _ (or_left _ _ (or_left _ _
    (and_from (leb 48 byte) (leb byte 57) (le-leb 48 byte range.0) (le-leb byte 57 range.1))))

-- without its sign a text is what stands after its first byte, or all of it
without_sign-cases : (byte : ℕ) (rest : List ℕ)
    → (without_leading_sign (byte ∷ rest) ≡ rest)
    ⊎ (without_leading_sign (byte ∷ rest) ≡ byte ∷ rest)
without_sign-cases byte rest = by (eqb byte 45) (eqb byte 43)
  where
    by : (minus plus : Bool) → (cond minus rest (drop (cond plus 1 0) (byte ∷ rest)) ≡ rest)
        ⊎ (cond minus rest (drop (cond plus 1 0) (byte ∷ rest)) ≡ byte ∷ rest)
    by true plus = inl refl
    by false true = inl refl
    by false false = inr refl

-- a number continues with digits alone
number-continues : (first : ℕ) (tail : List ℕ) (byte : ℕ) (more : List ℕ)
    → IsNumeral 10 (without_leading_sign (first ∷ tail ++ byte ∷ more)) → is_word_byte byte ≡ true
number-continues first tail byte more is =
    digit-word_byte byte (elim (without_sign-cases first (tail ++ byte ∷ more)) [
      | inl e ↦ digits-middle tail byte more (subst (AllDigits 10) e is.1)
      | inr e ↦ digits-middle (first ∷ tail) byte more (subst (AllDigits 10) e is.1)
    ])

-- a list of two or more is no list of one
two-no_one : (first : ℕ) (tail : List ℕ) (byte : ℕ) (more : List ℕ) (mark : ℕ)
    → first ∷ tail ++ byte ∷ more ≡ mark ∷ [] → ⊥
two-no_one first tail byte more mark e =
    omega (arith, ap length e, length-append tail (byte ∷ more))

-- no token is longer than one before which another cannot begin
no_longer : (other : TokenKind) (first : ℕ) (tail : List ℕ) (byte : ℕ) (more : List ℕ) → first ≢ 34
    → is_word_byte byte ≡ false → IsRaw other (first ∷ tail ++ byte ∷ more) → ⊥
no_longer Word first tail byte more no_quote ends is =
    false≢true (sym ends ∙ all-middle (λ b. IsTrue (is_word_byte b)) tail byte more is.1)
no_longer Number first tail byte more no_quote ends is =
    false≢true (sym ends ∙ number-continues first tail byte more is)
no_longer Text first tail byte more no_quote ends (bytes, is) =
    no_quote (ap (λ l. get_or l 0 0) is.quoted)
no_longer Open first tail byte more no_quote ends is = two-no_one first tail byte more 40 is
no_longer Close first tail byte more no_quote ends is = two-no_one first tail byte more 41 is
no_longer Comma first tail byte more no_quote ends is = two-no_one first tail byte more 44 is

-- a word or a number before such bytes is as long as possible
pub longest-ended : (kind : TokenKind) (first : ℕ) (tail rest : List ℕ) → IsRaw kind (first ∷ tail)
    → first ≢ 34 → EndToken rest → IsLongest kind (first ∷ tail) rest
longest-ended kind first tail rest is no_quote ends = record { token = is; longest = by }
  where
    by : (other : TokenKind) (more beyond : List ℕ) → rest ≡ more ++ beyond
        → IsRaw other (first ∷ tail ++ more) → more ≡ []
    by other [] beyond split raw = refl
    by other (byte ∷ more) beyond split raw =
        absurd (no_longer other first tail byte more no_quote (subst EndToken split ends) raw)

-- what begins with a quote begins with no other byte
quote-no_mark : (rest : List ℕ) (mark : ℕ) (more : List ℕ) → 34 ≢ mark → 34 ∷ rest ≡ mark ∷ more → ⊥
quote-no_mark rest mark more apart e = apart (ap (λ l. get_or l 0 0) e)

-- a string is as long as possible, whatever follows
pub longest-string : (raw bytes rest : List ℕ) → IsString raw bytes → IsLongest Text raw rest
longest-string raw bytes rest is = record { token = (bytes, is); longest = by }
  where
    begins : (more : List ℕ) → raw ++ more ≡ 34 ∷ (is.parts ++ 34 ∷ more)
    begins more =
        ap (λ l. l ++ more) is.quoted ∙ ap (λ l. 34 ∷ l) (append_assoc is.parts (34 ∷ []) more)

    by : (other : TokenKind) (more beyond : List ℕ) → rest ≡ more ++ beyond
        → IsRaw other (raw ++ more) → more ≡ []
    by Word more beyond split other = absurd (false≢true (subst IsWord (begins more) other).0)
    by Number more beyond split other = absurd (omega (
      arith,
      (subst (λ l. IsNumeral 10 (without_leading_sign l)) (begins more) other).1.0,
    ))
    by Text more beyond split (others, other) =
        parts-one_end bytes others is.parts other.parts more is.stand other.stand
        (ap (drop 1) (sym (begins more) ∙ other.quoted))
    by Open more beyond split other =
        absurd (quote-no_mark _ 40 [] (λ e. omega (arith, e)) (sym (begins more) ∙ other))
    by Close more beyond split other =
        absurd (quote-no_mark _ 41 [] (λ e. omega (arith, e)) (sym (begins more) ∙ other))
    by Comma more beyond split other =
        absurd (quote-no_mark _ 44 [] (λ e. omega (arith, e)) (sym (begins more) ∙ other))

-- a mark is as long as possible, whatever follows
longest-mark : (kind : TokenKind) (mark : ℕ) (rest : List ℕ) → IsRaw kind (mark ∷ [])
    → is_word_start mark ≡ false → mark ≢ 34 → 10 ≤ digit_value mark → mark ≢ 43 → mark ≢ 45
    → IsLongest kind (mark ∷ []) rest
longest-mark kind mark rest is no_word no_quote no_digit no_plus no_minus =
    record { token = is; longest = by }
  where
    one : (more : List ℕ) (other : ℕ) → mark ∷ more ≡ other ∷ [] → more ≡ []
    one more other e = ap (drop 1) e

    number : (more : List ℕ) → IsNumeral 10 (without_leading_sign (mark ∷ more)) → ⊥
    number more =
        rw (ne_eqb mark 45 no_minus, ne_eqb mark 43 no_plus) (λ n. omega (arith, n.1.0, no_digit))

    by : (other : TokenKind) (more beyond : List ℕ) → rest ≡ more ++ beyond
        → IsRaw other (mark ∷ more) → more ≡ []
    by Word more beyond split other = absurd (false≢true (sym no_word ∙ other.0))
    by Number more beyond split other = absurd (number more other)
    by Text more beyond split (bytes, other) =
        absurd (no_quote (ap (λ l. get_or l 0 0) other.quoted))
    by Open more beyond split other = one more 40 other
    by Close more beyond split other = one more 41 other
    by Comma more beyond split other = one more 44 other

-- so is `(`
pub longest-open : (rest : List ℕ) → IsLongest Open (40 ∷ []) rest
longest-open rest = longest-mark Open 40 rest refl refl (λ e. omega (arith, e)) (omega arith)
    (λ e. omega (arith, e)) (λ e. omega (arith, e))

-- so is `)`
pub longest-close : (rest : List ℕ) → IsLongest Close (41 ∷ []) rest
longest-close rest = longest-mark Close 41 rest refl refl (λ e. omega (arith, e)) (omega arith)
    (λ e. omega (arith, e)) (λ e. omega (arith, e))

-- so is a comma
pub longest-comma : (rest : List ℕ) → IsLongest Comma (44 ∷ []) rest
longest-comma rest = longest-mark Comma 44 rest refl refl (λ e. omega (arith, e)) (omega arith)
    (λ e. omega (arith, e)) (λ e. omega (arith, e))

-- a word as it stands before such bytes
pub longest-word : (raw rest : List ℕ) → IsWord raw → EndToken rest → IsLongest Word raw rest
longest-word [] rest is ends = absurd is
longest-word (first ∷ tail) rest is ends =
    longest-ended Word first tail rest is (λ e. false≢true (sym (ap is_word_start e) ∙ is.0)) ends
