-- The lengths that are found are those of the longest tokens.
use Rattle.std.proofs.Common.{◌≡◌, ℕ, suc, ◌+◌, ◌<◌, ◌≤◌, Bool, true, false, cond, nat_lt, IsTrue}
use Rattle.std.proofs.Common.{List, [], ◌∷◌, ◌++◌, length, take, drop, Option, Some, None, refl}
use Rattle.std.proofs.Common.{sym, ap, ◌∙◌, subst, rules, arith}
use Rattle.std.specs.List.{AllByRecursion, take_while}
use Rattle.std.specs.Char.{digit_value, is_ascii_digit}
use Rattle.std.specs.Str.Parse.{IsNumeral, without_leading_sign}
use Rattle.std.proofs.lemmas.Bool.Decides.{nat_tests}
use Rattle.std.proofs.lemmas.Grind.{common_steps}
use Rattle.std.proofs.lemmas.List.{append_assoc, length-append, length-take-le, length-drop}
use Rattle.std.proofs.lemmas.List.{drop-append-le, drop-take, take_at, nil_from_length}
use Rattle.std.proofs.lemmas.List.{take-append-drop}
use Rattle.std.proofs.lemmas.List.Sums.{take_while-cons}
use Rattle.query_tokens.specs.declared.token.TokenKind.{TokenKind}
use Rattle.query_tokens.specs.declared.token.TokenKind.TheVariants.{Word, Number, Text}
use Rattle.query_tokens.specs.Raw.{is_word_byte, IsWord, IsRaw, IsLongest}
use Rattle.query_tokens.specs.Front.{kind_at, sign_len, number_len, Begins, IsLength}
use Rattle.query_tokens.specs.StringParts.{Closes, IsClosing}
use Rattle.query_tokens.proofs.Closing.{one_reading}
use Rattle.query_tokens.proofs.FirstBytes.{word_first, text_first, start_is_byte, without_sign}
use Rattle.query_tokens.proofs.FirstBytes.{digit_passes, digit_from_test, raw_kind_at}
use Rattle.query_tokens.proofs.FirstBytes.{raw_not_empty}
use Rattle.query_tokens.proofs.Runs.{run_fronts, run_longest_of, digits_each, digits_all}

-- a word has bytes of words
word_each : (raw : List ℕ) → IsWord raw → AllByRecursion (λ b. IsTrue (is_word_byte b)) raw
word_each [] word = absurd word
word_each (b ∷ raw) word = (search (rules, start_is_byte b (search (rules, word.0))), word.1)

-- a word at the front
pub begins_word : (bytes : List ℕ) → kind_at bytes ≡ Some Word
    → Begins Word bytes (length (take_while is_word_byte bytes))
begins_word [] kind = absurd (cc)
begins_word (b ∷ bytes) kind =
    let start = word_first b kind in
    let rest = run_fronts is_word_byte (λ c. IsTrue (is_word_byte c))
    (λ c passes. search (rules, passes)) bytes in
    let long : take_while is_word_byte (b ∷ bytes) ≡ b ∷ take_while is_word_byte bytes =
    take_while-cons is_word_byte b bytes
    ∙ ap (λ c. cond c (b ∷ take_while is_word_byte bytes) []) (start_is_byte b start) in
    record {
      within = rw long (omega (arith, rest.within));
      token = rw long (search (rules, start), rest.each);
      longest = λ raw beyond split word.
          run_longest_of is_word_byte (λ c. IsTrue (is_word_byte c))
          (λ c passes. search (rules, passes)) (b ∷ bytes) raw beyond split (word_each raw word);
    }

-- the sign is within the bytes
sign_within : (bytes : List ℕ) → sign_len bytes ≤ length bytes
sign_within [] = omega arith
sign_within (b ∷ bytes) = grind (arith, common_steps)

-- the sign of what stands at the front is that of the whole
sign_at : (raw beyond : List ℕ) → 0 < length raw → sign_len (raw ++ beyond) ≡ sign_len raw
sign_at [] beyond some = absurd (omega arith)
sign_at (b ∷ raw) beyond some = refl

-- digits after the sign of the bytes
abbrev digits_of : List ℕ → ℕ
digits_of bytes = length (take_while is_ascii_digit (drop (sign_len bytes) bytes))

-- a number has a sign or none, and then digits
record Signed (raw bytes : List ℕ) : Type 0 where
  pub some : 0 < digits_of bytes
  pub within : length raw ≤ sign_len bytes + digits_of bytes

-- a number at the front is no longer than the digits go
number_within : (raw beyond : List ℕ) → IsRaw Number raw → Signed raw (raw ++ beyond)
number_within raw beyond number =
    let numeral = rw (without_sign raw) at number in
    let sign : sign_len (raw ++ beyond) ≡ sign_len raw =
    sign_at raw beyond (raw_not_empty Number raw number) in
    let inside = sign_within raw in
    let after : drop (sign_len (raw ++ beyond)) (raw ++ beyond)
    ≡ drop (sign_len raw) raw ++ beyond =
    ap (λ n. drop n (raw ++ beyond)) sign ∙ drop-append-le (sign_len raw) raw beyond inside in
    let long = run_longest_of is_ascii_digit (λ b. digit_value b < 10) digit_passes
    (drop (sign_len (raw ++ beyond)) (raw ++ beyond)) (drop (sign_len raw) raw) beyond after
    (digits_each _ numeral.1) in
    record {
      some = omega (arith, long, numeral.0);
      within = omega (arith, long, sign, inside, length-drop (sign_len raw) raw);
    }

-- a sign and the digits after it are a number
number_token : (bytes : List ℕ) → 0 < digits_of bytes
    → (sign_len bytes + digits_of bytes ≤ length bytes)
    × IsRaw Number (take (sign_len bytes + digits_of bytes) bytes)
number_token bytes some =
    let sign = sign_len bytes in
    let digits = digits_of bytes in
    let front = run_fronts is_ascii_digit (λ b. digit_value b < 10) digit_from_test
    (drop sign bytes) in
    let inside = sign_within bytes in
    let within : sign + digits ≤ length bytes =
    omega (arith, front.within, length-drop sign bytes) in
    let raw = take (sign + digits) bytes in
    let long : length raw ≡ sign + digits = length-take-le (sign + digits) bytes within in
    let same : sign_len raw ≡ sign =
    sym (sign_at raw (drop (sign + digits) bytes) (omega arith))
    ∙ ap sign_len (take-append-drop (sign + digits) bytes) in
    let after : without_leading_sign raw ≡ take digits (drop sign bytes) =
    without_sign raw ∙ ap (λ n. drop n raw) same ∙ drop-take sign digits bytes in
    let count : length (take digits (drop sign bytes)) ≡ digits =
    length-take-le digits (drop sign bytes) front.within in
    (within, subst (IsNumeral 10) (sym after) (omega arith, digits_all _ front.each))

-- a number at the front
pub length_of_number : (bytes : List ℕ) → IsLength Number bytes (number_len bytes)
length_of_number bytes = by_digits (nat_lt 0 (digits_of bytes)) refl
  where
    signed : (raw beyond : List ℕ) → bytes ≡ raw ++ beyond → IsRaw Number raw → Signed raw bytes
    signed raw beyond split number =
        subst (Signed raw) (sym split) (number_within raw beyond number)

    by_digits : (some : Bool) → nat_lt 0 (digits_of bytes) ≡ some
        → IsLength Number bytes (cond some (Some (sign_len bytes + digits_of bytes)) None)
    by_digits true is =
        let token = number_token bytes (grind (arith, nat_tests)) in
        record {
          within = token.0;
          token = token.1;
          longest = λ raw beyond split number. (signed raw beyond split number).within;
        }
    by_digits false is = λ raw beyond split number.
        let some = (signed raw beyond split number).some in
        grind (arith, nat_tests)

-- a string at the front closes after its quote
record Quoted (raw rest : List ℕ) : Type 0 where
  pub closing : ℕ
  pub closes : Closes rest closing
  pub long : length raw ≡ closing + 1

string_quoted : (rest raw beyond : List ℕ) → 34 ∷ rest ≡ raw ++ beyond → IsRaw Text raw
    → Quoted raw rest
string_quoted rest raw beyond split string =
    let parts = string.1.parts in
    let whole : 34 ∷ rest ≡ 34 ∷ (parts ++ 34 ∷ beyond) =
    split ∙ ap (λ r. r ++ beyond) string.1.quoted ∙ append_assoc (34 ∷ parts) (34 ∷ []) beyond in
    record {
      closing = length parts + 1;
      closes = record {
        parts = parts;
        values = string.0;
        beyond = beyond;
        split = cc;
        stand = string.1.stand;
        is = refl;
      };
      long = ap length string.1.quoted ∙ length-append (34 ∷ parts) (34 ∷ []) ∙ omega arith;
    }

-- there is one length up to the closing quote
one_closing : (rest : List ℕ) (len len' : ℕ) → Closes rest len → Closes rest len' → len ≡ len'
one_closing rest len len' closes closes' =
    let same = one_reading closes.values closes'.values closes.parts closes'.parts closes.beyond
    closes'.beyond closes.stand closes'.stand (sym closes.split ∙ closes'.split) in
    omega (arith, closes.is, closes'.is, ap length same.0)

-- a string that closes
begins_string : (rest : List ℕ) (len : ℕ) → Closes rest len → Begins Text (34 ∷ rest) (len + 1)
begins_string rest len closes =
    let parts = closes.parts in
    let split : 34 ∷ rest ≡ (34 ∷ parts ++ 34 ∷ []) ++ closes.beyond =
    ap (λ r. 34 ∷ r) closes.split ∙ sym (append_assoc (34 ∷ parts) (34 ∷ []) closes.beyond) in
    let long : length (34 ∷ parts ++ 34 ∷ []) ≡ len + 1 =
    length-append (34 ∷ parts) (34 ∷ []) ∙ omega (arith, closes.is) in
    let whole : suc (length rest) ≡ length (34 ∷ parts ++ 34 ∷ []) + length closes.beyond =
    ap length split ∙ length-append (34 ∷ parts ++ 34 ∷ []) closes.beyond in
    let raw : take (len + 1) (34 ∷ rest) ≡ 34 ∷ parts ++ 34 ∷ [] =
    ap (take (len + 1)) split ∙ take_at (34 ∷ parts ++ 34 ∷ []) closes.beyond (len + 1) long in
    record {
      within = omega arith;
      token = (closes.values, record { parts = parts; quoted = raw; stand = closes.stand });
      longest = λ other beyond same string.
          let quoted = string_quoted rest other beyond same string in
          omega (arith, quoted.long, one_closing rest quoted.closing len quoted.closes closes);
    }

-- a string at the front, by the length up to its closing quote
abbrev pub with_quote : Option ℕ → Option ℕ
with_quote None = None
with_quote (Some len) = Some (len + 1)

pub length_of_string : (bytes : List ℕ) (closing : Option ℕ) → kind_at bytes ≡ Some Text
    → IsClosing (drop 1 bytes) closing → IsLength Text bytes (with_quote closing)
length_of_string [] closing kind is = absurd (cc)
length_of_string (b ∷ rest) closing kind is = by_closing closing is
  where
    quote : b ≡ 34
    quote = text_first b kind

    by_closing : (closing : Option ℕ) → IsClosing rest closing
        → IsLength Text (b ∷ rest) (with_quote closing)
    by_closing None none = λ raw beyond split string.
        let quoted = string_quoted rest raw beyond
        (ap (λ c. c ∷ rest) (sym quote) ∙ split) string in
        none quoted.closing quoted.closes
    by_closing (Some len) closes = rw quote (begins_string rest len closes)

-- the longest token of the kind that the first byte shows is the longest of all
pub first_is_longest : (bytes : List ℕ) (kind : TokenKind) (len : ℕ) → kind_at bytes ≡ Some kind
    → Begins kind bytes len → IsLongest kind (take len bytes) (drop len bytes)
first_is_longest bytes kind len is begins = record {
  token = begins.token;
  longest = λ other more beyond rest token.
      let split : bytes ≡ (take len bytes ++ more) ++ beyond =
      sym (take-append-drop len bytes) ∙ ap (λ r. take len bytes ++ r) rest
      ∙ sym (append_assoc (take len bytes) more beyond) in
      let same : other ≡ kind =
      cc (raw_kind_at other (take len bytes ++ more) beyond token, ap kind_at split, is) in
      let long = begins.longest (take len bytes ++ more) beyond split
      (subst (λ k. IsRaw k (take len bytes ++ more)) same token) in
      let none : length more ≡ 0 = omega (
        arith,
        long,
        length-append (take len bytes) more,
        length-take-le len bytes begins.within,
      ) in
      nil_from_length more none;
}
