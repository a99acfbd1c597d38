-- The trees of a printed text say the terms that were printed, at the places of the text.
use Rattle.std.proofs.Common.{◌≡◌, ◌<◌, ℕ, ℤ, ◌+◌, true, List, [], ◌∷◌, length, None, refl, sym, ap}
use Rattle.std.proofs.Common.{◌∙◌, subst, append-nil}
use Rattle.std.specs.Prelude.{All}
use Rattle.std.specs.Fmt.{signed_decimal}
use Rattle.std.specs.Str.Parse.{signed_digits_value}
use Rattle.query_tokens.specs.Raw.{IsString}
use Rattle.query_forms.specs.Terms.{Terms, none, word, number, string, call, bytes_at, Say}
use Rattle.query_forms.specs.File.{is_within, first_large}
use Rattle.query_parser.specs.Printing.{string_text, AreWritable}
use Rattle.query_parser.proofs.StringParts.{string_text-is}
use Rattle.query_parser.proofs.PrintedNumbers.{signed_decimal-is}
use Rattle.query_parser.proofs.OptionCases.{first_of_two-none, chosen-none}
use Rattle.query_parser.proofs.LiesAt.{LiesAt, LiesAt-first, LiesAt-rest, LiesAt-bytes, LiesAt-line}
use Rattle.query_parser.proofs.LiesAt.{LiesAt-head, LiesAt-inner, LiesAt-after}
use Rattle.query_parser.proofs.PrintedLayout.{printed, more_bytes, argument_bytes, top_bytes}
use Rattle.query_parser.proofs.PrintedLayout.{span_at, inner_at, close_at, trees_at, placed}

-- where there is another argument, it lies after a comma and a space
say-more : (text : List ℕ) (at : ℕ) (rest : Terms)
    → LiesAt text at (more_bytes (printed rest) (argument_bytes (printed rest)))
    → (LiesAt text (at + 2) (argument_bytes (printed rest))
    → Say text (trees_at 2 (at + 2) (printed rest)) (placed 2 (at + 2) rest))
    → Say text (trees_at 2 (at + 2) (printed rest)) (placed 2 (at + 2) rest)
say-more text at none lies say = tt
say-more text at (word bytes span rest) lies say =
    say (LiesAt-rest text at (at + 2) (44 ∷ 32 ∷ []) _ lies refl)
say-more text at (number value span rest) lies say =
    say (LiesAt-rest text at (at + 2) (44 ∷ 32 ∷ []) _ lies refl)
say-more text at (string bytes span rest) lies say =
    say (LiesAt-rest text at (at + 2) (44 ∷ 32 ∷ []) _ lies refl)
say-more text at (call head arguments span rest) lies say =
    say (LiesAt-rest text at (at + 2) (44 ∷ 32 ∷ []) _ lies refl)

-- a number that lies there is read back
number-said : (text : List ℕ) (at : ℕ) (value : ℤ) → is_within value ≡ true
    → LiesAt text at (signed_decimal value)
    → value ≡ signed_digits_value 10 (bytes_at text (span_at at (length (signed_decimal value))))
number-said text at value within lies =
    sym (signed_decimal-is value within).1
    ∙ ap (signed_digits_value 10) (LiesAt-bytes text at (signed_decimal value) lies)

-- and a string
string-said : (text : List ℕ) (at : ℕ) (bytes : List ℕ) → All (λ byte. byte < 256) bytes
    → LiesAt text at (string_text bytes)
    → IsString (bytes_at text (span_at at (length (string_text bytes)))) bytes
string-said text at bytes small lies =
    subst (λ raw. IsString raw bytes) (LiesAt-bytes text at (string_text bytes) lies)
    (string_text-is bytes small)

-- arguments that lie there
say-arguments : (terms : Terms) (text : List ℕ) (at level : ℕ) → AreWritable level terms
    → first_large terms ≡ None → LiesAt text at (argument_bytes (printed terms))
    → Say text (trees_at 2 at (printed terms)) (placed 2 at terms)
say-arguments none text at level writable within lies = tt
say-arguments (word bytes span rest) text at level writable within lies =
    let more = more_bytes (printed rest) (argument_bytes (printed rest)) in (
      refl,
      LiesAt-bytes text at bytes (LiesAt-first text at bytes more lies),
      refl,
      say-more text (at + length bytes) rest
          (LiesAt-rest text at (at + length bytes) bytes more lies refl)
          (say-arguments rest text (at + length bytes + 2) level writable.2 within),
    )
say-arguments (number value span rest) text at level writable within lies =
    let raw = signed_decimal value in
    let more = more_bytes (printed rest) (argument_bytes (printed rest)) in
    let parts = chosen-none (is_within value) (first_large rest) span within in (
      refl,
      number-said text at value parts.0 (LiesAt-first text at raw more lies),
      refl,
      say-more text (at + length raw) rest
          (LiesAt-rest text at (at + length raw) raw more lies refl)
          (say-arguments rest text (at + length raw + 2) level writable.1 parts.1),
    )
say-arguments (string bytes span rest) text at level writable within lies =
    let raw = string_text bytes in
    let more = more_bytes (printed rest) (argument_bytes (printed rest)) in (
      refl,
      string-said text at bytes writable.1 (LiesAt-first text at raw more lies),
      refl,
      say-more text (at + length raw) rest
          (LiesAt-rest text at (at + length raw) raw more lies refl)
          (say-arguments rest text (at + length raw + 2) level writable.2 within),
    )
say-arguments (call head arguments span rest) text at level writable within lies =
    let bytes = argument_bytes (printed arguments) in
    let more = more_bytes (printed rest) (argument_bytes (printed rest)) in
    let next = close_at at head (printed arguments) + 1 in
    let parts = first_of_two-none (first_large arguments) (first_large rest) within in (
      LiesAt-bytes text at head (LiesAt-head text at head bytes more lies),
      refl,
      say-arguments arguments text (inner_at at head) (level + 1) writable.3 parts.0
          (LiesAt-first text (inner_at at head) bytes (41 ∷ more)
          (LiesAt-inner text at head bytes more lies)),
      say-more text next rest (LiesAt-after text at head bytes more lies)
          (say-arguments rest text (next + 2) level writable.4 parts.1),
    )

-- top terms that lie there
say-file : (terms : Terms) (text : List ℕ) (at level : ℕ) → AreWritable level terms
    → first_large terms ≡ None → LiesAt text at (top_bytes (printed terms))
    → Say text (trees_at 1 at (printed terms)) (placed 1 at terms)
say-file none text at level writable within lies = tt
say-file (word bytes span rest) text at level writable within lies =
    let more = top_bytes (printed rest) in (
      refl,
      LiesAt-bytes text at bytes (LiesAt-first text at bytes (10 ∷ more) lies),
      refl,
      say-file rest text (at + length bytes + 1) level writable.2 within
          (LiesAt-line text at bytes more lies),
    )
say-file (number value span rest) text at level writable within lies =
    let raw = signed_decimal value in
    let more = top_bytes (printed rest) in
    let parts = chosen-none (is_within value) (first_large rest) span within in (
      refl,
      number-said text at value parts.0 (LiesAt-first text at raw (10 ∷ more) lies),
      refl,
      say-file rest text (at + length raw + 1) level writable.1 parts.1
          (LiesAt-line text at raw more lies),
    )
say-file (string bytes span rest) text at level writable within lies =
    let raw = string_text bytes in
    let more = top_bytes (printed rest) in (
      refl,
      string-said text at bytes writable.1 (LiesAt-first text at raw (10 ∷ more) lies),
      refl,
      say-file rest text (at + length raw + 1) level writable.2 within
          (LiesAt-line text at raw more lies),
    )
say-file (call head arguments span rest) text at level writable within lies =
    let bytes = argument_bytes (printed arguments) in
    let more = top_bytes (printed rest) in
    let next = close_at at head (printed arguments) + 1 in
    let parts = first_of_two-none (first_large arguments) (first_large rest) within in (
      LiesAt-bytes text at head (LiesAt-head text at head bytes (10 ∷ more) lies),
      refl,
      say-arguments arguments text (inner_at at head) (level + 1) writable.3 parts.0
          (LiesAt-first text (inner_at at head) bytes (41 ∷ 10 ∷ more)
          (LiesAt-inner text at head bytes (10 ∷ more) lies)),
      say-file rest text (next + 1) level writable.4 parts.1
          (LiesAt-rest text next (next + 1) (10 ∷ []) more
          (LiesAt-after text at head bytes (10 ∷ more) lies) refl),
    )

-- a whole printed text says its terms
pub printed-said : (terms : Terms) → AreWritable 1 terms → first_large terms ≡ None
    → Say (top_bytes (printed terms)) (trees_at 1 0 (printed terms)) (placed 1 0 terms)
printed-said terms writable within = say-file terms (top_bytes (printed terms)) 0 1 writable within
    (record {
      front = [];
      after = [];
      split = sym (append-nil (top_bytes (printed terms)));
      place = refl;
    })
