-- What writable terms are when they are printed: raw tokens, and trees that are not too deep.
use Rattle.std.proofs.Common.{◌≡◌, ℕ, ◌+◌, None, refl, arith}
use Rattle.std.proofs.lemmas.Bool.{le-ltb}
use Rattle.query_trees.specs.Trees.{first_deep}
use Rattle.query_forms.specs.Terms.{Terms, none, word, number, string, call}
use Rattle.query_forms.specs.File.{is_within, first_large}
use Rattle.query_parser.specs.Printing.{AreWritable, HasTerm}
use Rattle.query_parser.proofs.StringParts.{string_text-is}
use Rattle.query_parser.proofs.PrintedNumbers.{signed_decimal-is}
use Rattle.query_parser.proofs.OptionCases.{first_of_two-none, first_of_two-both, chosen-none}
use Rattle.query_parser.proofs.PrintedLayout.{printed, trees_at, inner_at, close_at, HasSome}
use Rattle.query_parser.proofs.PrintedLayout.{AreRaw}

-- where there is a term, something is printed
HasTerm-some : (terms : Terms) → HasTerm terms → HasSome (printed terms)
HasTerm-some none has = has
HasTerm-some (word bytes span rest) has = tt
HasTerm-some (number value span rest) has = tt
HasTerm-some (string bytes span rest) has = tt
HasTerm-some (call head arguments span rest) has = tt

-- each printed term is made of tokens
pub AreWritable-raw : (terms : Terms) (level : ℕ) → AreWritable level terms
    → first_large terms ≡ None → AreRaw (printed terms)
AreWritable-raw none level writable within = tt
AreWritable-raw (word bytes span rest) level writable within =
    (tt, writable.1, AreWritable-raw rest level writable.2 within)
AreWritable-raw (number value span rest) level writable within =
    let parts = chosen-none (is_within value) (first_large rest) span within in
    (tt, (signed_decimal-is value parts.0).0, AreWritable-raw rest level writable.1 parts.1)
AreWritable-raw (string bytes span rest) level writable within =
    (tt, (bytes, string_text-is bytes writable.1), AreWritable-raw rest level writable.2 within)
AreWritable-raw (call head arguments span rest) level writable within =
    let parts = first_of_two-none (first_large arguments) (first_large rest) within in (
      writable.1,
      HasTerm-some arguments writable.2,
      AreWritable-raw arguments (level + 1) writable.3 parts.0,
      AreWritable-raw rest level writable.4 parts.1,
    )

-- no printed term is too deep
pub AreWritable-not_deep : (terms : Terms) (gap at level : ℕ) → AreWritable level terms
    → first_deep level (trees_at gap at (printed terms)) ≡ None
AreWritable-not_deep none gap at level writable = refl
AreWritable-not_deep (word bytes span rest) gap at level writable =
    rw (le-ltb 64 level (omega (arith, writable.0)))
    (AreWritable-not_deep rest gap _ level writable.2)
AreWritable-not_deep (number value span rest) gap at level writable =
    rw (le-ltb 64 level (omega (arith, writable.0)))
    (AreWritable-not_deep rest gap _ level writable.1)
AreWritable-not_deep (string bytes span rest) gap at level writable =
    rw (le-ltb 64 level (omega (arith, writable.0)))
    (AreWritable-not_deep rest gap _ level writable.2)
AreWritable-not_deep (call head arguments span rest) gap at level writable =
    rw (le-ltb 64 level (omega (arith, writable.0))) (first_of_two-both _ _
    (AreWritable-not_deep arguments 2 (inner_at at head) (level + 1) writable.3)
    (AreWritable-not_deep rest gap (close_at at head (printed arguments) + 1 + gap)
    level writable.4))
