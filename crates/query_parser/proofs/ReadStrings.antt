-- What a string of bytes stands for is bytes.
use Rattle.std.proofs.Common.{◌<◌, ℕ, List, [], ◌∷◌, ◌++◌, drop, subst, arith}
use Rattle.std.proofs.lemmas.List.Elements.{All-from_recursion, recursion_from_All, All-take}
use Rattle.std.proofs.lemmas.List.Elements.{All-drop}
use Rattle.std.specs.Prelude.{All}
use Rattle.std.specs.List.{AllByRecursion}
use Rattle.language_base.specs.declared.span.Span.{Span}
use Rattle.query_tokens.specs.Raw.{IsPart, plain, quote, backslash, code, AreParts, IsString}
use Rattle.query_forms.specs.Terms.{bytes_at}

-- bytes
abbrev IsByte : ℕ → Type 0
IsByte byte = byte < 256

-- of bytes those in front are bytes
bytes-front : (front after : List ℕ) → AllByRecursion IsByte (front ++ after)
    → AllByRecursion IsByte front
bytes-front [] after all = tt
bytes-front (byte ∷ front) after all = (all.0, bytes-front front after all.1)

-- of bytes those that follow are bytes
bytes-after : (front after : List ℕ) → AllByRecursion IsByte (front ++ after)
    → AllByRecursion IsByte after
bytes-after [] after all = all
bytes-after (byte ∷ front) after all = bytes-after front after all.1

-- a part of bytes stands for a byte
part-byte : (part : List ℕ) (byte : ℕ) → IsPart part byte → AllByRecursion IsByte part → byte < 256
part-byte part byte (plain b is) all = all.0
part-byte part byte quote all = omega arith
part-byte part byte backslash all = omega arith
part-byte part byte (code high low is_high is_low) all = omega (arith, is_high, is_low)

-- and parts for bytes
parts-bytes : (bytes parts : List ℕ) → AreParts parts bytes → AllByRecursion IsByte parts
    → AllByRecursion IsByte bytes
parts-bytes [] parts are all = tt
parts-bytes (byte ∷ bytes) parts (part, rest, split, is, are) all =
    let both = subst (AllByRecursion IsByte) split all in (
      part-byte part byte is (bytes-front part rest both),
      parts-bytes bytes rest are (bytes-after part rest both),
    )

-- a string in a text of bytes stands for bytes
pub string-bytes : (text : List ℕ) (span : Span) (bytes : List ℕ) → All (λ byte. byte < 256) text
    → IsString (bytes_at text span) bytes → All (λ byte. byte < 256) bytes
string-bytes text span bytes small is =
    let here = All-take IsByte _ (drop span.from text) (All-drop IsByte span.from text small) in
    let raw = subst (AllByRecursion IsByte) is.quoted
    (recursion_from_All IsByte (bytes_at text span) here) in
    All-from_recursion IsByte bytes
    (parts-bytes bytes is.parts is.stand (bytes-front is.parts (34 ∷ []) raw.1))
