-- The texts of a line without quotes stand between its commas.
use Rattle.std.proofs.Common.{◌≡◌, ℕ, ◌+◌, ◌<◌, Bool, true, false, if◌then◌else◌, List, [], ◌∷◌}
use Rattle.std.proofs.Common.{◌++◌, length, count_by, Option, Some, None, refl, sym, ap, ◌∙◌}
use Rattle.std.proofs.Common.{append_assoc, append-nil, arith}
use Rattle.std.specs.List.{after_first, before_first, list_any, position_or_len, slice_split}
use Rattle.std.specs.List.{onto_first}
use Rattle.std.proofs.lemmas.List.Splits.{length-slice_split, slice_split-cons_yes}
use Rattle.std.proofs.lemmas.List.Splits.{slice_split_first, slice_split_none}
use Rattle.std.proofs.lemmas.Bool.{or_from, or_parts}
use Rattle.std.proofs.lemmas.Bool.Decides.{nat_tests}
use Rattle.std.proofs.lemmas.Grind.{common_steps}
use Rattle.line_reader.specs.CutLines.{is_break, is_comma, is_quote, texts_at, texts_in}
use Rattle.line_reader.specs.LineParts.{is_special, split_of}
use Rattle.line_reader.specs.declared.quote_state.QuoteState.TheVariants.{Plain}
use Rattle.line_reader.proofs.Cuts.{All-none, before_first-none, is_found}
use Rattle.line_reader.proofs.FieldTexts.{front_plain, texts_end, texts_more, texts_none}

-- bytes before the first of some texts
abbrev onto : List ℕ → List (List ℕ) → List (List ℕ)
onto bytes [] = bytes ∷ []
onto bytes (text ∷ texts) = (bytes ++ text) ∷ texts

-- bytes before the first of the texts between commas
onto-append : (bytes : List ℕ) (byte : ℕ) (texts : List (List ℕ))
    → onto (bytes ++ byte ∷ []) texts ≡ onto bytes (onto_first byte texts)
onto-append bytes byte [] = refl
onto-append bytes byte (text ∷ texts) =
    ap (λ first. first ∷ texts) (append_assoc bytes (byte ∷ []) text)

-- no bytes before the first text
onto-nil : (bytes : List ℕ) → onto [] (slice_split is_comma bytes) ≡ slice_split is_comma bytes
onto-nil bytes = none (slice_split is_comma bytes) (length-slice_split is_comma bytes)
  where
    none : (texts : List (List ℕ)) → length texts ≡ count_by is_comma bytes + 1
        → onto [] texts ≡ texts
    none [] long = absurd (omega arith)
    none (text ∷ texts) long = refl

-- the front of bytes without quotes is outside of quotes
front_texts : (bytes : List ℕ) → list_any is_quote bytes ≡ false
    → texts_in bytes ≡ texts_at Plain [] bytes
front_texts [] none = front_plain [] refl
front_texts (byte ∷ bytes) none =
    front_plain (byte ∷ bytes) (or_parts (is_quote byte) (list_any is_quote bytes) none).0

-- outside of quotes, bytes without any are cut at each comma
split_texts : (text bytes : List ℕ) → list_any is_quote bytes ≡ false
    → texts_at Plain text bytes ≡ onto text (slice_split is_comma bytes)
split_texts text [] none = texts_none Plain text ∙ ap (λ first. first ∷ []) (sym (append-nil text))
split_texts text (byte ∷ bytes) none =
    let parts = or_parts (is_quote byte) (list_any is_quote bytes) none in
    by_comma (is_comma byte) refl (front_texts bytes parts.1)
    (λ text. split_texts text bytes parts.1)
  where
    by_comma : (comma : Bool) → is_comma byte ≡ comma → texts_in bytes ≡ texts_at Plain [] bytes
        → ((text : List ℕ) → texts_at Plain text bytes ≡ onto text (slice_split is_comma bytes))
        → texts_at Plain text (byte ∷ bytes) ≡ onto text (slice_split is_comma (byte ∷ bytes))
    by_comma true is front rest =
        texts_end Plain text byte bytes is
        ∙ rw (
          slice_split-cons_yes is_comma byte bytes is,
          append-nil text,
          front,
          rest [],
          onto-nil bytes,
        ) refl
    by_comma false is front rest =
        texts_more Plain text byte bytes is
        ∙ rw is (rest (text ++ byte ∷ []) ∙ onto-append text byte (slice_split is_comma bytes))

-- and so is the whole line
texts_in-plain : (line : List ℕ) → list_any is_quote line ≡ false
    → texts_in line ≡ slice_split is_comma line
texts_in-plain line none = front_texts line none ∙ split_texts [] line none ∙ onto-nil line

-- a line without special bytes has neither quotes nor line breaks
no_quote : (line : List ℕ) → list_any is_special line ≡ false → list_any is_quote line ≡ false
no_quote [] none = refl
no_quote (byte ∷ line) none =
    let parts = or_parts (is_special byte) (list_any is_special line) none in
    or_from (is_quote byte) (list_any is_quote line)
    (or_parts (is_quote byte) (is_break byte) parts.0).0 (no_quote line parts.1)

pub no_break : (line : List ℕ) → list_any is_special line ≡ false → list_any is_break line ≡ false
no_break [] none = refl
no_break (byte ∷ line) none =
    let parts = or_parts (is_special byte) (list_any is_special line) none in
    or_from (is_break byte) (list_any is_break line)
    (or_parts (is_quote byte) (is_break byte) parts.0).1 (no_break line parts.1)

-- its texts stand between its commas
pub plain_texts_in : (line : List ℕ) → list_any is_special line ≡ false
    → texts_in line ≡ slice_split is_comma line
plain_texts_in line none = texts_in-plain line (no_quote line none)

-- what stands before the first comma is the first of the texts
slice_split-texts : (bytes : List ℕ) (found : Bool) → list_any is_comma bytes ≡ found
    → slice_split is_comma bytes ≡ before_first is_comma bytes
    ∷ split_of (if found then Some (after_first is_comma bytes) else None)
slice_split-texts bytes true is =
    let within : position_or_len is_comma bytes < length bytes =
    grind (arith, nat_tests, is_found is_comma bytes) in
    slice_split_first is_comma bytes 0 within
slice_split-texts bytes false is =
    slice_split_none is_comma bytes (All-none is_comma bytes is)
    ∙ ap (λ text. text ∷ []) (sym (before_first-none is_comma bytes is))

-- the same of a text that is cut there
pub texts_between_commas : (bytes text : List ℕ) (tail : Option (List ℕ))
    → text ≡ before_first is_comma bytes
    → tail ≡ (if list_any is_comma bytes then Some (after_first is_comma bytes) else None)
    → slice_split is_comma bytes ≡ text ∷ split_of tail
texts_between_commas bytes text tail before after =
    rw (before, after) (slice_split-texts bytes (list_any is_comma bytes) refl)

-- a line without commas
no_commas : (line : List ℕ) → count_by is_comma line ≡ 0 → list_any is_comma line ≡ false
no_commas [] none = refl
no_commas (byte ∷ line) none = grind (arith, nat_tests, common_steps, no_commas line)

-- a line with one text is that text
pub whole_line : (line : List ℕ) → length (slice_split is_comma line) ≡ 1
    → slice_split is_comma line ≡ line ∷ []
whole_line line one =
    let none : count_by is_comma line ≡ 0 = omega (arith, length-slice_split is_comma line) in
    slice_split_none is_comma line (All-none is_comma line (no_commas line none))
