-- A line is cut into the texts of its fields.
use Rattle.std.proofs.Common.{◌≡◌, ℕ, ◌==◌, Bool, true, false, List, [], ◌∷◌, ◌++◌, codes, refl}
use Rattle.std.proofs.Common.{sym, ap, ◌∙◌, append_assoc, append-nil, arith}
use Rattle.std.specs.List.{flat_map, list_any}
use Rattle.std.proofs.lemmas.Bool.{or_parts}
use Rattle.std.proofs.lemmas.Bool.Decides.{nat_tests}
use Rattle.line_reader.specs.CutLines.{ends_field, is_comma, is_quote, place_after, texts_at}
use Rattle.line_reader.specs.CutLines.{texts_in}
use Rattle.line_reader.proofs.FieldTexts.{begin_quoted, front_plain, texts_end, texts_more}
use Rattle.line_reader.proofs.FieldTexts.{texts_none}
use Rattle.item_lines.specs.Lines.{byte_text, is_delimiter, typed_text}

-- The type of the places of a line, and two of them, which have no names outside of their crate.
abbrev domain : {A B : Type 0} → (A → B) → Type 0
domain {A} {B} f = A

abbrev QuoteState : Type 0
QuoteState = domain ends_field

abbrev place_of : (place : QuoteState) (texts : List (List ℕ))
    → texts ≡ texts_at place [] [] → QuoteState
place_of place texts is = place

abbrev plain : QuoteState
plain = place_of _ _ (front_plain [] refl)

abbrev in_quotes : QuoteState
in_quotes = place_of _ _ (begin_quoted (34 ∷ []) refl)

-- after a quote that ends them
abbrev after_quote : QuoteState
after_quote = place_after in_quotes 34

-- the bytes are cut to this text, before a comma and at the end of the line
pub record IsCutTo (bytes text : List ℕ) : Type 0 where
  pub before : (others : List ℕ) → texts_in (bytes ++ 44 ∷ others) ≡ text ∷ texts_in others
  pub last : texts_in bytes ≡ text ∷ []

-- outside of quotes, up to a comma and to the end
plain_before : (text bytes others : List ℕ) → list_any is_delimiter bytes ≡ false
    → texts_at plain text (bytes ++ 44 ∷ others) ≡ (text ++ bytes) ∷ texts_in others
plain_before text [] others none =
    texts_end plain text 44 others refl
    ∙ ap (λ (t : List ℕ). t ∷ texts_in others) (sym (append-nil text))
plain_before text (byte ∷ bytes) others none =
    let parts = or_parts (is_delimiter byte) (list_any is_delimiter bytes) none in
    let other : is_comma byte ≡ false = (or_parts (is_comma byte) (is_quote byte) parts.0).0 in
    texts_more plain text byte (bytes ++ 44 ∷ others) other
    ∙ rw other (plain_before (text ++ byte ∷ []) bytes others parts.1
    ∙ ap (λ (t : List ℕ). t ∷ texts_in others) (append_assoc text (byte ∷ []) bytes))

plain_last : (text bytes : List ℕ) → list_any is_delimiter bytes ≡ false
    → texts_at plain text bytes ≡ (text ++ bytes) ∷ []
plain_last text [] none =
    texts_none plain text ∙ ap (λ (t : List ℕ). t ∷ []) (sym (append-nil text))
plain_last text (byte ∷ bytes) none =
    let parts = or_parts (is_delimiter byte) (list_any is_delimiter bytes) none in
    let other : is_comma byte ≡ false = (or_parts (is_comma byte) (is_quote byte) parts.0).0 in
    texts_more plain text byte bytes other
    ∙ rw other (plain_last (text ++ byte ∷ []) bytes parts.1
    ∙ ap (λ (t : List ℕ). t ∷ []) (append_assoc text (byte ∷ []) bytes))

-- bytes without delimiters are cut to themselves
pub bare_cut : (byte : ℕ) (bytes : List ℕ) → list_any is_delimiter (byte ∷ bytes) ≡ false
    → IsCutTo (byte ∷ bytes) (byte ∷ bytes)
bare_cut byte bytes none =
    let parts = or_parts (is_delimiter byte) (list_any is_delimiter bytes) none in
    let other : is_quote byte ≡ false = (or_parts (is_comma byte) (is_quote byte) parts.0).1 in
    record {
      before = λ others. front_plain (byte ∷ (bytes ++ 44 ∷ others)) other
          ∙ plain_before [] (byte ∷ bytes) others none;
      last = front_plain (byte ∷ bytes) other ∙ plain_last [] (byte ∷ bytes) none;
    }

-- one byte more between quotes
quoted_byte : (text : List ℕ) (byte : ℕ) (rest : List ℕ)
    → texts_at in_quotes text (byte_text byte ++ rest) ≡ texts_at in_quotes (text ++ byte ∷ []) rest
quoted_byte text byte rest = by_quote (byte == 34) refl
  where
    by_quote : (quote : Bool) → (byte == 34) ≡ quote
        → texts_at in_quotes text (byte_text byte ++ rest)
        ≡ texts_at in_quotes (text ++ byte ∷ []) rest
    by_quote true is =
        let same : byte ≡ 34 = grind (arith, nat_tests) in
        rw (is, same)
        (texts_more in_quotes text 34 (34 ∷ rest) refl ∙ texts_more after_quote text 34 rest refl)
    by_quote false is = rw is (texts_more in_quotes text byte rest refl ∙ rw is refl)

-- all bytes between quotes, and what comes after them
quoted_bytes : (text bytes rest : List ℕ)
    → texts_at in_quotes text (flat_map byte_text bytes ++ rest)
    ≡ texts_at in_quotes (text ++ bytes) rest
quoted_bytes text [] rest = ap (λ (t : List ℕ). texts_at in_quotes t rest) (sym (append-nil text))
quoted_bytes text (byte ∷ bytes) rest =
    ap (texts_at in_quotes text) (append_assoc (byte_text byte) (flat_map byte_text bytes) rest)
    ∙ quoted_byte text byte (flat_map byte_text bytes ++ rest)
    ∙ quoted_bytes (text ++ byte ∷ []) bytes rest
    ∙ ap (λ (t : List ℕ). texts_at in_quotes t rest) (append_assoc text (byte ∷ []) bytes)

-- a quoted text, and what comes after it
quoted : (bytes rest : List ℕ)
    → texts_in (34 ∷ (flat_map byte_text bytes ++ 34 ∷ rest)) ≡ texts_at after_quote bytes rest
quoted bytes rest =
    begin_quoted (34 ∷ (flat_map byte_text bytes ++ 34 ∷ rest)) refl
    ∙ quoted_bytes [] bytes (34 ∷ rest) ∙ texts_more in_quotes bytes 34 rest refl

-- it is cut to the text
pub quoted_cut : (text : List ℕ)
    → IsCutTo (codes "\"" ++ flat_map byte_text text ++ codes "\"") text
quoted_cut text =
    let inner = flat_map byte_text text in
    record {
      before = λ others. ap (λ (b : List ℕ). texts_in (34 ∷ b))
          (append_assoc inner (34 ∷ []) (44 ∷ others)) ∙ quoted text (44 ∷ others)
          ∙ texts_end after_quote text 44 others refl;
      last = quoted text [] ∙ texts_none after_quote text;
    }

-- so is each text, whether it is between quotes or not
pub text_cut : (text : List ℕ) → IsCutTo (typed_text text) text
text_cut [] = quoted_cut []
text_cut (byte ∷ bytes) = by_bare (byte == 239) (list_any is_delimiter (byte ∷ bytes)) refl refl
  where
    by_bare : (mark delimited : Bool) → (byte == 239) ≡ mark
        → list_any is_delimiter (byte ∷ bytes) ≡ delimited
        → IsCutTo (typed_text (byte ∷ bytes)) (byte ∷ bytes)
    by_bare true delimited is has = rw is (quoted_cut (byte ∷ bytes))
    by_bare false true is has = rw (is, has) (quoted_cut (byte ∷ bytes))
    by_bare false false is has = rw (is, has) (bare_cut byte bytes has)
