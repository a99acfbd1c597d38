-- How many texts bytes have, and which is the first.
use Rattle.std.proofs.Common.{◌≡◌, ℕ, suc, ◌+◌, ◌<◌, Bool, true, false, ◌||◌, if◌then◌else◌, List}
use Rattle.std.proofs.Common.{[], ◌∷◌, ◌++◌, length, get_or, take, take_all, drop, length-drop, ◌-◌}
use Rattle.std.proofs.Common.{◌≤◌, ◌==◌, Option, Some, None, refl, sym, ap, ◌∙◌, append_assoc}
use Rattle.std.proofs.Common.{append-nil, arith}
use Rattle.std.specs.List.{after_first, before_first, list_any, position_or_len, starts_with}
use Rattle.std.proofs.lemmas.Bool.{or_parts}
use Rattle.std.proofs.lemmas.Bool.Decides.{nat_tests}
use Rattle.std.proofs.lemmas.Grind.{common_steps}
use Rattle.std.proofs.lemmas.List.{drop_all}
use Rattle.line_reader.specs.CutLines.{ends_field, is_comma, is_kept, is_quote, place_after}
use Rattle.line_reader.specs.CutLines.{texts_at, texts_in, texts_of}
use Rattle.line_reader.specs.declared.quote_state.QuoteState.{QuoteState}
use Rattle.line_reader.specs.declared.quote_state.QuoteState.TheVariants.{Front, Plain, Quoted}
use Rattle.line_reader.specs.declared.quote_state.QuoteState.TheVariants.{Closed}
use Rattle.line_reader.proofs.Cuts.{before_first-none}
use Rattle.line_reader.proofs.Fields.{drop-next}

-- a byte that ends a field, and one that does not
pub texts_end : (place : QuoteState) (text : List ℕ) (byte : ℕ) (bytes : List ℕ)
    → ends_field place byte ≡ true → texts_at place text (byte ∷ bytes) ≡ text ∷ texts_in bytes
unfolding texts_at
texts_end place text byte bytes ends = rw ends refl

pub texts_more : (place : QuoteState) (text : List ℕ) (byte : ℕ) (bytes : List ℕ)
    → ends_field place byte ≡ false
    → texts_at place text (byte ∷ bytes) ≡ texts_at (place_after place byte)
    (if is_kept place byte then text ++ byte ∷ [] else text) bytes
unfolding texts_at
texts_more place text byte bytes more = rw more refl

-- the end of the bytes
pub texts_none : (place : QuoteState) (text : List ℕ) → texts_at place text [] ≡ text ∷ []
unfolding texts_at
texts_none place text = refl

-- after the end of a field is the front of the next one
front_after : (place : QuoteState) (byte : ℕ) → ends_field place byte ≡ true
    → place_after place byte ≡ Front
front_after Front byte ends = rw ends refl
front_after Plain byte ends = rw ends refl
front_after Quoted byte ends = absurd (cc)
front_after Closed byte ends = rw ends refl

-- how many texts there are does not rest on the first one
length-texts_at : (place : QuoteState) (text other bytes : List ℕ)
    → length (texts_at place text bytes) ≡ length (texts_at place other bytes)
length-texts_at place text other [] = rw (texts_none place text, texts_none place other) refl
length-texts_at place text other (byte ∷ bytes) =
    by_end (ends_field place byte) refl (λ next text other. length-texts_at next text other bytes)
  where
    by_end : (ends : Bool) → ends_field place byte ≡ ends
        → ((next : QuoteState) (text other : List ℕ)
        → length (texts_at next text bytes) ≡ length (texts_at next other bytes))
        → length (texts_at place text (byte ∷ bytes)) ≡ length (texts_at place other (byte ∷ bytes))
    by_end true is same =
        rw (texts_end place text byte bytes is, texts_end place other byte bytes is) refl
    by_end false is same =
        rw (texts_more place text byte bytes is, texts_more place other byte bytes is)
        (same (place_after place byte) _ _)

-- one text more where a byte ends a field
pub count_texts : (place : QuoteState) (byte : ℕ) (bytes : List ℕ) (ends : Bool)
    → ends_field place byte ≡ ends → length (texts_at place [] (byte ∷ bytes))
    ≡ (if ends then 1 else 0) + length (texts_at (place_after place byte) [] bytes)
count_texts place byte bytes true is =
    rw (texts_end place [] byte bytes is, front_after place byte is) (omega arith)
count_texts place byte bytes false is =
    rw (texts_more place [] byte bytes is)
    (length-texts_at (place_after place byte) _ [] bytes ∙ omega arith)

-- at a place of a line
pub count_at : (place : QuoteState) (line : List ℕ) (i : ℕ) (ends : Bool) → i < length line
    → ends_field place (get_or line i 0) ≡ ends
    → length (texts_at place [] (drop i line)) ≡ (if ends then 1 else 0)
    + length (texts_at (place_after place (get_or line i 0)) [] (drop (i + 1) line))
count_at place line i ends within is =
    rw (drop-next line i 0 within) (count_texts place (get_or line i 0) (drop (i + 1) line) ends is)

-- what stands before the first byte that passes a test, and after it, where the first byte does not
before_first-cons : (p : ℕ → Bool) (byte : ℕ) (bytes : List ℕ) → p byte ≡ false
    → before_first p (byte ∷ bytes) ≡ byte ∷ before_first p bytes
before_first-cons p byte bytes other =
    let next : 1 + position_or_len p bytes ≡ suc (position_or_len p bytes) = omega arith in
    rw (other, next) refl

after_first-cons : (p : ℕ → Bool) (byte : ℕ) (bytes : List ℕ) → p byte ≡ false
    → after_first p (byte ∷ bytes) ≡ after_first p bytes
after_first-cons p byte bytes other = grind (arith, nat_tests, common_steps)

-- the texts of bytes that are cut at a comma
abbrev pub cut_texts : List ℕ → List ℕ → List (List ℕ)
cut_texts text bytes =
    (text ++ before_first is_comma bytes)
    ∷ texts_of (if list_any is_comma bytes then Some (after_first is_comma bytes) else None)

-- outside of quotes a field continues to the next comma
plain_texts : (text bytes : List ℕ) → texts_at Plain text bytes ≡ cut_texts text bytes
plain_texts text [] = texts_none Plain text ∙ ap (λ first. first ∷ []) (sym (append-nil text))
plain_texts text (byte ∷ bytes) =
    by_comma (is_comma byte) refl (plain_texts (text ++ byte ∷ []) bytes)
  where
    by_comma : (comma : Bool) → is_comma byte ≡ comma
        → texts_at Plain (text ++ byte ∷ []) bytes ≡ cut_texts (text ++ byte ∷ []) bytes
        → texts_at Plain text (byte ∷ bytes) ≡ cut_texts text (byte ∷ bytes)
    by_comma true is rest = texts_end Plain text byte bytes is ∙ rw (is, append-nil text) refl
    by_comma false is rest =
        texts_more Plain text byte bytes is
        ∙ rw (before_first-cons is_comma byte bytes is, after_first-cons is_comma byte bytes is, is)
        (rest ∙ rw (append_assoc text (byte ∷ []) (before_first is_comma bytes)) refl)

-- a field that does not begin with a quote is one outside of quotes
pub front_plain : (bytes : List ℕ) → is_quote (get_or bytes 0 0) ≡ false
    → texts_in bytes ≡ texts_at Plain [] bytes
unfolding texts_at
front_plain [] other = refl
front_plain (byte ∷ bytes) other = rw other refl

-- so it continues to the next comma
unquoted_texts : (bytes : List ℕ) → is_quote (get_or bytes 0 0) ≡ false
    → texts_in bytes ≡ before_first is_comma bytes
    ∷ texts_of (if list_any is_comma bytes then Some (after_first is_comma bytes) else None)
unquoted_texts bytes other = front_plain bytes other ∙ plain_texts [] bytes

-- so does one after a quote that closes it
after_plain : (text bytes : List ℕ) → starts_with ◌==◌ bytes (34 ∷ []) ≡ false
    → texts_at Closed text bytes ≡ texts_at Plain text bytes
unfolding texts_at
after_plain text [] other = refl
after_plain text (byte ∷ bytes) other =
    let no_quote : is_quote byte ≡ false = grind (arith, nat_tests) in
    rw no_quote refl

-- a quote opens a field
opened_texts : (bytes : List ℕ) → texts_in (34 ∷ bytes) ≡ texts_at Quoted [] bytes
unfolding texts_at
opened_texts bytes = refl

-- between quotes a field continues to the next quote
quoted_texts : (text bytes : List ℕ) → list_any is_quote bytes ≡ true
    → texts_at Quoted text bytes
    ≡ texts_at Closed (text ++ before_first is_quote bytes) (after_first is_quote bytes)
quoted_texts text [] some = absurd (cc)
quoted_texts text (byte ∷ bytes) some =
    by_quote (is_quote byte) refl (quoted_texts (text ++ byte ∷ []) bytes) some
  where
    by_quote : (quote : Bool) → is_quote byte ≡ quote
        → (list_any is_quote bytes ≡ true → texts_at Quoted (text ++ byte ∷ []) bytes ≡ texts_at
        Closed ((text ++ byte ∷ []) ++ before_first is_quote bytes) (after_first is_quote bytes))
        → (quote || list_any is_quote bytes) ≡ true
        → texts_at Quoted text (byte ∷ bytes) ≡ texts_at Closed
        (text ++ before_first is_quote (byte ∷ bytes)) (after_first is_quote (byte ∷ bytes))
    by_quote true is rest some =
        texts_more Quoted text byte bytes refl ∙ rw (is, append-nil text) refl
    by_quote false is rest some =
        texts_more Quoted text byte bytes refl
        ∙ rw (before_first-cons is_quote byte bytes is, after_first-cons is_quote byte bytes is, is)
        (rest some ∙ rw (append_assoc text (byte ∷ []) (before_first is_quote bytes)) refl)

-- or to the end
open_texts : (text bytes : List ℕ) → list_any is_quote bytes ≡ false
    → texts_at Quoted text bytes ≡ (text ++ bytes) ∷ []
open_texts text [] none = texts_none Quoted text ∙ ap (λ first. first ∷ []) (sym (append-nil text))
open_texts text (byte ∷ bytes) none =
    let parts = or_parts (is_quote byte) (list_any is_quote bytes) none in
    texts_more Quoted text byte bytes refl
    ∙ rw parts.0
    (open_texts (text ++ byte ∷ []) bytes parts.1 ∙ rw (append_assoc text (byte ∷ []) bytes) refl)

-- what stands after the opening quote of a field, cut at the next quote
pub record QuotedCut (bytes text : List ℕ) (after : Option (List ℕ)) : Type 0 where
  pub text_is : text ≡ before_first is_quote bytes
  pub after_is : after
      ≡ (if list_any is_quote bytes then Some (after_first is_quote bytes) else None)

-- where there is none
pub open_text : (before bytes text : List ℕ) → QuotedCut bytes text None
    → texts_at Quoted before bytes ≡ (before ++ text) ∷ []
open_text before bytes text cut = by_quote (list_any is_quote bytes) refl cut.after_is
  where
    by_quote : (quote : Bool) → list_any is_quote bytes ≡ quote
        → None ≡ (if quote then Some (after_first is_quote bytes) else None)
        → texts_at Quoted before bytes ≡ (before ++ text) ∷ []
    by_quote true is none = absurd (cc)
    by_quote false is none =
        rw (cut.text_is, before_first-none is_quote bytes is) (open_texts before bytes is)

-- where there is one
closed : (before bytes text after : List ℕ) → QuotedCut bytes text (Some after)
    → texts_at Quoted before bytes ≡ texts_at Closed (before ++ text) after
closed before bytes text after cut = by_quote (list_any is_quote bytes) refl cut.after_is
  where
    by_quote : (quote : Bool) → list_any is_quote bytes ≡ quote
        → Some after ≡ (if quote then Some (after_first is_quote bytes) else None)
        → texts_at Quoted before bytes ≡ texts_at Closed (before ++ text) after
    by_quote true is some =
        let same : after ≡ after_first is_quote bytes = cc in
        rw (cut.text_is, same) (quoted_texts before bytes is)
    by_quote false is some = absurd (cc)

-- and a second quote stands after it, which is one of the text
pub doubled : (before bytes text after : List ℕ) → QuotedCut bytes text (Some after)
    → starts_with ◌==◌ after (34 ∷ []) ≡ true
    → texts_at Quoted before bytes ≡ texts_at Quoted ((before ++ text) ++ 34 ∷ []) (drop 1 after)
doubled before bytes text [] cut is = absurd (cc)
doubled before bytes text (byte ∷ after) cut is =
    let same : byte ≡ 34 = grind (arith, nat_tests) in
    closed before bytes text (byte ∷ after) cut
    ∙ rw same (texts_more Closed (before ++ text) 34 after refl)

-- and none does, so that the field continues to the next comma
pub unquoted : (before bytes text after : List ℕ) → QuotedCut bytes text (Some after)
    → starts_with ◌==◌ after (34 ∷ []) ≡ false
    → texts_at Quoted before bytes ≡ cut_texts (before ++ text) after
unquoted before bytes text after cut other =
    closed before bytes text after cut ∙ after_plain (before ++ text) after other
    ∙ plain_texts (before ++ text) after

-- and nothing, or a comma, stands after it
pub closed_last : (bytes text after : List ℕ) → QuotedCut bytes text (Some after) → length after ≡ 0
    → texts_at Quoted [] bytes ≡ text ∷ []
closed_last bytes text [] cut none = closed [] bytes text [] cut ∙ texts_none Closed text
closed_last bytes text (byte ∷ after) cut none = absurd (omega arith)

pub closed_text : (bytes text after : List ℕ) → QuotedCut bytes text (Some after)
    → starts_with ◌==◌ after (44 ∷ []) ≡ true
    → texts_at Quoted [] bytes ≡ text ∷ texts_in (drop 1 after)
closed_text bytes text [] cut is = absurd (cc)
closed_text bytes text (byte ∷ after) cut is =
    let comma : is_comma byte ≡ true = grind (arith, nat_tests) in
    closed [] bytes text (byte ∷ after) cut ∙ texts_end Closed text byte after comma

-- what is left of bytes after the first of them
pub drop_whole : (bytes : List ℕ) (i : ℕ) → take (length bytes - i) (drop i bytes) ≡ drop i bytes
drop_whole bytes i = take_all (length bytes - i) (drop i bytes) (omega (arith, length-drop i bytes))

-- bytes that begin with a quote, and others
pub begin_quoted : (bytes : List ℕ) → starts_with ◌==◌ bytes (34 ∷ []) ≡ true
    → texts_in bytes ≡ texts_at Quoted [] (drop 1 bytes)
begin_quoted [] is = absurd (cc)
begin_quoted (byte ∷ bytes) is =
    let same : byte ≡ 34 = grind (arith, nat_tests) in
    rw same (opened_texts bytes)

pub begin_unquoted : (bytes : List ℕ) → starts_with ◌==◌ bytes (34 ∷ []) ≡ false
    → texts_in bytes ≡ before_first is_comma bytes
    ∷ texts_of (if list_any is_comma bytes then Some (after_first is_comma bytes) else None)
begin_unquoted [] is = unquoted_texts [] refl
begin_unquoted (byte ∷ bytes) is = unquoted_texts (byte ∷ bytes) (grind (arith, nat_tests))

-- there is no byte at a place
pub none_at : (place : QuoteState) (text bytes : List ℕ) (i : ℕ) → length bytes ≤ i
    → texts_at place text (drop i bytes) ≡ text ∷ []
none_at place text bytes i past = rw (drop_all i bytes past) (texts_none place text)
