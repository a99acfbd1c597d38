-- A text has tokens, or after some of them a place where none begins.
use Rattle.std.proofs.Common.{◌≡◌, ◌⊎◌, inl, inr, ℕ, zero, suc, ◌+◌, ◌-◌, ◌<◌, Bool, true, false}
use Rattle.std.proofs.Common.{◌==◌, List, [], ◌∷◌, length, drop, take_while, Option, Some, None}
use Rattle.std.proofs.Common.{refl, ap, ◌∙◌, subst, arith}
use Rattle.std.proofs.lemmas.Bool.Decides.{nat_tests}
use Rattle.std.proofs.lemmas.Grind.{common_steps}
use Rattle.std.proofs.lemmas.List.{length-append, length-drop}
use Rattle.query_tokens.specs.declared.token.Token.{Token}
use Rattle.query_tokens.specs.declared.token.TokenKind.{TokenKind}
use Rattle.query_tokens.specs.declared.token.TokenKind.TheVariants.{Word, Number, Text, Open, Close}
use Rattle.query_tokens.specs.declared.token.TokenKind.TheVariants.{Comma}
use Rattle.query_tokens.specs.declared.token_reader.Next.{Next}
use Rattle.query_tokens.specs.declared.token_reader.Next.TheVariants.{Token as AToken, End, Fault}
use Rattle.query_tokens.specs.Raw.{is_word_byte, IsRaw, BeginsNoBlank}
use Rattle.query_tokens.specs.Tokens.{AreTokens, FaultAfter}
use Rattle.query_tokens.specs.Front.{kind_of, kind_at, number_len, BlankUpTo, IsBlankLength, Begins}
use Rattle.query_tokens.specs.Front.{IsLength, IsFirst}
use Rattle.query_tokens.specs.Next.{IsNext}
use Rattle.query_tokens.specs.StringParts.{part_of, IsClosing}
use Rattle.query_tokens.proofs.Blanks.{blank_from, counts}
use Rattle.query_tokens.proofs.Closing.{part_within, Closes-quote, Closes-no_part, Closes-more}
use Rattle.query_tokens.proofs.Closing.{Closes-less}
use Rattle.query_tokens.proofs.FirstBytes.{raw_kind_at}
use Rattle.query_tokens.proofs.Lengths.{begins_word, length_of_number, with_quote, length_of_string}
use Rattle.query_tokens.proofs.Lengths.{first_is_longest}
use Rattle.query_tokens.proofs.Steps.{fails_at, stands_at}

-- the bytes close a string at some length, or at none
abbrev HaveClosing : List ℕ → Type 0
HaveClosing bytes = (closing : Option ℕ) × IsClosing bytes closing

-- so it is where no part stands at the front
closing_without_part : (bytes : List ℕ) → part_of bytes ≡ None → HaveClosing bytes
closing_without_part [] none =
    (None, λ len closes. let quote = (Closes-no_part [] len none closes).1 in absurd (cc))
closing_without_part (byte ∷ rest) none = by_test (byte == 34) refl
  where
    by_test : (quote : Bool) → (byte == 34) ≡ quote → HaveClosing (byte ∷ rest)
    by_test true is = let quote : byte ≡ 34 = grind (arith, nat_tests) in
        (Some 1, rw quote (Closes-quote rest))
    by_test false is = (
      None,
      λ len closes. let at = (Closes-no_part (byte ∷ rest) len none closes).1 in
          let quote : byte ≡ 34 = cc in
          grind (arith, nat_tests),
    )

-- and where one does, if it is so after the part
closing_with_part : (bytes : List ℕ) (found : ℕ × ℕ) → part_of bytes ≡ Some found
    → HaveClosing (drop found.1 bytes) → HaveClosing bytes
closing_with_part bytes found is (None, none) =
    (None, λ len closes. let less = Closes-less bytes found len is closes in none less.0 less.1)
closing_with_part bytes found is (Some len, closes) =
    (Some (found.1 + len), Closes-more bytes found len is closes)

closing_from : (bytes : List ℕ) → ((rest : List ℕ) → length rest < length bytes → HaveClosing rest)
    → HaveClosing bytes
closing_from bytes after = by_part (part_of bytes) refl
  where
    by_part : (part : Option (ℕ × ℕ)) → part_of bytes ≡ part → HaveClosing bytes
    by_part None is = closing_without_part bytes is
    by_part (Some found) is =
        let within = part_within bytes found is in
        closing_with_part bytes found is
        (after (drop found.1 bytes) (omega (arith, within.0, within.1, length-drop found.1 bytes)))

-- the bytes are no more than these
some_closing : (most : ℕ) (bytes : List ℕ) → length bytes < most → HaveClosing bytes
some_closing zero bytes few = absurd (omega arith)
some_closing (suc most) bytes few =
    closing_from bytes (λ rest less. some_closing most rest (omega (arith, less, few)))

-- a mark is one byte
open_begins : (byte : ℕ) (bytes : List ℕ) → kind_of byte ≡ Some Open → Begins Open (byte ∷ bytes) 1
open_begins byte bytes is = record {
  within = omega arith;
  token = grind (arith, common_steps);
  longest = λ raw beyond split raw_is. omega (arith, ap length raw_is);
}

close_begins : (byte : ℕ) (bytes : List ℕ) → kind_of byte ≡ Some Close
    → Begins Close (byte ∷ bytes) 1
close_begins byte bytes is = record {
  within = omega arith;
  token = grind (arith, common_steps);
  longest = λ raw beyond split raw_is. omega (arith, ap length raw_is);
}

comma_begins : (byte : ℕ) (bytes : List ℕ) → kind_of byte ≡ Some Comma
    → Begins Comma (byte ∷ bytes) 1
comma_begins byte bytes is = record {
  within = omega arith;
  token = grind (arith, common_steps);
  longest = λ raw beyond split raw_is. omega (arith, ap length raw_is);
}

-- a token of the kind that the first byte shows has some length, or there is none
some_length : (kind : TokenKind) (bytes : List ℕ) → kind_at bytes ≡ Some kind
    → (len : Option ℕ) × IsLength kind bytes len
some_length kind [] is = absurd (cc)
some_length Word (byte ∷ bytes) is =
    (Some (length (take_while is_word_byte (byte ∷ bytes))), begins_word (byte ∷ bytes) is)
some_length Number (byte ∷ bytes) is = (number_len (byte ∷ bytes), length_of_number (byte ∷ bytes))
some_length Text (byte ∷ bytes) is =
    let closing = some_closing (length bytes + 1) bytes (omega arith) in
    (with_quote closing.0, length_of_string (byte ∷ bytes) closing.0 is closing.1)
some_length Open (byte ∷ bytes) is = (Some 1, open_begins byte bytes is)
some_length Close (byte ∷ bytes) is = (Some 1, close_begins byte bytes is)
some_length Comma (byte ∷ bytes) is = (Some 1, comma_begins byte bytes is)

-- a token stands at the front, or none
some_first : (bytes : List ℕ) → (found : Option (TokenKind × ℕ)) × IsFirst bytes found
some_first bytes = by_kind (kind_at bytes) refl
  where
    by_length : (kind : TokenKind) → kind_at bytes ≡ Some kind → (len : Option ℕ)
        → IsLength kind bytes len → (found : Option (TokenKind × ℕ)) × IsFirst bytes found
    by_length kind is None none = (
      None,
      λ other raw beyond split is_raw. let same : other ≡ kind =
          cc (raw_kind_at other raw beyond is_raw, ap kind_at split, is) in
          none raw beyond split (subst (λ k. IsRaw k raw) same is_raw),
    )
    by_length kind is (Some len) begins =
        (Some (kind, len), (begins.within, first_is_longest bytes kind len is begins))

    by_kind : (kind : Option TokenKind) → kind_at bytes ≡ kind
        → (found : Option (TokenKind × ℕ)) × IsFirst bytes found
    by_kind None is = (
      None,
      λ other raw beyond split is_raw.
          absurd (cc (raw_kind_at other raw beyond is_raw, ap kind_at split, is)),
    )
    by_kind (Some kind) is = let len = some_length kind bytes is in by_length kind is len.0 len.1

-- blank that another byte ends is not all
blank_less : (bytes : List ℕ) (blank : ℕ) → BlankUpTo bytes blank → blank < length bytes
blank_less bytes blank up_to =
    by_rest up_to.rest up_to.no_blank (ap length up_to.split ∙ length-append up_to.blank up_to.rest)
  where
    by_rest : (rest : List ℕ) → BeginsNoBlank rest → length bytes ≡ length up_to.blank + length rest
        → blank < length bytes
    by_rest [] none long = absurd none
    by_rest (byte ∷ rest) some long = omega (arith, long, up_to.is)

-- after the blank stands a token, the end, or neither
some_next : (place : ℕ) (bytes : List ℕ) → (next : Next) × IsNext place bytes next
some_next place bytes = by_blank (counts false bytes)
  where
    by_first : BlankUpTo bytes (blank_from false bytes)
        → (found : Option (TokenKind × ℕ)) → IsFirst (drop (blank_from false bytes) bytes) found
        → (next : Next) × IsNext place bytes next
    by_first up_to None none = (
      Fault (place + blank_from false bytes),
      fails_at place bytes (blank_from false bytes) (inr up_to) (blank_less bytes _ up_to) none,
    )
    by_first up_to (Some (kind, len)) first = (
      AToken _,
      stands_at place bytes (blank_from false bytes) kind len (inr up_to)
          (blank_less bytes _ up_to) first,
    )

    by_blank : IsBlankLength bytes (blank_from false bytes)
        → (next : Next) × IsNext place bytes next
    by_blank (inl all) = (End, all.1)
    by_blank (inr up_to) = let first = some_first (drop (blank_from false bytes) bytes) in
        by_first up_to first.0 first.1

-- the text, which begins at this place, has tokens, or after some of them a place where none begins
abbrev pub HasTokensOrFault : ℕ → List ℕ → Type 0
HasTokensOrFault at text =
    ((tokens : List Token) × AreTokens at text tokens)
    ⊎ ((before : List Token) × (place : ℕ) × FaultAfter at text before place)

tokens_after : (at : ℕ) (text : List ℕ) (next : Next) → IsNext at text next
    → ((to : ℕ) (rest : List ℕ) → length rest < length text → HasTokensOrFault to rest)
    → HasTokensOrFault at text
tokens_after at text End is after = inl ([], is)
tokens_after at text (Fault place) is after = inr ([], place, is)
tokens_after at text (AToken token) is after =
    let rest = drop (token.span.to - at) text in
    elim (after token.span.to rest
    (omega (arith, is.later, is.within, length-drop (token.span.to - at) text))) [
      | inl more ↦ inl (token ∷ more.0, (rest, is.stands, more.1))
      | inr more ↦ inr (token ∷ more.0, more.1, (rest, is.stands, more.2))
    ]

some_tokens : (most at : ℕ) (text : List ℕ) → length text < most → HasTokensOrFault at text
some_tokens zero at text few = absurd (omega arith)
some_tokens (suc most) at text few =
    let next = some_next at text in
    tokens_after at text next.0 next.1
    (λ to rest less. some_tokens most to rest (omega (arith, less, few)))

-- each text has one or the other
pub tokens_or_fault : (at : ℕ) (text : List ℕ) → HasTokensOrFault at text
tokens_or_fault at text = some_tokens (length text + 1) at text (omega arith)
