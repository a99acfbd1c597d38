-- Where bytes close a string, part by part, and that they do so in one way.
use Rattle.std.proofs.Common.{◌≡◌, ℕ, ◌+◌, ◌-◌, ◌<◌, ◌≤◌, List, [], ◌∷◌, ◌++◌, length, take, drop}
use Rattle.std.proofs.Common.{get_or, Some, None, refl, sym, ap, ◌∙◌, add-one, add-zero, arith}
use Rattle.std.proofs.lemmas.List.{append_assoc, take_at, drop_at, length-append, drop-drop}
use Rattle.std.proofs.lemmas.List.{drop_more, length-drop, get_or-drop}
use Rattle.query_tokens.specs.Raw.{IsPart, AreParts}
use Rattle.query_tokens.specs.StringParts.{part_of, Closes}
use Rattle.query_tokens.proofs.Parts.{part_is_found, part_fronts}

-- a part has a byte or more
part_not_empty : (part : List ℕ) (byte : ℕ) → IsPart part byte → 0 < length part
part_not_empty part byte is_part = grind (arith, part_is_found part [] byte is_part)

-- what is found is within the bytes, and some of them
pub part_within : (bytes : List ℕ) (found : ℕ × ℕ) → part_of bytes ≡ Some found
    → (0 < found.1) × (found.1 ≤ length bytes)
part_within bytes found is =
    let f = part_fronts bytes found is in
    let some = part_not_empty f.part found.0 f.is_part in
    let whole : length bytes ≡ length f.part + length f.beyond =
    ap length f.split ∙ length-append f.part f.beyond in
    (omega (arith, f.len), omega (arith, f.len))

-- equal finds have equal parts
pub same_found : (x y : ℕ × ℕ) → Some x ≡ Some y → (x.0 ≡ y.0) × (x.1 ≡ y.1)
same_found x y same =
    let inner : x ≡ y = cc in
    (ap (λ (p : ℕ × ℕ). p.0) inner, ap (λ (p : ℕ × ℕ). p.1) inner)

-- two parts at the front of the same bytes are one
pub one_part : (part part' beyond beyond' : List ℕ) (byte byte' : ℕ)
    → IsPart part byte → IsPart part' byte' → part ++ beyond ≡ part' ++ beyond'
    → (part ≡ part') × (byte ≡ byte') × (beyond ≡ beyond')
one_part part part' beyond beyond' byte byte' is_part is_part' same =
    let found = part_is_found part beyond byte is_part in
    let found' = part_is_found part' beyond' byte' is_part' in
    let found_same = same_found (byte, length part) (byte', length part')
    (sym found ∙ ap part_of same ∙ found') in
    let long = sym found_same.1 in
    let one : part ≡ part' =
    sym (take_at part beyond (length part) refl) ∙ ap (take (length part)) same
    ∙ take_at part' beyond' (length part) long in (
      one,
      found_same.0,
      sym (drop_at part beyond (length part) refl) ∙ ap (drop (length part)) same
          ∙ drop_at part' beyond' (length part) long,
    )

-- parts up to a quote are read in one way
pub one_reading : (values values' parts parts' beyond beyond' : List ℕ) → AreParts parts values
    → AreParts parts' values' → parts ++ 34 ∷ beyond ≡ parts' ++ 34 ∷ beyond'
    → (parts ≡ parts') × (values ≡ values')
one_reading [] [] parts parts' beyond beyond' are are' same = (are ∙ sym are', refl)
one_reading [] (v ∷ vs) parts parts' beyond beyond' are are' same =
    let here = part_is_found are'.0 (are'.1 ++ 34 ∷ beyond') v are'.3 in
    let at : 34 ∷ beyond ≡ are'.0 ++ (are'.1 ++ 34 ∷ beyond') =
    ap (λ p. p ++ 34 ∷ beyond) (sym are) ∙ same ∙ ap (λ p. p ++ 34 ∷ beyond') are'.2
    ∙ append_assoc are'.0 are'.1 (34 ∷ beyond') in
    let none : part_of (34 ∷ beyond) ≡ None = refl in
    absurd (cc (ap part_of at, here, none))
one_reading (v ∷ vs) [] parts parts' beyond beyond' are are' same =
    let here = part_is_found are.0 (are.1 ++ 34 ∷ beyond) v are.3 in
    let at : 34 ∷ beyond' ≡ are.0 ++ (are.1 ++ 34 ∷ beyond) =
    ap (λ p. p ++ 34 ∷ beyond') (sym are') ∙ sym same ∙ ap (λ p. p ++ 34 ∷ beyond) are.2
    ∙ append_assoc are.0 are.1 (34 ∷ beyond) in
    let none : part_of (34 ∷ beyond') ≡ None = refl in
    absurd (cc (ap part_of at, here, none))
one_reading (v ∷ vs) (v' ∷ vs') parts parts' beyond beyond' are are' same =
    let at : are.0 ++ (are.1 ++ 34 ∷ beyond) ≡ are'.0 ++ (are'.1 ++ 34 ∷ beyond') =
    sym (ap (λ p. p ++ 34 ∷ beyond) are.2 ∙ append_assoc are.0 are.1 (34 ∷ beyond))
    ∙ same ∙ ap (λ p. p ++ 34 ∷ beyond') are'.2 ∙ append_assoc are'.0 are'.1 (34 ∷ beyond') in
    let one = one_part are.0 are'.0 _ _ v v' are.3 are'.3 at in
    let rest = one_reading vs vs' are.1 are'.1 beyond beyond' are.4 are'.4 one.2 in
    (are.2 ∙ (cc (one.0, rest.0)) ∙ sym are'.2, cc (one.1, rest.1))

-- a quote closes at once
pub Closes-quote : (beyond : List ℕ) → Closes (34 ∷ beyond) 1
Closes-quote beyond =
    record { parts = []; values = []; beyond = beyond; split = refl; stand = refl; is = refl }

-- where no part stands at the front, only the quote can close
pub Closes-no_part : (bytes : List ℕ) (len : ℕ) → part_of bytes ≡ None → Closes bytes len
    → (beyond : List ℕ) × (bytes ≡ 34 ∷ beyond)
Closes-no_part bytes len none closes = by_values closes.values closes.stand
  where
    by_values : (values : List ℕ) → AreParts closes.parts values
        → (beyond : List ℕ) × (bytes ≡ 34 ∷ beyond)
    by_values [] are = (closes.beyond, closes.split ∙ ap (λ p. p ++ 34 ∷ closes.beyond) are)
    by_values (v ∷ vs) are =
        let at : bytes ≡ are.0 ++ (are.1 ++ 34 ∷ closes.beyond) =
        closes.split ∙ ap (λ p. p ++ 34 ∷ closes.beyond) are.2
        ∙ append_assoc are.0 are.1 (34 ∷ closes.beyond) in
        absurd (cc (ap part_of at, part_is_found are.0 (are.1 ++ 34 ∷ closes.beyond) v are.3, none))

-- what closes after a part closes with it
pub Closes-more : (bytes : List ℕ) (found : ℕ × ℕ) (len : ℕ) → part_of bytes ≡ Some found
    → Closes (drop found.1 bytes) len → Closes bytes (found.1 + len)
Closes-more bytes found len is closes =
    let f = part_fronts bytes found is in
    let rest : drop found.1 bytes ≡ f.beyond =
    ap (drop found.1) f.split ∙ drop_at f.part f.beyond found.1 (sym f.len) in
    record {
      parts = f.part ++ closes.parts;
      values = found.0 ∷ closes.values;
      beyond = closes.beyond;
      split = f.split ∙ ap (λ r. f.part ++ r) (sym rest ∙ closes.split)
          ∙ sym (append_assoc f.part closes.parts (34 ∷ closes.beyond));
      stand = (f.part, closes.parts, refl, f.is_part, closes.stand);
      is = rw length-append (omega (arith, f.len, closes.is));
    }

-- and what closes with a part closes after it
pub Closes-less : (bytes : List ℕ) (found : ℕ × ℕ) (len : ℕ) → part_of bytes ≡ Some found
    → Closes bytes len → (less : ℕ) × Closes (drop found.1 bytes) less
Closes-less bytes found len is closes = by_values closes.values closes.stand
  where
    by_values : (values : List ℕ) → AreParts closes.parts values
        → (less : ℕ) × Closes (drop found.1 bytes) less
    by_values [] are =
        let at : bytes ≡ 34 ∷ closes.beyond =
        closes.split ∙ ap (λ p. p ++ 34 ∷ closes.beyond) are in
        let none : part_of (34 ∷ closes.beyond) ≡ None = refl in
        absurd (cc (ap part_of at, none, is))
    by_values (v ∷ vs) are =
        let at : bytes ≡ are.0 ++ (are.1 ++ 34 ∷ closes.beyond) =
        closes.split ∙ ap (λ p. p ++ 34 ∷ closes.beyond) are.2
        ∙ append_assoc are.0 are.1 (34 ∷ closes.beyond) in
        let same : Some found ≡ Some (v, length are.0) =
        sym is ∙ ap part_of at ∙ part_is_found are.0 (are.1 ++ 34 ∷ closes.beyond) v are.3 in (
          length are.1 + 1,
          record {
            parts = are.1;
            values = vs;
            beyond = closes.beyond;
            split = ap (drop found.1) at ∙ drop_at are.0 (are.1 ++ 34 ∷ closes.beyond) found.1
                (sym (same_found found (v, length are.0) same).1);
            stand = are.4;
            is = refl;
          },
        )

-- the same two, at a place of the text
pub Closes-more_at : (text : List ℕ) (at : ℕ) (found : ℕ × ℕ) (len : ℕ)
    → part_of (drop at text) ≡ Some found → Closes (drop (at + found.1) text) len
    → Closes (drop at text) (found.1 + len)
Closes-more_at text at found len is closes =
    Closes-more (drop at text) found len is (rw drop-drop closes)

pub Closes-less_at : (text : List ℕ) (at : ℕ) (found : ℕ × ℕ) (len : ℕ)
    → part_of (drop at text) ≡ Some found → Closes (drop at text) len
    → (less : ℕ) × Closes (drop (at + found.1) text) less
Closes-less_at text at found len is closes =
    rw drop-drop at (Closes-less (drop at text) found len is closes)

-- a quote at the place closes there
pub Closes-here : (text : List ℕ) (at : ℕ) → at < length text → get_or text at 0 ≡ 34
    → Closes (drop at text) 1
Closes-here text at within is =
    let here : drop at text ≡ 34 ∷ drop (at + 1) text =
    drop_more text at 0 within ∙ ap (λ b. b ∷ drop (at + 1) text) is in
    rw here (Closes-quote (drop (at + 1) text))

-- where no part stands and the text closes, there is a quote
pub quote_at : (text : List ℕ) (at len : ℕ) → part_of (drop at text) ≡ None
    → Closes (drop at text) len → (at < length text) × (get_or text at 0 ≡ 34)
quote_at text at len none closes =
    let here = Closes-no_part (drop at text) len none closes in
    let some : length text - at ≡ length here.0 + 1 =
    sym (length-drop at text) ∙ ap length here.1 ∙ sym (add-one (length here.0)) in
    let first : get_or text at 0 ≡ 34 =
    rw add-zero at (sym (get_or-drop at text 0 0)) ∙ ap (λ b. get_or b 0 0) here.1 in
    (omega arith, first)
