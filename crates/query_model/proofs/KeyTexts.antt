-- The keys of items: they are texts, and two items have the same key exactly where they agree.
use Rattle.std.proofs.Common.{◌≡◌, ℕ, ◌++◌, nat_lt, Bool, true, false, cond, List, [], ◌∷◌}
use Rattle.std.proofs.Common.{length, IsTrue, refl, sym, ap, ◌∙◌}
use Rattle.std.specs.List.{AllByRecursion}
use Rattle.std.proofs.lemmas.Bool.{and_from, and_parts}
use Rattle.std.proofs.lemmas.List.{length-map}
use Rattle.joined_texts.specs.Joining.{after_bars, bar, backslash, escaped, escaped_byte, is_mark}
use Rattle.joined_texts.specs.Joining.{joined}
use Rattle.joined_texts.proofs.Told.{joined_same}
use Rattle.value_ops.specs.declared.field.Field.{Field}
use Rattle.value_ops.specs.Texts.{IsText, are_bytes}
use Rattle.item_schema.specs.declared.column.Column.{Column}
use Rattle.item_schema.specs.Items.{IsItemOf}
use Rattle.query_model.specs.Keys.{AgreeIn, key_of, text_in, texts_in}
use Rattle.query_model.proofs.ItemFields.{in_column}

-- a text after a byte, and after another text
text_more : (byte : ℕ) (text : List ℕ) → IsTrue (nat_lt byte 256) → IsText text
    → IsText (byte ∷ text)
text_more byte text low is = and_from (nat_lt byte 256) (are_bytes text) low is

text_after : (text other : List ℕ) → IsText text → IsText other → IsText (text ++ other)
text_after [] other is also = also
text_after (byte ∷ text) other is also =
    let parts = and_parts (nat_lt byte 256) (are_bytes text) is in
    text_more byte (text ++ other) parts.0 (text_after text other parts.1 also)

byte_text : (byte : ℕ) → IsTrue (nat_lt byte 256) → IsText (escaped_byte byte)
byte_text byte low = by (is_mark byte)
  where
    by : (mark : Bool) → IsText (cond mark (backslash ∷ byte ∷ []) (byte ∷ []))
    by true = text_more backslash (byte ∷ []) refl (text_more byte [] low refl)
    by false = text_more byte [] low refl

escaped_text : (text : List ℕ) → IsText text → IsText (escaped text)
escaped_text [] is = refl
escaped_text (byte ∷ text) is =
    let parts = and_parts (nat_lt byte 256) (are_bytes text) is in
    text_after (escaped_byte byte) (escaped text) (byte_text byte parts.0)
    (escaped_text text parts.1)

-- texts that are joined
bars_text : (texts : List (List ℕ)) → AllByRecursion IsText texts → IsText (after_bars texts)
bars_text [] are = refl
bars_text (text ∷ texts) are =
    text_after (bar ∷ escaped text) (after_bars texts)
    (text_more bar (escaped text) refl (escaped_text text are.0)) (bars_text texts are.1)

joined_text : (texts : List (List ℕ)) → AllByRecursion IsText texts → IsText (joined texts)
joined_text [] are = refl
joined_text (text ∷ texts) are =
    text_after (escaped text) (after_bars texts) (escaped_text text are.0) (bars_text texts are.1)

texts_are : (columns : List Column) (item : List Field) → IsItemOf columns item
    → (chosen : List ℕ) → AllByRecursion IsText (texts_in chosen item)
texts_are columns item is [] = tt
texts_are columns item is (column ∷ others) =
    (in_column columns item column is, texts_are columns item is others)

-- the key of an item is a text
pub key_is_text : (columns : List Column) (item : List Field) (chosen : List ℕ)
    → IsItemOf columns item → IsText (key_of chosen item)
key_is_text columns item [] is = refl
key_is_text columns item (column ∷ []) is = in_column columns item column is
key_is_text columns item (column ∷ other ∷ more) is =
    joined_text (texts_in (column ∷ other ∷ more) item)
    (texts_are columns item is (column ∷ other ∷ more))

-- the heads and the tails of equal lists
head_same : {A : Type 0} (x y : A) (xs ys : List A) → x ∷ xs ≡ y ∷ ys → x ≡ y
head_same x y xs ys same = cc

tail_same : {A : Type 0} (x y : A) (xs ys : List A) → x ∷ xs ≡ y ∷ ys → xs ≡ ys
tail_same x y xs ys same = cc

-- items agree where their texts are the same, and the other way round
agree_by : (chosen : List ℕ) (item other : List Field)
    → texts_in chosen item ≡ texts_in chosen other → AgreeIn chosen item other
agree_by [] item other same = tt
agree_by (column ∷ more) item other same = (
  head_same (text_in column item) (text_in column other) (texts_in more item)
      (texts_in more other) same,
  agree_by more item other (tail_same (text_in column item) (text_in column other)
      (texts_in more item) (texts_in more other) same),
)

texts_same : (chosen : List ℕ) (item other : List Field) → AgreeIn chosen item other
    → texts_in chosen item ≡ texts_in chosen other
texts_same [] item other agree = refl
texts_same (column ∷ more) item other agree =
    ap (λ text. text ∷ texts_in more item) agree.0
    ∙ ap (λ texts. text_in column other ∷ texts) (texts_same more item other agree.1)

-- there are as many texts as columns
as_many : (chosen : List ℕ) (item other : List Field)
    → length (texts_in chosen item) ≡ length (texts_in chosen other)
as_many chosen item other = length-map chosen (λ column. text_in column item)
    ∙ sym (length-map chosen (λ column. text_in column other))

agree_joined : (chosen : List ℕ) (item other : List Field)
    → joined (texts_in chosen item) ≡ joined (texts_in chosen other) → AgreeIn chosen item other
agree_joined chosen item other same =
    agree_by chosen item other (joined_same (texts_in chosen item) (texts_in chosen other)
    (as_many chosen item other) same)

pub agree_of_key : (chosen : List ℕ) (item other : List Field)
    → key_of chosen item ≡ key_of chosen other → AgreeIn chosen item other
agree_of_key [] item other same = tt
agree_of_key (column ∷ []) item other same = (same, tt)
agree_of_key (column ∷ next ∷ more) item other same =
    agree_joined (column ∷ next ∷ more) item other same

pub key_of_agree : (chosen : List ℕ) (item other : List Field) → AgreeIn chosen item other
    → key_of chosen item ≡ key_of chosen other
key_of_agree [] item other agree = refl
key_of_agree (column ∷ []) item other agree = agree.0
key_of_agree (column ∷ next ∷ more) item other agree =
    ap joined (texts_same (column ∷ next ∷ more) item other agree)
