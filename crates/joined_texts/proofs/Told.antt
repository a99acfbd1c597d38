-- Joined texts can be told apart. After a text there is nothing or a `|`, with which no text
-- begins, so two joined texts go on together byte by byte, until both end.
use Rattle.std.proofs.Common.{◌≡◌, ℕ, ◌++◌, Bool, true, false, cond, List, [], ◌∷◌}
use Rattle.std.proofs.Common.{length, refl, sym, ap, subst, ◌∙◌, arith}
use Rattle.joined_texts.specs.Joining.{bar, backslash, is_mark, escaped, after_bars, joined}

-- the heads and the tails of equal lists
head_same : {A : Type 0} (x y : A) (xs ys : List A) → x ∷ xs ≡ y ∷ ys → x ≡ y
head_same x y xs ys same = cc

tail_same : {A : Type 0} (x y : A) (xs ys : List A) → x ∷ xs ≡ y ∷ ys → xs ≡ ys
tail_same x y xs ys same = cc

-- nothing, or a `|` and more
abbrev IsEnd : List ℕ → Type 0
IsEnd [] = Unit {0}
IsEnd (byte ∷ bytes) = byte ≡ bar

-- a byte of a text, where it is known whether it is a mark
abbrev byte_as : Bool → ℕ → List ℕ
byte_as mark byte = cond mark (backslash ∷ byte ∷ []) (byte ∷ [])

no_bar : (byte : ℕ) → is_mark byte ≡ false → byte ≡ bar → ⊥
no_bar byte is same = by (subst (λ b. is_mark b ≡ false) same is)
  where
    by : is_mark bar ≡ false → ⊥
    by wrong = cc

no_backslash : (byte : ℕ) → is_mark byte ≡ false → byte ≡ backslash → ⊥
no_backslash byte is same = by (subst (λ b. is_mark b ≡ false) same is)
  where
    by : is_mark backslash ≡ false → ⊥
    by wrong = cc

-- where a text ends, none goes on
not_begun : (byte : ℕ) (mark : Bool) → is_mark byte ≡ mark → (end text more : List ℕ) → IsEnd end
    → end ≡ (byte_as mark byte ++ text) ++ more → ⊥
not_begun byte true is [] text more ends same = cc
not_begun byte false is [] text more ends same = cc
not_begun byte true is (b ∷ end) text more ends same =
    let first : b ≡ backslash = head_same b backslash end (byte ∷ text ++ more) same in
    by (sym ends ∙ first)
  where
    by : bar ≡ backslash → ⊥
    by wrong = omega arith
not_begun byte false is (b ∷ end) text more ends same =
    no_bar byte is (sym (head_same b byte end (text ++ more) same) ∙ ends)

-- equal bytes of two texts, and what stands after each
record GoOn (byte other : ℕ) (rest more : List ℕ) : Type 0 where
  same : byte ≡ other
  rests : rest ≡ more

both_go_on : (byte other : ℕ) (mark also : Bool) → is_mark byte ≡ mark → is_mark other ≡ also
    → (text rest more last : List ℕ)
    → (byte_as mark byte ++ text) ++ rest ≡ (byte_as also other ++ more) ++ last
    → GoOn byte other (text ++ rest) (more ++ last)
both_go_on byte other true true is are text rest more last same =
    let tails = tail_same backslash backslash (byte ∷ text ++ rest) (other ∷ more ++ last) same in
    record {
      same = head_same byte other (text ++ rest) (more ++ last) tails;
      rests = tail_same byte other (text ++ rest) (more ++ last) tails;
    }
both_go_on byte other true false is are text rest more last same =
    absurd (no_backslash other are
    (sym (head_same backslash other (byte ∷ text ++ rest) (more ++ last) same)))
both_go_on byte other false true is are text rest more last same =
    absurd (no_backslash byte is
    (head_same byte backslash (text ++ rest) (other ∷ more ++ last) same))
both_go_on byte other false false is are text rest more last same = record {
  same = head_same byte other (text ++ rest) (more ++ last) same;
  rests = tail_same byte other (text ++ rest) (more ++ last) same;
}

-- equal texts, and what stands after each
record AreSame (text other rest more : List ℕ) : Type 0 where
  same : text ≡ other
  rests : rest ≡ more

texts_same : (text other rest more : List ℕ) → IsEnd rest → IsEnd more
    → escaped text ++ rest ≡ escaped other ++ more → AreSame text other rest more
texts_same [] [] rest more ends end same = record { same = refl; rests = same }
texts_same [] (b ∷ other) rest more ends end same =
    absurd (not_begun b (is_mark b) refl rest (escaped other) more ends same)
texts_same (a ∷ text) [] rest more ends end same =
    absurd (not_begun a (is_mark a) refl more (escaped text) rest end (sym same))
texts_same (a ∷ text) (b ∷ other) rest more ends end same =
    let first = both_go_on a b (is_mark a) (is_mark b) refl refl (escaped text) rest
    (escaped other) more same in
    let others = texts_same text other rest more ends end first.rests in
    record {
      same = ap (λ byte. byte ∷ text) first.same ∙ ap (λ bytes. b ∷ bytes) others.same;
      rests = others.rests;
    }

bars_end : (texts : List (List ℕ)) → IsEnd (after_bars texts)
bars_end [] = tt
bars_end (text ∷ texts) = refl

-- no list is as long as an empty one but the empty one
not_longer : {A : Type 0} (x : A) (xs : List A) → 0 ≡ length (x ∷ xs) → ⊥
not_longer x xs same = omega (arith, same)

shorter : {A : Type 0} (x y : A) (xs ys : List A) → length (x ∷ xs) ≡ length (y ∷ ys)
    → length xs ≡ length ys
shorter x y xs ys same = omega (arith, same)

bars_same : (texts others : List (List ℕ)) → length texts ≡ length others
    → after_bars texts ≡ after_bars others → texts ≡ others
bars_same [] [] count same = refl
bars_same [] (other ∷ others) count same = absurd (not_longer other others count)
bars_same (text ∷ texts) [] count same = absurd (not_longer text texts (sym count))
bars_same (text ∷ texts) (other ∷ others) count same =
    let rests = tail_same bar bar (escaped text ++ after_bars texts)
    (escaped other ++ after_bars others) same in
    let first = texts_same text other (after_bars texts) (after_bars others) (bars_end texts)
    (bars_end others) rests in
    ap (λ one. one ∷ texts) first.same
    ∙ ap (λ rest. other ∷ rest) (bars_same texts others (shorter text other texts others count)
    first.rests)

-- as many texts that are joined to the same bytes are the same
pub joined_same : (texts others : List (List ℕ)) → length texts ≡ length others
    → joined texts ≡ joined others → texts ≡ others
joined_same [] [] count same = refl
joined_same [] (other ∷ others) count same = absurd (not_longer other others count)
joined_same (text ∷ texts) [] count same = absurd (not_longer text texts (sym count))
joined_same (text ∷ texts) (other ∷ others) count same =
    let first = texts_same text other (after_bars texts) (after_bars others) (bars_end texts)
    (bars_end others) same in
    ap (λ one. one ∷ texts) first.same
    ∙ ap (λ rest. other ∷ rest) (bars_same texts others (shorter text other texts others count)
    first.rests)
