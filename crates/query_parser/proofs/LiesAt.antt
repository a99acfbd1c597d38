-- Where bytes lie in a text.
use Rattle.std.proofs.Common.{◌≡◌, ℕ, ◌+◌, ◌-◌, List, [], ◌∷◌, ◌++◌, length, drop, refl, sym, ap}
use Rattle.std.proofs.Common.{◌∙◌, arith, append_assoc, length-append, take_at, drop_at}
use Rattle.std.specs.Prelude.{slice_range}
use Rattle.query_forms.specs.Terms.{bytes_at}
use Rattle.query_parser.proofs.PrintedLayout.{call_bytes, span_at, inner_at}

-- the bytes of the text from a place on begin with these
pub record LiesAt (text : List ℕ) (at : ℕ) (bytes : List ℕ) : Type 0 where
  pub front : List ℕ
  pub after : List ℕ
  pub split : text ≡ front ++ (bytes ++ after)
  pub place : at ≡ length front

-- the first of the bytes
pub LiesAt-first : (text : List ℕ) (at : ℕ) (bytes more : List ℕ) → LiesAt text at (bytes ++ more)
    → LiesAt text at bytes
LiesAt-first text at bytes more lies = record {
  front = lies.front;
  after = more ++ lies.after;
  split = lies.split ∙ ap (λ l. lies.front ++ l) (append_assoc bytes more lies.after);
  place = lies.place;
}

-- the bytes after the first
pub LiesAt-rest : (text : List ℕ) (at next : ℕ) (bytes more : List ℕ)
    → LiesAt text at (bytes ++ more) → next ≡ at + length bytes → LiesAt text next more
LiesAt-rest text at next bytes more lies is = record {
  front = lies.front ++ bytes;
  after = lies.after;
  split = lies.split ∙ ap (λ l. lies.front ++ l) (append_assoc bytes more lies.after)
      ∙ sym (append_assoc lies.front bytes (more ++ lies.after));
  place = omega (arith, is, lies.place, length-append lies.front bytes);
}

-- the bytes at the place are these
pub LiesAt-slice : (text : List ℕ) (at to : ℕ) (bytes : List ℕ) → LiesAt text at bytes
    → to ≡ at + length bytes → bytes ≡ slice_range text at to
LiesAt-slice text at to bytes lies is =
    let count : to - at ≡ length bytes = omega (arith, is) in
    let from : drop at text ≡ bytes ++ lies.after =
    ap (λ l. drop at l) lies.split ∙ drop_at lies.front (bytes ++ lies.after) at (sym lies.place) in
    sym (rw (count, from) (take_at bytes lies.after (length bytes) refl))

-- and so at the place of this many bytes
pub LiesAt-bytes : (text : List ℕ) (at : ℕ) (bytes : List ℕ) → LiesAt text at bytes
    → bytes ≡ bytes_at text (span_at at (length bytes))
LiesAt-bytes text at bytes lies = LiesAt-slice text at (at + length bytes) bytes lies refl

-- the bytes after the first and an LF
pub LiesAt-line : (text : List ℕ) (at : ℕ) (bytes more : List ℕ)
    → LiesAt text at (bytes ++ 10 ∷ more) → LiesAt text (at + length bytes + 1) more
LiesAt-line text at bytes more lies =
    LiesAt-rest text (at + length bytes) (at + length bytes + 1) (10 ∷ []) more
    (LiesAt-rest text at (at + length bytes) bytes (10 ∷ more) lies refl) refl

-- the head of a call
pub LiesAt-head : (text : List ℕ) (at : ℕ) (head inner rest : List ℕ)
    → LiesAt text at (call_bytes head inner rest) → LiesAt text at head
LiesAt-head text at head inner rest lies =
    LiesAt-first text at head (40 ∷ (inner ++ 41 ∷ rest)) lies

-- its arguments and its `)`
pub LiesAt-inner : (text : List ℕ) (at : ℕ) (head inner rest : List ℕ)
    → LiesAt text at (call_bytes head inner rest)
    → LiesAt text (inner_at at head) (inner ++ 41 ∷ rest)
LiesAt-inner text at head inner rest lies =
    LiesAt-rest text (at + length head) (inner_at at head) (40 ∷ []) (inner ++ 41 ∷ rest)
    (LiesAt-rest text at (at + length head) head (40 ∷ (inner ++ 41 ∷ rest)) lies refl) refl

-- what stands after it
pub LiesAt-after : (text : List ℕ) (at : ℕ) (head inner rest : List ℕ)
    → LiesAt text at (call_bytes head inner rest)
    → LiesAt text (inner_at at head + length inner + 1) rest
LiesAt-after text at head inner rest lies =
    LiesAt-rest text (inner_at at head + length inner)
    (inner_at at head + length inner + 1) (41 ∷ []) rest
    (LiesAt-rest text (inner_at at head) (inner_at at head + length inner) inner (41 ∷ rest)
    (LiesAt-inner text at head inner rest lies) refl) refl
