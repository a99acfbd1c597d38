-- The stream of the answers that are there, and answers on its fronts, one after the other.
use Rattle.std.proofs.Common.{append-nil, ◌≡◌, ◌<◌, ◌≤◌, ℕ, ◌+◌, ◌++◌, ◌∙◌, List, [], ◌∷◌, Option}
use Rattle.std.proofs.Common.{Some, None, length, take, drop, get_or, refl, sym, subst, ap, arith}
use Rattle.std.proofs.Common.{inl, inr, length-append, take-append-drop}
use Rattle.std.proofs.lemmas.List.{get_or_append_left, get_or_push, length_push, take_more}
use Rattle.std.proofs.lemmas.List.Elements.{filter_map-append}
use Rattle.std.specs.Option.{option_and, option_map}
use Rattle.value_ops.specs.declared.value.Value.{Value}
use Rattle.rate_expr.proofs.MaskSets.{below-more}
use Rattle.slow_eval.specs.Streams.{IsOnStream, item_of, stream_of}

-- the stream begins with that of the first answers
pub stream_front : (firsts : List (Option Value)) (count : ℕ)
    → stream_of firsts ≡ stream_of (take count firsts) ++ stream_of (drop count firsts)
stream_front firsts count =
    ap stream_of (sym (take-append-drop count firsts))
    ∙ filter_map-append (option_map item_of) (take count firsts) (drop count firsts)

pub stream_shorter : (firsts : List (Option Value)) (count : ℕ)
    → length (stream_of (take count firsts)) ≤ length (stream_of firsts)
stream_shorter firsts count =
    let first = stream_of (take count firsts) in
    let rest = stream_of (drop count firsts) in
    let long : length (stream_of firsts) ≡ length first + length rest =
    ap length (stream_front firsts count) ∙ length-append first rest in
    omega arith

-- one more answer
stream_more : (firsts : List (Option Value)) (at : ℕ) → at < length firsts
    → stream_of (take (at + 1) firsts)
    ≡ stream_of (take at firsts) ++ stream_of (get_or firsts at None ∷ [])
stream_more firsts at inside =
    ap stream_of (take_more firsts at None inside)
    ∙ filter_map-append (option_map item_of) (take at firsts) (get_or firsts at None ∷ [])

pub stream_some : (firsts : List (Option Value)) (at : ℕ) (v : Value) → at < length firsts
    → get_or firsts at None ≡ Some v
    → stream_of (take (at + 1) firsts) ≡ stream_of (take at firsts) ++ item_of v ∷ []
stream_some firsts at v inside there =
    stream_more firsts at inside ∙ ap (λ a. stream_of (take at firsts) ++ stream_of (a ∷ [])) there

pub stream_none : (firsts : List (Option Value)) (at : ℕ) → at < length firsts
    → get_or firsts at None ≡ None → stream_of (take (at + 1) firsts) ≡ stream_of (take at firsts)
stream_none firsts at inside there =
    stream_more firsts at inside ∙ ap (λ a. stream_of (take at firsts) ++ stream_of (a ∷ [])) there
    ∙ append-nil (stream_of (take at firsts))

-- the answers at the places so far, and how many first ones are there
pub record IsOnStreamSoFar (firsts seconds row : List (Option Value)) (at items : ℕ) : Type 0 where
  pub items_are : items ≡ length (stream_of (take at firsts))
  pub count : length row ≡ at
  pub each : (place : ℕ) → place < at → get_or row place None
      ≡ option_and (get_or firsts place None)
      (get_or seconds (length (stream_of (take (place + 1) firsts))) None)

pub on_begin : (firsts seconds : List (Option Value)) → IsOnStreamSoFar firsts seconds [] 0 0
on_begin firsts seconds = record {
  items_are = refl;
  count = refl;
  each = λ place below. absurd (omega arith);
}

-- one more answer is the second one on this many items, where there is a first
on_step : (firsts seconds row : List (Option Value)) (at items after : ℕ) (answer : Option Value)
    → IsOnStreamSoFar firsts seconds row at items
    → after ≡ length (stream_of (take (at + 1) firsts))
    → answer ≡ option_and (get_or firsts at None) (get_or seconds after None)
    → IsOnStreamSoFar firsts seconds (row ++ answer ∷ []) (at + 1) after
on_step firsts seconds row at items after answer so_far are is =
    let long : length row ≡ at = so_far.count in
    record {
      items_are = are;
      count = length_push row answer ∙ ap (λ n. n + 1) long;
      each = λ place below. elim (below-more place at below) [
        | inl here ↦
            subst (λ p. get_or (row ++ answer ∷ []) p None
            ≡ option_and (get_or firsts p None)
            (get_or seconds (length (stream_of (take (p + 1) firsts))) None))
            (sym here)
            (get_or_push row answer None at long ∙ is
            ∙ ap (λ n. option_and (get_or firsts at None) (get_or seconds n None)) are)
        | inr before ↦
            get_or_append_left row (answer ∷ []) None place (omega arith) ∙ so_far.each place before
      ];
    }

pub on_some : (firsts seconds row : List (Option Value)) (at items : ℕ) (v : Value)
    (answer : Option Value) → IsOnStreamSoFar firsts seconds row at items → at < length firsts
    → get_or firsts at None ≡ Some v → answer ≡ get_or seconds (items + 1) None
    → IsOnStreamSoFar firsts seconds (row ++ answer ∷ []) (at + 1) (items + 1)
on_some firsts seconds row at items v answer so_far inside there is =
    on_step firsts seconds row at items (items + 1) answer so_far
    (ap (λ n. n + 1) so_far.items_are ∙ sym (length_push (stream_of (take at firsts)) (item_of v))
    ∙ ap length (sym (stream_some firsts at v inside there)))
    (is ∙ ap (λ a. option_and a (get_or seconds (items + 1) None)) (sym there))

pub on_none : (firsts seconds row : List (Option Value)) (at items : ℕ)
    → IsOnStreamSoFar firsts seconds row at items → at < length firsts
    → get_or firsts at None ≡ None
    → IsOnStreamSoFar firsts seconds (row ++ None ∷ []) (at + 1) items
on_none firsts seconds row at items so_far inside there =
    on_step firsts seconds row at items items None so_far
    (so_far.items_are ∙ ap length (sym (stream_none firsts at inside there)))
    (ap (λ a. option_and a (get_or seconds items None)) (sym there))

-- this many items there are at least, with one more first answer
pub items_inside : (firsts seconds row : List (Option Value)) (at items : ℕ) (v : Value)
    → IsOnStreamSoFar firsts seconds row at items → at < length firsts
    → get_or firsts at None ≡ Some v → items + 1 ≤ length (stream_of firsts)
items_inside firsts seconds row at items v so_far inside there =
    let are : items ≡ length (stream_of (take at firsts)) = so_far.items_are in
    let more : length (stream_of (take (at + 1) firsts)) ≡ length (stream_of (take at firsts)) + 1 =
    ap length (stream_some firsts at v inside there)
    ∙ length_push (stream_of (take at firsts)) (item_of v) in
    let shorter = stream_shorter firsts (at + 1) in
    omega arith

pub on_end : (firsts seconds row : List (Option Value)) (at items : ℕ)
    → IsOnStreamSoFar firsts seconds row at items → at ≡ length firsts
    → IsOnStream firsts seconds row
on_end firsts seconds row at items all whole = record {
  count = all.count ∙ whole;
  each = λ place inside. all.each place (omega arith);
}

-- the same rows, by other names
pub on_rows : (firsts firsts' seconds seconds' row : List (Option Value))
    → IsOnStream firsts' seconds' row → firsts' ≡ firsts → seconds' ≡ seconds
    → IsOnStream firsts seconds row
on_rows firsts firsts' seconds seconds' row is same same' =
    subst (λ fs. IsOnStream fs seconds row) same (subst (λ ss. IsOnStream firsts' ss row) same' is)
