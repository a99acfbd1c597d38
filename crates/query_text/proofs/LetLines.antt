-- One more let after others.
use Rattle.std.proofs.Common.{◌≡◌, ◌∙◌, ◌+◌, ◌++◌, ℕ, List, [], ◌∷◌, length, ap, sym, arith}
use Rattle.std.proofs.Common.{append-nil, append_assoc}
use Rattle.query_text.specs.StreamTexts.{let_text, lets_text}

pub lets_push : (from : ℕ) (texts : List (List ℕ)) (text : List ℕ)
    → lets_text from (texts ++ text ∷ [])
    ≡ lets_text from texts ++ let_text (from + length texts) text
lets_push from [] text =
    let place : from ≡ from + 0 = omega arith in
    append-nil (let_text from text) ∙ ap (λ n. let_text n text) place
lets_push from (first ∷ texts) text =
    let place : from + 1 + length texts ≡ from + length (first ∷ texts) = omega arith in
    ap (λ t. let_text from first ++ t) (lets_push (from + 1) texts text)
    ∙ sym (append_assoc (let_text from first) (lets_text (from + 1) texts)
    (let_text (from + 1 + length texts) text))
    ∙ ap (λ n. (let_text from first ++ lets_text (from + 1) texts) ++ let_text n text) place
