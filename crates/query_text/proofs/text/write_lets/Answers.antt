-- One more let is written after those before it.
use Rattle.std.proofs.Common.{◌≡◌, ◌∙◌, ◌<◌, ◌+◌, ◌++◌, [], ◌∷◌, take, get_or, length, ap, sym}
use Rattle.std.proofs.Common.{arith, append_assoc, length-take}
use Rattle.std.proofs.lemmas.List.{take_more}
use Rattle.query_text.specs.StreamTexts.{let_text, lets_text}
use Rattle.query_text.proofs.LetLines.{lets_push}
use Rattle.query_text.proofs.text.write_lets.Goals as goal

pub lets-preserved : goal.lets-preserved
lets-preserved c =
    let xs = c.args.lets.now in
    let i = c.lets.place in
    let one = c.as_slice.result.now in
    let within : i < length xs = omega arith in
    let same : get_or xs i one ≡ one = cc in
    let count : 0 + length (take i xs) ≡ i = omega (arith, length-take i xs) in
    let more = ap (lets_text 0) (take_more xs i one within ∙ ap (λ y. take i xs ++ y ∷ []) same)
    ∙ lets_push 0 (take i xs) one ∙ ap (λ n. lets_text 0 (take i xs) ++ let_text n one) count in
    c.in_ok-write_let.ensures ∙ ap (λ t. t ++ let_text i one) c.lets.invariant
    ∙ append_assoc c.args.text.now.items (lets_text 0 (take i xs)) (let_text i one)
    ∙ ap (λ t. c.args.text.now.items ++ t) (sym more)
