use Rattle.std.proofs.Common.{◌≡◌, [], ◌∷◌, ◌++◌, sym, ◌∙◌, arith}
use Rattle.std.proofs.lemmas.List.{take_rest}
use Rattle.std.proofs.lemmas.Grind.{common_steps}
use Rattle.query_tokens.proofs.TextBytes.{Remains-more, Remains-none}
use Rattle.query_tokens.proofs.value.text_bytes.Goals as goal

pub parts-preserved : goal.parts-preserved
parts-preserved c =
    let found = sym (rw take_rest at c.part_at.ensures) ∙ c.in-Some.is in
    let pushed : c.push.new.self.items ≡ c.parts.bytes.items ++ c.in-Some.byte ∷ [] =
    grind (arith, common_steps) in
    rw pushed (Remains-more c.args.raw.now c.parts.at c.parts.bytes.items
    (c.in-Some.byte, c.in-Some.len) found c.parts.invariant)

pub returns : goal.returns
returns c =
    let none = sym (rw take_rest at c.part_at.ensures) ∙ c.in_default.is in
    let whole = Remains-none c.args.raw.now c.parts.at c.parts.bytes.items none c.parts.invariant in
    rw c.from_vec.ensures whole
