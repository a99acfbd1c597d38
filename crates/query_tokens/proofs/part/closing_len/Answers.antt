use Rattle.std.proofs.Common.{◌≡◌, ◌<◌, ◌≤◌, drop, get_or, length, add_assoc, sym, ◌∙◌, arith}
use Rattle.std.proofs.lemmas.List.{take_rest, length-drop}
use Rattle.std.proofs.lemmas.Grind.{common_steps}
use Rattle.query_tokens.proofs.Closing.{part_within, quote_at, Closes-here, Closes-more_at}
use Rattle.query_tokens.proofs.Closing.{Closes-less_at}
use Rattle.query_tokens.proofs.part.closing_len.Goals as goal

pub parts-preserved : goal.parts-preserved
parts-preserved c =
    let found = sym (rw take_rest at c.part_at.ensures) ∙ c.in-Some.is in
    let part = c.in-Some.part in
    let rest = drop c.parts.len c.args.text.now in
    let within : (0 < part) × (part ≤ length rest) =
    part_within rest (c.in-Some.field-0-0, part) found in
    record {
      within = omega (arith, length-drop c.parts.len c.args.text.now);
      more = λ len closes. rw add_assoc (c.parts.invariant.more _
          (Closes-more_at c.args.text.now c.parts.len _ len found closes));
      less = λ len closes. Closes-less_at c.args.text.now c.parts.len _ _ found
          (c.parts.invariant.less len closes).1;
    }

pub returns-in-Some-eq34 : goal.returns-in-Some-eq34
returns-in-Some-eq34 c =
    let within : c.parts.len < length c.args.text.now = grind (arith, common_steps) in
    let is : get_or c.args.text.now c.parts.len 0 ≡ 34 = grind (arith, common_steps) in
    c.parts.invariant.more 1 (Closes-here c.args.text.now c.parts.len within is)

pub returns-in_default-get : goal.returns-in_default-get
returns-in_default-get c = λ len closes.
    let none = sym (rw take_rest at c.part_at.ensures) ∙ c.in_default.is in
    let rest = c.parts.invariant.less len closes in
    let quote : (c.parts.len < length c.args.text.now)
    × (get_or c.args.text.now c.parts.len 0 ≡ 34) =
    quote_at c.args.text.now c.parts.len rest.0 none rest.1 in
    grind (arith, common_steps)

pub returns-in_default-get-2 : goal.returns-in_default-get-2
returns-in_default-get-2 c = λ len closes.
    let none = sym (rw take_rest at c.part_at.ensures) ∙ c.in_default.is in
    let rest = c.parts.invariant.less len closes in
    let quote : (c.parts.len < length c.args.text.now)
    × (get_or c.args.text.now c.parts.len 0 ≡ 34) =
    quote_at c.args.text.now c.parts.len rest.0 none rest.1 in
    grind (arith, common_steps)
