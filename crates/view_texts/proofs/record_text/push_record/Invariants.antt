use Rattle.std.proofs.Common.{◌≡◌, ◌++◌, codes, take}
use Rattle.std.specs.List.{join_by}
use Rattle.view_texts.specs.Values.{scalar_text}
use Rattle.view_texts.proofs.record_text.push_record.Given as goal

-- the parts so far
abbrev pub invariant-places : goal.invariant-places
invariant-places l =
    l.text.items ≡ l.initial.text.items
    ++ join_by (scalar_text l.fn.notation l.fn.digits) (codes ",") (take l.place l.fn.parts)
