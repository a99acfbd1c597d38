use Rattle.ambiguity_example.proofs.Deciding.{decides_too}
use Rattle.ambiguity_example.proofs.Parting.{after_first, first_parted, parted_first, no_cuts}
use Rattle.ambiguity_example.proofs.membership.parts_into.Goals as goal

pub returns-in_default : goal.returns-in_default
returns-in_default c =
    λ rate are. no_cuts rate c.args.items.now c.args.cuts.now c.in_default.len_below

pub returns-then-begin-ne0 : goal.returns-then-begin-ne0
returns-then-begin-ne0 c = λ rate are into.
    let begins =
    (first_parted rate c.args.items.now c.args.cuts.now c.in-len1-up.len_at_least into).0 in
    c.if-begin-ne0.true begins

pub returns : goal.returns
returns c = λ rate are. decides_too _ _ _
    (rw (after_first c.args.cuts.now) at (c.reads_parts.ensures rate are))
    (parted_first rate c.args.items.now c.args.cuts.now c.in-len1-up.len_at_least
    c.if-begin-ne0.false)
    (λ into. (first_parted rate c.args.items.now c.args.cuts.now c.in-len1-up.len_at_least into).1)
