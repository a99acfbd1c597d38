use Rattle.std.proofs.Common.{refl}
use Rattle.dead_words.proofs.Gathering.{gathered_known, gathered_new}
use Rattle.dead_words.proofs.letters.add_letter.Goals as goal

pub returns-then-not-branch : goal.returns-then-not-branch
returns-then-not-branch c = gathered_known _ _ _ _ _ _ c.in_ok-note.ensures.put c.requires.gathered
    c.met_by-met.ensures (c.in_ok-note.ensures.old c.if-not-branch.true)

pub returns : goal.returns
returns c = rw c.in_ok-push.ensures.items (gathered_new _ _ _ _ _ _ c.in_ok-note.ensures.put
    c.requires.gathered c.met_by-met.ensures _ refl refl c.requires.cell)
