use Rattle.std.proofs.Common.{◌≡◌, map, take}
use Rattle.predicate_cells.proofs.texts.copies_of.Given as goal

-- the texts so far are copied
abbrev pub invariant-loop-text : goal.invariant-loop-text
invariant-loop-text l = l.copies.items ≡ map (λ t. t.now) (take l.text-index l.texts)
