use Rattle.std.proofs.Common.{List, ◌∙◌, subst, sym}
use Rattle.rate_equal.specs.Free.{CanLack}
use Rattle.rate_equal.specs.Targets.{HasNarrowed}
use Rattle.rate_equal.specs.declared.letters.Letter.{Letter}
use Rattle.rate_equal.specs.declared.pair.Pair.{Pair}
use Rattle.rate_equal.proofs.restriction.narrow.Goals as goal

pub keep_lacking-requires-clause-lack : goal.keep_lacking-requires-clause-lack
keep_lacking-requires-clause-lack c =
    subst
    (λ (letters : List Letter). CanLack letters (c.without.result, c.without-2.result) c.args.ways)
    (c.deref.ensures.value ∙ sym c.deref-then-can_lack.ensures.value)
    (c.can_lack.ensures c.if-can_lack.true)

pub returns-then-can_lack-clause-whole : goal.returns-then-can_lack-clause-whole
returns-then-can_lack-clause-whole c =
    subst (λ (pairs : List Pair). HasNarrowed c.args.alphabet.now.letters.items c.args.ways pairs
    c.args.near.now.targets pairs c.keep_lacking.new.targets) c.as_slice.ensures.keys
    (subst (λ (letters : List Letter). HasNarrowed letters c.args.ways c.as_slice.result.now
    c.args.near.now.targets
    c.as_slice.result.now c.keep_lacking.new.targets) c.deref-then-can_lack.ensures.value
    c.keep_lacking.ensures.whole)
