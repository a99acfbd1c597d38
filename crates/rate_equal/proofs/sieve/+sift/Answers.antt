use Rattle.std.proofs.Common.{◌+◌, ◌<◌, ◌∙◌, arith, subst, inl, inr}
use Rattle.std.proofs.lemmas.Result.{err_from_is_err_and}
use Rattle.rate_equal.specs.Added.{HasPair}
use Rattle.rate_equal.specs.Narrowed.{AreStatesWithin}
use Rattle.rate_equal.specs.Targets.{IsTarget}
use Rattle.rate_equal.proofs.Added.{added_more, added_none, pair_kept, too_many_more}
use Rattle.rate_equal.proofs.Counterparts.{met_added, met_decides, met_is_target}
use Rattle.rate_equal.proofs.Patterns.{apart_decides, same_decides, same_or_not}
use Rattle.rate_equal.proofs.sieve.+sift.Goals as goal

pub returns-in_err-add-clause-too_many : goal.returns-in_err-add-clause-too_many
returns-in_err-add-clause-too_many t c =
    let err = err_from_is_err_and c.from_residual.result c.from_residual.ensures.1 in
    rw (err.1, err.2) (λ is. too_many_more _ (AreStatesWithin c.args.ways) _ _ _ _ _
    (added_none (IsTarget c.args.alphabet.now.letters.items c.args.ways)
    (AreStatesWithin c.args.ways) c.args.pairs.now.keys c.args.targets.now c.requires.few)
    (λ pair same. met_is_target _ _ _ c.requires.known.0 pair same)
    (rw c.target.ensures at (c.in_err-add.ensures.too_many is c.requires.few)))

pub returns-in_default-clause-whole : goal.returns-in_default-clause-whole
returns-in_default-clause-whole t c = λ other of like.
    subst (HasPair c.add.new.pairs.keys c.add.new.places)
    (c.target.ensures ∙ met_decides _ _ _ c.requires.known.0 c.args.pattern c.args.asked
    c.requires.decide c.requires.known.1 (c.first_and_rest.ensures.none c.in_default.is)
    other of like)
    c.in_ok-add.ensures.there

pub returns-in_default-clause-added : goal.returns-in_default-clause-added
returns-in_default-clause-added t c = met_added _ _ _ c.requires.known.0 _ _ _ _ c.requires.few
    (rw c.target.ensures at c.in_ok-add.ensures.added)

pub sift-requires : goal.sift-requires
sift-requires t c =
    let is_rest = c.in-Some.ensures.some in
    let falls : c.in-Some.rest.0 + c.in-Some.rest.1 < t =
    omega (arith, is_rest.smaller, c.decreases) in
    let like = (c.parted.ensures.like c.args.letter).1
    (c.requires.known.1, (λ has. has, λ has. has)) in
    let decides = same_decides c.args.alphabet.now.letters.items c.args.ways c.args.pattern
    c.args.asked c.requires.decide c.in-Some.position c.in-Some.rest is_rest c.args.letter
    c.parted.result.0 c.parted.ensures.like in
    (falls, (c.requires.few, (c.requires.free, ((c.requires.known.0, like), decides))))

pub sift-requires-in-Some-letter_of : goal.sift-requires-in-Some-letter_of
sift-requires-in-Some-letter_of t c =
    let is_rest = c.in-Some.ensures.some in
    let falls : c.in-Some.rest.0 + c.in-Some.rest.1 < t =
    omega (arith, is_rest.smaller, c.decreases) in
    let decides = apart_decides c.args.alphabet.now.letters.items c.args.ways c.args.pattern
    c.args.asked c.requires.decide c.in-Some.position c.in-Some.rest is_rest c.args.letter
    c.parted.result.1 c.parted.ensures.unlike in (
      falls,
      (
        c.in_ok-sift.ensures.added.few,
        (c.requires.free, (c.in-Some-letter_of.ensures.some, decides)),
      ),
    )

pub returns-in_err-sift-2-clause-too_many : goal.returns-in_err-sift-2-clause-too_many
returns-in_err-sift-2-clause-too_many t c =
    let err = err_from_is_err_and c.from_residual-in_err-sift-2.result
    c.from_residual-in_err-sift-2.ensures.1 in
    rw (err.1, err.2) (λ is. too_many_more _ _ _ _ _ _ _ c.in_ok-sift.ensures.added (λ pair of. of)
    (c.in_err-sift-2.ensures.too_many is))

pub returns-in_ok-sift-2-clause-added : goal.returns-in_ok-sift-2-clause-added
returns-in_ok-sift-2-clause-added t c =
    let targets = IsTarget c.args.alphabet.now.letters.items c.args.ways in
    added_more targets (AreStatesWithin c.args.ways) targets (AreStatesWithin c.args.ways) _ _ _ _
    c.in_ok-sift.ensures.added (λ pair of. of) (λ pair of. of) _ _ c.in_ok-sift-2.ensures.added

pub returns-in_ok-sift-2-clause-whole : goal.returns-in_ok-sift-2-clause-whole
returns-in_ok-sift-2-clause-whole t c = λ other of like.
    elim (same_or_not c.in-Some.position c.args.letter other) [
      | inl same ↦ pair_kept (IsTarget c.args.alphabet.now.letters.items c.args.ways)
          (AreStatesWithin c.args.ways) _ _ _ _ _ c.in_ok-sift-2.ensures.added
          (c.in_ok-sift.ensures.whole other of ((c.parted.ensures.like other).1 (like, same)))
      | inr apart ↦ c.in_ok-sift-2.ensures.whole other of
          ((c.parted.ensures.unlike other).1 (like, apart))
    ]

pub returns-in_default-letter_of-clause-whole : goal.returns-in_default-letter_of-clause-whole
returns-in_default-letter_of-clause-whole t c = λ other of like.
    elim (same_or_not c.in-Some.position c.args.letter other) [
      | inl same ↦ c.in_ok-sift.ensures.whole other of
          ((c.parted.ensures.like other).1 (like, same))
      | inr apart ↦ absurd (c.letter_of.ensures.none c.in_default-letter_of.is other of
          ((c.parted.ensures.unlike other).1 (like, apart)))
    ]
