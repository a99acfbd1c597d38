use Rattle.std.proofs.Common.{◌≡◌}
use Rattle.rate_equal.proofs.Sifting.{none_like, some_like}
use Rattle.rate_equal.proofs.alphabet.Alphabet.block_like.Goals as goal

pub returns-then-has-eq0 : goal.returns-then-has-eq0
returns-then-has-eq0 c = λ place letter here at.
    let self = c.args.self.now in
    let first : self.first.items ≡ c.deref.result.now = cc in
    let second : self.second.items ≡ c.deref-2.result.now = cc in
    none_like self.first.items self.second.items self.letters.items self.in_first
    self.in_second self.few c.args.pattern place letter at c.args.block c.in_all-first.result
    c.in_all-has.result 0 0 0 0 here (rw first c.in_all-first.ensures)
    (rw second c.in_all-has.ensures) cc

pub returns : goal.returns
returns c = λ place letter here at.
    let self = c.args.self.now in
    let first : self.first.items ≡ c.deref.result.now = cc in
    let second : self.second.items ≡ c.deref-2.result.now = cc in
    let first' : self.first.items ≡ c.deref-3.result.now = cc in
    let second' : self.second.items ≡ c.deref-4.result.now = cc in
    some_like self.first.items self.second.items self.letters.items self.in_first
    self.in_second self.few c.args.pattern place letter at c.args.block c.in_all-first.result
    c.in_all-has.result c.gather-lacked.result c.gather-also.result c.without.result
    c.without-2.result here (rw first c.in_all-first.ensures) (rw second c.in_all-has.ensures)
    (rw first' c.gather-lacked.ensures.has) (rw first' c.gather-lacked.ensures.only)
    (rw second' c.gather-also.ensures.has) (rw second' c.gather-also.ensures.only)
    c.without.ensures c.without-2.ensures
