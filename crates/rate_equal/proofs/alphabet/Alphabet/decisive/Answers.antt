use Rattle.rate_equal.proofs.Deciding.{decisive_all}
use Rattle.rate_equal.proofs.alphabet.Alphabet.decisive.Goals as goal

pub returns : goal.returns
returns c =
    let self = c.args.self.now in
    decisive_all self.first.items self.second.items self.like_first.items self.like_second.items
    self.twins.items self.letters.items self.in_first self.in_second self.few self.same_in_first
    self.same_in_second self.same_letters self.common self.in_common c.args.ways
    (c.without.result, c.without-2.result) c.without.ensures c.without-2.ensures
    c.one_of_each-first.result c.one_of_each-second.result c.without_twins.result
    (rw c.deref.ensures.value at c.one_of_each-first.ensures)
    (rw c.deref-2.ensures.value at c.one_of_each-second.ensures)
    (rw c.deref-3.ensures.value at c.without_twins.ensures)
