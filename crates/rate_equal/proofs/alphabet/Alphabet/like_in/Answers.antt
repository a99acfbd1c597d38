use Rattle.std.proofs.Common.{arith}
use Rattle.rate_equal.proofs.Sifting.{low_like, low_none, zero_none}
use Rattle.rate_equal.proofs.alphabet.Alphabet.like_in.Goals as goal

pub returns-then-like-eq0-clause-none : goal.returns-then-like-eq0-clause-none
returns-then-like-eq0-clause-none c =
    λ is. zero_none c.args.self.now.letters.items c.args.pattern c.args.block
    c.block_like-like.result (cc) c.block_like-like.ensures

pub returns-then-place-len-clause-none : goal.returns-then-place-len-clause-none
returns-then-place-len-clause-none c = λ is. low_none c.args.self.now.letters.items
    c.args.pattern c.args.block c.block_like-like.result c.lowest.result c.lowest.ensures
    c.block_like-like.ensures (omega (arith, c.if-place-len.true))

pub returns-clause-some : goal.returns-clause-some
returns-clause-some c = low_like c.args.self.now.letters.items
    c.args.pattern c.args.block c.block_like-like.result c.lowest.result c.lowest.ensures
    c.block_like-like.ensures c.block_like-like.type_inv (omega (arith, c.if-place-len.false))
    c.index.result.now (c.index.ensures)
