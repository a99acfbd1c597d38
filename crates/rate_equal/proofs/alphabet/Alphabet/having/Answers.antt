use Rattle.std.proofs.Common.{◌≡◌, ◌<◌, List, ℕ, arith, inl, inr, slice_index, subst, sym}
use Rattle.std.proofs.lemmas.Option.{slice_get_within}
use Rattle.rate_expr.specs.Sets.{Has}
use Rattle.rate_equal.specs.Holding.{HasRow}
use Rattle.rate_equal.specs.Reach.{max_reach}
use Rattle.rate_equal.proofs.alphabet.Alphabet.having.Goals as goal

pub returns-clause-first : goal.returns-clause-first
returns-clause-first c = λ place position letter found on met.
    let first : c.args.self.now.first.items ≡ c.deref.result.now = cc in
    let within = slice_get_within c.args.self.now.letters.items place letter found in
    c.insert_rows-2.ensures.kept place (c.insert_rows.ensures.held position place on
    (omega (arith, within, c.args.self.now.few))
    (subst (λ (rows : List ℕ). HasRow rows position place) first
    (c.args.self.now.in_first.has place position letter within found met)))

pub returns-clause-second : goal.returns-clause-second
returns-clause-second c = λ place position letter found on met.
    let first : c.args.self.now.first.items ≡ c.deref.result.now = cc in
    let second : c.args.self.now.second.items ≡ c.deref-3.result.now = cc in
    let twins : c.args.self.now.twins.items ≡ c.deref-2.result.now = cc in
    let below : place < max_reach =
    omega (
      arith,
      slice_get_within c.args.self.now.letters.items place letter found,
      c.args.self.now.few,
    ) in
    let row = c.args.self.now.in_second.has place position letter
    (slice_get_within c.args.self.now.letters.items place letter found) found met in
    elim (c.without_twins-others.ensures position on) [
      | inl apart ↦ c.insert_rows-2.ensures.held position place apart below
          (subst (λ (rows : List ℕ). HasRow rows position place) second row)
      | inr (twin, on', is) ↦
          let same = c.args.self.now.same_letters position twin
          (subst (λ (masks : List ℕ). Has (slice_index masks position) twin) (sym twins) is) place
          below in
          c.insert_rows-2.ensures.kept place (c.insert_rows.ensures.held twin place on' below
          (subst (λ (rows : List ℕ). HasRow rows twin place) first (same.1 row)))
    ]
