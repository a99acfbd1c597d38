use Rattle.std.proofs.Common.{◌≡◌, List, ℕ, inl, inr, length, slice_index, subst, sym}
use Rattle.rate_expr.specs.Sets.{Has}
use Rattle.rate_equal.specs.Holding.{AreRows, HaveSameRow}
use Rattle.rate_equal.specs.declared.letters.Letter.{Letter}
use Rattle.rate_equal.proofs.Lettering.{same_target}
use Rattle.rate_equal.proofs.SameRows.{alike_twin}
use Rattle.rate_equal.proofs.alphabet.Alphabet.unlike.Goals as goal

pub returns : goal.returns
returns c = λ place other found.
    let letters = c.args.self.now.letters.items in
    let first : c.args.self.now.first.items ≡ c.deref.result.now = cc in
    let twins : c.args.self.now.twins.items ≡ c.deref-2.result.now = cc in
    let second : c.args.self.now.second.items ≡ c.deref-3.result.now = cc in
    let in_first =
    subst (λ (rows : List ℕ). AreRows (λ (l : Letter). l.first) rows letters (length letters)) first
    c.args.self.now.in_first in
    let in_second = subst
    (λ (rows : List ℕ). AreRows (λ (l : Letter). l.second) rows letters (length letters)) second
    c.args.self.now.in_second in
    same_target _ _ _ c.args.ways c.args.letter other _ place in_first in_second
    c.args.self.now.few found
    (λ position on lt. elim (c.insert_unlike.ensures.unlike position place on lt) [
      | inl has ↦ inl (c.insert_unlike-2.ensures.kept place has)
      | inr alike ↦ inr alike
    ])
    (λ position on lt. elim (c.without_twins-others.ensures position on) [
      | inl apart ↦ c.insert_unlike-2.ensures.unlike position place apart lt
      | inr (twin, on', is) ↦ elim (c.insert_unlike.ensures.unlike twin place on' lt) [
        | inl has ↦ inl (c.insert_unlike-2.ensures.kept place has)
        | inr alike ↦
            let same = c.args.self.now.same_letters position twin
            (subst (λ (masks : List ℕ). Has (slice_index masks position) twin) (sym twins) is) in
            inr (alike_twin c.deref.result.now c.deref-3.result.now letters in_first in_second
            c.args.self.now.few twin position
            (subst (λ (rows : List ℕ). HaveSameRow c.deref.result.now rows twin position) second
            (subst (λ (rows : List ℕ). HaveSameRow rows c.args.self.now.second.items twin position)
            first same))
            c.args.letter c.requires place lt alike)
      ]
    ])
