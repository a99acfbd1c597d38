use Rattle.std.proofs.Common.{◌≡◌, arith}
use Rattle.rate_expr.specs.Words.{Word}
use Rattle.ambiguity_example.proofs.Deciding.{ok_as}
use Rattle.ambiguity_example.proofs.MetItems.{all_meet_long}
use Rattle.ambiguity_example.specs.Met.{AllMeet}
use Rattle.ambiguity_example.specs.Shows.{Shown, twice_whole}
use Rattle.ambiguity_example.proofs.shared_words.example_of.Goals as goal

pub in_one_piece-requires : goal.in_one_piece-requires
in_one_piece-requires c =
    let few = c.requires.few in
    let long = all_meet_long c.args.first.now.cells.layout.columns (λ _. c.args.first.now.sets)
    (λ _. c.args.second.now.sets) c.args.walk.now c.in_ok-items.items.items c.in_ok-items.ensures in
    omega (arith, few, long)

pub returns : goal.returns
returns c =
    ok_as c.in_one_piece.result (λ (shown : Shown). shown ≡ twice_whole c.in_ok-items.items.items)
    (λ (shown : Shown). (word : Word) × AllMeet c.args.first.now.cells.layout.columns
    (λ _. c.args.first.now.sets) (λ _. c.args.second.now.sets) c.args.walk.now word
    × (shown ≡ twice_whole word))
    (λ shown same. (c.in_ok-items.items.items, c.in_ok-items.ensures, same)) c.in_one_piece.ensures
