use Rattle.std.proofs.Common.{sym, subst}
use Rattle.std.specs.List.{Contains}
use Rattle.map_collect.proofs.Names.{grown, more_names, AreKept-more}
use Rattle.map_collect.proofs.keyed.Keyed.add.Goals as goal

pub invariant_of-self-2 : goal.invariant_of-self-2
invariant_of-self-2 g c =
    let fresh = subst (λ seen. Contains seen.names c.args.key.now → ⊥) (sym c.self.view_is)
    c.requires.fresh in
    let named = more_names c.args.key.now c.in_ok-name.name c.self.inside.names.keys _
    c.in_ok-name.ensures fresh c.in_ok-insert.ensures.keys in
    AreKept-more _ _ _ _ _ c.args.key.now c.args.follower c.self.invariant fresh named
    c.push_reserved.ensures.items c.reserve.ensures.items

pub returns-clause-ok : goal.returns-clause-ok
returns-clause-ok g c =
    let fresh = subst (λ seen. Contains seen.names c.args.key.now → ⊥) (sym c.self.view_is)
    c.requires.fresh in
    let named = more_names c.args.key.now c.in_ok-name.name c.self.inside.names.keys _
    c.in_ok-name.ensures fresh c.in_ok-insert.ensures.keys in
    grown _ _ _ _ _ c.args.key.now c.args.follower c.self.view_is named
    c.push_reserved.ensures.items c.reserve.ensures.items
