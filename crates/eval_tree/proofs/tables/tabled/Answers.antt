use Rattle.std.proofs.Common.{refl, sym, subst}
use Rattle.eval_nodes.specs.Plain.{seen_of}
use Rattle.step_laws.specs.declared.hit.Hit.{Hit}
use Rattle.step_laws.specs.Pushes.{IsTabledAt}
use Rattle.step_laws.proofs.Tracked.{accepted_within}
use Rattle.eval_tree.proofs.tables.tabled.Goals as goal

pub keys-requires : goal.keys-requires
keys-requires c =
    accepted_within c.args.tracks.now.nfa.sets c.args.tracks.now.tracks c.in-Some.place
    c.in-Some.ensures.there

pub start-requires : goal.start-requires
start-requires c =
    accepted_within c.args.tracks.now.nfa.sets c.args.tracks.now.tracks c.in-Some.place
    c.in-Some.ensures.there

pub returns-in_ok-table-in-Some : goal.returns-in_ok-table-in-Some
returns-in_ok-table-in-Some c =
    subst (λ (found : Hit). IsTabledAt seen_of c.args.tracks.now found)
    (sym c.of_table.ensures.is) (record {
      place = c.in-Some.place;
      keys = c.keys.result.now;
      table = c.in_ok-table-in-Some.table;
      accepted = c.in-Some.ensures.there;
      start = c.start.ensures;
      there = c.keys.ensures;
      entries = c.in_ok-table-in-Some.ensures;
      value = refl;
      typed = c.of_table.ensures.typed;
    })
