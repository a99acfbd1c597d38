use Rattle.std.proofs.Common.{ℕ, List, ◌≡◌, sym, subst, arith}
use Rattle.ambiguity_check.proofs.Walking.{walk_some}
use Rattle.ambiguity_check.specs.Levels.{IsLevel, Searched}
use Rattle.ambiguity_check.specs.Marked.{IsMarked}
use Rattle.ambiguity_check.specs.Walks.{IsIn}
use Rattle.ambiguity_example.specs.Known.{Adds, AreKnown}
use Rattle.ambiguity_example.proofs.Levels.{NoneBelow, known_next, known_none, none_next, none_ever}
use Rattle.ambiguity_example.specs.declared.reached_nodes.Reached.{Reached}
use Rattle.ambiguity_example.proofs.walk.first_end.Goals as goal

pub levels-init : goal.levels-init
levels-init g c =
    let begins = g.G.Graph.begins c.args.graph.now in
    let continues = g.G.Graph.continues c.args.graph.now in
    let meet = g.G.Graph.meet c.args.graph.now in record {
      level = c.in_ok-search.ensures;
      known = subst (λ (xs : List Reached). AreKnown begins continues meet 1 xs) (sym c.requires)
          (known_none begins continues meet);
      none = λ fewer less after.
          let some = walk_some begins continues meet fewer after.0 after.1 in
          absurd (omega (arith, less));
    }

pub returns-in-Some : goal.returns-in-Some
returns-in-Some g c =
    let here : c.latest.result.now ≡ c.levels.search.value.latest = cc in
    let marked = rw here at c.in-Some.ensures.0 in record {
      ended = c.in-Some.ensures.1;
      shortest = (c.levels.invariant.level.latest c.in-Some.node).0 marked;
      none = c.levels.invariant.none;
      known = c.levels.invariant.known;
    }

pub levels-preserved : goal.levels-preserved
levels-preserved g c =
    let begins = g.G.Graph.begins c.args.graph.now in
    let continues = g.G.Graph.continues c.args.graph.now in
    let meet = g.G.Graph.meet c.args.graph.now in
    let search = c.levels.search.value in
    let level = c.levels.invariant.level in
    let here : c.latest.result.now ≡ search.latest = cc in
    let also : c.latest-in-levels.result.now ≡ search.latest = cc in
    let before : c.deref_mut.result.now ≡ search = cc in
    let next = c.in_ok-items.ensures.next in record {
      level = subst (λ (n : ℕ). IsLevel begins continues meet n c.advance.new.self) (sym next)
          (c.advance.ensures.level c.levels.items
          (subst (λ (s : Searched). IsLevel begins continues meet c.levels.items s)
          (sym before) level));
      known = subst (λ (n : ℕ). AreKnown begins continues meet n c.add_level.new.reached.items)
          (sym next)
          (known_next begins continues meet c.levels.items search _ _ level c.levels.invariant.known
          (subst (λ (marks : List ℕ). Adds (IsMarked marks) c.levels.items c.levels.reached.items
          c.add_level.new.reached.items) also c.in_ok-items.ensures.adds));
      none = subst (λ (n : ℕ). NoneBelow begins continues meet (IsIn c.args.ends) n) (sym next)
          (none_next begins continues meet (IsIn c.args.ends) c.levels.items search level
          c.levels.invariant.none (rw here at c.in_default.ensures));
    }

pub returns : goal.returns
returns g c = none_ever (g.G.Graph.begins c.args.graph.now) (g.G.Graph.continues c.args.graph.now)
    (g.G.Graph.meet c.args.graph.now) (IsIn c.args.ends) c.levels.items c.levels.search.value
    c.levels.invariant.level c.levels.invariant.none (rw c.deref.ensures at c.levels-test.ensures)
