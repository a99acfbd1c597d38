use Rattle.std.proofs.Common.{◌≡◌, ℕ, ◌-◌, ap, take, length, reverse, refl, arith}
use Rattle.ambiguity_example.proofs.Deciding.{not_both}
use Rattle.ambiguity_example.proofs.WalkBack.{back_found, back_passed, back_ends, known_at}
use Rattle.ambiguity_example.proofs.WalkBack.{known_fits}
use Rattle.ambiguity_example.proofs.walk.walk_to.Goals as goal
use Rattle.ambiguity_example.proofs.walk.walk_to.Goals.{else-before-first-via-then-before-first+else-leads}
use Rattle.ambiguity_example.proofs.walk.walk_to.Goals.{else-before-first-via-else-before-first}

pub overflow_add-before : goal.overflow_add-before
overflow_add-before g c =
    known_fits (g.G.Graph.begins c.args.graph.now) (g.G.Graph.continues c.args.graph.now)
    (g.G.Graph.meet c.args.graph.now) (λ node. node ≡ c.args.end) c.args.items c.args.reached.now
    (c.back.at - 1) _ c.requires.known (omega arith) c.ranges.items.fits

pub leads-requires : goal.leads-requires
leads-requires g c =
    (known_at (g.G.Graph.begins c.args.graph.now) (g.G.Graph.continues c.args.graph.now)
    (g.G.Graph.meet c.args.graph.now) (λ node. node ≡ c.args.end) c.args.items c.args.reached.now
    (c.back.at - 1) _ c.requires.known (omega arith)).1

pub back-preserved-then-leads : goal.back-preserved-then-leads
back-preserved-then-leads g c =
    back_found (g.G.Graph.begins c.args.graph.now) (g.G.Graph.continues c.args.graph.now)
    (g.G.Graph.meet c.args.graph.now) (λ node. node ≡ c.args.end) c.args.items c.args.reached.now
    c.back.at (c.back.at - 1) _ _ c.back.first c.back.walk.items _ c.requires.known (omega arith)
    (omega arith) refl c.back.invariant c.if-before-first.true (c.leads.ensures.0 c.if-leads.true)
    c.in_ok-push-2.ensures.items

pub back-preserved : goal.back-preserved
back-preserved g c =
    back_passed (g.G.Graph.begins c.args.graph.now) (g.G.Graph.continues c.args.graph.now)
    (g.G.Graph.meet c.args.graph.now) (λ node. node ≡ c.args.end) c.args.items c.args.reached.now
    c.back.at (c.back.at - 1) _ _ c.back.first (reverse c.back.walk.items)
    (omega arith) (omega arith) refl c.back.invariant
    (λ same goes. elim c.else-before-first.branch [
      | else-before-first-via-then-before-first+else-leads w ↦
          not_both w.leads.result (w.leads.ensures.1 goes) w.if-leads.false
      | else-before-first-via-else-before-first w ↦ w.if-before-first.false same
    ])

pub returns-clause-walk : goal.returns-clause-walk
returns-clause-walk g c =
    let none : c.back.at ≡ 0 = omega arith in
    rw c.reverse.ensures.items (back_ends (g.G.Graph.begins c.args.graph.now)
    (g.G.Graph.continues c.args.graph.now) (g.G.Graph.meet c.args.graph.now)
    (λ node. node ≡ c.args.end) c.args.items (take c.back.at c.args.reached.now) c.back.first
    (reverse c.back.walk.items) (ap (λ (n : ℕ). take n c.args.reached.now) none) c.back.invariant).0

pub returns-clause-length : goal.returns-clause-length
returns-clause-length g c =
    let none : c.back.at ≡ 0 = omega arith in
    rw c.reverse.ensures.items (back_ends (g.G.Graph.begins c.args.graph.now)
    (g.G.Graph.continues c.args.graph.now) (g.G.Graph.meet c.args.graph.now)
    (λ node. node ≡ c.args.end) c.args.items (take c.back.at c.args.reached.now) c.back.first
    (reverse c.back.walk.items) (ap (λ (n : ℕ). take n c.args.reached.now) none) c.back.invariant).1

pub returns-clause-few : goal.returns-clause-few
returns-clause-few g c =
    let none : c.back.at ≡ 0 = omega arith in
    let long = (back_ends (g.G.Graph.begins c.args.graph.now)
    (g.G.Graph.continues c.args.graph.now) (g.G.Graph.meet c.args.graph.now)
    (λ node. node ≡ c.args.end) c.args.items (take c.back.at c.args.reached.now) c.back.first
    (reverse c.back.walk.items) (ap (λ (n : ℕ). take n c.args.reached.now) none)
    c.back.invariant).1 in
    omega (arith, ap length c.reverse.ensures.items, long, c.ranges.items.fits)
