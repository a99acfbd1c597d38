-- A compose.
use Rattle.std.proofs.Common.{Bool, ap, refl, rules, subst, sym, ℕ, ◌++◌, ◌∙◌, ◌≡◌}
use Rattle.std.proofs.lemmas.Bool.{false≢true}
use Rattle.query_model.specs.Queries.{plain_of}
use Rattle.eval_nodes.specs.declared.node.Node.{Node}
use Rattle.eval_nodes.specs.Plain.{holding_of, runners_of, seen_of}
use Rattle.eval_nodes.specs.declared.node.State.TheVariants.{Compose}
use Rattle.eval_nodes.specs.declared.node.State.TheViews.{out-State, roll-State}
use Rattle.eval_nodes.specs.declared.progress.Progress.{Progress}
use Rattle.eval_nodes.specs.Live.{live_of}
use Rattle.eval_nodes.proofs.HeldRunners.{fed_is, runners_are}
use Rattle.compose_eval.specs.Followers as followers
use Rattle.compose_eval.specs.Followers.{live_instances, retired}
use Rattle.step_laws.proofs.Arms.{can_start_as, can_step_as, live_as, numbers_start_as}
use Rattle.step_laws.proofs.Arms.{numbers_step_as, soundly_started_as, soundly_stepped_as}
use Rattle.step_laws.proofs.Arms.{start_fails, started_as, started_from, step_fails, stepped_as}
use Rattle.step_laws.proofs.Arms.{stepped_from, when_started}
use Rattle.step_laws.specs.Feeds.{CanFeed, CanPassOn, Feeds, PassesOn}
use Rattle.step_laws.proofs.ComposeAllowed.{feeds_allowed, passes_allowed, start_fed, step_fed}
use Rattle.step_laws.proofs.ComposeArms.{compose_starts, compose_steps}
use Rattle.step_laws.specs.Numbers.{FeedsNumbers, PassesNumbers}
use Rattle.step_laws.proofs.NumbersAllowed.{fed_starts, fed_steps, feeds_on, passes_on}
use Rattle.eval_tree.proofs.+step.Goals as goal

abbrev Runners : Type 0
Runners = followers.Contents Progress

pub compose::start_compose-start_into-requires : goal.compose::start_compose-start_into-requires
compose::start_compose-start_into-requires t c =
    let s = c.in-Compose in (
      search rules,
      (
        refl,
        can_start_as _ _ _ _ c.args.at refl (search rules)
            (start_fed seen_of (plain_of c.args.first.now.shape) (plain_of c.args.second.now.shape)
            (holding_of s.a.value.state) s.runners c.args.at
            (can_start_as _ _ _ _ c.args.at refl (sym (ap holding_of s.is ∙ fed_is s.a s.runners))
            c.requires.can)),
      ),
    )

pub compose::start_compose-feed-requires : goal.compose::start_compose-feed-requires
unfolding roll-State out-State denote.Hole.Carrier.roll denote.Hole.Carrier.out
compose::start_compose-feed-requires t c =
    let s = c.in-Compose in (
      search rules,
      (
        c.requires.none,
        rw s.is (subst (λ (held : Runners). CanFeed seen_of (plain_of c.args.second.now.shape) held
            c.start_into.new.hit) (sym (runners_are s.a s.runners))
            (feeds_allowed seen_of (plain_of c.args.first.now.shape)
            (plain_of c.args.second.now.shape) (holding_of s.a.value.state)
            (holding_of c.start_into.new.node.state) s.runners c.args.at c.start_into.new.hit
            (can_start_as _ _ _ _ c.args.at refl
            (sym (ap holding_of s.is ∙ fed_is s.a s.runners)) c.requires.can)
            (soundly_started_as _ _ (holding_of c.deref_mut.result.now.state)
            (holding_of s.a.value.state) _ _ c.args.at _ _ refl (search rules) refl refl
            c.in_ok-start_into-in-Compose.ensures.sound))),
      ),
    )

pub compose::start_compose-returns : goal.compose::start_compose-returns
unfolding roll-State out-State denote.Hole.Carrier.roll denote.Hole.Carrier.out
compose::start_compose-returns t c =
    let s = c.in-Compose in
    let f = plain_of c.args.first.now.shape in
    let g = plain_of c.args.second.now.shape in
    let a = holding_of s.a.value.state in
    let next = holding_of c.start_into.new.node.state in
    let live = c.is_live.result in
    let left = c.start_into.new.hit in
    let first = started_from _ _ (holding_of c.deref_mut.result.now.state) a next c.args.at _
    refl (search rules) c.in_ok-start_into-in-Compose.ensures in
    when_started _ _ _ c.args.at c.feed.result c.feed.new.hit
    (Feeds seen_of g (runners_of (out-State (Compose s.a s.runners))) live c.args.at left
    c.feed.new.runners c.feed.new.hit)
    (λ feeds. started_as _ _ _ _ _ _ c.args.at _ _ refl (ap holding_of s.is ∙ fed_is s.a s.runners)
    (fed_is (record { ptr = s.a.ptr; alloc = s.a.alloc; value = c.start_into.new.node })
    c.feed.new.runners) refl
    (compose_starts f g a next s.runners c.feed.new.runners c.args.at left c.feed.new.hit live first
    (live_as c.args.first.now c.args.first.now _ _ c.args.at live refl c.deref.ensures
    c.is_live.ensures.read)
    (subst
    (λ (held : Runners). Feeds seen_of g held live c.args.at left c.feed.new.runners c.feed.new.hit)
    (runners_are s.a s.runners) feeds))) (rw s.is at c.feed.ensures.fed)
    (λ free. (rw s.is at c.feed.ensures.no_memory)
    (subst (λ (held : Runners). FeedsNumbers seen_of g held left) (sym (runners_are s.a s.runners))
    (feeds_on seen_of f g a next s.runners c.args.at left
    (numbers_start_as _ _ _ _ c.args.at refl (sym (ap holding_of s.is ∙ fed_is s.a s.runners)) free)
    first.sound)))

pub compose::start_compose-returns-in_err-start_into-in-Compose :
    goal.compose::start_compose-returns-in_err-start_into-in-Compose
compose::start_compose-returns-in_err-start_into-in-Compose t c =
    let s = c.in-Compose in
    let same : holding_of s.a.value.state ≡ holding_of c.deref_mut.result.now.state =
    search rules in
    start_fails _ _ _ _ _ c.args.at _ (search rules) refl
    (ap holding_of s.is ∙ fed_is s.a s.runners)
    (λ free. false≢true (c.in_err-start_into-in-Compose.ensures.no_memory
    (numbers_start_as _ _ _ _ c.args.at refl (sym same)
    (fed_starts seen_of (plain_of c.args.first.now.shape) (plain_of c.args.second.now.shape)
    (holding_of s.a.value.state) s.runners c.args.at free))))

pub compose::step_compose-step_into-requires : goal.compose::step_compose-step_into-requires
compose::step_compose-step_into-requires t c =
    let s = c.in-Compose in (
      search rules,
      (
        refl,
        can_step_as _ _ _ _ c.args.now c.args.item.now refl (search rules)
            (step_fed seen_of (plain_of c.args.first.now.shape) (plain_of c.args.second.now.shape)
            (holding_of s.a.value.state) s.runners c.args.now c.args.item.now
            (can_step_as _ _ _ _ c.args.now c.args.item.now refl
            (sym (ap holding_of s.is ∙ fed_is s.a s.runners)) c.requires.can)),
      ),
    )

pub compose::step_compose-pass_on-requires : goal.compose::step_compose-pass_on-requires
unfolding roll-State out-State denote.Hole.Carrier.roll denote.Hole.Carrier.out
compose::step_compose-pass_on-requires t c =
    let s = c.in-Compose in (
      search rules,
      (
        c.requires.none,
        rw s.is
            (subst (λ (held : Runners). CanPassOn seen_of (plain_of c.args.second.now.shape) held
            c.step_into.new.hit) (sym (runners_are s.a s.runners))
            (passes_allowed seen_of (plain_of c.args.first.now.shape)
            (plain_of c.args.second.now.shape) (holding_of s.a.value.state)
            (holding_of c.step_into.new.node.state) s.runners c.args.now c.args.item.now
            c.step_into.new.hit
            (can_step_as _ _ _ _ c.args.now c.args.item.now refl
            (sym (ap holding_of s.is ∙ fed_is s.a s.runners)) c.requires.can)
            (soundly_stepped_as _ _ (holding_of c.deref_mut.result.now.state)
            (holding_of s.a.value.state) _ _ c.args.now c.args.item.now _ _ refl (search rules) refl
            refl c.in_ok-step_into-in-Compose.ensures.sound))),
      ),
    )

pub compose::step_compose-returns : goal.compose::step_compose-returns
unfolding roll-State out-State denote.Hole.Carrier.roll denote.Hole.Carrier.out
compose::step_compose-returns t c =
    let s = c.in-Compose in
    let g = plain_of c.args.second.now.shape in
    let next = c.step_into.new.node in
    let live : live_of (plain_of c.args.first.now.shape) (holding_of c.deref.result.now.state)
    ≡ live_of (plain_of c.args.first.now.shape) (holding_of next.state) =
    ap (λ (node : Node). live_of (plain_of c.args.first.now.shape) (holding_of node.state))
    c.deref.ensures in
    let rests = λ (p : ℕ → Bool). c.retire.new.runners.idle
    ≡ c.pass_on.new.runners.idle ++ retired p c.pass_on.new.runners.live in
    stepped_as _ _ _ _ _ _ c.args.now c.args.item.now _ _ refl
    (ap holding_of s.is ∙ fed_is s.a s.runners)
    (fed_is (record { ptr = s.a.ptr; alloc = s.a.alloc; value = next }) c.retire.new.runners) refl
    (compose_steps (plain_of c.args.first.now.shape) g (holding_of s.a.value.state)
    (holding_of next.state) s.runners c.pass_on.new.runners c.retire.new.runners c.args.now
    c.args.item.now c.step_into.new.hit c.pass_on.new.hit
    (stepped_from _ _ (holding_of c.deref_mut.result.now.state)
    (holding_of s.a.value.state) _ c.args.now c.args.item.now _ refl (search rules)
    c.in_ok-step_into-in-Compose.ensures)
    (subst (λ (held : Runners). PassesOn seen_of g held c.step_into.new.hit c.pass_on.new.runners
    c.pass_on.new.hit) (runners_are s.a s.runners)
    (rw s.is at c.in_ok-pass_on-in-Compose.ensures.passed))
    (subst
    (λ (p : ℕ → Bool). c.retire.new.runners.live ≡ live_instances p c.pass_on.new.runners.live) live
    c.retire.ensures.live)
    (subst rests live c.retire.ensures.idle))

pub compose::step_compose-returns-in_err-step_into-in-Compose :
    goal.compose::step_compose-returns-in_err-step_into-in-Compose
compose::step_compose-returns-in_err-step_into-in-Compose t c =
    let s = c.in-Compose in
    let same : holding_of s.a.value.state ≡ holding_of c.deref_mut.result.now.state =
    search rules in
    step_fails _ _ _ _ _ c.args.now c.args.item.now _ (search rules) refl
    (ap holding_of s.is ∙ fed_is s.a s.runners)
    (λ free. false≢true (c.in_err-step_into-in-Compose.ensures.no_memory
    (numbers_step_as _ _ _ _ c.args.now c.args.item.now refl (sym same)
    (fed_steps seen_of (plain_of c.args.first.now.shape) (plain_of c.args.second.now.shape)
    (holding_of s.a.value.state) s.runners c.args.now c.args.item.now free))))

pub compose::step_compose-returns-in_err-pass_on-in-Compose :
    goal.compose::step_compose-returns-in_err-pass_on-in-Compose
unfolding roll-State out-State denote.Hole.Carrier.roll denote.Hole.Carrier.out
compose::step_compose-returns-in_err-pass_on-in-Compose t c =
    let s = c.in-Compose in
    let g = plain_of c.args.second.now.shape in
    step_fails _ _ _ _ _ c.args.now c.args.item.now _ (search rules) refl
    (ap holding_of s.is ∙ fed_is s.a s.runners)
    (λ free. false≢true ((rw s.is at c.in_err-pass_on-in-Compose.ensures.no_memory)
    (subst (λ (held : Runners). PassesNumbers seen_of g held c.step_into.new.hit)
    (sym (runners_are s.a s.runners))
    (passes_on seen_of (plain_of c.args.first.now.shape) g (holding_of s.a.value.state)
    (holding_of c.step_into.new.node.state) s.runners c.args.now c.args.item.now
    c.step_into.new.hit free
    (soundly_stepped_as _ _ (holding_of c.deref_mut.result.now.state)
    (holding_of s.a.value.state) _ _ c.args.now c.args.item.now _ _ refl (search rules) refl refl
    c.in_ok-step_into-in-Compose.ensures.sound)))))
