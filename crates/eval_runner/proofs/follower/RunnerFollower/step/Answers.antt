use Rattle.std.proofs.Common.{inl, inr, refl, subst, sym}
use Rattle.std.proofs.lemmas.Bool.{false≢true}
use Rattle.query_model.specs.declared.query.Query.{Query}
use Rattle.query_model.specs.Queries.{plain_of}
use Rattle.query_model.specs.Rules.{free}
use Rattle.eval_nodes.specs.Plain.{seen_of}
use Rattle.step_laws.specs.Feeds.{CanCarry, IsCarried}
use Rattle.eval_runner.proofs.RunnerSteps.{carried, carry_next, found_sound}
use Rattle.eval_runner.proofs.NumberRunners.{runner_carries}
use Rattle.eval_runner.proofs.follower.RunnerFollower.step.Goals as goal

pub carry-requires : goal.carry-requires
carry-requires c =
    let runner = c.args.self.now in
    let on = runner.checked.now in
    subst
    (λ (query : Query). CanCarry seen_of (plain_of query.shape) runner.progress c.args.item.now)
    (sym c.main.ensures.main)
    (carry_next on.layout.columns (plain_of on.main.shape) runner.progress c.args.item.now
    c.main.ensures.checked.clear (found_sound runner c.requires.sound c.requires.found)
    c.requires.fits)

pub returns-clause-ok : goal.returns-clause-ok
returns-clause-ok c = λ word follows.
    let on = c.args.self.now.checked.now in
    let old = c.args.self.now.progress in
    record {
      found = refl;
      at = carried free on.layout.columns (plain_of on.main.shape) word c.args.item.now old
          c.carry.new.runner c.main.ensures.checked.clear c.requires.fits.is_item follows.at
          (subst (λ (query : Query). IsCarried seen_of (plain_of query.shape) old c.args.item.now
          c.carry.new.runner)
          c.main.ensures.main c.in_ok-carry.ensures.carried);
    }

pub returns-clause-sound : goal.returns-clause-sound
returns-clause-sound c =
    let runner = c.args.self.now in
    let on = runner.checked.now in
    let one_more =
    subst (λ (query : Query). IsCarried seen_of (plain_of query.shape) runner.progress
    c.args.item.now c.carry.new.runner)
    c.main.ensures.main c.in_ok-carry.ensures.carried in
    record {
      sound = inr (one_more.sound free on.layout.columns c.main.ensures.checked.clear
          c.requires.fits.is_item (found_sound runner c.requires.sound c.requires.found));
    }

pub returns-in_err-carry-clause-sound : goal.returns-in_err-carry-clause-sound
returns-in_err-carry-clause-sound c =
    record {
      sound = inl (
        refl,
        λ bare. false≢true (c.in_err-carry.ensures.no_memory (runner_carries c.args.self.now _
            c.args.item.now c.main.ensures.main c.main.ensures.checked c.requires.sound
            c.requires.fits bare)),
      );
    }

pub returns-in_err-carry-clause-no_memory : goal.returns-in_err-carry-clause-no_memory
returns-in_err-carry-clause-no_memory c = λ bare.
    absurd
    (false≢true (c.in_err-carry.ensures.no_memory (runner_carries c.args.self.now _ c.args.item.now
    c.main.ensures.main c.main.ensures.checked c.requires.sound c.requires.fits bare)))
