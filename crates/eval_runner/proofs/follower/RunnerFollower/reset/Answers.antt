use Rattle.std.proofs.Common.{◌∙◌, [], inl, refl, subst, sym}
use Rattle.std.proofs.lemmas.Bool.{false≢true}
use Rattle.query_model.specs.declared.query.Query.{Query}
use Rattle.query_model.specs.Queries.{plain_of}
use Rattle.query_model.specs.Rules.{HasNoCollect}
use Rattle.eval_runner.specs.Laws.{follows_sound}
use Rattle.eval_runner.proofs.follower.RunnerFollower.reset.Goals as goal

pub begin_anew-requires-clause-no_collect : goal.begin_anew-requires-clause-no_collect
begin_anew-requires-clause-no_collect c =
    subst (λ (query : Query). HasNoCollect (plain_of query.shape)) c.main.ensures.main
    (c.has_no_collect.ensures.0 c.if-has_no_collect.true)

pub returns-then-has_no_collect-clause-sound : goal.returns-then-has_no_collect-clause-sound
returns-then-has_no_collect-clause-sound c =
    follows_sound c.begin_anew.new.self [] c.begin_anew.ensures.word

pub returns-in_err-fresh-clause-sound : goal.returns-in_err-fresh-clause-sound
returns-in_err-fresh-clause-sound c =
    record {
      sound = inl (
        refl,
        λ bare. false≢true (sym c.if-has_no_collect.false ∙ c.has_no_collect.ensures.1
            (subst (λ (query : Query). HasNoCollect (plain_of query.shape))
            (sym c.main.ensures.main) bare)),
      );
    }

pub returns-in_err-fresh-clause-no_memory : goal.returns-in_err-fresh-clause-no_memory
returns-in_err-fresh-clause-no_memory c = λ bare.
    absurd (false≢true (sym c.if-has_no_collect.false ∙ c.has_no_collect.ensures.1
    (subst (λ (query : Query). HasNoCollect (plain_of query.shape))
    (sym c.main.ensures.main) bare)))
