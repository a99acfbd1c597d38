use Rattle.std.proofs.Common.{refl, subst}
use Rattle.query_model.specs.Following.{IsAnswer}
use Rattle.query_model.specs.Queries.{plain_of}
use Rattle.query_model.specs.Rules.{free}
use Rattle.slow_eval.proofs.WellTyped.{typed_answer}
use Rattle.slow_eval.proofs.slow.Slow.search.Goals as goal

pub returns-clause-sound : goal.returns-clause-sound
returns-clause-sound c =
    let on = c.args.self.now.checked.now in
    let answer = c.in_ok-self.field-0 in
    record {
      is_word = c.requires.sound.is_word;
      typed = typed_answer free on.layout.columns (plain_of on.main.shape)
          c.args.self.now.items.items answer c.main.ensures.checked.clear c.requires.sound.is_word
          (subst (λ word. IsAnswer (plain_of on.main.shape) word answer) c.deref.ensures.value
          (subst (λ query. IsAnswer (plain_of query.shape) c.deref.result.now answer)
          c.main.ensures.main (c.in_ok-self.ensures)));
    }

pub returns-clause-ok : goal.returns-clause-ok
returns-clause-ok c =
    let on = c.args.self.now.checked.now in
    let answer = c.in_ok-self.field-0 in
    record {
      sound = returns-clause-sound c;
      found = refl;
      items = refl;
      answer = subst (λ word. IsAnswer (plain_of on.main.shape) word answer) c.deref.ensures.value
          (subst (λ query. IsAnswer (plain_of query.shape) c.deref.result.now answer)
          c.main.ensures.main (c.in_ok-self.ensures));
    }
