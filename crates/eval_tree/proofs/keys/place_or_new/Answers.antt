use Rattle.std.proofs.Common.{◌≡◌, inl, inr, refl, subst, Some, slice_get, sym}
use Rattle.query_model.specs.Queries.{plain_of}
use Rattle.map_collect.specs.Followers.{Followers}
use Rattle.map_collect.specs.Keys.{names_of}
use Rattle.eval_nodes.specs.declared.progress.Progress.{Progress}
use Rattle.eval_nodes.specs.Copies.{IsCopy, IsCopyOf}
use Rattle.eval_nodes.specs.Plain.{seen_of}
use Rattle.step_laws.proofs.KeysPushed.{last_read}
use Rattle.eval_tree.proofs.keys.place_or_new.Goals as goal

pub returns-in-Some-clause-has : goal.returns-in-Some-clause-has
returns-in-Some-clause-has c = record { there = c.in-Some.ensures.there; made = inl refl }

pub returns-in_ok-add-in-None-clause-has : goal.returns-in_ok-add-in-None-clause-has
returns-in_ok-add-in-None-clause-has c = record {
  there = subst (λ (keyed : Followers Progress). slice_get keyed.names c.len-place.result
      ≡ Some c.args.key.now)
      (sym c.in_ok-add-in-None.ensures.ok)
      (last_read (names_of c.args.keys.now) c.args.key.now c.len-place.result
      c.len-place.ensures.count);
  made = inr (
    c.in-None.ensures.none,
    c.in_ok-runner-in-None.runner,
    subst (λ (runner : Progress). IsCopyOf seen_of
        (IsCopy seen_of (plain_of c.args.query.now.shape)) runner
        c.in_ok-runner-in-None.runner) c.fallback.ensures c.in_ok-runner-in-None.ensures,
    c.add.ensures.fallback,
    c.in_ok-add-in-None.ensures.ok,
  );
}
