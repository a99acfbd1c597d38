-- Runners for keys.
use Rattle.std.proofs.Common.{arith, inr, refl, rules, subst, sym, ◌∙◌}
use Rattle.query_model.specs.Queries.{plain_of}
use Rattle.eval_nodes.specs.Plain.{seen_of}
use Rattle.eval_nodes.proofs.Same.{where_ok}
use Rattle.eval_nodes.specs.declared.progress.Progress.{Progress}
use Rattle.predicates.specs.Plain as predicates
use Rattle.step_laws.proofs.Arms.{on_err}
use Rattle.step_laws.specs.Feeds.{CanCarry}
use Rattle.step_laws.proofs.CollectAllowed.{carried_end, carried_next, fallback_allowed}
use Rattle.step_laws.proofs.CollectAllowed.{follower_allowed, next_carried, with_allowed}
use Rattle.std.proofs.lemmas.List.{length-set}
use Rattle.std.proofs.lemmas.Option.{slice_get_within}
use Rattle.map_collect.specs.Keys.{followers_of, names_of}
use Rattle.step_laws.proofs.KeysPushed.{pushed_all, pushed_key}
use Rattle.eval_tree.proofs.+step.Goals as goal

-- an item of all keys, and one of one key
pub keys::keys_push-returns-then-holds-clause-pushed :
    goal.keys::keys_push-returns-then-holds-clause-pushed
keys::keys_push-returns-then-holds-clause-pushed t c =
    where_ok c.push_to_each.result _ _
    (λ done takes. pushed_all seen_of (plain_of c.args.query.now.shape) c.args.columns.now
    (predicates.plain_of c.args.sync.now) c.args.item.now c.args.keys.now c.push_to_each.new.keys
    (sym c.holds.ensures ∙ c.if-holds.true) takes)
    c.push_to_each.ensures

pub keys::keys_push-returns-else-holds-clause-pushed :
    goal.keys::keys_push-returns-else-holds-clause-pushed
keys::keys_push-returns-else-holds-clause-pushed t c =
    where_ok c.push_to_own.result _ _
    (λ done pushed. pushed_key seen_of (plain_of c.args.query.now.shape) c.args.columns.now
    (predicates.plain_of c.args.sync.now) c.args.item.now c.args.keys.now pushed.mid
    c.push_to_own.new.keys pushed.place
    (sym c.holds.ensures ∙ c.if-holds.false) pushed.has pushed.takes) c.push_to_own.ensures.pushed

pub keys::push_to_key-follower_mut-requires : goal.keys::push_to_key-follower_mut-requires
keys::push_to_key-follower_mut-requires t c =
    slice_get_within (names_of c.place_or_new.new.keys) c.in_ok-place.place c.args.key.now
    c.in_ok-place.ensures.has.there

pub keys::push_to_key-carry-requires : goal.keys::push_to_key-carry-requires
keys::push_to_key-carry-requires t c = (
  search rules,
  follower_allowed seen_of (plain_of c.args.query.now.shape) c.args.item.now c.place_or_new.new.keys
      c.in_ok-place.place c.follower_mut.result.now
      (with_allowed seen_of (plain_of c.args.query.now.shape) c.args.item.now
      c.args.key.now c.args.keys.now c.place_or_new.new.keys c.in_ok-place.place
      c.in_ok-place.ensures.has c.requires) c.follower_mut.ensures.value,
)

pub keys::push_to_key-returns : goal.keys::push_to_key-returns
keys::push_to_key-returns t c = record {
  pushed = where_ok c.carry.result _ _ (λ done takes. record {
    place = c.in_ok-place.place;
    mid = c.place_or_new.new.keys;
    has = c.in_ok-place.ensures.has;
    takes = record {
      runner = c.follower_mut.result.now;
      carried = c.carry.new.runner;
      read = c.follower_mut.ensures.value;
      takes = takes;
      fallback = refl;
      is = refl;
    };
  }) c.carry.ensures.carried;
  left = on_err c.carry.result _ (inr (record {
    place = c.in_ok-place.place;
    mid = c.place_or_new.new.keys;
    runner = c.carry.new.runner;
    has = c.in_ok-place.ensures.has;
    fallback = refl;
    keyed = refl;
  }));
}

pub keys::push_to_each-carry-requires : goal.keys::push_to_each-carry-requires
keys::push_to_each-carry-requires t c = (
  search rules,
  subst (λ (runner : Progress). CanCarry seen_of (plain_of c.args.query.now.shape) runner
      c.args.item.now)
      (sym c.fallback_mut.ensures.value)
      (fallback_allowed seen_of (plain_of c.args.query.now.shape) c.args.item.now
      c.args.keys.now c.requires),
)

pub keys::push_to_each-returns : goal.keys::push_to_each-returns
keys::push_to_each-returns t c =
    let before = c.keys.invariant in
    let over = c.keys-test.false in
    let end = before.3 in
    let many = before.4 in
    record {
      fallback = before.0;
      names = before.1;
      keyed = carried_end seen_of (plain_of c.args.query.now.shape) c.args.item.now
          c.keys.i _ _ before.2 (omega (arith, over, end, many));
    }

pub keys::push_to_each-carry-requires-in-keys : goal.keys::push_to_each-carry-requires-in-keys
keys::push_to_each-carry-requires-in-keys t c = (
  search rules,
  follower_allowed seen_of (plain_of c.args.query.now.shape) c.args.item.now
      c.args.keys.now c.keys.i c.follower_mut.result.now c.requires
      (next_carried seen_of (plain_of c.args.query.now.shape) c.args.item.now c.keys.i
      (followers_of c.args.keys.now) (followers_of c.keys.keys) c.follower_mut.result.now
      c.keys.invariant.2 c.follower_mut.ensures.value),
)

pub keys::push_to_each-keys-preserved : goal.keys::push_to_each-keys-preserved
keys::push_to_each-keys-preserved t c =
    let before = c.keys.invariant in (
      before.0,
      before.1,
      carried_next seen_of (plain_of c.args.query.now.shape) c.args.item.now c.keys.i
          (followers_of c.args.keys.now) (followers_of c.keys.keys) c.follower_mut.result.now
          c.carry-in-keys.new.runner before.2 c.follower_mut.ensures.value
          c.in_ok-carry-2.ensures.carried,
      before.3,
      length-set (followers_of c.keys.keys) c.keys.i c.carry-in-keys.new.runner ∙ before.4,
    )
