use Rattle.std.proofs.Common.{◌≡◌, [], Option, Some, IfSome, inl, refl, sym, subst, ◌∙◌, arith}
use Rattle.std.proofs.KnownBytes.{Consumes-nil, Appends-nil}
use Rattle.stream_run.proofs.Turns.{Ended-held, Running-begins, Running-held}
use Rattle.stream_run.specs.Outside.{outside}
use Rattle.stream_run.specs.declared.status.Status.TheVariants.{SinkFault}
use Rattle.stream_run.proofs.reply_loop.reply_to_lines.Goals as goal
use Rattle.stream_run.proofs.reply_loop.reply_to_lines.Goals.{in-Err-flush_before_read}
use Rattle.stream_run.proofs.reply_loop.reply_to_lines.Goals.{in-Ok-flush_before_read}

-- nothing was read and nothing was written
pub returns-in-Err-clause-ended : goal.returns-in-Err-clause-ended
returns-in-Err-clause-ended g c = (
  inl refl,
  [],
  Consumes-nil _,
  record {
    some = [];
    whole = ([], refl);
    wrote = ([], g.met.R.Replier.says_nothing c.args.replier.now, Appends-nil _);
  },
)

pub lines-init : goal.lines-init
lines-init g c =
    let r = g.R.Replier in
    let laws = g.met.R.Replier in
    let first = c.args.replier.now in
    record {
      running = Running-begins r.stands r.says first _ _ first c.in-Ok.ensures (laws.begins first)
          (laws.says_nothing first);
      ready = c.requires.ready;
      same = laws.same_before first;
      count = omega (arith, c.requires.room);
      items_calm = refl;
      sink_calm = refl;
    }

-- of what is there the predicate holds
some_holds : {A : Type 0} (P : A → Type 0) (there : Option A) (one : A) → there ≡ Some one
    → IfSome there P → P one
some_holds P there one is holds = subst (λ o. IfSome o P) is holds

-- the turn that ended the run says what the session stands after
pub returns-in-Some-clause-after : goal.returns-in-Some-clause-after
returns-in-Some-clause-after g c done =
    let at = outside g.S.Source.left g.S.Source.ends g.W.Sink.taken in
    let first = c.args.replier.now in
    let r = g.R.Replier in
    let before = at c.args.items.now c.args.out.now in
    let now = at c.lines.items c.lines.out in
    elim c.match-flush_before_read.branch [
      | in-Ok-flush_before_read w ↦
          let running = Running-held r.stands r.says first before now c.lines.lines
          c.lines.replier _ c.flush_before_read.ensures.taken c.lines.invariant.running in
          let stops = some_holds _ w.turn-ended.result c.in-Some.status
          (sym w.ended-is ∙ c.in-Some.is) w.turn-ended.ensures.stops in
          rw (w.replier-is) ((stops first before running).after done)
      | in-Err-flush_before_read w ↦
          let fault : SinkFault ≡ c.in-Some.status = cc in
          absurd (cc (done, fault))
    ]

-- the turn ended the run, or the answers to the lines so far were written and are not flushed
pub returns-in-Some-clause-ended : goal.returns-in-Some-clause-ended
returns-in-Some-clause-ended g c =
    let at = outside g.S.Source.left g.S.Source.ends g.W.Sink.taken in
    let first = c.args.replier.now in
    let r = g.R.Replier in
    let before = at c.args.items.now c.args.out.now in
    let now = at c.lines.items c.lines.out in
    elim c.match-flush_before_read.branch [
      | in-Ok-flush_before_read w ↦
          let running = Running-held r.stands r.says first before now c.lines.lines
          c.lines.replier _ c.flush_before_read.ensures.taken c.lines.invariant.running in
          let stops = some_holds _ w.turn-ended.result c.in-Some.status
          (sym w.ended-is ∙ c.in-Some.is) w.turn-ended.ensures.stops in
          rw (w.items-is, w.out-is) (stops first before running).ended
      | in-Err-flush_before_read w ↦
          let held = Ended-held r.stands r.says first before now c.lines.lines
          c.lines.replier _ c.flush_before_read.ensures.taken c.lines.invariant.running in
          let fault : SinkFault ≡ c.in-Some.status = cc in
          rw (w.items-is, w.out-is, ← fault) held
    ]
