use Rattle.std.proofs.Common.{eqb, arith}
use Rattle.std.proofs.lemmas.Bool.{iff_false}
use Rattle.std.proofs.lemmas.Cmp.{nat_eq_equiv}
use Rattle.runner_snapshot.specs.declared.entries.Entry.{Entry}
use Rattle.eval_snapshot.specs.Fits.{FitsWaiting, FitWaiting}
use Rattle.dump_fits.proofs.Gathered.{all_at, all_read, clashes, different_of, distinct_of, gathers}
use Rattle.dump_fits.proofs.Told.{told_no, told_yes}
use Rattle.dump_fits.proofs.entries.fit_waiting.Goals as goal

pub returns-then-not-branch : goal.returns-then-not-branch
returns-then-not-branch c =
    let one : Entry = record {
      inner = c.get-inner.result.0;
      outer = c.get-inner.result.1;
      value = c.get-inner.result.2.now;
    } in
    told_no (FitWaiting c.args.ty c.args.places c.args.position c.args.entries.now) (λ fit.
    clashes eqb nat_eq_equiv (λ (e : Entry). e.inner) (FitsWaiting c.args.ty c.args.position)
    c.args.entries.now c.entries.i one c.entries.inners.keys c.in_ok-insert.field-0
    c.entries.invariant.1 c.get-inner.ensures c.in_ok-insert.ensures.added c.if-not-branch.true
    (distinct_of _ fit.distinct))

pub returns-then-not-fits_waiting : goal.returns-then-not-fits_waiting
returns-then-not-fits_waiting c =
    told_no (FitWaiting c.args.ty c.args.places c.args.position c.args.entries.now) (λ fit.
    iff_false c.fits_waiting.ensures c.if-not-fits_waiting.true
    (all_at (FitsWaiting c.args.ty c.args.position) c.args.entries.now c.entries.i _
    c.get-inner.ensures fit.each))

pub entries-preserved : goal.entries-preserved
entries-preserved c =
    let one : Entry = record {
      inner = c.get-inner.result.0;
      outer = c.get-inner.result.1;
      value = c.get-inner.result.2.now;
    } in (
      c.entries.invariant.0,
      gathers eqb nat_eq_equiv (λ (e : Entry). e.inner) (FitsWaiting c.args.ty c.args.position)
          c.args.entries.now c.entries.i one c.entries.inners.keys c.in_ok-insert.field-0
          c.entries.invariant.1 c.get-inner.ensures c.in_ok-insert.ensures.added
          c.insert.new.self.keys c.in_ok-insert.ensures.keys c.if-not-branch.false
          (c.fits_waiting.ensures.0 c.if-not-fits_waiting.false),
    )

pub returns : goal.returns
returns c =
    let count = c.entries.invariant.0 in
    let end = c.entries-test.false in
    let read = all_read eqb nat_eq_equiv (λ (e : Entry). e.inner)
    (FitsWaiting c.args.ty c.args.position) c.args.entries.now c.entries.i c.entries.inners.keys
    (omega (arith, count, end)) c.entries.invariant.1 in
    told_yes (FitWaiting c.args.ty c.args.places c.args.position c.args.entries.now) (record {
      few = omega arith;
      distinct = different_of _ read.0;
      each = read.1;
    })
