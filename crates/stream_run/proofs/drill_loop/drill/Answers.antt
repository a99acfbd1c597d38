use Rattle.std.proofs.Common.{◌≡◌, ◌≤◌, ◌+◌, ℕ, Bool, true, false, List, ◌∷◌, length, cond, is_some}
use Rattle.std.proofs.Common.{Option, Some, None, Bor, Result, Ok, Err, IfOk, refl, sym, ap, subst}
use Rattle.std.proofs.Common.{◌∙◌, arith}
use Rattle.std.specs.Int.{from_bool}
use Rattle.std.specs.Option.{option_copied}
use Rattle.std.specs.declared.alloc.AllocError.{AllocError}
use Rattle.io_edge.specs.Lines.{Shown, text}
use Rattle.item_schema.specs.Layout.{Layout}
use Rattle.item_drill.specs.Draws.{state_after}
use Rattle.item_drill.specs.Lines.{line_from, lines_from}
use Rattle.query_model.specs.Monitors.{monitor_of}
use Rattle.report_writer.specs.Texts.{drill_text}
use Rattle.stream_run.specs.Drilled.{drilled, values_of}
use Rattle.stream_run.specs.Drilling.{drilled_lines}
use Rattle.stream_run.specs.Meanings.{IsMeaning, Meaning}
use Rattle.stream_run.specs.Output.{value_after}
use Rattle.stream_run.specs.Sessions.{IsAfter, Origin, Takes, first_origin}
use Rattle.stream_run.proofs.Drills.{IsTally, drilled_lines-next, continues-next, tally_next}
use Rattle.stream_run.proofs.Drills.{reported_of_bytes}
use Rattle.stream_run.proofs.Taking.{answer_after}
use Rattle.stream_run.proofs.drill_loop.drill.Goals as goal

-- there is a value where it is copied
some_copied : {A : Type 0} (answer : Option (Bor A))
    → is_some answer ≡ is_some (option_copied answer)
some_copied (Some value) = refl
some_copied None = refl

-- a test counts for one where it is true
counts_one : (b : Bool) → from_bool b ≡ cond b 1 0
counts_one true = refl
counts_one false = refl

-- and for one at the most
at_most_one : (b : Bool) → cond b 1 0 ≤ 1
at_most_one true = omega arith
at_most_one false = omega arith

pub items-preserved : goal.items-preserved
items-preserved g c =
    let f = g.F.Follower in
    let on = c.args.checked.now in
    let layout = on.layout in
    let seed = c.args.seed in
    let count = c.items.counter in
    let state = c.items.drill.state in
    let kept = c.items.invariant in
    let origin : Origin _ = first_origin on c.args.follower in
    let next = drilled_lines-next layout count state seed kept.continues in
    let took = subst (λ (l : Layout). Takes f.follows (text (line_from l.columns state))
    c.items.session c.take_next.new.session)
    kept.same c.in_ok-take_next.ensures.takes
    in
    let after =
    subst (λ (lines : List Shown). IsAfter f.follows origin lines c.take_next.new.session)
    (sym next) (took origin (drilled_lines layout count seed) kept.after)
    in
    let later : c.take_next.new.drill.state ≡ state_after (length layout.columns) state =
    ap (λ d. d.state) c.in_ok-take_next.ensures.drill
    ∙ ap (λ (l : Layout). state_after (length l.columns) state) kept.same
    in
    let answer = option_copied c.answer.result in
    let counted : c.from-defined.result ≡ cond (is_some answer) 1 0 =
    c.from-defined.ensures ∙ ap from_bool (c.is_some.ensures ∙ some_copied c.answer.result)
    ∙ counts_one (is_some answer)
    in
    record {
      after = after;
      ready = c.in_ok-take_next.ensures.ready;
      position = omega (arith, c.in_ok-take_next.ensures.position, kept.position);
      same = ap (λ d. d.layout) c.in_ok-take_next.ensures.drill ∙ kept.same;
      continues =
          continues-next layout.columns count state c.take_next.new.drill.state seed kept.continues
          (λ n. ap (λ (s : ℕ). line_from layout.columns state ∷ lines_from layout.columns n s)
          (sym later));
      tally = λ meaning means.
          let is = answer_after f.follows f.query on c.args.follower
          (drilled_lines layout (count + 1) seed) c.take_next.new.session answer
          c.schema.ensures.checked.clear c.requires.word after
          c.in_ok-take_next.ensures.ready.query_is c.answer.ensures.answer meaning means
          in
          let tally = tally_next meaning layout means.layout c.requires.drillable.some
          c.requires.drillable.read seed count c.items.defined state answer next is
          (kept.tally meaning means)
          in
          subst (λ (n : ℕ). IsTally (count + 1) (c.items.defined + n)
          (values_of meaning (drilled_lines layout (count + 1) seed))
          (value_after meaning (drilled_lines layout (count + 1) seed))) (sym counted) tally;
      few = omega (arith, at_most_one (is_some answer), counted, kept.few);
    }

-- what holds of a text that was made
made_so : (made : Result (List ℕ) AllocError) (reported : List ℕ) (Q : List ℕ → Type 0)
    → IfOk made (λ line. line ≡ reported)
    → ((line : List ℕ) → line ≡ reported → Q line) → IfOk made Q
made_so (Ok line) reported Q is holds = holds line is
made_so (Err error) reported Q is holds = tt

pub returns : goal.returns
returns g c =
    let f = g.F.Follower in
    let on = c.args.checked.now in
    let layout = on.layout in
    let seed = c.args.seed in
    let count = c.items.counter in
    let kept = c.items.invariant in
    let answer = option_copied c.answer-2.result in
    let same : count ≡ c.args.count = omega arith in
    made_so c.drill_text.result _ (λ line. (meaning : Meaning) → IsMeaning (monitor_of on) meaning
    → line ≡ drilled meaning c.args.count seed)
    c.drill_text.ensures
    (λ line reported meaning means.
    let is = answer_after f.follows f.query on c.args.follower (drilled_lines layout count seed)
    c.items.session answer c.schema.ensures.checked.clear c.requires.word kept.after kept.ready.query_is
    c.answer-2.ensures.answer meaning means
    in
    reported_of_bytes meaning layout count seed c.items.defined answer means.layout
    c.requires.drillable (kept.tally meaning means) is line
    (reported ∙ ap (λ (n : ℕ). drill_text n c.items.defined answer) (sym same))
    ∙ ap (λ (n : ℕ). drilled meaning n seed) same)
