use Rattle.std.proofs.lemmas.Result.{IfOk-weaker}
use Rattle.std.proofs.Common.{sym, ap, ◌∙◌}
use Rattle.query_syntax.specs.Plain.{plain_expression, plain_program, plain_query}
use Rattle.explain_run.proofs.Parting.{main_of}
use Rattle.explain_run.proofs.distinction.program_apart.Goals as goal

pub returns-in-Combine : goal.returns-in-Combine
returns-in-Combine c =
    IfOk-weaker c.parts_apart.result _ _
    (λ found apart. main_of c.args.text.now (plain_program c.args.program.now)
    (plain_query c.in-Combine.left.value) (plain_query c.in-Combine.right.value)
    (plain_expression c.in-Combine.value.value) c.in-Combine.span found c.requires
    (ap plain_query (sym c.deref.ensures ∙ c.in-Combine.is)) apart)
    (rw (c.deref-in-Combine.ensures, c.deref-in-Combine-2.ensures) at
    (rw (c.span.ensures, c.span-in-Combine.ensures) at c.parts_apart.ensures))
