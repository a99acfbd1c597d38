use Rattle.query_compiler.proofs.Compilations.{blame_refuses}
use Rattle.type_checker.specs.Blames.{refusal_of}
use Rattle.saved_run.proofs.opening.compiled.Goals as goal

pub returns-in-Err-Ambiguous-clause-refused : goal.returns-in-Err-Ambiguous-clause-refused
returns-in-Err-Ambiguous-clause-refused c =
    let blame = c.in-Err-Ambiguous.field-0-0.value in (
      refusal_of blame,
      blame_refuses c.args.text.now blame
          (rw c.in-Err-Ambiguous.field-0-is at c.in-Err-Ambiguous.ensures.refused),
    )
