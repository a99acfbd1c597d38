-- Statement. What the evaluator's names stand for, as plain values.
use Rattle.std.specs.Option.{option_copied}
use Rattle.expressions.specs.declared.inputs.Inputs as memory
use Rattle.expressions.specs.declared.typing.Types as given
use Rattle.expressions.specs.Evaluation.{Inputs}
use Rattle.expressions.specs.Typing.{Types}

-- the inputs without the references to them
abbrev pub inputs_of : memory.Inputs → Inputs
inputs_of inputs = record {
  fields = inputs.fields.now;
  left = option_copied inputs.left;
  right = option_copied inputs.right;
}

-- the types without the reference to them
abbrev pub shown_types : given.Types → Types
shown_types types = record { fields = types.fields.now; left = types.left; right = types.right }
