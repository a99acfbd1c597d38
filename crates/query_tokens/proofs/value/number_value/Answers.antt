use Rattle.query_tokens.proofs.NumberValue.{numeral_is_text}
use Rattle.query_tokens.proofs.value.number_value.Goals as goal

-- a number's bytes are a text
pub returns-in_default : goal.returns-in_default
returns-in_default c =
    absurd (c.in_default.ensures.cases.0 (numeral_is_text c.args.raw.now c.requires))
