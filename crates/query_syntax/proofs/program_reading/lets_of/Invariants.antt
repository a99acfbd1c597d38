use Rattle.std.proofs.Common.{◌≡◌, take}
use Rattle.query_forms.specs.Terms.{Terms}
use Rattle.query_parser.specs.Plain.{term_before}
use Rattle.query_syntax.specs.Files.{all_before, let_before}
use Rattle.query_syntax.specs.Plain.{plain_let}
use Rattle.query_syntax.proofs.program_reading.lets_of.Given as goal

-- the terms so far are what the trees so far are written as
abbrev pub invariant-terms : goal.invariant-terms
invariant-terms l =
    (rest : Terms) → all_before term_before (take l.term-index l.terms) rest
    ≡ all_before (λ one. let_before (plain_let one)) l.lets.items rest
