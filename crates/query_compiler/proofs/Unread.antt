-- A text that is no program is refused by a rule that forbids no word with two readings.
use Rattle.std.proofs.Common.{ℕ, List}
use Rattle.language_base.specs.declared.refusal.Refusal.{Refusal}
use Rattle.query_parser.specs.Reading.{IsRefused, depth, form, literal, long, term, token}
use Rattle.type_checker.specs.Blames.{ForbidsTwoReadings}
use Rattle.query_compiler.specs.Compiled.{unread}
use Rattle.query_compiler.specs.Stops.{IsRefusedBy}

-- no rule that a text breaks before it is a program forbids one
unread_forbids_none : (text : List ℕ) (why : Refusal) → IsRefused text why
    → ForbidsTwoReadings why.rule → ⊥
unread_forbids_none text _ (long beyond) forbids = forbids
unread_forbids_none text _ (token before place short fault) forbids = forbids
unread_forbids_none text _ (term tokens span has none) forbids = forbids
unread_forbids_none text _ (depth trees span has deep) forbids = forbids
unread_forbids_none text _ (form terms span has unfit) forbids = forbids
unread_forbids_none text _ (literal terms span has large) forbids = forbids

-- so it is refused by one that forbids none
pub unread_refused : (text : List ℕ) (why : Refusal) → IsRefused text why → IsRefusedBy why text
unread_refused text why refuses = (unread why refuses, unread_forbids_none text why refuses)
