use Rattle.std.proofs.Common.{◌≡◌, map, drop}
use Rattle.query_forms.specs.Forms.{places_in}
use Rattle.query_forms.specs.Shown.{shown}
use Rattle.query_forms.proofs.forms.places_in.Given as goal

-- the forms that are left decide
abbrev pub invariant-forms : goal.invariant-forms
invariant-forms l =
    places_in (map shown l.forms) l.head l.count
    ≡ places_in (map shown (drop l.word-index l.forms)) l.head l.count
