use Rattle.std.proofs.Common.{◌≡◌, ◌≤◌, length, subst, sym, ap, ◌∙◌, rules, arith, List}
use Rattle.std.proofs.lemmas.List.{take_all}
use Rattle.query_forms.specs.declared.term_place.TermPlace.TheVariants as place
use Rattle.query_forms.specs.Terms.{none}
use Rattle.query_parser.specs.declared.term.Term.{Term}
use Rattle.query_parser.specs.Plain.{term_before}
use Rattle.query_syntax.specs.Counts.{IsNameCount}
use Rattle.query_syntax.specs.Files.{all_before}
use Rattle.query_syntax.specs.Fits.{Fits}
use Rattle.query_syntax.specs.Written.{name_before}
use Rattle.query_syntax.proofs.Lists.{more_before, terms_before}
use Rattle.query_syntax.proofs.Names.{all_named, names_before, none_named}
use Rattle.query_syntax.proofs.key_reading.names_of.Goals as goal

pub name_of-requires : goal.name_of-requires
name_of-requires c =
    subst (Fits place.Name) (sym c.argument-item.is)
    (c.requires.fit c.arguments.argument-index c.argument-item.result c.arguments-test.true)

pub arguments-init : goal.arguments-init
arguments-init c = none_named c.args.arguments.now _ (search rules)

pub arguments-preserved : goal.arguments-preserved
arguments-preserved c =
    let before = c.arguments.invariant in
    let inside = c.arguments-test.true in
    record {
      within = omega arith;
      written = more_before name_before c.args.arguments.now c.arguments.argument-index
          c.argument-item.result c.arguments.names.items c.push.new.self.items
          c.in_ok-name_of.field-0 c.arguments-test.true c.argument-item.is
          c.in_ok-push.ensures.items before.written c.in_ok-name_of.ensures;
      as_many = ap length c.in_ok-push.ensures.items ∙ search (rules, arith, before.as_many);
    }

pub of-requires : goal.of-requires
of-requires c =
    let end : length c.args.arguments.now ≤ c.arguments.argument-index = omega arith in
    subst IsNameCount (sym (all_named c.args.arguments.now c.arguments.names.items
    c.arguments.argument-index end c.arguments.invariant)) c.requires.count

pub returns : goal.returns
returns c =
    let end : length c.args.arguments.now ≤ c.arguments.argument-index = omega arith in
    rw c.of.ensures (terms_before c.args.arguments.now
    ∙ subst (λ (list : List Term). all_before term_before list none
    ≡ all_before name_before c.arguments.names.items none)
    (take_all c.arguments.argument-index c.args.arguments.now end)
    (c.arguments.invariant.written none)
    ∙ names_before c.arguments.names.items)
