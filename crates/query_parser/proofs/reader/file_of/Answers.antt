use Rattle.std.proofs.Common.{sym}
use Rattle.query_trees.specs.Trees.{trees_of}
use Rattle.query_parser.specs.Plain.{terms_of}
use Rattle.query_parser.specs.TreeReading.{AreFileOf}
use Rattle.query_parser.proofs.Built.{built_readable}
use Rattle.query_parser.proofs.IsFile.{is_file}
use Rattle.query_parser.proofs.Passes.{bytes_small, form_refused, literal_refused}
use Rattle.query_parser.proofs.Passes.{readable_sayable}
use Rattle.query_parser.proofs.reader.file_of.Goals as goal

pub unfit_file-requires : goal.unfit_file-requires
unfit_file-requires c =
    (built_readable c.args.text.now (trees_of c.args.trees.now) c.requires.built).0

pub returns-in-Some-clause-stopped : goal.returns-in-Some-clause-stopped
returns-in-Some-clause-stopped c =
    rw c.refused.ensures (form_refused c.args.text.now (trees_of c.args.trees.now) c.requires
    c.in-Some.span c.in-Some.ensures)

pub first_large-requires : goal.first_large-requires
first_large-requires c =
    (built_readable c.args.text.now (trees_of c.args.trees.now) c.requires.built).0

pub returns-in-Some-first_large-clause-stopped : goal.returns-in-Some-first_large-clause-stopped
returns-in-Some-first_large-clause-stopped c =
    rw c.refused-in-Some-first_large.ensures (literal_refused c.args.text.now
    (trees_of c.args.trees.now) c.requires c.in-Some-first_large.span c.in_default.ensures
    c.in-Some-first_large.ensures)

pub terms_of-requires-clause-tokens : goal.terms_of-requires-clause-tokens
terms_of-requires-clause-tokens c =
    (built_readable c.args.text.now (trees_of c.args.trees.now) c.requires.built).0

pub terms_of-requires-clause-sayable : goal.terms_of-requires-clause-sayable
terms_of-requires-clause-sayable c =
    readable_sayable c.args.text.now (trees_of c.args.trees.now) c.requires
    c.in_default-first_large.ensures

pub new-requires : goal.new-requires
new-requires c =
    let terms = terms_of c.in_ok-terms.terms.items in
    let say = c.in_ok-terms.ensures in
    let file : AreFileOf c.args.text.now (trees_of c.args.trees.now) terms = record {
      say = say;
      fit = sym (c.in_default.ensures terms say);
      within = sym (c.in_default-first_large.ensures terms say);
    } in
    is_file c.args.text.now (trees_of c.args.trees.now) terms
    (bytes_small c.args.text.now c.type_inv.text) c.requires file
