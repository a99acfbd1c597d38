use Rattle.std.proofs.Common.{◌≡◌, true, false}
use Rattle.query_lets.specs.Words.{is_known}
use Rattle.query_lets.proofs.FirstWrong.{name_known, name_unknown}
use Rattle.query_lets.proofs.Keys.{known_is}
use Rattle.query_lets.proofs.names.+first_unknown.Goals as goal

pub returns-then-contains : goal.returns-then-contains
returns-then-contains t c = λ names holds.
    let has = known_is c.args.known.now names holds c.as_slice.result c.in-Name.name.bytes
    c.as_slice.ensures c.contains.result c.contains.ensures in
    let known : is_known names c.in-Name.name.bytes ≡ true = cc (has, c.if-contains.true) in
    name_known names c.args.query.now c.in-Name.name c.in-Name.is known

pub returns-else-contains : goal.returns-else-contains
returns-else-contains t c = λ names holds.
    let has = known_is c.args.known.now names holds c.as_slice.result c.in-Name.name.bytes
    c.as_slice.ensures c.contains.result c.contains.ensures in
    let unknown : is_known names c.in-Name.name.bytes ≡ false = cc (has, c.if-contains.false) in
    name_unknown names c.args.query.now c.in-Name.name c.in-Name.is unknown
