use Rattle.std.proofs.Common.{◌≡◌, Some, arith, sym, ap, ◌∙◌}
use Rattle.std.specs.Option.{option_map}
use Rattle.query_resolver.specs.Names.{columns_named}
use Rattle.query_resolver.proofs.NamedColumns.{as_many}
use Rattle.query_resolver.proofs.key.named_key.Goals as goal

pub of-requires : goal.of-requires
of-requires c =
    let at = c.in-Some.at.items in
    let found : columns_named c.args.schema.now.columns c.names.result.now ≡ Some at =
    sym c.in_ok-at.ensures ∙ ap (option_map (λ vec. vec.items)) c.in-Some.is in
    let many = as_many c.args.schema.now.columns c.names.result.now at found in
    let least = c.names.ensures.least in
    let most = c.names.ensures.most in
    record { least = omega (arith, many, least); most = omega (arith, many, most) }
