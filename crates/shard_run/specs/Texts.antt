-- Statement. The texts that a command writes: where a line goes, and that a query is no collect.
use Rattle.std.specs.Prelude.{ℕ, List, ◌++◌, codes, decimal}
use Rattle.language_base.specs.declared.span.Span.{Span}
use Rattle.key_routes.specs.declared.route.Route.TheVariants.{All, One}
use Rattle.report_writer.specs.Texts.{skip_text}
use Rattle.shard_run.specs.declared.router.LineRoute.{LineRoute}
use Rattle.shard_run.specs.declared.router.LineRoute.TheVariants.{Nowhere, Skipped, Sent}

-- where a line goes; a line that is left out has the text that it has in a run
abbrev pub route_text : LineRoute → List ℕ
route_text Nowhere = codes "-\n"
route_text (Skipped skip) = skip_text skip
route_text (Sent All) = codes "all\n"
route_text (Sent (One shard)) = decimal shard ++ codes "\n"

-- a query whose keys can not be divided, since its main query, which stands there, is no collect
abbrev pub whole_text : Span → List ℕ
whole_text place =
    codes "refused whole " ++ decimal place.from ++ codes ".." ++ decimal place.to ++ codes "\n"
