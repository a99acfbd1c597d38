use Rattle.query_syntax.specs.Plain.{plain_stream}
use Rattle.query_resolver.proofs.Repeats.{are_columns_of}
use Rattle.query_resolver.proofs.stream_schema.schema_of.Goals as goal

pub new-requires : goal.new-requires
new-requires c =
    rw (c.in_ok-columns.ensures, c.deref.ensures.value)
    (are_columns_of (plain_stream c.args.stream.now) c.requires.within c.requires.distinct)
