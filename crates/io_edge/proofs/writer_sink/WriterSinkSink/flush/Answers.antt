use Rattle.io_edge.proofs.Handings.{kept_alike}
use Rattle.io_edge.proofs.writer_sink.WriterSinkSink.flush.Goals as goal

pub returns-clause-taken : goal.returns-clause-taken
returns-clause-taken g c =
    kept_alike _ _ _ _ (g.met.O.Output.reports_alike c.args.self.now.output c.flush_all.new.output)
    c.flush_all.ensures.bytes
