use Rattle.std.proofs.Common.{◌≡◌, ◌≤◌, ◌-◌}
use Rattle.io_edge.specs.Limits.{max_count}
use Rattle.io_edge.specs.Reading.{count_of}
use Rattle.io_edge.specs.Reported.{IsQuiet}
use Rattle.io_edge.proofs.Readings.{Takes}
use Rattle.io_edge.proofs.lines.Lines.advance.Given as goal

-- no line was answered and no end was met since the call began, and nothing was read where none was
-- to be read
abbrev pub invariant-more : goal.invariant-more
invariant-more g l = record {
  takes : Takes (g.S.Source.left l.fn.source) (g.S.Source.left l.source) l.fn.self l.self;
  few : count_of l.self ≤ max_count;
  no_end : g.S.Source.ends l.source ≡ g.S.Source.ends l.fn.source;
  no_fault : g.S.Source.faults l.source ≡ g.S.Source.faults l.fn.source;
  quiet : IsQuiet l.fn.self → l.source ≡ l.fn.source;
}

abbrev pub decreases-more : goal.decreases-more
decreases-more g l = max_count - count_of l.self
