use Rattle.std.proofs.Common.{◌≡◌, take}
use Rattle.slow_eval.specs.Streams.{stream_of}
use Rattle.slow_eval.proofs.derived_stream.stream_of.Given as goal

abbrev pub invariant-answers : goal.invariant-answers
invariant-answers l = l.stream.items ≡ stream_of (take l.answer-index l.answers)
