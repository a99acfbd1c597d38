use Rattle.std.proofs.Common.{◌≡◌, length, take}
use Rattle.std.specs.Prelude.{string_bytes}
use Rattle.std.specs.List.{flat_map, zip}
use Rattle.expand_run.specs.OriginLines.{node_line}
use Rattle.expand_run.proofs.origin_lines.node_lines.Given as goal

-- the lines of the nodes so far
abbrev pub invariant-nodes : goal.invariant-nodes
invariant-nodes l =
    string_bytes l.lines
    ≡ flat_map (λ node. node_line node.0 node.1) (take (length l.yielded) (zip l.places l.origins))
