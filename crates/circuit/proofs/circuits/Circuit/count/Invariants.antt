use Rattle.std.proofs.Common.{◌≡◌, ◌+◌, length}
use Rattle.circuit.proofs.circuits.Circuit.count.Given as goal

abbrev pub invariant-loop-m : goal.invariant-loop-m
invariant-loop-m g l = l.n + length (g.Self.Circuit.rest l.self l.cursor) ≡ length (g.Self.Circuit.list l.self)

abbrev pub decreases-loop-m : goal.decreases-loop-m
decreases-loop-m g l = length (g.Self.Circuit.rest l.self l.cursor)
