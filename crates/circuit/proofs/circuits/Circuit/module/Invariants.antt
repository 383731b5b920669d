use Rattle.std.proofs.Common.{◌≡◌, ◌-◌}
use Rattle.std.specs.List.{slice_get}
use Rattle.circuit.proofs.circuits.Circuit.module.Given as goal

-- what is asked for stands as far behind the cursor as there are turns left
abbrev pub invariant-loop : goal.invariant-loop
invariant-loop g l = slice_get (g.Self.Circuit.list l.self) l.position ≡ slice_get (g.Self.Circuit.rest l.self l.cursor) (l.position - l.counter)
