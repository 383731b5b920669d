use Rattle.std.proofs.Common.{◌≡◌, length, filter}
use Rattle.layers.proofs.filters.FilteredCircuit.next.Given as goal

-- what was passed over is not kept
abbrev pub invariant-loop-m : goal.invariant-loop-m
invariant-loop-m g l =
    let p = g.T.ModuleTest.passes l.self.test in
    let rest = g.C.Circuit.rest l.self.below in
    filter p (rest l.initial.cursor) ≡ filter p (rest l.cursor)

abbrev pub decreases-loop-m : goal.decreases-loop-m
decreases-loop-m g l = length (g.C.Circuit.rest l.self.below l.cursor)
