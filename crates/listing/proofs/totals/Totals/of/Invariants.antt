use Rattle.std.proofs.Common.{◌≡◌, ◌+◌, length}
use Rattle.net.specs.Mods.{widths}
use Rattle.listing.proofs.totals.Totals.of.Given as goal

-- what is told and what is still to be told are the whole circuit
abbrev pub invariant-loop-m : goal.invariant-loop-m
invariant-loop-m g l =
    let rest = g.C.Circuit.rest l.m-iterator.circuit.now l.m-iterator.cursor in
    let all = g.C.Circuit.list l.fn.circuit in
    (l.totals.modules + length rest ≡ length all) × (l.totals.steps + widths rest ≡ widths all)
