use Rattle.std.proofs.Common.{◌≡◌, ◌+◌, length}
use Rattle.net.specs.Mods.{widths}
use Rattle.listing.proofs.totals.list_modules.Given as goal

-- what is told and what is still to be told are the whole circuit
abbrev pub invariant-loop-module : goal.invariant-loop-module
invariant-loop-module g l =
    let rest = g.C.Circuit.rest l.module-iterator.circuit.now l.module-iterator.cursor in
    let all = g.C.Circuit.list l.fn.circuit in
    (l.totals.modules + length rest ≡ length all) × (l.totals.steps + widths rest ≡ widths all)
