use Rattle.std.proofs.Common.{arith}
use Rattle.std.proofs.lemmas.Grind.{common_steps}
use Rattle.circuit.proofs.Lengths.{lawful_length}
use Rattle.listing.proofs.totals.list_modules.Goals as goal

-- a circuit has no more modules and widths than 32 bits hold
pub and-totals-requires-clause-place : goal.and-totals-requires-clause-place
and-totals-requires-clause-place g c =
    let few = lawful_length _ (g.C.Circuit.lawful c.args.circuit.now) in
    omega (arith, c.loop-module.invariant)

pub and-totals-requires-clause-room : goal.and-totals-requires-clause-room
and-totals-requires-clause-room g c =
    let narrow = (g.C.Circuit.lawful c.args.circuit.now).total in
    grind (arith, common_steps)
