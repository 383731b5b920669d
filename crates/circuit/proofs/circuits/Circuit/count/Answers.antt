use Rattle.std.proofs.Common.{ap, length, arith}
use Rattle.circuit.proofs.Lengths.{lawful_length}
use Rattle.circuit.proofs.circuits.Circuit.count.Goals as goal

pub overflow_add-n : goal.overflow_add-n
overflow_add-n g c =
    let t = c.in-Some.ensures in
    omega (arith, c.loop-m.invariant, ap length t, lawful_length _ (g.Self.Circuit.lawful c.args.self.now))
