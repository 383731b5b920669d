use Rattle.std.proofs.Common.{sym}
use Rattle.table.proofs.Checks.{step_some, step_none}
use Rattle.table.proofs.reading.TableCircuit.next.Goals as goal

pub returns-in_err-m : goal.returns-in_err-m
returns-in_err-m c =
    let t = c.args.self.now in
    let none = step_none t.verdict t.records.now c.args.cursor.now (sym c.in_err-m.ensures) in
    rw c.from_residual.ensures (none, none)

pub returns : goal.returns
returns c =
    let t = c.args.self.now in
    step_some t.verdict t.records.now c.args.cursor.now _ (sym c.in_ok-m.ensures)
