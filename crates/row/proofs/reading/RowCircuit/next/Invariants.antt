use Rattle.std.proofs.Common.{◌≡◌, ◌-◌}
use Rattle.row.specs.Rows.{row_rest}
use Rattle.row.proofs.reading.RowCircuit.next.Given as goal

-- what is left is what was left before the loop
abbrev pub invariant-loop-cursor : goal.invariant-loop-cursor
invariant-loop-cursor g l =
    let ms = g.C.Circuit.list l.self.cell in
    let rest = g.C.Circuit.rest l.self.cell in
    row_rest l.initial.cursor.room l.initial.cursor.instance l.self.told (rest l.initial.cursor.cell) ms ≡ row_rest l.cursor.room l.cursor.instance l.self.told (rest l.cursor.cell) ms

abbrev pub decreases-loop-cursor : goal.decreases-loop-cursor
decreases-loop-cursor g l = l.self.told - l.cursor.instance
