use Rattle.std.proofs.Common.{sym, ◌∙◌}
use Rattle.table.specs.Lawfuls.{table_checked}
use Rattle.table.proofs.tables.Table.accepted.Goals as goal

pub returns-in-Ok-clause-fit : goal.returns-in-Ok-clause-fit
returns-in-Ok-clause-fit c = let t = c.args.self.now in (table_checked t.records.now (sym t.checked ∙ c.in-Ok.is)).fit
