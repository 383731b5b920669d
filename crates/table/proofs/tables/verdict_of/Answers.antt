use Rattle.std.proofs.Common.{Some, None}
use Rattle.table.proofs.Checks.{verdict_place}
use Rattle.table.proofs.tables.verdict_of.Goals as goal

pub returns-in-Some : goal.returns-in-Some
returns-in-Some c = verdict_place c.args.records.now (Some c.in-Some.place) c.if-records-gt-MOST_TRANSISTORS.false c.in-Some.ensures

pub returns-in-None : goal.returns-in-None
returns-in-None c = verdict_place c.args.records.now None c.if-records-gt-MOST_TRANSISTORS.false c.in-None.ensures
