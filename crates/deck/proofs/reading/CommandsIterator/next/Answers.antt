use Rattle.std.proofs.Common.{refl, rules}
use Rattle.deck.specs.Verdicts.{entries_in}
use Rattle.deck.proofs.Readings.{read_step, end_none, unreadable_none, first_length}
use Rattle.deck.proofs.reading.CommandsIterator.next.Goals as goal

pub returns-in_default-clause-steps : goal.returns-in_default-clause-steps
returns-in_default-clause-steps c = (unreadable_none c.args.self.now.rest.now c.args.self.now.offset _ c.in_default.ensures, refl, refl)

pub returns-in-End-clause-steps : goal.returns-in-End-clause-steps
returns-in-End-clause-steps c =
    let s = c.args.self.now in
    (end_none s.rest.now s.offset c.in-Ok.command c.in-Ok.behind.rest.now c.in-Ok.behind.offset c.in-Ok.ensures c.in-End.is, refl, refl)

pub returns : goal.returns
returns c =
    let s = c.args.self.now in
    let step = read_step s.rest.now s.offset c.in-Ok.command c.in-Ok.behind.rest.now c.in-Ok.behind.offset c.in-Ok.ensures c.in_default-command.not-End in
    let fewer = first_length c.in-Ok.command (entries_in 0 s.rest.now) (entries_in 0 c.in-Ok.behind.rest.now) step.0 in
    record { steps = step; goes = search rules }
