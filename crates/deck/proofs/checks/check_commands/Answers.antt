use Rattle.std.proofs.lemmas.Result.{err_from_is_err_and}
use Rattle.deck.proofs.Judges.{passed_transistor, passed_remark, stopped_unreadable, stopped_transistor, ended}
use Rattle.deck.proofs.checks.check_commands.Goals as goal

pub returns-in_err-command : goal.returns-in_err-command
returns-in_err-command c =
    let p = err_from_is_err_and c.from_residual.result c.from_residual.ensures.1 in
    rw (p.1, p.2) (stopped_unreadable _ _ _ _ c.loop-command.invariant _ c.in_err-command.ensures)

pub returns-in_err-check_transistor-in-Transistor : goal.returns-in_err-check_transistor-in-Transistor
returns-in_err-check_transistor-in-Transistor c =
    let p = err_from_is_err_and c.from_residual-in_err-check_transistor-in-Transistor.result c.from_residual-in_err-check_transistor-in-Transistor.ensures.1 in
    rw (p.1, p.2) (stopped_transistor _ _ _ _ c.loop-command.invariant _ _ _ c.in_ok-command.ensures _ _ c.in-Transistor.is c.in_err-check_transistor-in-Transistor.ensures)

pub returns-in-End : goal.returns-in-End
returns-in-End c = ended _ _ _ _ c.loop-command.invariant _ _ _ c.in_ok-command.ensures _ c.in-End.is c.check_end.ensures

pub loop-command-preserved-in_ok-check_transistor-in-Transistor :
    goal.loop-command-preserved-in_ok-check_transistor-in-Transistor
loop-command-preserved-in_ok-check_transistor-in-Transistor c =
    passed_transistor _ _ _ _ c.loop-command.invariant _ _ _ c.in_ok-command.ensures _ c.in-Transistor.is c.in_ok-check_transistor-in-Transistor.ensures

pub loop-command-preserved : goal.loop-command-preserved
loop-command-preserved c = passed_remark _ _ _ _ c.loop-command.invariant _ _ _ c.in_ok-command.ensures _ _ c.in-Remark.is
