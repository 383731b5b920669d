use Rattle.std.proofs.Common.{length}
use Rattle.deck.specs.Passes.{Passed}
use Rattle.deck.proofs.checks.check_commands.Given as goal

abbrev pub invariant-loop-command : goal.invariant-loop-command
invariant-loop-command l = Passed l.fn.commands.rest.now l.left.rest.now l.left.offset l.transistors

abbrev pub decreases-loop-command : goal.decreases-loop-command
decreases-loop-command l = length l.left.rest.now
