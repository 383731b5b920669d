use Rattle.std.proofs.Common.{◌≡◌, length}
use Rattle.deck.specs.Reading.{told}
use Rattle.deck.specs.Verdicts.{entries_in}
use Rattle.deck.proofs.reading.DeckCircuit.next.Given as goal

-- what was passed tells nothing
abbrev pub invariant-loop-command : goal.invariant-loop-command
invariant-loop-command l = told (entries_in 0 l.initial.cursor.rest.now) ≡ told (entries_in 0 l.cursor.rest.now)

abbrev pub decreases-loop-command : goal.decreases-loop-command
decreases-loop-command l = length (entries_in 0 l.cursor.rest.now)
