use Rattle.deck.proofs.Readings.{told_accepted}
use Rattle.deck.proofs.reading.DeckCircuit.begin.Goals as goal

pub returns : goal.returns
returns c =
    let d = c.args.self.now in
    told_accepted d.verdict d.bytes.now c.commands.result.rest.now d.checked c.commands.ensures.entries
