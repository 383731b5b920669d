use Rattle.std.proofs.Common.{refl}
use Rattle.deck.proofs.Readings.{deck_told}
use Rattle.deck.proofs.decks.Deck.new.Goals as goal

pub returns : goal.returns
returns c = record { bytes = refl; judged = c.check.ensures.rules; tells = deck_told c.args.bytes.now c.check.result c.check.ensures.value }
