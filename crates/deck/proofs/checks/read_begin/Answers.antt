use Rattle.std.proofs.Common.{arith, ltb-false}
use Rattle.deck.proofs.Judges.{unopened_byte, unopened_edition}
use Rattle.deck.proofs.checks.read_begin.Goals as goal

pub returns-then-code-ne-BEGIN : goal.returns-then-code-ne-BEGIN
returns-then-code-ne-BEGIN c = unopened_byte c.args.bytes.now (omega (arith, ltb-false)) c.if-code-ne-BEGIN.true

pub returns-then-edition-ne-EDITION : goal.returns-then-edition-ne-EDITION
returns-then-edition-ne-EDITION c = unopened_edition c.args.bytes.now (omega (arith, ltb-false)) c.if-code-ne-BEGIN.false (omega (arith, ltb-false)) c.if-edition-ne-EDITION.true
