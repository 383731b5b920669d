use Rattle.std.proofs.Common.{refl}
use Rattle.std.proofs.lemmas.Result.{err_from_is_err_and}
use Rattle.deck.specs.Rules.{Refused}
use Rattle.deck.proofs.Judges.{refused_answer, checked_answer_lem}
use Rattle.deck.proofs.checks.check.Goals as goal

pub returns-then-bytes-gt-MOST_BYTES : goal.returns-then-bytes-gt-MOST_BYTES
returns-then-bytes-gt-MOST_BYTES c =
    let a = refused_answer c.args.bytes.now _ (Refused.too_long c.if-bytes-gt-MOST_BYTES.true refl) in
    record { value = a.value; rules = a.rules }

pub returns-in_err-commands : goal.returns-in_err-commands
returns-in_err-commands c =
    let p = err_from_is_err_and c.from_residual.result c.from_residual.ensures.1 in
    let a = refused_answer c.args.bytes.now _ (Refused.unopened c.if-bytes-gt-MOST_BYTES.false c.in_err-commands.ensures) in
    rw (p.1, p.2) (record { value = a.value; rules = a.rules })

pub returns : goal.returns
returns c =
    let a = checked_answer_lem c.args.bytes.now c.in_ok-commands.commands.rest.now c.check_commands.result c.if-bytes-gt-MOST_BYTES.false c.in_ok-commands.ensures.0 c.check_commands.ensures in
    record { value = a.value; rules = a.rules }
