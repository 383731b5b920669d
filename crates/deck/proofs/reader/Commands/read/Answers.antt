use Rattle.std.proofs.Common.{arith, ltb-false}
use Rattle.std.proofs.lemmas.Result.{err_from_is_err_and}
use Rattle.deck.proofs.Fronts.{front_begin, front_unknown, front_cut_transistor, front_cut_remark}
use Rattle.deck.proofs.reader.Commands.read.Goals as goal

pub returns-in-16 : goal.returns-in-16
returns-in-16 c = let s = c.args.self.now in front_begin s.offset s.rest.now (omega (arith, ltb-false)) c.in-16.is

pub returns-in_default-code : goal.returns-in_default-code
returns-in_default-code c =
    let s = c.args.self.now in
    front_unknown s.offset s.rest.now (omega (arith, ltb-false))
    (record { no_begin = λ e. omega arith; no_transistor = λ e. omega arith; no_remark = λ e. omega arith; no_end = λ e. omega arith })

pub returns-in_err-bytes-in-32 : goal.returns-in_err-bytes-in-32
returns-in_err-bytes-in-32 c =
    let s = c.args.self.now in
    let p = err_from_is_err_and c.from_residual.result c.from_residual.ensures.1 in
    rw (p.1, p.2) (front_cut_transistor s.offset s.rest.now (omega (arith, ltb-false)) _ c.in-32.is c.in_err-bytes-in-32.ensures)

pub returns-in_err-bytes-in-48 : goal.returns-in_err-bytes-in-48
returns-in_err-bytes-in-48 c =
    let s = c.args.self.now in
    let p = err_from_is_err_and c.from_residual-in_err-bytes-in-48.result c.from_residual-in_err-bytes-in-48.ensures.1 in
    rw (p.1, p.2) (front_cut_remark s.offset s.rest.now (omega (arith, ltb-false)) _ c.in-48.is c.in_err-bytes-in-48.ensures)
