use Rattle.std.proofs.Common.{sym, ◌∙◌}
use Rattle.writer.proofs.Pieces.{writer_short, writer_room, writer_done}
use Rattle.writer.proofs.Trips.{read_back, written_again}
use Rattle.writer.proofs.write_deck.Goals as goal

pub returns-then-buf-needed : goal.returns-then-buf-needed
returns-then-buf-needed c =
    let rs = c.args.table.now.records.now in
    let w = writer_short rs c.records-records.result.now c.args.buf.now c.records-records.ensures (sym c.check.ensures ∙ c.in_ok-check.was) c.if-buf-needed.true in
    record { answer = w.0; after = w.1; back = read_back rs; again = written_again rs }

pub put_deck-requires : goal.put_deck-requires
put_deck-requires c =
    writer_room c.args.table.now.records.now c.records-records.result.now c.args.buf.now c.records-records.ensures (sym c.check.ensures ∙ c.in_ok-check.was) c.if-buf-needed.false

pub returns : goal.returns
returns c =
    let rs = c.args.table.now.records.now in
    let w = writer_done rs c.records-records.result.now c.args.buf.now c.records-records.ensures (sym c.check.ensures ∙ c.in_ok-check.was) c.put_deck.new.buf c.if-buf-needed.false c.put_deck.ensures in
    record { answer = w.0; after = w.1; back = read_back rs; again = written_again rs }
