use Rattle.writer.proofs.Pieces.{put_whole, end_room, text_room}
use Rattle.writer.proofs.put_deck.Goals as goal

pub put_transistors-requires : goal.put_transistors-requires
put_transistors-requires c = text_room c.args.records.now c.args.buf.now c.requires

pub bounds-buf-records : goal.bounds-buf-records
bounds-buf-records c = end_room c.args.records.now c.args.buf.now c.put_transistors.new.buf c.requires c.put_transistors.ensures

pub returns : goal.returns
returns c = put_whole c.args.records.now c.args.buf.now c.put_transistors.new.buf c.requires c.put_transistors.ensures
