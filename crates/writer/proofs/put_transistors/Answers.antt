use Rattle.std.proofs.Common.{◌∙◌}
use Rattle.writer.proofs.Pieces.{put_step}
use Rattle.writer.proofs.put_transistors.Goals as goal

pub loop-i-preserved : goal.loop-i-preserved
loop-i-preserved c =
    put_step c.args.records.now c.loop-i.i _ c.loop-i.buf c.args.buf.now c.copy_from_slice.new.self
    c.loop-i-test.true c.loop-i.invariant (c.copy_from_slice.ensures.after ∙ c.transistor_bytes.ensures)
