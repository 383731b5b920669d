use Rattle.std.proofs.Common.{◌≡◌, map, take}
use Rattle.refusal.specs.Written.{over}
use Rattle.deck.specs.Format.{transistor, entries_bytes}
use Rattle.writer.proofs.put_transistors.Given as goal

-- the transistors so far stand at the front
abbrev pub invariant-loop-i : goal.invariant-loop-i
invariant-loop-i l = l.buf ≡ over (entries_bytes (map transistor (take l.i l.records))) l.initial.buf
