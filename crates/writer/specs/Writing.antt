-- What the writer makes of a table.
use Rattle.std.specs.Prelude.{ℕ, List, map, Ok, Err, Result}
use Rattle.refusal.specs.declared.refusal.Refusal.{Refusal}
use Rattle.refusal.specs.Written.{answer_of, buffer_after}
use Rattle.record.specs.declared.records.Record.{Record}
use Rattle.table.specs.Tables.{Verdict, table_verdict}
use Rattle.deck.specs.Format.{transistor, deck_bytes}

-- the deck that states these records, in order
abbrev pub table_deck : List Record → List ℕ
table_deck rs = deck_bytes (map transistor rs)

-- the check of the table comes first
abbrev pub checked_answer : Verdict → Result ℕ Refusal → Result ℕ Refusal
checked_answer (Ok u) answer = answer
checked_answer (Err x) answer = Err x

abbrev pub checked_buffer : Verdict → List ℕ → List ℕ → List ℕ
checked_buffer (Ok u) buf after = after
checked_buffer (Err x) buf after = buf

-- what the writer answers: the length of the deck, or a refusal
abbrev pub writer_answer : List Record → List ℕ → Result ℕ Refusal
writer_answer rs buf = checked_answer (table_verdict rs) (answer_of (table_deck rs) buf)

-- the buffer afterwards: the deck over its front, or as it was
abbrev pub writer_buffer : List Record → List ℕ → List ℕ
writer_buffer rs buf = checked_buffer (table_verdict rs) buf (buffer_after (table_deck rs) buf)
