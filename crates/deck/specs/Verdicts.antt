-- What the check of a deck answers, and what a deck tells, computed from its bytes.
use Rattle.std.specs.Prelude.{ℕ, zero, suc, ◌+◌, ◌*◌, cond, List, [], ◌∷◌, map, length, take, Ok, Err, ◌==◌, nat_le, nat_lt, slice_index}
use Rattle.refusal.specs.declared.refusal.Refusal.TheVariants.{TooLong, UnknownCommand, CutShort, OutOfOrder, OutOfRange, TooManyTransistors}
use Rattle.net.specs.Mods.{Mod}
use Rattle.record.specs.declared.records.Record.{Record}
use Rattle.record.specs.Records.{fits, first_unfit, stated}
use Rattle.table.specs.Tables.{Verdict}
use Rattle.deck.specs.Format.{Entry, transistor, remark, operand_offset, records_of}

-- the number of two bytes, high byte first, at that index
abbrev pub word_at : List ℕ → ℕ → ℕ → ℕ
word_at bs i j = slice_index bs i * 256 + slice_index bs j

-- the record that 16 operand bytes state
abbrev pub record_at : List ℕ → Record
record_at bs = record {
  kind = slice_index bs 0;
  body = word_at bs 1 2;
  gate = word_at bs 3 4;
  source = word_at bs 5 6;
  drain = word_at bs 7 8;
  width = word_at bs 9 10;
  tag = word_at bs 11 12;
  pair = word_at bs 13 14;
  side = slice_index bs 15;
}

-- end is the last byte
abbrev pub at_end : ℕ → List ℕ → Verdict
at_end offset [] = Ok tt
at_end offset (b ∷ bs) = Err (OutOfOrder offset)

-- a transistor, behind n others: what follows if it is accepted
abbrev pub transistor_verdict : ℕ → ℕ → Record → Verdict → Verdict
transistor_verdict n offset r next = cond (nat_lt n 256) (cond (fits r) next (Err (OutOfRange (offset + 1 + operand_offset (first_unfit r))))) (Err (TooManyTransistors offset))

-- a command of that byte with left bytes behind it: what follows if it is a transistor, a remark or end
abbrev pub command_verdict : ℕ → ℕ → ℕ → Verdict → Verdict → Verdict → Verdict
command_verdict b offset left on_transistor on_remark on_end =
    cond (b == 0x20) (cond (nat_le 16 left) on_transistor (Err (CutShort (offset + 1 + left))))
    (cond (b == 0x30) (cond (nat_le 16 left) on_remark (Err (CutShort (offset + 1 + left))))
    (cond (b == 0x7F) on_end
    (cond (b == 0x10) (Err (OutOfOrder offset)) (Err (UnknownCommand offset)))))

-- what the check answers of these bytes of that offset, behind n transistors and k operand bytes that are passed over
unfoldable pub commands_verdict : ℕ → ℕ → ℕ → List ℕ → Verdict
commands_verdict n k offset [] = Err (CutShort offset)
commands_verdict n zero offset (b ∷ bs) =
    command_verdict b offset (length bs)
    (transistor_verdict n offset (record_at bs) (commands_verdict (n + 1) 16 (offset + 1) bs))
    (commands_verdict n 16 (offset + 1) bs)
    (at_end (offset + 1) bs)
commands_verdict n (suc k) offset (b ∷ bs) = commands_verdict n k (offset + 1) bs

-- begin, and edition 1
abbrev pub opening_verdict : List ℕ → Verdict
opening_verdict [] = Err (CutShort 0)
opening_verdict (b ∷ []) = cond (b == 0x10) (Err (CutShort 1)) (Err (OutOfOrder 0))
opening_verdict (b ∷ e ∷ bs) = cond (b == 0x10) (cond (e == 1) (commands_verdict 0 0 2 bs) (Err (OutOfRange 1))) (Err (OutOfOrder 0))

-- what the check of a deck answers
unfoldable pub deck_verdict : List ℕ → Verdict
deck_verdict bs = cond (nat_lt 16384 (length bs)) (Err (TooLong (length bs))) (opening_verdict bs)

-- the entry of that byte with these bytes behind it, before the others; nothing, where no whole entry stands there
abbrev pub entry_then : ℕ → List ℕ → List Entry → List Entry
entry_then b bs next = cond (nat_le 16 (length bs)) (cond (b == 0x20) (transistor (record_at bs) ∷ next) (cond (b == 0x30) (remark (take 16 bs) ∷ next) [])) []

-- the entries behind k operand bytes that are passed over, up to end
unfoldable pub entries_in : ℕ → List ℕ → List Entry
entries_in k [] = []
entries_in zero (b ∷ bs) = entry_then b bs (entries_in 16 bs)
entries_in (suc k) (b ∷ bs) = entries_in k bs

-- where the commands of a deck begin: behind begin, or at its end, if its check refuses it
abbrev pub commands_offset : Verdict → List ℕ → ℕ
commands_offset (Ok u) bs = 2
commands_offset (Err x) bs = length bs

-- the entries of a deck: none, if its check refuses it
abbrev pub deck_entries : Verdict → List ℕ → List Entry
deck_entries (Ok u) bs = entries_in 2 bs
deck_entries (Err x) bs = []

-- what a deck tells
abbrev pub deck_tells : Verdict → List ℕ → List Mod
deck_tells v bs = map stated (records_of (deck_entries v bs))
