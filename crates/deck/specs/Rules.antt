-- Which decks are accepted, and which are refused, with what.
use Rattle.std.specs.Prelude.{◌≡◌, ℕ, ◌+◌, ◌<◌, ◌≤◌, false, List, [], ◌∷◌, ◌++◌, length, Ok, Err, ◌≢◌}
use Rattle.std.specs.List.{AllByRecursion}
use Rattle.refusal.specs.declared.refusal.Refusal.{Refusal}
use Rattle.refusal.specs.declared.refusal.Refusal.TheVariants.{TooLong, UnknownCommand, CutShort, OutOfOrder, OutOfRange, TooManyTransistors}
use Rattle.record.specs.declared.records.Record.{Record}
use Rattle.record.specs.Records.{fits, first_unfit}
use Rattle.table.specs.Tables.{Verdict}
use Rattle.deck.specs.Format.{Entry, Keeps, operands, operand_offset, entries_bytes, deck_bytes, records_of}

-- the entries keep the rules, and no more than 256 of them are transistors
pub record Sound (es : List Entry) : Type 0 where
  pub keep : AllByRecursion Keeps es
  pub few : length (records_of es) ≤ 256

-- the bytes are the written form of entries that keep the rules
pub record Accepted (bs : List ℕ) : Type 0 where
  pub entries : List Entry
  pub sound : Sound entries
  pub short : length bs ≤ 16384
  pub written : bs ≡ deck_bytes entries

-- the byte is that of no command
pub record NoCommand (b : ℕ) : Type 0 where
  pub no_begin : b ≡ 0x10 → ⊥
  pub no_transistor : b ≡ 0x20 → ⊥
  pub no_remark : b ≡ 0x30 → ⊥
  pub no_end : b ≡ 0x7F → ⊥

-- no whole command stands at the front of these bytes, which stand at that offset of the deck and run to its end
pub data Unreadable (offset : ℕ) (bs : List ℕ) (x : Refusal) : Type 0 where
  no_byte : bs ≡ [] → x ≡ CutShort offset → Unreadable offset bs x
  begin_again : (rest : List ℕ) → bs ≡ 0x10 ∷ rest → x ≡ OutOfOrder offset → Unreadable offset bs x
  unknown : (b : ℕ) (rest : List ℕ) → bs ≡ b ∷ rest → NoCommand b → x ≡ UnknownCommand offset → Unreadable offset bs x
  cut_transistor : (rest : List ℕ) → bs ≡ 0x20 ∷ rest → length rest < 16 → x ≡ CutShort (offset + length bs) → Unreadable offset bs x
  cut_remark : (rest : List ℕ) → bs ≡ 0x30 ∷ rest → length rest < 16 → x ≡ CutShort (offset + length bs) → Unreadable offset bs x

-- the command at the front of these bytes is refused, where n transistors stand before it
pub data Stops (n offset : ℕ) (bs : List ℕ) (x : Refusal) : Type 0 where
  unreadable : Unreadable offset bs x → Stops n offset bs x
  too_many : (r : Record) (rest : List ℕ) → bs ≡ 0x20 ∷ (operands r ++ rest) → 256 ≤ n → x ≡ TooManyTransistors offset → Stops n offset bs x
  unfit : (r : Record) (rest : List ℕ) → bs ≡ 0x20 ∷ (operands r ++ rest) → n < 256 → fits r ≡ false → x ≡ OutOfRange (offset + 1 + operand_offset (first_unfit r)) → Stops n offset bs x
  behind_end : (b : ℕ) (rest : List ℕ) → bs ≡ 0x7F ∷ b ∷ rest → x ≡ OutOfOrder (offset + 1) → Stops n offset bs x

-- the deck does not open with begin and edition 1
pub data Unopened (bs : List ℕ) (x : Refusal) : Type 0 where
  no_byte : bs ≡ [] → x ≡ CutShort 0 → Unopened bs x
  no_begin : (b : ℕ) (rest : List ℕ) → bs ≡ b ∷ rest → (b ≢ 0x10) → x ≡ OutOfOrder 0 → Unopened bs x
  no_edition : bs ≡ 0x10 ∷ [] → x ≡ CutShort 1 → Unopened bs x
  other_edition : (e : ℕ) (rest : List ℕ) → bs ≡ 0x10 ∷ e ∷ rest → (e ≢ 1) → x ≡ OutOfRange 1 → Unopened bs x

-- the deck is refused with x: it is too long, does not open, or some command behind sound entries is refused
pub data Refused (bs : List ℕ) (x : Refusal) : Type 0 where
  too_long : 16384 < length bs → x ≡ TooLong (length bs) → Refused bs x
  unopened : length bs ≤ 16384 → Unopened bs x → Refused bs x
  stopped : (es : List Entry) (rest : List ℕ) → length bs ≤ 16384 → Sound es → bs ≡ 0x10 ∷ 1 ∷ (entries_bytes es ++ rest) → Stops (length (records_of es)) (2 + length (entries_bytes es)) rest x → Refused bs x

-- an answer of the check is right: it is the one that the rules give, and the rules give no other
pub record Judged (bs : List ℕ) (v : Verdict) : Type 0 where
  pub accepted : v ≡ Ok tt → Accepted bs
  pub accepts : Accepted bs → v ≡ Ok tt
  pub refused : (x : Refusal) → v ≡ Err x → Refused bs x
  pub refuses : (x : Refusal) → Refused bs x → v ≡ Err x
