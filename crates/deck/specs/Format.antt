-- The written form of a deck.
use Rattle.std.specs.Prelude.{◌≡◌, ℕ, ◌/◌, ◌%◌, true, List, [], ◌∷◌, ◌++◌, length}
use Rattle.std.specs.List.{flat_map}
use Rattle.record.specs.declared.field.Field.{Field}
use Rattle.record.specs.declared.field.Field.TheVariants.{Kind, Width, Side}
use Rattle.record.specs.declared.records.Record.{Record}
use Rattle.record.specs.Records.{fits}

-- what stands between begin and end: a transistor, or a remark of bytes
pub data Entry : Type 0 where
  transistor : Record → Entry
  remark : List ℕ → Entry

-- a number of two bytes, high byte first
abbrev pub word : ℕ → List ℕ
word n = n / 256 ∷ n % 256 ∷ []

-- the operands of a transistor
abbrev pub operands : Record → List ℕ
operands r = r.kind ∷ (word r.body ++ (word r.gate ++ (word r.source ++ (word r.drain ++ (word r.width ++ (word r.tag ++ (word r.pair ++ (r.side ∷ []))))))))

-- where a field begins among the operands
abbrev pub operand_offset : Field → ℕ
operand_offset Kind = 0
operand_offset Width = 9
operand_offset Side = 15

abbrev pub entry_bytes : Entry → List ℕ
entry_bytes (transistor r) = 0x20 ∷ operands r
entry_bytes (remark bs) = 0x30 ∷ bs

abbrev pub entries_bytes : List Entry → List ℕ
entries_bytes = flat_map entry_bytes

-- begin with edition 1, the entries, end
abbrev pub deck_bytes : List Entry → List ℕ
deck_bytes es = 0x10 ∷ 1 ∷ (entries_bytes es ++ (0x7F ∷ []))

-- the records of the transistors, in order
abbrev pub records_of : List Entry → List Record
records_of [] = []
records_of (transistor r ∷ es) = r ∷ records_of es
records_of (remark bs ∷ es) = records_of es

-- an entry keeps the rules: the fields of a transistor are in range, a remark has 16 bytes
abbrev pub Keeps : Entry → Type 0
Keeps (transistor r) = fits r ≡ true
Keeps (remark bs) = length bs ≡ 16
