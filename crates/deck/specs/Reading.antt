-- What the reader of commands answers, and the modules that entries tell.
use Rattle.std.specs.Prelude.{◌≡◌, ℕ, ◌+◌, cond, List, [], ◌∷◌, length, take, drop, Some, None, Option}
use Rattle.net.specs.Mods.{Mod}
use Rattle.record.specs.Records.{fits, stated}
use Rattle.deck.specs.declared.commands.Command.{Command}
use Rattle.deck.specs.declared.commands.Command.TheVariants.{Transistor, Remark, End}
use Rattle.deck.specs.Format.{Entry, transistor, remark}
use Rattle.deck.specs.Verdicts.{entries_in}

-- the command is the first of these entries, and the others stand behind it
abbrev pub First : Command → List Entry → List Entry → Type 0
First (Transistor r) es rest = es ≡ transistor r ∷ rest
First (Remark at bytes) es rest = es ≡ remark bytes.now ∷ rest
First End es rest = ⊥

-- a remark that is handed out is 16 bytes of the deck, at its offset
abbrev pub Lent : List ℕ → Command → Type 0
Lent deck (Remark at bytes) = (bytes.now ≡ take 16 (drop at deck)) × (length bytes.now ≡ 16)
Lent deck (Transistor r) = Unit {0}
Lent deck End = Unit {0}

-- one step of the reader over these bytes, which stand at that offset of a deck
abbrev pub Reads : List ℕ → ℕ → Option Command → List ℕ → ℕ → Type 0
Reads bs offset None bs' offset' = (entries_in 0 bs ≡ []) × (bs' ≡ bs) × (offset' ≡ offset)
Reads bs offset (Some c) bs' offset' = First c (entries_in 0 bs) (entries_in 0 bs') × (offset' ≡ offset + 17) × ((deck : List ℕ) → bs ≡ drop offset deck → (bs' ≡ drop offset' deck) × Lent deck c)

-- the modules that the transistors in range among the entries state
abbrev pub told : List Entry → List Mod
told [] = []
told (transistor r ∷ es) = cond (fits r) (stated r ∷ told es) (told es)
told (remark bs ∷ es) = told es
