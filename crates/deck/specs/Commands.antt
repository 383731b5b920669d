-- What a command that was read says of the bytes.
use Rattle.std.specs.Prelude.{◌≡◌, ℕ, ◌+◌, List, ◌∷◌, ◌++◌, length}
use Rattle.deck.specs.declared.commands.Command.{Command}
use Rattle.deck.specs.declared.commands.Command.TheVariants.{Transistor, Remark, End}
use Rattle.deck.specs.Format.{operands}

-- these bytes, at that offset of a deck, are the written form of the command and then the rest
abbrev pub Says : List ℕ → ℕ → Command → List ℕ → Type 0
Says bs offset (Transistor r) rest = bs ≡ 0x20 ∷ (operands r ++ rest)
Says bs offset (Remark at bytes) rest = (bs ≡ 0x30 ∷ (bytes.now ++ rest)) × (length bytes.now ≡ 16) × (at ≡ offset + 1)
Says bs offset End rest = bs ≡ 0x7F ∷ rest

-- what reading these bytes at that offset gives: the command, and the rest, which stands behind it
pub record Gives (bs : List ℕ) (offset : ℕ) (c : Command) (rest : List ℕ) (behind : ℕ) : Type 0 where
  pub says : Says bs offset c rest
  pub further : behind + length rest ≡ offset + length bs
