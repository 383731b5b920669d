-- A pass over the commands behind begin: how far it has come, and how it ends.
use Rattle.std.specs.Prelude.{◌≡◌, ℕ, ◌+◌, List, [], ◌∷◌, ◌++◌, length}
use Rattle.refusal.specs.declared.refusal.Refusal.{Refusal}
use Rattle.deck.specs.Format.{Entry, entries_bytes, records_of}
use Rattle.deck.specs.Rules.{Sound, Stops}

-- sound entries stand before the rest, which is at that offset of the deck; n of them are transistors
pub record Passed (bs rest : List ℕ) (offset n : ℕ) : Type 0 where
  pub entries : List Entry
  pub sound : Sound entries
  pub written : bs ≡ entries_bytes entries ++ rest
  pub place : offset ≡ 2 + length (entries_bytes entries)
  pub many : n ≡ length (records_of entries)

-- sound entries stand before end, which is the last byte
pub record Ended (bs : List ℕ) : Type 0 where
  pub entries : List Entry
  pub sound : Sound entries
  pub written : bs ≡ entries_bytes entries ++ (0x7F ∷ [])

-- a command behind sound entries is refused
pub record Stopped (bs : List ℕ) (x : Refusal) : Type 0 where
  pub rest : List ℕ
  pub offset : ℕ
  pub before : ℕ
  pub passed : Passed bs rest offset before
  pub stops : Stops before offset rest x
