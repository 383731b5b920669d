-- Reading what was written, and writing what was read.
use Rattle.std.specs.Prelude.{◌≡◌, ℕ, List, [], ◌∷◌, Ok}
use Rattle.record.specs.declared.records.Record.{Record}
use Rattle.table.specs.Tables.{table_verdict, told_by}
use Rattle.deck.specs.Format.{Entry, transistor, remark, records_of}
use Rattle.deck.specs.Rules.{Accepted}
use Rattle.deck.specs.Verdicts.{deck_verdict, deck_entries, deck_tells}
use Rattle.writer.specs.Writing.{table_deck}

-- the remarks of a deck
abbrev pub remarks_of : List Entry → List (List ℕ)
remarks_of [] = []
remarks_of (transistor r ∷ es) = remarks_of es
remarks_of (remark bs ∷ es) = bs ∷ remarks_of es

-- the deck of a checked table is accepted, and reading it gives the table: its records, and what it tells
pub record ReadBack (rs : List Record) : Type 0 where
  pub accepted : table_verdict rs ≡ Ok tt → Accepted (table_deck rs)
  pub records : table_verdict rs ≡ Ok tt → records_of (deck_entries (deck_verdict (table_deck rs)) (table_deck rs)) ≡ rs
  pub tells : table_verdict rs ≡ Ok tt → deck_tells (deck_verdict (table_deck rs)) (table_deck rs) ≡ told_by (table_verdict rs) rs

-- where a checked table tells what an accepted deck without remarks told, its deck is that deck, byte for byte
abbrev pub WrittenAgain : List Record → Type 0
WrittenAgain rs = (bs : List ℕ) (a : Accepted bs) → remarks_of a.entries ≡ [] → table_verdict rs ≡ Ok tt → told_by (table_verdict rs) rs ≡ deck_tells (deck_verdict bs) bs → table_deck rs ≡ bs
