-- What a deck tells, by its written form.
use Rattle.std.specs.Prelude.{◌≡◌, ℕ, List, [], map}
use Rattle.refusal.specs.declared.refusal.Refusal.{Refusal}
use Rattle.net.specs.Mods.{Mod}
use Rattle.record.specs.Records.{stated}
use Rattle.deck.specs.Format.{records_of}
use Rattle.deck.specs.Rules.{Accepted, Refused}

-- the modules that the transistors of an accepted deck state, in order, and none of a refused one
pub record Told (bs : List ℕ) (ms : List Mod) : Type 0 where
  pub accepted : (a : Accepted bs) → ms ≡ map stated (records_of a.entries)
  pub refused : (x : Refusal) → Refused bs x → ms ≡ []
