-- A number on the command line.
use Rattle.std.specs.Prelude.{ℕ, ◌^◌, ◌<◌, List, Option}
use Rattle.std.specs.Option.{SomeIff}
use Rattle.std.specs.Str.Parse.{IsNumeral, digits_value}

-- the number that the text writes in decimal digits, or none where there is another character, or no digit, or the
-- number needs more bits
abbrev pub Reads : ℕ → List ℕ → Option ℕ → Type 0
Reads bits text r = SomeIff r (IsNumeral 10 text × (digits_value 10 text < 2 ^ bits)) (digits_value 10 text)
