-- What a record states, and when its numbers keep the ranges.
use Rattle.std.specs.Prelude.{◌≡◌, ℕ, Bool, true, false, cond, not, ◌&&◌, ◌||◌, ◌==◌, nat_le, nat_lt, Result, MatchResult}
use Rattle.net.specs.Nets.{number_net}
use Rattle.net.specs.Mods.{Mod, number_told}
use Rattle.net.specs.Numbers.{kind_fits, kind_of_number, side_number_fits, side_of_number}
use Rattle.net.specs.declared.keys.NumberKey.{NumberKey}
use Rattle.net.specs.declared.modules.Module.{Module}
use Rattle.record.specs.declared.field.Field.{Field}
use Rattle.record.specs.declared.field.Field.TheVariants.{Kind as KindField, Width as WidthField, Side as SideField}
use Rattle.record.specs.declared.records.Record.{Record}

abbrev pub width_fits : ℕ → Bool
width_fits width = nat_le 1 width && nat_le width 4095

-- right needs a pair number other than 0
abbrev pub side_fits : ℕ → ℕ → Bool
side_fits pair side = side_number_fits side && (not (pair == 0) || side == 0)

-- the numbers of the record keep the ranges
abbrev pub fits : Record → Bool
fits r = kind_fits r.kind && (width_fits r.width && (nat_lt r.tag 65536 && (nat_lt r.pair 65536 && side_fits r.pair r.side)))

-- the first field that is out of range, where one is
abbrev pub first_unfit : Record → Field
first_unfit r = cond (kind_fits r.kind) (cond (width_fits r.width) SideField WidthField) KindField

-- the module that the record states
abbrev pub stated : Record → Mod
stated r = record {
  kind = kind_of_number r.kind;
  body = number_net r.body;
  gate = number_net r.gate;
  source = number_net r.source;
  drain = number_net r.drain;
  width = r.width;
  tag = r.tag;
  pair = r.pair;
  side = side_of_number r.side;
}

-- the result is the module that the record states, or its first field that is out of range
abbrev pub ReadsRecord : Record → Result (Module NumberKey) Field → Type 0
ReadsRecord d r = MatchResult r (λ m. (fits d ≡ true) × (number_told m ≡ stated d)) (λ f. (fits d ≡ false) × (f ≡ first_unfit d))
