-- A module over nets, the ranges that it keeps, and what holds of the list of every circuit.
use Rattle.std.specs.Prelude.{◌≡◌, ℕ, ◌<◌, ◌≤◌, Option, None, Some, List, sum_by}
use Rattle.std.specs.List.{AllByRecursion}
use Rattle.std.specs.NonZero.{non_zero_u16_get}
use Rattle.net.specs.Nets.{Net, number_net, instance_net}
use Rattle.net.specs.declared.keys.NumberKey.{NumberKey}
use Rattle.net.specs.declared.keys.InstanceKey.{InstanceKey}
use Rattle.net.specs.declared.modules.Kind.{Kind}
use Rattle.net.specs.declared.modules.Side.{Side}
use Rattle.net.specs.declared.modules.Side.TheVariants.{Left}
use Rattle.net.specs.declared.modules.Pairing.{Pairing}
use Rattle.net.specs.declared.modules.Module.{Module}

-- one finger of one transistor, by its nets. Pair number 0 is unpaired
pub record Mod : Type 0 where
  pub kind : Kind
  pub body : Net
  pub gate : Net
  pub source : Net
  pub drain : Net
  pub width : ℕ
  pub tag : ℕ
  pub pair : ℕ
  pub side : Side

-- the pair number of a pairing, 0 for none
abbrev pub pair_of : Option Pairing → ℕ
pair_of None = 0
pair_of (Some p) = non_zero_u16_get p.number

-- the side of a pairing, left for none
abbrev pub side_of : Option Pairing → Side
side_of None = Left
side_of (Some p) = p.side

-- what a module means under the net of each key
abbrev pub meaning : {K : Type 0} → (K → Net) → Module K → Mod
meaning net m = record {
  kind = m.kind;
  body = net m.body;
  gate = net m.gate;
  source = net m.source;
  drain = net m.drain;
  width = m.width.steps;
  tag = m.tag;
  pair = pair_of m.pairing;
  side = side_of m.pairing;
}

-- what a module with number keys means, and one with instance keys
abbrev pub number_told : Module NumberKey → Mod
number_told m = meaning (λ (k : NumberKey). number_net k.0) m

abbrev pub instance_told : Module InstanceKey → Mod
instance_told m = meaning (λ (k : InstanceKey). instance_net k.instance k.number) m

-- the ranges of a module's numbers
pub record InRange (m : Mod) : Type 0 where
  pub least : 1 ≤ m.width
  pub most : m.width ≤ 4095
  pub tag : m.tag < 65536
  pub pair : m.pair < 65536
  pub alone : m.pair ≡ 0 → m.side ≡ Left

-- the widths of all modules, added up
abbrev pub widths : List Mod → ℕ
widths ms = sum_by (λ m. m.width) ms

-- what holds of the list of every circuit
pub record Lawful (ms : List Mod) : Type 0 where
  pub each : AllByRecursion InRange ms
  pub total : widths ms ≤ 1048320
