-- Which modules the width layer keeps. The class layer keeps a class as the modules define it.
use Rattle.std.specs.Prelude.{ℕ, Bool, ◌&&◌, nat_le}
use Rattle.net.specs.Mods.{Mod}

-- the width is at least the lowest and at most the highest
abbrev pub in_widths : ℕ → ℕ → Mod → Bool
in_widths lowest highest m = nat_le lowest m.width && nat_le m.width highest
