-- A row that fits is told whole.
use Rattle.std.proofs.Common.{◌≡◌, ℕ, zero, suc, ◌+◌, ◌-◌, ◌*◌, ◌≤◌, cond, List, [], ◌∷◌, map, refl, arith}
use Rattle.std.proofs.lemmas.Grind.{common_steps}
use Rattle.net.specs.Mods.{Mod, widths}
use Rattle.row.specs.Rows.{as_instance, instances_from, narrow_front, row_fits, row_of, row_told}

instance_widths : (k : ℕ) (ms : List Mod) → widths (map (as_instance k) ms) ≡ widths ms
instance_widths k ms = grind (arith, common_steps)

-- instances are as wide as their cell, so many times
instances_widths : (k n : ℕ) (ms : List Mod) → widths (instances_from k n ms) ≡ n * widths ms
instances_widths k zero ms = grind (arith, common_steps)
instances_widths k (suc n) ms = grind (arith, common_steps, instance_widths k ms, instances_widths (k + 1) n ms)

-- a list that is narrow enough is its own narrow front
front_whole : (w : ℕ) (ms : List Mod) → widths ms ≤ w → narrow_front w ms ≡ ms
front_whole w [] h = refl
front_whole w (m ∷ ms) h = grind (arith, common_steps, front_whole (w - m.width) ms)

-- where as many are told as the rule says, the row tells what the rule says
pub told_row : (n told : ℕ) (ms : List Mod) → told ≡ cond (row_fits n ms) n 0 → row_told told ms ≡ row_of n ms
told_row n told ms e = grind (arith, common_steps, front_whole 1048320 (instances_from 0 n ms), instances_widths 0 n ms)
