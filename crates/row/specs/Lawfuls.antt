-- What a row tells keeps the ranges and the total width.
use Rattle.std.specs.Prelude.{ℕ, zero, suc, ◌+◌, ◌-◌, ◌≤◌, List, [], ◌∷◌, map}
use Rattle.std.proofs.Common.{arith}
use Rattle.std.specs.List.{AllByRecursion}
use Rattle.std.proofs.ByRecursion.{All-append, All-map, All-weaker}
use Rattle.std.proofs.lemmas.Grind.{common_steps}
use Rattle.net.specs.Mods.{Mod, InRange, Lawful, widths}
use Rattle.row.specs.Rows.{as_instance, instances_from, narrow_front, row_told}

instance_range : (i : ℕ) (m : Mod) → InRange m → InRange (as_instance i m)
instance_range i m r = record { least = r.least; most = r.most; tag = r.tag; pair = r.pair; alone = r.alone }

instances_range : (k n : ℕ) (ms : List Mod) → AllByRecursion InRange ms → AllByRecursion InRange (instances_from k n ms)
instances_range k zero ms h = tt
instances_range k (suc n) ms h =
    All-append InRange (map (as_instance k) ms) (instances_from (k + 1) n ms) (All-map InRange (as_instance k) ms (All-weaker InRange (λ m. InRange (as_instance k m)) (instance_range k) ms h)) (instances_range (k + 1) n ms h)

front_range : (w : ℕ) (ms : List Mod) → AllByRecursion InRange ms → AllByRecursion InRange (narrow_front w ms)
front_range w [] h = tt
front_range w (m ∷ ms) h = grind (arith, common_steps, front_range (w - m.width) ms h.1)

-- the front keeps the width that it is cut at
front_widths : (w : ℕ) (ms : List Mod) → widths (narrow_front w ms) ≤ w
front_widths w [] = grind (arith, common_steps)
front_widths w (m ∷ ms) = grind (arith, common_steps, front_widths (w - m.width) ms)

-- whatever number of instances is told
pub row_lawful : (told : ℕ) (ms : List Mod) → Lawful ms → Lawful (row_told told ms)
row_lawful told ms h = record { each = front_range 1048320 (instances_from 0 told ms) (instances_range 0 told ms h.each); total = front_widths 1048320 (instances_from 0 told ms) }
