-- How many modules a lawful list can have.
use Rattle.std.proofs.Common.{◌≤◌, List, [], ◌∷◌, length, arith}
use Rattle.std.specs.List.{AllByRecursion}
use Rattle.std.proofs.lemmas.List.Sums.{sum_by-cons}
use Rattle.net.specs.Mods.{Mod, InRange, Lawful, widths}

within : (ms : List Mod) → AllByRecursion InRange ms → length ms ≤ widths ms
within [] h = omega arith
within (m ∷ ms) h = let r = h.0.least in omega (arith, sum_by-cons (λ (x : Mod). x.width) m ms, within ms h.1)

-- each module is at least 1 wide, so a lawful list is no longer than its widths in all
pub lawful_length : (ms : List Mod) → Lawful ms → length ms ≤ 1048320
lawful_length ms h = let t = h.total in omega (arith, within ms h.each)
