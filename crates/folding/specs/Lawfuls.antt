-- What is folded of a lawful list is lawful, and as wide.
use Rattle.std.specs.Prelude.{◌≡◌, ℕ, zero, suc, ◌+◌, ◌-◌, ◌*◌, ◌/◌, ◌%◌, ◌≤◌, min, cond, List, [], ◌∷◌, map, nat_lt, refl}
use Rattle.std.proofs.Common.{div-add-mod', arith}
use Rattle.std.specs.List.{range_with_len, AllByRecursion}
use Rattle.std.proofs.ByRecursion.{All-append}
use Rattle.std.proofs.lemmas.Grind.{common_steps}
use Rattle.net.specs.Mods.{Mod, InRange, Lawful, widths}
use Rattle.folding.specs.Folds.{finger_count, finger_width, finger, fingers, folded_by}

-- a quotient, rounded up, is at least 1 where something was divided
ceiling_least : (q r limit w : ℕ) → q * limit + r ≡ w → 1 ≤ w → 1 ≤ q + min 1 r
ceiling_least q r limit w e h = grind (arith, common_steps)

-- a width becomes at least one finger
pub count_least : (limit w : ℕ) → 1 ≤ w → 1 ≤ finger_count limit w
count_least limit w h = grind (arith, common_steps)

-- a quotient, rounded up, is at most what was divided
ceiling_most : (q r limit w : ℕ) → q * limit + r ≡ w → 1 ≤ limit → q + min 1 r ≤ w
ceiling_most q r limit w e h = grind (arith, common_steps)

-- and no more fingers than it has steps
pub count_most : (limit w : ℕ) → 1 ≤ w → finger_count limit w ≤ w
count_most limit w h = grind (arith, common_steps, ceiling_most (w / limit) (w % limit) limit w (div-add-mod' w limit))

-- one for each of the first r
abbrev wider : ℕ → ℕ → ℕ
wider k r = cond (nat_lt k r) 1 0

wider_more : (k r : ℕ) → wider k r + (r - (k + 1)) ≡ r - k
wider_more k r = grind (arith, common_steps)

wider_few : (q n r w k : ℕ) → q * n + r ≡ w → 1 ≤ n → q + wider k r ≤ w
wider_few q n r w k e h = grind (arith, common_steps, ceiling_most q r n w e)

-- j fingers of n from finger k on
from_widths : (m : Mod) (n k j : ℕ) → m.width % n ≤ k + j → widths (map (finger n m) (range_with_len k j)) ≡ j * (m.width / n) + (m.width % n - k)
from_widths m n k zero h = grind (arith, common_steps)
from_widths m n k (suc j) h =
    let more = from_widths m n (k + 1) j (omega arith) in
    grind (arith, common_steps)

-- the fingers of a module are as wide in all as it is
pub fingers_widths : (limit : ℕ) (m : Mod) → 1 ≤ m.width → widths (fingers limit m) ≡ m.width
fingers_widths limit m h = grind (arith, common_steps, from_widths)

-- a finger of a width in range has a width in range
pub finger_least : (w n k : ℕ) → 1 ≤ n → n ≤ w → 1 ≤ finger_width n k w
finger_least w n k low high = grind (arith, common_steps)

pub finger_most : (w n k : ℕ) → 1 ≤ n → finger_width n k w ≤ w
finger_most w n k low = grind (arith, common_steps, ceiling_most (w / n) (w % n) n w (div-add-mod' w n))

-- a finger of a module in range is in range
finger_range : (m : Mod) (n k : ℕ) → InRange m → 1 ≤ n → n ≤ m.width → InRange (finger n m k)
finger_range m n k r low high =
    let w = r.most in
    record { least = finger_least m.width n k low high; most = omega (arith, finger_most m.width n k low); tag = r.tag; pair = r.pair; alone = r.alone }

from_range : (m : Mod) (n k j : ℕ) → InRange m → 1 ≤ n → n ≤ m.width → AllByRecursion InRange (map (finger n m) (range_with_len k j))
from_range m n k zero r low high = tt
from_range m n k (suc j) r low high = (finger_range m n k r low high, from_range m n (k + 1) j r low high)

folded_range : (limit : ℕ) (ms : List Mod) → AllByRecursion InRange ms → AllByRecursion InRange (folded_by limit ms)
folded_range limit [] h = tt
folded_range limit (m ∷ ms) h =
    let n = finger_count limit m.width in
    let w = h.0.least in
    All-append InRange (fingers limit m) (folded_by limit ms) (from_range m n 0 n h.0 (count_least limit m.width w) (count_most limit m.width w)) (folded_range limit ms h.1)

-- folding keeps the total width
pub folded_widths : (limit : ℕ) (ms : List Mod) → AllByRecursion InRange ms → widths (folded_by limit ms) ≡ widths ms
folded_widths limit [] h = refl
folded_widths limit (m ∷ ms) h =
    let first = fingers_widths limit m h.0.least in
    let others = folded_widths limit ms h.1 in
    grind (arith, common_steps)

pub folded_lawful : (limit : ℕ) (ms : List Mod) → Lawful ms → Lawful (folded_by limit ms)
folded_lawful limit ms h =
    let t = h.total in
    record { each = folded_range limit ms h.each; total = omega (arith, folded_widths limit ms h.each) }
