-- No finger is wider than the limit.
use Rattle.std.proofs.Common.{ℕ, zero, suc, ◌+◌, ◌*◌, ◌≤◌, List, [], ◌∷◌, map, arith}
use native.Mathlib.Nat.{div-le_of_le-mul}
use Rattle.std.specs.List.{range_with_len, AllByRecursion}
use Rattle.std.proofs.ByRecursion.{All-append}
use Rattle.std.proofs.lemmas.Grind.{common_steps}
use Rattle.net.specs.Mods.{Mod, InRange}
use Rattle.folding.specs.Folds.{finger_count, finger_width, finger, fingers, folded_by}
use Rattle.folding.specs.Lawfuls.{folded_widths}
use Rattle.folding.specs.Laws.{FoldsWell}

-- so many fingers of the limit are as wide as the width
enough : (limit w : ℕ) → 1 ≤ limit → w ≤ finger_count limit w * limit
enough limit w h = grind (arith, common_steps)

finger_narrow : (limit w n k : ℕ) → w ≤ n * limit → finger_width n k w ≤ limit
finger_narrow limit w n k h = grind (arith, common_steps, div-le_of_le-mul n h)

from_narrow : (limit : ℕ) (m : Mod) (n k j : ℕ) → m.width ≤ n * limit → AllByRecursion (λ x. x.width ≤ limit) (map (finger n m) (range_with_len k j))
from_narrow limit m n k zero h = tt
from_narrow limit m n k (suc j) h = (finger_narrow limit m.width n k h, from_narrow limit m n (k + 1) j h)

folded_narrow : (limit : ℕ) (ms : List Mod) → 1 ≤ limit → AllByRecursion (λ x. x.width ≤ limit) (folded_by limit ms)
folded_narrow limit [] h = tt
folded_narrow limit (m ∷ ms) h =
    let n = finger_count limit m.width in
    All-append (λ (x : Mod). x.width ≤ limit) (fingers limit m) (folded_by limit ms) (from_narrow limit m n 0 n (enough limit m.width h)) (folded_narrow limit ms h)

pub folds_well : (limit : ℕ) (ms : List Mod) → AllByRecursion InRange ms → FoldsWell limit ms
folds_well limit ms h = record { total = folded_widths limit ms h; narrow = folded_narrow limit ms }
