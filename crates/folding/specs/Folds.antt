-- The fingers into which a folding layer cuts the modules below.
use Rattle.std.specs.Prelude.{ℕ, ◌+◌, ◌-◌, ◌/◌, ◌%◌, min, cond, List, [], ◌∷◌, ◌++◌, map, ◌==◌, nat_lt}
use Rattle.std.specs.List.{range_with_len}
use Rattle.net.specs.Mods.{Mod}

-- how many fingers a width becomes under a limit: width / limit, rounded up. The limit 0 folds nothing
abbrev pub finger_count : ℕ → ℕ → ℕ
finger_count limit width = cond (limit == 0) 1 (width / limit + min 1 (width % limit))

-- the width of finger k of n: the whole part of width / n, and 1 more for each of the first width % n
abbrev pub finger_width : ℕ → ℕ → ℕ → ℕ
finger_width n k width = width / n + cond (nat_lt k (width % n)) 1 0

-- finger k of n of a module: all but the width is copied
abbrev pub finger : ℕ → Mod → ℕ → Mod
finger n m k = record m { width = finger_width n k m.width }

-- the fingers of a module from finger k of n on
abbrev pub fingers_from : ℕ → ℕ → Mod → List Mod
fingers_from k n m = map (finger n m) (range_with_len k (n - k))

-- the fingers of a module, from first to last
abbrev pub fingers : ℕ → Mod → List Mod
fingers limit m = map (finger (finger_count limit m.width) m) (range_with_len 0 (finger_count limit m.width))

-- a list with each module in fingers
abbrev pub folded_by : ℕ → List Mod → List Mod
folded_by limit [] = []
folded_by limit (m ∷ ms) = fingers limit m ++ folded_by limit ms
