-- What is still to be told of a pass over fingers.
use Rattle.std.specs.Prelude.{ℕ, List, [], Option, Some, None}
use Rattle.net.specs.Nets.{Net}
use Rattle.net.specs.Mods.{Mod, meaning}
use Rattle.folding.specs.declared.fingers.Fingers.{Fingers}
use Rattle.folding.specs.Folds.{finger_count, fingers_from}

-- the fingers of a module that are still to be told
abbrev pub untold : {K : Type 0} → (K → Net) → Fingers K → List Mod
untold net f = fingers_from f.told f.count (meaning net f.whole)

-- the same under a limit, whatever the limit under which they were begun
abbrev pub untold_under : {K : Type 0} → (K → Net) → ℕ → Fingers K → List Mod
untold_under net limit f = fingers_from f.told (finger_count limit f.whole.width.steps) (meaning net f.whole)

-- the same of the module under way, where one is
abbrev pub under_way : {K : Type 0} → (K → Net) → ℕ → Option (Fingers K) → List Mod
under_way net limit None = []
under_way net limit (Some f) = untold_under net limit f
