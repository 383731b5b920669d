-- What the house pile tells of the circuit below.
use Rattle.std.specs.Prelude.{ℕ, List, ◌++◌, filter, Option}
use Rattle.net.specs.Nets.{Net}
use Rattle.net.specs.declared.modules.Module.{Module}
use Rattle.net.specs.Mods.{Mod, meaning}
use Rattle.net.specs.Classes.{same_class}
use Rattle.layers.specs.Kept.{in_widths}
use Rattle.folding.specs.declared.fingers.Fingers.{Fingers}
use Rattle.folding.specs.Folds.{folded_by}
use Rattle.folding.specs.Untold.{under_way}
use Rattle.pile.specs.declared.piles.HousePile.{HousePile}

-- the fingers of the circuit that are of the class of a module, of widths from 1 to 4,095
abbrev pub house_pile : ℕ → Mod → List Mod → List Mod
house_pile limit like ms = filter (in_widths 1 4095) (filter (same_class like) (folded_by limit ms))

-- what is still to be told, when that is left below and those fingers of the module under way
abbrev pub pile_rest : {K : Type 0} → (K → Net) → ℕ → Module K → Option (Fingers K) → List Mod → List Mod
pile_rest net limit like fingers below = filter (in_widths 1 4095) (filter (same_class (meaning net like)) (under_way net limit fingers ++ folded_by limit below))

-- The parts of a house pile

abbrev pub circuit_of : {C K : Type 0} → HousePile C K → C
circuit_of pile = pile.layers.below.below.below

abbrev pub limit_of : {C K : Type 0} → HousePile C K → ℕ
limit_of pile = pile.layers.below.below.limit

abbrev pub like_of : {C K : Type 0} → HousePile C K → Module K
like_of pile = pile.layers.below.test.like
