-- What a circuit answers for a position, and what one step of a pass answers.
use Rattle.std.specs.Prelude.{◌≡◌, ℕ, List, [], ◌∷◌, Option, MatchOption}
use Rattle.std.specs.List.{slice_get}
use Rattle.std.specs.Option.{option_map}
use Rattle.net.specs.Nets.{Net}
use Rattle.net.specs.declared.modules.Module.{Module}
use Rattle.net.specs.Mods.{Mod, meaning}

-- the answer means what stands at that position of the list: nothing, behind the last
abbrev pub Tells : {K : Type 0} → (K → Net) → List Mod → ℕ → Option (Module K) → Type 0
Tells net ms position r = option_map (meaning net) r ≡ slice_get ms position

-- nothing, where nothing is left, and then nothing is left again; else the first of what was left, and the others are left
abbrev pub Steps : {K : Type 0} → (K → Net) → List Mod → Option (Module K) → List Mod → Type 0
Steps net before r after = MatchOption r ((before ≡ []) × (after ≡ [])) (λ m. before ≡ meaning net m ∷ after)
