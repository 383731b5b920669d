-- Twins: the two modules of a matched pair that belong together.
use Rattle.std.specs.Prelude.{◌≡◌, ℕ, ◌+◌, ◌<◌, Bool, true, false, cond, ◌&&◌, List, [], ◌∷◌, Some, ◌==◌}
use Rattle.std.specs.List.{slice_get}
use Rattle.net.specs.Mods.{Mod}
use Rattle.net.specs.declared.modules.Side.{Side}
use Rattle.net.specs.declared.modules.Side.TheVariants.{Left, Right}

abbrev pub same_side : Side → Side → Bool
same_side Left Left = true
same_side Left Right = false
same_side Right Left = false
same_side Right Right = true

-- the module has that pair number and stands on that side
abbrev pub stands_on : ℕ → Side → Mod → Bool
stands_on number side m = m.pair == number && same_side m.side side

-- the positions of these modules in a list whose first position is i, in list order
abbrev pub positions_on : ℕ → Side → ℕ → List Mod → List ℕ
positions_on number side i [] = []
positions_on number side i (m ∷ ms) = cond (stands_on number side m) (i ∷ positions_on number side (i + 1) ms) (positions_on number side (i + 1) ms)

-- left and right are the positions of twins: of the left modules with some pair number the one with a certain index,
-- and of the right modules with that number the one with the same index
pub record Twins (ms : List Mod) (left right : ℕ) : Type 0 where
  pub number : ℕ
  pub paired : 0 < number
  pub index : ℕ
  pub first : slice_get (positions_on number Left 0 ms) index ≡ Some left
  pub second : slice_get (positions_on number Right 0 ms) index ≡ Some right

-- all twins have equal widths
abbrev pub EvenTwins : List Mod → Type 0
EvenTwins ms = (left right : ℕ) (a b : Mod) → Twins ms left right → slice_get ms left ≡ Some a → slice_get ms right ≡ Some b → a.width ≡ b.width
