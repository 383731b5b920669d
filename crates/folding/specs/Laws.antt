-- What holds of every folding, in the words of the subject.
use Rattle.std.specs.Prelude.{◌≡◌, ℕ, ◌+◌, ◌<◌, ◌≤◌, List, length, take, Some}
use Rattle.std.specs.List.{slice_get, AllByRecursion}
use Rattle.net.specs.Mods.{Mod, widths}
use Rattle.circuit.specs.Twins.{Twins, EvenTwins}
use Rattle.folding.specs.Folds.{finger_count, finger, folded_by}

-- the total width stays, and no finger is wider than a limit that is not 0
pub record FoldsWell (limit : ℕ) (ms : List Mod) : Type 0 where
  pub total : widths (folded_by limit ms) ≡ widths ms
  pub narrow : 1 ≤ limit → AllByRecursion (λ m. m.width ≤ limit) (folded_by limit ms)

-- where finger k of the module at position p stands in the folded list
abbrev pub finger_position : ℕ → List Mod → ℕ → ℕ → ℕ
finger_position limit ms p k = length (folded_by limit (take p ms)) + k

-- left and right are the positions of finger k of one twin and of finger k of the other
pub record FingersOfTwins (limit : ℕ) (ms : List Mod) (left right : ℕ) : Type 0 where
  pub p : ℕ
  pub q : ℕ
  pub k : ℕ
  pub m : Mod
  pub twins : Twins ms p q
  pub here : slice_get ms p ≡ Some m
  pub some : k < finger_count limit m.width
  pub first : left ≡ finger_position limit ms p k
  pub second : right ≡ finger_position limit ms q k

-- each finger stands in its place; and where all twins have equal widths, the twins in the folded list are the
-- fingers of twins, in their order, and no others, and they have equal widths again
pub record FoldsTwins (limit : ℕ) (ms : List Mod) : Type 0 where
  pub place : (p k : ℕ) (m : Mod) → slice_get ms p ≡ Some m → k < finger_count limit m.width → slice_get (folded_by limit ms) (finger_position limit ms p k) ≡ Some (finger (finger_count limit m.width) m k)
  pub fingers : EvenTwins ms → (left right : ℕ) → FingersOfTwins limit ms left right → Twins (folded_by limit ms) left right
  pub only : EvenTwins ms → (left right : ℕ) → Twins (folded_by limit ms) left right → FingersOfTwins limit ms left right
  pub even : EvenTwins ms → EvenTwins (folded_by limit ms)
