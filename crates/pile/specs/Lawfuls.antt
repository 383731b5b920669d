-- What the house pile tells of a lawful list is lawful.
use Rattle.std.specs.Prelude.{ℕ, List, filter}
use Rattle.net.specs.Mods.{Mod, Lawful}
use Rattle.net.specs.Classes.{same_class}
use Rattle.layers.specs.Kept.{in_widths}
use Rattle.layers.specs.Lawfuls.{kept_lawful}
use Rattle.folding.specs.Folds.{folded_by}
use Rattle.folding.specs.Lawfuls.{folded_lawful}
use Rattle.pile.specs.Piles.{house_pile}

pub pile_lawful : (limit : ℕ) (like : Mod) (ms : List Mod) → Lawful ms → Lawful (house_pile limit like ms)
pile_lawful limit like ms h =
    kept_lawful (in_widths 1 4095) (filter (same_class like) (folded_by limit ms)) (kept_lawful (same_class like) (folded_by limit ms) (folded_lawful limit ms h))
