-- The totals of a pile.
use Rattle.std.specs.Prelude.{◌≡◌, ℕ, List, ◌++◌, length, codes, decimal}
use Rattle.net.specs.Mods.{Mod, widths}

-- how many modules there are, and their widths added up
pub record TotalsOf (ms : List Mod) (n w : ℕ) : Type 0 where
  pub modules : n ≡ length ms
  pub steps : w ≡ widths ms

-- the line of totals
abbrev pub totals_text : ℕ → ℕ → List ℕ
totals_text modules steps = decimal modules ++ (codes " modules, " ++ (decimal steps ++ codes " steps wide in all"))
