-- The text of a module's line, and of its parts.
use Rattle.std.specs.Prelude.{ℕ, List, ◌++◌, codes, decimal, Option, None, Some}
use Rattle.std.specs.NonZero.{non_zero_u16_get}
use Rattle.net.specs.declared.modules.Pairing.{Pairing}
use Rattle.net.specs.declared.modules.Module.{Module}
use Rattle.net.specs.Texts.{kind_text, side_text}

abbrev pub pairing_text : Option Pairing → List ℕ
pairing_text None = codes "unpaired"
pairing_text (Some p) = codes "pair " ++ (decimal (non_zero_u16_get p.number) ++ (codes " " ++ side_text p.side))

-- the nets of a module, by the name that each key has
abbrev pub nets_text : {K : Type 0} → (K → List ℕ) → Module K → List ℕ
nets_text name m = codes "body " ++ (name m.body ++ (codes " gate " ++ (name m.gate ++ (codes " source " ++ (name m.source ++ (codes " drain " ++ name m.drain))))))

-- the line of the module at that position
abbrev pub line_text : {K : Type 0} → (K → List ℕ) → ℕ → Module K → List ℕ
line_text name p m = codes "M" ++ (decimal p ++ (codes " " ++ (kind_text m.kind ++ (codes " " ++ (nets_text name m ++ (codes " width " ++ (decimal m.width.steps ++ (codes " tag " ++ (decimal m.tag ++ (codes " " ++ pairing_text m.pairing))))))))))
