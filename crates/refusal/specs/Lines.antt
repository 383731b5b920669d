-- The text of a fault.
use Rattle.std.specs.Prelude.{ℕ, List, [], ◌∷◌, ◌++◌, codes, decimal}
use Rattle.refusal.specs.declared.fault.Fault.{Fault}
use Rattle.refusal.specs.Refusals.{number_of, place_of, layer_number}

-- a space and a number in decimal
abbrev pub number_field : ℕ → List ℕ
number_field n = 32 ∷ decimal n

-- the text of a fault: F, and the numbers of the layer and of the refusal, and the place
abbrev pub fault_text : Fault → List ℕ
fault_text f = codes "F" ++ number_field (layer_number f.layer) ++ number_field (number_of f.refusal) ++ number_field (place_of f.refusal)

-- the line of a fault: its text and a newline
abbrev pub fault_line : Fault → List ℕ
fault_line f = fault_text f ++ (10 ∷ [])
