-- A net, and the net that a key names.
use Rattle.std.specs.Prelude.{ℕ, cond, List, [], ◌∷◌, nat_lt}

-- a net, as a value: the numbers that tell it from every other net
abbrev pub Net : Type 0
Net = List ℕ

-- the net that a number names
abbrev pub number_net : ℕ → Net
number_net n = n ∷ []

-- the net n of an instance. A number below 16 is a rail, one net in all instances
abbrev pub instance_net : ℕ → ℕ → Net
instance_net i n = cond (nat_lt n 16) (n ∷ []) (i ∷ n ∷ [])
