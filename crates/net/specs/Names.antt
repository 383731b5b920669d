-- The names of nets, as their keys print them.
use Rattle.std.specs.Prelude.{ℕ, cond, List, ◌++◌, codes, decimal, nat_lt}

-- the net that a number names
abbrev pub number_text : ℕ → List ℕ
number_text n = decimal n

-- the net n of instance i: a rail by its number alone
abbrev pub instance_text : ℕ → ℕ → List ℕ
instance_text i n = cond (nat_lt n 16) (decimal n) (decimal i ++ (codes "." ++ decimal n))
