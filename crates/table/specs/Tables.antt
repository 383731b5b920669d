-- What the check of a table refuses, and what a table tells.
use Rattle.std.specs.Prelude.{ℕ, ◌+◌, cond, List, [], ◌∷◌, map, length, Ok, Err, Result, nat_lt}
use Rattle.refusal.specs.declared.refusal.Refusal.{Refusal}
use Rattle.refusal.specs.declared.refusal.Refusal.TheVariants.{OutOfRange, TooManyTransistors}
use Rattle.net.specs.Mods.{Mod}
use Rattle.record.specs.declared.records.Record.{Record}
use Rattle.record.specs.Records.{fits, stated}

-- what a check answers
abbrev pub Verdict : Type 0
Verdict = Result (Unit {0}) Refusal

-- the first of the records, counted from i, that has a field out of range
abbrev pub unfit_from : ℕ → List Record → Verdict
unfit_from i [] = Ok tt
unfit_from i (r ∷ rs) = cond (fits r) (unfit_from (i + 1) rs) (Err (OutOfRange i))

-- a 257th record is refused first, then the first record with a field out of range
abbrev pub table_verdict : List Record → Verdict
table_verdict rs = cond (nat_lt 256 (length rs)) (Err (TooManyTransistors 256)) (unfit_from 0 rs)

-- a table that is refused tells nothing, and any other what its records state, in order
abbrev pub told_by : Verdict → List Record → List Mod
told_by (Ok u) rs = map stated rs
told_by (Err x) rs = []
