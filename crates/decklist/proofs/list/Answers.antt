use Rattle.std.proofs.Common.{ℕ, zero, suc, ◌≤◌, List, [], ◌∷◌, length, arith, rules}
use Rattle.std.proofs.lemmas.Grind.{common_steps}
use Rattle.deck.specs.Verdicts.{entries_in}
use Rattle.decklist.proofs.list.Goals as goal

-- a deck has no more entries than bytes
few : (k : ℕ) (bs : List ℕ) → length (entries_in k bs) ≤ length bs
unfolding entries_in
few k [] = omega arith
few zero (b ∷ bs) = let rest : length (entries_in 16 bs) ≤ length bs = few 16 bs in grind (arith, common_steps)
few (suc k) (b ∷ bs) = let rest : length (entries_in k bs) ≤ length bs = few k bs in omega arith

pub count-remarks-requires-clause-fits : goal.count-remarks-requires-clause-fits
count-remarks-requires-clause-fits g c = let fits = few 0 c.commands.result.rest.now in search rules
