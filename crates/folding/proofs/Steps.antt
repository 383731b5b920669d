-- The fingers of a module by their index, and how a pass goes on to the next module.
use Rattle.std.proofs.Common.{◌≡◌, ℕ, zero, suc, ◌+◌, ◌-◌, ◌<◌, ◌≤◌, List, [], ◌∷◌, ◌++◌, map, length, get_or, drop, Some, None, Option, ap, ◌∙◌, sym, arith}
use Rattle.std.specs.List.{range_with_len}
use Rattle.std.proofs.lemmas.List.{drop-map}
use Rattle.std.proofs.lemmas.List.FromFn.{length-map-range_with_len, get_or-map-range_with_len}
use Rattle.std.proofs.lemmas.Grind.{common_steps}
use Rattle.net.specs.Nets.{Net}
use Rattle.net.specs.declared.modules.Module.{Module}
use Rattle.net.specs.Mods.{Mod, meaning}
use Rattle.circuit.specs.Tells.{Steps}
use Rattle.folding.specs.declared.fingers.Fingers.{Fingers}
use Rattle.folding.specs.Folds.{finger_count, finger, fingers, folded_by}
use Rattle.folding.specs.Untold.{untold_under}
use Rattle.folding.specs.Lawfuls.{count_least}

pub length_fingers : (limit : ℕ) (m : Mod) → length (fingers limit m) ≡ finger_count limit m.width
length_fingers limit m = length-map-range_with_len (finger (finger_count limit m.width) m) 0 (finger_count limit m.width)

pub finger_at : (limit : ℕ) (m : Mod) (k : ℕ) → k < finger_count limit m.width → get_or (fingers limit m) k m ≡ finger (finger_count limit m.width) m k
finger_at limit m k h = get_or-map-range_with_len (finger (finger_count limit m.width) m) 0 (finger_count limit m.width) k k m h (omega arith)

-- where no finger is left, a pass goes on to the first finger of the next module
pub folded_next : {K : Type 0} (net : K → Net) (limit : ℕ) (left told others before after : List Mod) (m : Mod) (r : Option (Module K)) → left ≡ [] → before ≡ m ∷ after → 1 ≤ m.width → told ≡ fingers limit m → Steps net told r others → Steps net (left ++ folded_by limit before) r (others ++ folded_by limit after)
folded_next net limit left told others before after m None none e low t s =
    absurd (omega (arith, length_fingers limit m, count_least limit m.width low, ap length (sym t ∙ s.0)))
folded_next net limit left told others before after m (Some x) none e low t s = cc

-- numbers in a row without the first k
dropped : (a n k : ℕ) → drop k (range_with_len a n) ≡ range_with_len (a + k) (n - k)
dropped a n zero = grind (arith, common_steps)
dropped a zero (suc k) = grind (arith, common_steps)
dropped a (suc n) (suc k) = grind (arith, common_steps, dropped (a + 1) n k)

-- what is untold under a limit is all fingers under it without those that are told
pub untold_dropped : {K : Type 0} (net : K → Net) (limit : ℕ) (f : Fingers K) → untold_under net limit f ≡ drop f.told (fingers limit (meaning net f.whole))
untold_dropped net limit f =
    let n = finger_count limit f.whole.width.steps in
    let one = finger n (meaning net f.whole) in
    let from : range_with_len (0 + f.told) (n - f.told) ≡ range_with_len f.told (n - f.told) = grind (arith, common_steps) in
    ap (map one) (sym from ∙ sym (dropped 0 n f.told)) ∙ sym (drop-map one f.told (range_with_len 0 n))
