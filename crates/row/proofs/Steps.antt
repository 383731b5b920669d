-- What is left of a row where a pass goes on to the next instance.
use Rattle.std.proofs.Common.{◌≡◌, ℕ, zero, suc, ◌+◌, ◌-◌, ◌<◌, List, [], ◌++◌, map, sym, refl, ap, ◌∙◌, arith}
use Rattle.net.specs.Mods.{Mod}
use Rattle.row.specs.Rows.{as_instance, instances_from, instances_left, narrow_front, row_rest}

left_whole : (k n : ℕ) (ms : List Mod) → instances_left k n ms ms ≡ instances_from k n ms
left_whole k zero ms = refl
left_whole k (suc n) ms = refl

-- an instance is told, and the next begins
pub rest_over : (room k told : ℕ) (left fresh ms : List Mod) → k < told → left ≡ [] → fresh ≡ ms → row_rest room k told left ms ≡ row_rest room (k + 1) told fresh ms
rest_over room k told left fresh ms h e b =
    let n = told - (k + 1) in
    let z : told - k ≡ suc n = omega arith in
    ap (narrow_front room) (ap (λ j. instances_left k j left ms) z ∙ ap (λ l. map (as_instance k) l ++ instances_from (k + 1) n ms) e ∙ sym (left_whole (k + 1) n ms) ∙ ap (λ l. instances_left (k + 1) n l ms) (sym b))
