-- What a filter keeps of a lawful list is lawful.
use Rattle.std.specs.Prelude.{Bool, not, List, filter, refl}
use Rattle.std.proofs.Common.{arith}
use Rattle.std.proofs.ByRecursion.{all_kept_by}
use Rattle.std.proofs.lemmas.List.Filters.{sum_by-filter_both}
use Rattle.net.specs.Mods.{Mod, InRange, Lawful}

pub kept_lawful : (p : Mod → Bool) (ms : List Mod) → Lawful ms → Lawful (filter p ms)
kept_lawful p ms h =
    let t = h.total in
    record { each = all_kept_by p InRange ms h.each; total = omega (arith, sum_by-filter_both p (λ m. not (p m)) (λ _. refl) (λ (m : Mod). m.width) ms) }
