use Rattle.std.proofs.Common.{◌≡◌, [], rules, ap, ◌∙◌}
use Rattle.folding.specs.Untold.{untold_under, under_way}
use Rattle.folding.proofs.Steps.{folded_next}
use Rattle.folding.proofs.layer.FoldingCircuit.next.Goals as goal

pub returns-2 : goal.returns-2
returns-2 g c =
    let net = g.C.Key.NetKey.net in
    let limit = c.args.self.now.limit in
    let cursor = c.args.cursor.now in
    let below = g.C.Circuit.rest c.args.self.now.below in
    let none : under_way net limit cursor.fingers ≡ [] = search rules in
    let same : below cursor.below ≡ below c.in_default.cursor.below = search rules in
    folded_next net limit _ _ _ _ _ _ c.next_under-2.result none (same ∙ c.in_ok-m.ensures) c.in_ok-m.m.width.least (ap (untold_under net limit) c.insert.ensures.value ∙ c.new-fingers.ensures.under) c.next_under-2.ensures
