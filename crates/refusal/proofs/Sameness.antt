-- What `==` says of two refusals and of two faults.
use Rattle.std.proofs.Common.{◌≡◌, ◌&&◌, Decides, ap, ap₂, rules}
use Rattle.std.proofs.lemmas.Bool.Decides.{Decides-and, Decides-like}
use denote.Enum.Bare.{sameb, same_true, true_same}
use Rattle.refusal.specs.contracts.fault.Layer.{the_type}
use Rattle.refusal.specs.declared.refusal.Refusal.{Refusal}
use Rattle.refusal.specs.declared.fault.Layer.{Layer}
use Rattle.refusal.specs.declared.fault.Fault.{Fault}
use Rattle.refusal.specs.Refusals.{same_refusal}
use Rattle.refusal.specs.Sameness.{TellsRefusals, TellsFaults}

pub tells_refusals : (a b : Refusal) → TellsRefusals a b
tells_refusals a b = record { test = search rules; one = (λ e. search rules, λ e. search rules) }

-- the test on number and place decides whether two refusals are one
pub decides_same : (a b : Refusal) → Decides (same_refusal a b) (a ≡ b)
decides_same a b = rw (← (tells_refusals a b).test) (tells_refusals a b).one

-- the same of layers, and both tests together decide whether two faults are one
pub decides_fault : (a b : Fault) → Decides (sameb the_type a.layer b.layer && same_refusal a.refusal b.refusal) (a ≡ b)
decides_fault a b =
    let fault : Layer → Refusal → Fault = λ l r. record { layer = l; refusal = r } in
    let layers : Decides (sameb the_type a.layer b.layer) (a.layer ≡ b.layer) = (same_true the_type (search rules) a.layer b.layer, true_same the_type a.layer b.layer) in
    Decides-like (sameb the_type a.layer b.layer && same_refusal a.refusal b.refusal) (λ h. ap₂ fault h.0 h.1) (λ e. (ap (λ (f : Fault). f.layer) e, ap (λ (f : Fault). f.refusal) e))
    (Decides-and _ _ layers (decides_same a.refusal b.refusal))

pub tells_faults : (a b : Fault) → TellsFaults a b
tells_faults a b = rw (← (tells_refusals a.refusal b.refusal).test) at (decides_fault a b)
