-- What `==` says of two refusals and of two faults.
use Rattle.std.specs.Prelude.{◌≡◌, Bool, IsTrue, ◌↔◌}
use Rattle.refusal.specs.declared.refusal.Refusal.{Refusal}
use Rattle.refusal.specs.declared.fault.Fault.{Fault}
use Rattle.refusal.specs.contracts.refusal.RefusalPartialEq.TheImpl as refusal_eq
use Rattle.refusal.specs.contracts.fault.FaultPartialEq.TheImpl as fault_eq
use Rattle.refusal.specs.Refusals.{same_refusal}

-- what `==` answers
abbrev pub equal_refusals : Refusal → Refusal → Bool
equal_refusals = (refusal_eq.ghosts).eq

abbrev pub equal_faults : Fault → Fault → Bool
equal_faults = (fault_eq.ghosts).eq

-- `==` is the test on number and place, and it says yes exactly where the two are one refusal
pub record TellsRefusals (a b : Refusal) : Type 0 where
  pub test : equal_refusals a b ≡ same_refusal a b
  pub one : IsTrue (equal_refusals a b) ↔ (a ≡ b)

-- on faults it says yes exactly where the two are one fault
abbrev pub TellsFaults : Fault → Fault → Type 0
TellsFaults a b = IsTrue (equal_faults a b) ↔ (a ≡ b)
