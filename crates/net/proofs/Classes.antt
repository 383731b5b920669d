-- The tests on kinds, nets and classes decide what they ask.
use Rattle.std.proofs.Common.{◌≡◌, refl, Bool, Decides, rules}
use mathlib.Core.Bool.{beq}
use denote.Enum.Bare.{sameb}
use Rattle.std.specs.Cmp.{booleans_Decides, unsigned_Decides}
use Rattle.std.proofs.lemmas.Bool.Decides.{Decides-and, Decides-like}
use Rattle.std.proofs.lemmas.Slice.Eq.{slice_eq-Decides}
use Rattle.net.specs.contracts.modules.Kind.{the_type}
use Rattle.net.specs.Nets.{Net}
use Rattle.net.specs.Mods.{Mod}
use Rattle.net.specs.Classes.{SameClass, same_kind, same_net, is_paired, same_class}
use Rattle.net.specs.declared.modules.Kind.{Kind}
use Rattle.net.specs.declared.modules.Kind.TheVariants.{NChannel, PChannel}

pub decides_kind : (a b : Kind) → Decides (same_kind a b) (a ≡ b)
decides_kind NChannel NChannel = search rules
decides_kind NChannel PChannel = search rules
decides_kind PChannel NChannel = search rules
decides_kind PChannel PChannel = search rules

-- what `==` on kinds answers is the test
pub kind_flag : (a b : Kind) → sameb the_type a b ≡ same_kind a b
kind_flag NChannel NChannel = refl
kind_flag NChannel PChannel = refl
kind_flag PChannel NChannel = refl
kind_flag PChannel PChannel = refl

pub decides_net : (xs ys : Net) → Decides (same_net xs ys) (xs ≡ ys)
decides_net xs ys = slice_eq-Decides unsigned_Decides xs ys _ refl

pub decides_equal : (a b : Bool) → Decides (beq a b) (a ≡ b)
decides_equal = booleans_Decides

-- the test on modules decides whether they are of one class
pub decides_class : (a b : Mod) → Decides (same_class a b) (SameClass a b)
decides_class a b =
    Decides-like (same_class a b) (λ h. record { kind = h.0; body = h.1.0; pairing = h.1.1 }) (λ s. (s.kind, (s.body, s.pairing)))
    (Decides-and _ _ (decides_kind a.kind b.kind) (Decides-and _ _ (decides_net a.body b.body) (decides_equal (is_paired a) (is_paired b))))
