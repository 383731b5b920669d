-- The class of a module: which modules may share diffusion at all.
use Rattle.std.specs.Prelude.{◌≡◌, Bool, true, false, ◌&&◌, ◌==◌, nat_lt}
use Rattle.std.specs.Bool.{beq}
use Rattle.std.specs.Cmp.Lexicographic.{pointwise}
use Rattle.net.specs.Nets.{Net}
use Rattle.net.specs.Mods.{Mod}
use Rattle.net.specs.declared.modules.Kind.{Kind}
use Rattle.net.specs.declared.modules.Kind.TheVariants.{NChannel, PChannel}

-- it has a pair number other than 0
abbrev pub is_paired : Mod → Bool
is_paired m = nat_lt 0 m.pair

-- two modules are of one class: of one kind, on one body net, and both paired or both not
pub record SameClass (a b : Mod) : Type 0 where
  pub kind : a.kind ≡ b.kind
  pub body : a.body ≡ b.body
  pub pairing : is_paired a ≡ is_paired b

-- The same as a test

abbrev pub same_kind : Kind → Kind → Bool
same_kind NChannel NChannel = true
same_kind NChannel PChannel = false
same_kind PChannel NChannel = false
same_kind PChannel PChannel = true

abbrev pub same_net : Net → Net → Bool
same_net xs ys = pointwise ◌==◌ xs ys

abbrev pub same_class : Mod → Mod → Bool
same_class a b = same_kind a.kind b.kind && (same_net a.body b.body && beq (is_paired a) (is_paired b))
