-- The words for kinds and sides.
use Rattle.std.specs.Prelude.{ℕ, List, codes}
use Rattle.net.specs.declared.modules.Kind.{Kind}
use Rattle.net.specs.declared.modules.Kind.TheVariants.{NChannel, PChannel}
use Rattle.net.specs.declared.modules.Side.{Side}
use Rattle.net.specs.declared.modules.Side.TheVariants.{Left, Right}

abbrev pub kind_text : Kind → List ℕ
kind_text NChannel = codes "n-channel"
kind_text PChannel = codes "p-channel"

abbrev pub side_text : Side → List ℕ
side_text Left = codes "left"
side_text Right = codes "right"
