-- The numbers that stand for kinds and sides.
use Rattle.std.specs.Prelude.{◌≡◌, ℕ, Bool, true, false, cond, ◌==◌, nat_le, Result, MatchResult}
use Rattle.net.specs.declared.modules.Kind.{Kind}
use Rattle.net.specs.declared.modules.Kind.TheVariants.{NChannel, PChannel}
use Rattle.net.specs.declared.modules.UnknownKind.{UnknownKind}
use Rattle.net.specs.declared.modules.Side.{Side}
use Rattle.net.specs.declared.modules.Side.TheVariants.{Left, Right}
use Rattle.net.specs.declared.modules.UnknownSide.{UnknownSide}

-- kind 0 is n-channel, 1 p-channel
abbrev pub kind_fits : ℕ → Bool
kind_fits kind = nat_le kind 1

abbrev pub kind_of_number : ℕ → Kind
kind_of_number kind = cond (kind == 0) NChannel PChannel

-- the result is the kind of that number, or an error with the number where no kind has it
abbrev pub ReadsKind : ℕ → Result Kind UnknownKind → Type 0
ReadsKind n r = MatchResult r (λ k. (kind_fits n ≡ true) × (k ≡ kind_of_number n)) (λ e. (kind_fits n ≡ false) × (e.0 ≡ n))

-- side 0 is left, 1 right
abbrev pub side_number_fits : ℕ → Bool
side_number_fits side = nat_le side 1

abbrev pub side_of_number : ℕ → Side
side_of_number side = cond (side == 0) Left Right

-- the result is the side of that number, or an error with the number where no side has it
abbrev pub ReadsSide : ℕ → Result Side UnknownSide → Type 0
ReadsSide n r = MatchResult r (λ s. (side_number_fits n ≡ true) × (s ≡ side_of_number n)) (λ e. (side_number_fits n ≡ false) × (e.0 ≡ n))
