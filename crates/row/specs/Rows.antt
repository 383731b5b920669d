-- What a row tells: the modules of its cell once for each instance, and nothing where these are too many or too wide.
use Rattle.std.specs.Prelude.{◌≡◌, ℕ, zero, suc, ◌+◌, ◌-◌, ◌*◌, ◌<◌, ◌≤◌, Bool, cond, ◌&&◌, List, [], ◌∷◌, ◌++◌, map, nat_le, nat_lt}
use Rattle.net.specs.Nets.{Net, number_net}
use Rattle.net.specs.Mods.{Mod, widths}

-- a net of the cell as one of instance i: a rail stays, and any other net is one of that instance alone
abbrev pub in_instance : ℕ → Net → Net
in_instance i [] = []
in_instance i (n ∷ ns) = cond (nat_lt n 16) (n ∷ ns) (i ∷ n ∷ ns)

-- a module of the cell as one of instance i: its four nets are in that instance, and all else is as in the cell
abbrev pub as_instance : ℕ → Mod → Mod
as_instance i m = record m {
  body = in_instance i m.body;
  gate = in_instance i m.gate;
  source = in_instance i m.source;
  drain = in_instance i m.drain;
}

-- n instances of a list, numbered from k
abbrev pub instances_from : ℕ → ℕ → List Mod → List Mod
instances_from k zero ms = []
instances_from k (suc n) ms = map (as_instance k) ms ++ instances_from (k + 1) n ms

-- n instances are at most 16, and no wider in all than a circuit may be
abbrev pub row_fits : ℕ → List Mod → Bool
row_fits n ms = nat_le n 16 && nat_le (n * widths ms) 1048320

-- the rule: a row of n instances, numbered from 0, which tells nothing where they do not fit
abbrev pub row_of : ℕ → List Mod → List Mod
row_of n ms = cond (row_fits n ms) (instances_from 0 n ms) []

-- the front of a list as far as its widths are at most w in all
abbrev pub narrow_front : ℕ → List Mod → List Mod
narrow_front w [] = []
narrow_front w (m ∷ ms) = cond (nat_le m.width w) (m ∷ narrow_front (w - m.width) ms) []

-- what a row value tells. Row::new promises that this is what the rule says
abbrev pub row_told : ℕ → List Mod → List Mod
row_told told ms = narrow_front 1048320 (instances_from 0 told ms)

-- what is left of n instances numbered from k, where `left` is left of the first
abbrev pub instances_left : ℕ → ℕ → List Mod → List Mod → List Mod
instances_left k zero left ms = []
instances_left k (suc n) left ms = map (as_instance k) left ++ instances_from (k + 1) n ms

-- what is still told within a room, where `left` is left of instance k
abbrev pub row_rest : ℕ → ℕ → ℕ → List Mod → List Mod → List Mod
row_rest room k told left ms = narrow_front room (instances_left k (told - k) left ms)

-- a rail is one net in all instances, any other net of the cell is another net in each instance, and nets of the cell
-- with different numbers are never one net in the row
pub record RailsAreShared : Type 0 where
  pub rail : (i j n : ℕ) → n < 16 → in_instance i (number_net n) ≡ in_instance j (number_net n)
  pub other : (i j n : ℕ) → 16 ≤ n → in_instance i (number_net n) ≡ in_instance j (number_net n) → i ≡ j
  pub numbers : (i j m n : ℕ) → in_instance i (number_net m) ≡ in_instance j (number_net n) → m ≡ n
