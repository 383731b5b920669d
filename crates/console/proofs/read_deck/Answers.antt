use Rattle.std.proofs.Common.{◌≡◌, IfSome, take, ℕ, List, [], ◌++◌, None, Some, Option, rules}
use Rattle.std.specs.Option.{option_map}
use Rattle.console.proofs.read_deck.Goals as goal

-- what was read into an empty buffer is the front of the bytes, where they are known
front : (bytes : Option (List ℕ)) (n m : ℕ) (before after : List ℕ) → before ≡ [] → n ≡ m → IfSome (option_map (take n) bytes) (λ xs. after ≡ before ++ xs) → IfSome bytes (λ xs. after ≡ take m xs)
front None n m before after empty same h = h
front (Some xs) n m before after empty same h = search rules

pub returns : goal.returns
returns g c = rw (← c.take.ensures.inner) (front (g.R.Read.remaining c.take.result.inner) c.take.result.limit _ c.new-deck.result.items _ c.new-deck.ensures.items c.take.ensures.limit c.in_ok-read_to_end.ensures.bytes)
