use Rattle.std.proofs.Common.{◌≡◌, ℕ, ◌/◌, ◌%◌, List, [], ◌∷◌, get_or, ◌<◌, sym, refl, arith}
use Rattle.std.specs.Int.{w16, from_be_bytes}
use Rattle.std.proofs.lemmas.List.FromFn.{fill_by_all}
use Rattle.deck.proofs.commands.record_of.Goals as goal

-- a number is known by its two bytes
words : (bs : List ℕ) (n i j : ℕ) → ((k : ℕ) → get_or bs k 0 < 256) → n ≡ from_be_bytes w16 (get_or bs i 0 ∷ get_or bs j 0 ∷ [])
    → (n / 256 ≡ get_or bs i 0) × (n % 256 ≡ get_or bs j 0)
words bs n i j f e = let a = f i in let b = f j in (omega arith, omega arith)

pub returns : goal.returns
returns c =
    let bs = c.args.bytes.now in
    let all = fill_by_all (λ k. get_or bs k 0) bs 16 0 c.told-bytes (λ k h. refl) in
    let body = words bs _ 1 2 c.fits-bytes c.from_be_bytes.ensures in
    let gate = words bs _ 3 4 c.fits-bytes c.from_be_bytes-2.ensures in
    let source = words bs _ 5 6 c.fits-bytes c.from_be_bytes-3.ensures in
    let drain = words bs _ 7 8 c.fits-bytes c.from_be_bytes-4.ensures in
    let width = words bs _ 9 10 c.fits-bytes c.from_be_bytes-5.ensures in
    let tag = words bs _ 11 12 c.fits-bytes c.from_be_bytes-6.ensures in
    let pair = words bs _ 13 14 c.fits-bytes c.from_be_bytes-7.ensures in
    simp (body.0, body.1, gate.0, gate.1, source.0, source.1, drain.0, drain.1, width.0, width.1, tag.0, tag.1, pair.0, pair.1) (sym all)
