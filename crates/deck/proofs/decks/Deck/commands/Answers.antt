use Rattle.std.proofs.Common.{◌≡◌, ℕ, ◌≤◌, List, length, Ok, sym, ap, ◌∙◌, arith, rules}
use Rattle.std.proofs.lemmas.List.{take_rest}
use Rattle.deck.specs.Verdicts.{deck_verdict, commands_offset, entries_in}
use Rattle.deck.proofs.Readings.{handed}
use Rattle.deck.proofs.decks.Deck.commands.Goals as goal
use Rattle.deck.proofs.decks.Deck.commands.Goals.{in-Ok, in-Err}

-- an accepted deck has begin and its edition
long : (bs : List ℕ) → deck_verdict bs ≡ Ok tt → 2 ≤ length bs
long bs h = (handed bs 2 (sym (ap (λ v. commands_offset v bs) h))).0

pub slice_bounds-result-count : goal.slice_bounds-result-count
slice_bounds-result-count c =
    elim c.match-check.branch [ in-Ok w ↦ let h = long c.args.self.now.bytes.now (search rules) in omega arith | in-Err w ↦ omega arith ]

pub slice_bounds-result-start : goal.slice_bounds-result-start
slice_bounds-result-start c =
    let h : c.match-check.start ≤ length c.args.self.now.bytes.now = slice_bounds-result-count c in
    search rules

pub returns-clause-entries : goal.returns-clause-entries
returns-clause-entries c =
    let bs = c.args.self.now.bytes.now in
    ap (entries_in 0) (take_rest bs c.match-check.start) ∙ (handed bs c.match-check.start (search rules)).1
