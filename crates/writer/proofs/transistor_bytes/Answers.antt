use Rattle.std.proofs.Common.{◌≡◌, ℕ, ◌^◌, ◌%◌, ◌<◌, List, [], ◌∷◌, ap, ◌∙◌, arith}
use Rattle.std.specs.Int.{w16, to_be_bytes}
use Rattle.deck.specs.Format.{word}
use Rattle.writer.proofs.transistor_bytes.Goals as goal

-- the bytes of a number, high byte first
word_bytes : (n : ℕ) (bs : List ℕ) → n < 2 ^ 16 → bs ≡ to_be_bytes w16 n → bs ≡ word n
word_bytes n bs h e = e ∙ ap (λ high. high ∷ n % 256 ∷ []) (omega arith)

pub returns : goal.returns
returns c =
    let t = c.args.t.now in
    simp (
      word_bytes t.body _ (omega arith) c.to_be_bytes.ensures,
      word_bytes t.gate _ (omega arith) c.to_be_bytes-2.ensures,
      word_bytes t.source _ (omega arith) c.to_be_bytes-3.ensures,
      word_bytes t.drain _ (omega arith) c.to_be_bytes-4.ensures,
      word_bytes t.width _ (omega arith) c.to_be_bytes-5.ensures,
      word_bytes t.tag _ (omega arith) c.to_be_bytes-6.ensures,
      word_bytes t.pair _ (omega arith) c.to_be_bytes-7.ensures,
    )
