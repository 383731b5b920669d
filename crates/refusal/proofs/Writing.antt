-- Laws of writing a text into a buffer, for any function that writes one piece by piece.
use Rattle.std.proofs.Common.{◌≡◌, ℕ, ◌+◌, ◌<◌, ◌≤◌, List, [], ◌∷◌, ◌++◌, length, take, drop, set, Ok, Err, sym, refl, ap, ◌∙◌, add-one, arith}
use Rattle.std.proofs.lemmas.Grind.{common_steps}
use Rattle.std.proofs.lemmas.Bool.Decides.{nat_tests}
use borrow.Rule.Slice.PartMut.{put_mid}
use Rattle.std.proofs.lemmas.List.{append_assoc, drop-drop, drop-append-le, take-append-drop, set_split}
use Rattle.refusal.specs.declared.refusal.Refusal.TheVariants.{TooShort}
use Rattle.refusal.specs.Written.{over, over_at, answer_of, buffer_after}

-- a text that fits is answered by its length, and stands at the front
pub answer_fits : (text buf : List ℕ) → length text ≤ length buf → answer_of text buf ≡ Ok (length text)
answer_fits text buf h = grind (arith, nat_tests)

pub after_fits : (text buf : List ℕ) → length text ≤ length buf → buffer_after text buf ≡ over text buf
after_fits text buf h = grind (arith, nat_tests)

-- one that does not fit is refused, and the buffer is left
pub answer_short : (text buf : List ℕ) → length buf < length text → answer_of text buf ≡ Err (TooShort (length text))
answer_short text buf h = grind (arith, nat_tests)

pub after_short : (text buf : List ℕ) → length buf < length text → buffer_after text buf ≡ buf
after_short text buf h = grind (arith, nat_tests)

-- a text that fits keeps the length
pub length_over : (text buf : List ℕ) → length text ≤ length buf → length (over text buf) ≡ length buf
length_over text buf h = grind (arith, common_steps)

-- what is written behind a text goes on with it
pub over_more : (text more buf : List ℕ) (at : ℕ) → at ≡ length text → over_at at more (over text buf) ≡ over (text ++ more) buf
over_more text more buf at e = grind (arith, common_steps)

-- a byte that is set is a text of one byte
pub over_byte : (at b : ℕ) (buf : List ℕ) → at < length buf → set buf at b ≡ over_at at (b ∷ []) buf
over_byte at b buf h = set_split buf at b h ∙ simp (drop-drop, add-one)

-- a text that is written into a part which was lent is written into the whole
pub over_lent : (at k : ℕ) (text buf part : List ℕ) → length text ≤ length (take k (drop at buf))
    → part ≡ over text (take k (drop at buf)) → put_mid at k buf part ≡ over_at at text buf
over_lent at k text buf part h e =
    let rest = drop at buf in
    let n = length text in
    ap (λ t. take at buf ++ (t ++ drop k rest)) e
    ∙ ap (λ t. take at buf ++ t) (append_assoc text (drop n (take k rest)) (drop k rest))
    ∙ ap (λ t. take at buf ++ (text ++ t)) (sym (drop-append-le n (take k rest) (drop k rest) h) ∙ ap (drop n) (take-append-drop k rest))

-- so far `text` stands over the front of `buf`, which gives `out`, and the next byte goes to `at`
abbrev pub Begun : ℕ → List ℕ → List ℕ → List ℕ → Type 0
Begun at text buf out = (at ≡ length text) × (out ≡ over text buf)

pub begun_more : (at end : ℕ) (text more buf out next : List ℕ) → Begun at text buf out
    → end ≡ at + length more → next ≡ over_at at more out → Begun end (text ++ more) buf next
begun_more at end text more buf out next b e f = grind (arith, common_steps)

pub begun_byte : (at byte : ℕ) (text buf out : List ℕ) → Begun at text buf out → at < length buf
    → Begun (at + 1) (text ++ (byte ∷ [])) buf (set out at byte)
begun_byte at byte text buf out b h =
    let whole : length out ≡ length buf = ap length b.1 ∙ length_over text buf (omega (arith, b.0)) in
    begun_more at (at + 1) text (byte ∷ []) buf out (set out at byte) b refl (over_byte at byte out (omega arith))
