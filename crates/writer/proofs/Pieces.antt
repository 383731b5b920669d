-- The writing of a deck, piece by piece.
use Rattle.std.proofs.Common.{◌≡◌, ℕ, ◌+◌, ◌-◌, ◌*◌, ◌<◌, ◌≤◌, List, [], ◌∷◌, ◌++◌, map, length, get_or, take, drop, set, Ok, Err, sym, refl, ap, ◌∙◌, arith}
use borrow.Rule.Slice.PartMut.{put_mid}
use Rattle.std.proofs.lemmas.List.{length-take-le, length-drop, length-set, take_more, take_rest, map_push}
use Rattle.refusal.specs.declared.refusal.Refusal.TheVariants.{TooShort}
use Rattle.refusal.specs.Written.{over, over_at, answer_of, buffer_after}
use Rattle.refusal.proofs.Writing.{Begun, begun_more, begun_byte, over_more, over_lent, length_over, answer_fits, after_fits, answer_short, after_short}
use Rattle.record.specs.declared.records.Record.{Record}
use Rattle.table.specs.Tables.{table_verdict}
use Rattle.deck.specs.Format.{transistor, operands, entry_bytes, entries_bytes}
use Rattle.std.proofs.lemmas.Grind.{flat_map-append}
use Rattle.writer.specs.Writing.{table_deck, checked_answer, checked_buffer, writer_answer, writer_buffer}
use Rattle.writer.proofs.Trips.{entries_length, deck_length}

-- the commands of these records
abbrev pub text : List Record → List ℕ
text rs = entries_bytes (map transistor rs)

text_more : (rs : List Record) (i : ℕ) (d : Record) → i < length rs → text (take (i + 1) rs) ≡ text (take i rs) ++ (0x20 ∷ operands (get_or rs i d))
text_more rs i d h =
    ap text (take_more rs i d h) ∙ ap entries_bytes (map_push transistor (take i rs) (get_or rs i d))
    ∙ flat_map-append entry_bytes (map transistor (take i rs)) (transistor (get_or rs i d) ∷ [])

-- one transistor more
pub put_step : (rs : List Record) (i : ℕ) (d : Record) (buf entry part : List ℕ) → i < length rs
    → buf ≡ over (text (take i rs)) entry → part ≡ 0x20 ∷ operands (get_or rs i d)
    → put_mid (17 * i) (17 * i + 17 - 17 * i) buf part ≡ over (text (take (i + 1) rs)) entry
put_step rs i d buf entry part h inv e =
    let more = 0x20 ∷ operands (get_or rs i d) in
    let at : 17 * i ≡ length (text (take i rs)) = omega (arith, entries_length (take i rs), length-take-le i rs (omega arith)) in
    ap (put_mid (17 * i) (17 * i + 17 - 17 * i) buf) e
    ∙ ap (λ k. put_mid (17 * i) k buf more) {y = 17} (omega arith)
    ∙ ap (over_at (17 * i) more) inv ∙ over_more (text (take i rs)) more entry (17 * i) at
    ∙ ap (λ t. over t entry) (sym (text_more rs i d h))

-- the buffer with begin at its front
abbrev pub begun : List ℕ → List ℕ
begun buf = set (set buf 0 0x10) 1 1

pub begun_length : (buf : List ℕ) → length (begun buf) ≡ length buf
begun_length buf = length-set (set buf 0 0x10) 1 1 ∙ length-set buf 0 0x10

pub text_room : (rs : List Record) (buf : List ℕ) → length (table_deck rs) ≤ length buf → 17 * length rs ≤ length (take (length (begun buf) - 2) (drop 2 (begun buf)))
text_room rs buf h = omega (arith, deck_length rs, begun_length buf, ap length (take_rest (begun buf) 2), length-drop 2 (begun buf))

-- begin, the transistors and end
module _ (rs : List Record) (buf part : List ℕ) (h : length (table_deck rs) ≤ length buf) (e : part ≡ over (text rs) (take (length (begun buf) - 2) (drop 2 (begun buf)))) where
  abbrev filled : List ℕ
  filled = put_mid 2 (length (begun buf) - 2) (begun buf) part

  long : 3 + 17 * length rs ≤ length buf
  long = omega (arith, deck_length rs)

  put_text : Begun (2 + 17 * length rs) (0x10 ∷ 1 ∷ text rs) buf filled
  put_text =
      let size = entries_length rs in
      let start : Begun 0 [] buf buf = (refl, refl) in
      let one = begun_byte 0 0x10 [] buf buf start (omega (arith, long)) in
      let two = begun_byte 1 1 (0x10 ∷ []) buf (set buf 0 0x10) one (omega (arith, long)) in
      let fits : length (text rs) ≤ length (take (length (begun buf) - 2) (drop 2 (begun buf))) = omega (arith, text_room rs buf h) in
      begun_more 2 (2 + 17 * length rs) (0x10 ∷ 1 ∷ []) (text rs) buf (begun buf) filled two (omega arith) (over_lent 2 (length (begun buf) - 2) (text rs) (begun buf) part fits e)

  pub end_room : 2 + 17 * length rs < length (put_mid 2 (length (begun buf) - 2) (begun buf) part)
  end_room = omega (arith, long, ap length put_text.1, length_over (0x10 ∷ 1 ∷ text rs) buf (omega (arith, long, put_text.0)))

  pub put_whole : set (put_mid 2 (length (begun buf) - 2) (begun buf) part) (2 + 17 * length rs) 0x7F ≡ over (table_deck rs) buf
  put_whole = (begun_byte (2 + 17 * length rs) 0x7F (0x10 ∷ 1 ∷ text rs) buf filled put_text (omega (arith, long))).1

-- the answers of the writer

module _ (rs xs : List Record) (buf : List ℕ) (same : xs ≡ rs) (h : table_verdict rs ≡ Ok tt) where
  needed : 3 + 17 * length xs ≡ length (table_deck rs)
  needed = omega (arith, deck_length rs, ap length same)

  pub writer_short : length buf < 3 + 17 * length xs → (Err (TooShort (3 + 17 * length xs)) ≡ writer_answer rs buf) × (buf ≡ writer_buffer rs buf)
  writer_short l =
      let less : length buf < length (table_deck rs) = omega (arith, needed) in (
        sym (ap (λ v. checked_answer v (answer_of (table_deck rs) buf)) h ∙ answer_short (table_deck rs) buf less ∙ ap (λ n. Err (TooShort n)) (sym needed)),
        sym (ap (λ v. checked_buffer v buf (buffer_after (table_deck rs) buf)) h ∙ after_short (table_deck rs) buf less),
      )

  pub writer_room : 3 + 17 * length xs ≤ length buf → length (table_deck xs) ≤ length buf
  writer_room l = omega (arith, deck_length xs)

  pub writer_done : (after : List ℕ) → 3 + 17 * length xs ≤ length buf → after ≡ over (table_deck xs) buf → (Ok (3 + 17 * length xs) ≡ writer_answer rs buf) × (after ≡ writer_buffer rs buf)
  writer_done after l e =
      let fits : length (table_deck rs) ≤ length buf = omega (arith, needed) in (
        sym (ap (λ v. checked_answer v (answer_of (table_deck rs) buf)) h ∙ answer_fits (table_deck rs) buf fits ∙ ap (λ n. Ok n) (sym needed)),
        e ∙ ap (λ q. over (table_deck q) buf) same ∙ sym (ap (λ v. checked_buffer v buf (buffer_after (table_deck rs) buf)) h ∙ after_fits (table_deck rs) buf fits),
      )
