-- The check and the reading of a deck, over its written form.
use Rattle.std.proofs.Common.{◌≡◌, ℕ, zero, suc, ◌+◌, ◌<◌, ◌≤◌, Bool, true, false, cond, eqb, leb, ltb, List, [], ◌∷◌, ◌++◌, length, take, Ok, Err, sym, refl, ap, ◌∙◌, append_assoc, append-nil, arith}
use Rattle.std.specs.List.{AllByRecursion}
use Rattle.std.proofs.lemmas.List.{length-append, take_at}
use Rattle.std.proofs.lemmas.Bool.{lt-ltb, le-ltb, le-leb, lt-leb, ne_eqb, cond-true, cond-false}
use Rattle.std.proofs.lemmas.Nat.{div-add-mod'}
use Rattle.refusal.specs.declared.refusal.Refusal.{Refusal}
use Rattle.refusal.specs.declared.refusal.Refusal.TheVariants.{CutShort, OutOfRange, TooManyTransistors}
use Rattle.record.specs.declared.records.Record.{Record}
use Rattle.record.specs.Records.{fits, first_unfit}
use Rattle.table.specs.Tables.{Verdict}
use Rattle.deck.specs.Format.{Entry, transistor, remark, operands, operand_offset, entry_bytes, entries_bytes, deck_bytes, records_of, Keeps}
use Rattle.deck.specs.Rules.{Sound, Accepted, Unreadable, Stops, Unopened, Refused}
use Rattle.deck.specs.Verdicts.{record_at, at_end, transistor_verdict, commands_verdict, opening_verdict, deck_verdict, entry_then, entries_in}

-- a record is what its operands say
pub record_back : (r : Record) (bs : List ℕ) → record_at (operands r ++ bs) ≡ r
record_back r bs = simp div-add-mod'

-- operand bytes are passed over
pass_verdict : (xs ys : List ℕ) (n k offset : ℕ) → length xs ≡ k → commands_verdict n k offset (xs ++ ys) ≡ commands_verdict n 0 (offset + k) ys
unfolding commands_verdict
pass_verdict [] ys n zero offset h = ap (λ a. commands_verdict n 0 a ys) (omega arith)
pass_verdict [] ys n (suc k) offset h = absurd (omega arith)
pass_verdict (x ∷ xs) ys n zero offset h = absurd (omega arith)
pass_verdict (x ∷ xs) ys n (suc k) offset h = pass_verdict xs ys n k (offset + 1) (omega arith) ∙ ap (λ a. commands_verdict n 0 a ys) (omega arith)

pass_entries : (xs ys : List ℕ) (k : ℕ) → length xs ≡ k → entries_in k (xs ++ ys) ≡ entries_in 0 ys
unfolding entries_in
pass_entries [] ys zero h = refl
pass_entries [] ys (suc k) h = absurd (omega arith)
pass_entries (x ∷ xs) ys zero h = absurd (omega arith)
pass_entries (x ∷ xs) ys (suc k) h = pass_entries xs ys k (omega arith)

-- one command of the written form

module _ (n offset : ℕ) where
  pub transistor_verdict_lem : (r : Record) (rest : List ℕ) → commands_verdict n 0 offset (0x20 ∷ (operands r ++ rest)) ≡ transistor_verdict n offset r (commands_verdict (n + 1) 0 (offset + 17) rest)
  unfolding commands_verdict
  transistor_verdict_lem r rest =
      let bs = operands r ++ rest in
      let size : length (operands r) ≡ 16 = refl in
      let long : 16 ≤ length bs = omega (arith, length-append (operands r) rest) in
      let next = pass_verdict (operands r) rest (n + 1) 16 (offset + 1) refl ∙ ap (λ a. commands_verdict (n + 1) 0 a rest) (omega arith) in
      cond-true (leb 16 (length bs)) _ _ (le-leb 16 (length bs) long)
      ∙ ap (λ q. transistor_verdict n offset q (commands_verdict (n + 1) 16 (offset + 1) bs)) (record_back r rest)
      ∙ ap (λ v. transistor_verdict n offset r v) next

  pub remark_verdict : (bs rest : List ℕ) → length bs ≡ 16 → commands_verdict n 0 offset (0x30 ∷ (bs ++ rest)) ≡ commands_verdict n 0 (offset + 17) rest
  unfolding commands_verdict
  remark_verdict bs rest size =
      let long : 16 ≤ length (bs ++ rest) = omega (arith, length-append bs rest) in
      cond-true (leb 16 (length (bs ++ rest))) _ _ (le-leb 16 (length (bs ++ rest)) long)
      ∙ pass_verdict bs rest n 16 (offset + 1) size ∙ ap (λ a. commands_verdict n 0 a rest) (omega arith)

  pub end_verdict : (rest : List ℕ) → commands_verdict n 0 offset (0x7F ∷ rest) ≡ at_end (offset + 1) rest
  unfolding commands_verdict
  end_verdict rest = refl

  cut_short : (bs rest : List ℕ) (x : Refusal) (b : ℕ) (v : Verdict) → bs ≡ b ∷ rest → length rest < 16 → x ≡ CutShort (offset + length bs) → cond (leb 16 (length rest)) v (Err (CutShort (offset + 1 + length rest))) ≡ Err x
  cut_short bs rest x b v p h q =
      cond-false (leb 16 (length rest)) _ _ (lt-leb 16 (length rest) h)
      ∙ ap (λ a. Err (CutShort a)) (omega (arith, ap length p)) ∙ ap Err (sym q)

  pub unreadable_verdict : (bs : List ℕ) (x : Refusal) → Unreadable offset bs x → commands_verdict n 0 offset bs ≡ Err x
  unfolding commands_verdict
  unreadable_verdict bs x (Unreadable.no_byte p q) = ap (commands_verdict n 0 offset) p ∙ ap Err (sym q)
  unreadable_verdict bs x (Unreadable.begin_again rest p q) = ap (commands_verdict n 0 offset) p ∙ ap Err (sym q)
  unreadable_verdict bs x (Unreadable.unknown b rest p no_such q) =
      ap (commands_verdict n 0 offset) p
      ∙ simp (ne_eqb b 0x20 no_such.no_transistor, ne_eqb b 0x30 no_such.no_remark, ne_eqb b 0x7F no_such.no_end, ne_eqb b 0x10 no_such.no_begin) (ap Err (sym q))
  unreadable_verdict bs x (Unreadable.cut_transistor rest p h q) = ap (commands_verdict n 0 offset) p ∙ cut_short bs rest x 0x20 _ p h q
  unreadable_verdict bs x (Unreadable.cut_remark rest p h q) = ap (commands_verdict n 0 offset) p ∙ cut_short bs rest x 0x30 _ p h q

  -- a transistor that is refused, or accepted
  pub many_verdict : (r : Record) (v : Verdict) → 256 ≤ n → transistor_verdict n offset r v ≡ Err (TooManyTransistors offset)
  many_verdict r v h = cond-false (ltb n 256) _ _ (le-ltb n 256 h)

  pub fit_verdict : (r : Record) (v : Verdict) (f : Bool) → n < 256 → fits r ≡ f → transistor_verdict n offset r v ≡ cond f v (Err (OutOfRange (offset + 1 + operand_offset (first_unfit r))))
  fit_verdict r v f h e =
      cond-true (ltb n 256) _ _ (lt-ltb n 256 h)
      ∙ ap (λ b. cond b v (Err (OutOfRange (offset + 1 + operand_offset (first_unfit r))))) e

  pub stops_verdict : (bs : List ℕ) (x : Refusal) → Stops n offset bs x → commands_verdict n 0 offset bs ≡ Err x
  stops_verdict bs x (Stops.unreadable u) = unreadable_verdict bs x u
  stops_verdict bs x (Stops.too_many r rest p h q) = ap (commands_verdict n 0 offset) p ∙ transistor_verdict_lem r rest ∙ many_verdict r _ h ∙ ap Err (sym q)
  stops_verdict bs x (Stops.unfit r rest p h f q) = ap (commands_verdict n 0 offset) p ∙ transistor_verdict_lem r rest ∙ fit_verdict r _ false h f ∙ ap Err (sym q)
  stops_verdict bs x (Stops.behind_end b rest p q) = ap (commands_verdict n 0 offset) p ∙ end_verdict (b ∷ rest) ∙ ap Err (sym q)

-- entries that keep the rules are passed
pub sound_verdict : (es : List Entry) (n offset : ℕ) (rest : List ℕ) → AllByRecursion Keeps es → n + length (records_of es) ≤ 256 → commands_verdict n 0 offset (entries_bytes es ++ rest) ≡ commands_verdict (n + length (records_of es)) 0 (offset + length (entries_bytes es)) rest
sound_verdict [] n offset rest h few = ap (λ m. commands_verdict m 0 offset rest) (omega arith) ∙ ap (λ a. commands_verdict (n + 0) 0 a rest) (omega arith)
sound_verdict (transistor r ∷ es) n offset rest h few =
    let v = commands_verdict (n + 1) 0 (offset + 17) (entries_bytes es ++ rest) in
    let size : length (entry_bytes (transistor r)) ≡ 17 = refl in
    let long = length-append (entry_bytes (transistor r)) (entries_bytes es) in
    transistor_verdict_lem n offset r (entries_bytes es ++ rest) ∙ fit_verdict n offset r v true (omega arith) h.0
    ∙ sound_verdict es (n + 1) (offset + 17) rest h.1 (omega arith)
    ∙ ap (λ m. commands_verdict m 0 (offset + 17 + length (entries_bytes es)) rest) (omega arith)
    ∙ ap (λ a. commands_verdict (n + length (records_of (transistor r ∷ es))) 0 a rest) (omega arith)
sound_verdict (remark bs ∷ es) n offset rest h few =
    let long = length-append (entry_bytes (remark bs)) (entries_bytes es) in
    let size = h.0 in
    ap (λ xs. commands_verdict n 0 offset (0x30 ∷ xs)) (append_assoc bs (entries_bytes es) rest)
    ∙ remark_verdict n offset bs (entries_bytes es ++ rest) h.0
    ∙ sound_verdict es n (offset + 17) rest h.1 few
    ∙ ap (λ a. commands_verdict (n + length (records_of es)) 0 a rest) (omega arith)

entry_back : (b : ℕ) (bs : List ℕ) (next : List Entry) → 16 ≤ length bs → entry_then b bs next ≡ cond (eqb b 0x20) (transistor (record_at bs) ∷ next) (cond (eqb b 0x30) (remark (take 16 bs) ∷ next) [])
entry_back b bs next h = cond-true (leb 16 (length bs)) _ _ (le-leb 16 (length bs) h)

-- and read back
pub transistor_entries : (r : Record) (rest : List ℕ) → entries_in 0 (0x20 ∷ (operands r ++ rest)) ≡ transistor r ∷ entries_in 0 rest
unfolding entries_in
transistor_entries r rest =
    let bs = operands r ++ rest in
    let size : length (operands r) ≡ 16 = refl in
    entry_back 0x20 bs (entries_in 16 bs) (omega (arith, length-append (operands r) rest))
    ∙ ap (λ q. transistor q ∷ entries_in 16 bs) (record_back r rest)
    ∙ ap (λ es. transistor r ∷ es) (pass_entries (operands r) rest 16 refl)

pub remark_entries : (bs rest : List ℕ) → length bs ≡ 16 → entries_in 0 (0x30 ∷ (bs ++ rest)) ≡ remark bs ∷ entries_in 0 rest
unfolding entries_in
remark_entries bs rest size =
    entry_back 0x30 (bs ++ rest) (entries_in 16 (bs ++ rest)) (omega (arith, length-append bs rest))
    ∙ ap (λ q. remark q ∷ entries_in 16 (bs ++ rest)) (take_at bs rest 16 size)
    ∙ ap (λ es. remark bs ∷ es) (pass_entries bs rest 16 size)

pub sound_entries : (es : List Entry) (rest : List ℕ) → AllByRecursion Keeps es → entries_in 0 (entries_bytes es ++ rest) ≡ es ++ entries_in 0 rest
sound_entries [] rest h = refl
sound_entries (transistor r ∷ es) rest h = transistor_entries r (entries_bytes es ++ rest) ∙ ap (λ q. transistor r ∷ q) (sound_entries es rest h.1)
sound_entries (remark bs ∷ es) rest h =
    ap (λ xs. entries_in 0 (0x30 ∷ xs)) (append_assoc bs (entries_bytes es) rest)
    ∙ remark_entries bs (entries_bytes es ++ rest) h.0
    ∙ ap (λ q. remark bs ∷ q) (sound_entries es rest h.1)

-- whole decks

short_verdict : (bs : List ℕ) → length bs ≤ 16384 → deck_verdict bs ≡ opening_verdict bs
unfolding deck_verdict
short_verdict bs h = cond-false (ltb 16384 (length bs)) _ _ (le-ltb 16384 (length bs) h)

pub opened_verdict : (bs rest : List ℕ) (es : List Entry) → length bs ≤ 16384 → Sound es → bs ≡ 0x10 ∷ 1 ∷ (entries_bytes es ++ rest) → deck_verdict bs ≡ commands_verdict (length (records_of es)) 0 (2 + length (entries_bytes es)) rest
opened_verdict bs rest es short s p =
    short_verdict bs short ∙ ap opening_verdict p ∙ sound_verdict es 0 2 rest s.keep (omega (arith, s.few))
    ∙ ap (λ m. commands_verdict m 0 (2 + length (entries_bytes es)) rest) (omega arith)

pub accepted_verdict : (bs : List ℕ) → Accepted bs → deck_verdict bs ≡ Ok tt
accepted_verdict bs a =
    opened_verdict bs (0x7F ∷ []) a.entries a.short a.sound a.written ∙ end_verdict (length (records_of a.entries)) (2 + length (entries_bytes a.entries)) []

unopened_verdict : (bs : List ℕ) (x : Refusal) → Unopened bs x → opening_verdict bs ≡ Err x
unopened_verdict bs x (Unopened.no_byte p q) = ap opening_verdict p ∙ ap Err (sym q)
unopened_verdict bs x (Unopened.no_begin b [] p h q) = ap opening_verdict p ∙ simp (ne_eqb b 0x10 h) (ap Err (sym q))
unopened_verdict bs x (Unopened.no_begin b (e ∷ rest) p h q) = ap opening_verdict p ∙ simp (ne_eqb b 0x10 h) (ap Err (sym q))
unopened_verdict bs x (Unopened.no_edition p q) = ap opening_verdict p ∙ ap Err (sym q)
unopened_verdict bs x (Unopened.other_edition e rest p h q) = ap opening_verdict p ∙ simp (ne_eqb e 1 h) (ap Err (sym q))

pub refused_verdict : (bs : List ℕ) (x : Refusal) → Refused bs x → deck_verdict bs ≡ Err x
unfolding deck_verdict
refused_verdict bs x (Refused.too_long h q) = cond-true (ltb 16384 (length bs)) _ _ (lt-ltb 16384 (length bs) h) ∙ ap Err (sym q)
refused_verdict bs x (Refused.unopened h u) = short_verdict bs h ∙ unopened_verdict bs x u
refused_verdict bs x (Refused.stopped es rest h s p u) = opened_verdict bs rest es h s p ∙ stops_verdict (length (records_of es)) (2 + length (entries_bytes es)) rest x u

-- the entries of the written form are read
pub deck_back : (es : List Entry) → AllByRecursion Keeps es → entries_in 2 (deck_bytes es) ≡ es
unfolding entries_in
deck_back es h = sound_entries es (0x7F ∷ []) h ∙ append-nil es
