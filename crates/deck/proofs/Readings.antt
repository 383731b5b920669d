-- Steps of the reader of commands, and what an accepted deck tells.
use Rattle.std.proofs.Common.{◌≡◌, ℕ, ◌+◌, ◌<◌, ◌≤◌, Bool, true, false, cond, eqb, ltb, leb, List, [], ◌∷◌, ◌++◌, map, length, take, drop, Some, Ok, Err, sym, refl, ap, ◌∙◌, arith}
use Rattle.std.specs.List.{AllByRecursion}
use Rattle.std.proofs.lemmas.List.{length-append, drop-drop, drop_at, take_at, drop_all}
use Rattle.std.proofs.lemmas.Bool.{ne_eqb, lt-leb, cond-true, cond-false}
use Rattle.refusal.specs.declared.refusal.Refusal.{Refusal}
use Rattle.refusal.specs.declared.refusal.Refusal.TheVariants.{TooLong, CutShort, OutOfOrder}
use Rattle.record.specs.Records.{fits, stated}
use Rattle.table.specs.Tables.{Verdict}
use Rattle.deck.specs.declared.commands.Command.{Command}
use Rattle.deck.specs.declared.commands.Command.TheVariants.{Transistor, Remark, End}
use Rattle.deck.specs.Commands.{Gives}
use Rattle.deck.specs.Format.{Entry, transistor, remark, operands, records_of}
use Rattle.deck.specs.Lawfuls.{accepted_entries}
use Rattle.deck.specs.Reading.{First, Reads, told}
use Rattle.deck.specs.Rules.{Unreadable}
use Rattle.deck.specs.Verdicts.{opening_verdict, deck_verdict, entries_in, commands_offset, deck_entries, deck_tells}
use Rattle.deck.specs.Told.{Told}
use Rattle.deck.proofs.Written.{transistor_entries, remark_entries, accepted_verdict, refused_verdict, deck_back}

-- where a command of 17 bytes was read, the rest stands 17 further on
part_behind : (bs behind front deck : List ℕ) (offset : ℕ) → bs ≡ front ++ behind → length front ≡ 17 → bs ≡ drop offset deck → behind ≡ drop (offset + 17) deck
part_behind bs behind front deck offset w size p = sym (drop_at front behind 17 size) ∙ ap (drop 17) (sym w ∙ p) ∙ drop-drop 17 offset deck

-- the next place is behind the command
step_on : (bs front behind : List ℕ) (offset offset' : ℕ) → bs ≡ front ++ behind → length front ≡ 17 → offset' + length behind ≡ offset + length bs → offset' ≡ offset + 17
step_on bs front behind offset offset' w size f = omega (arith, ap length w, length-append front behind)

pub read_step : (bs : List ℕ) (offset : ℕ) (c : Command) (behind : List ℕ) (offset' : ℕ) → Gives bs offset c behind offset' → (c ≡ End → ⊥) → Reads bs offset (Some c) behind offset'
read_step bs offset (Transistor r) behind offset' g h =
    let on = step_on bs (0x20 ∷ operands r) behind offset offset' g.says refl g.further in (
      ap (entries_in 0) g.says ∙ transistor_entries r behind,
      on,
      λ deck p. (part_behind bs behind (0x20 ∷ operands r) deck offset g.says refl p ∙ ap (λ k. drop k deck) (sym on), tt),
    )
read_step bs offset (Remark at bytes) behind offset' g h =
    let text = bytes.now in
    let w = g.says in
    let size = w.1 in
    let on = step_on bs (0x30 ∷ text) behind offset offset' w.0 (omega arith) g.further in (
      ap (entries_in 0) w.0 ∙ remark_entries text behind size,
      on,
      λ deck p. (
        part_behind bs behind (0x30 ∷ text) deck offset w.0 (omega arith) p ∙ ap (λ k. drop k deck) (sym on),
        (sym (ap (λ k. take 16 (drop k deck)) w.2 ∙ ap (take 16) (sym (drop-drop 1 offset deck) ∙ ap (drop 1) (sym p ∙ w.0)) ∙ take_at text behind 16 size), size),
      ),
    )
read_step bs offset End behind offset' g h = absurd (h refl)

either_none : {X : Type 0} (b : Bool) → ◌≡◌ {A = List X} (cond b [] []) []
either_none true = refl
either_none false = refl

pub end_none : (bs : List ℕ) (offset : ℕ) (c : Command) (behind : List ℕ) (offset' : ℕ) → Gives bs offset c behind offset' → c ≡ End → entries_in 0 bs ≡ []
unfolding entries_in
end_none bs offset c behind offset' g e = let h = rw e at g.says in ap (entries_in 0) h ∙ either_none (leb 16 (length behind))

cut_none : (rest : List ℕ) (xs : List Entry) → length rest < 16 → cond (leb 16 (length rest)) xs [] ≡ []
cut_none rest xs h = cond-false (leb 16 (length rest)) xs [] (lt-leb 16 (length rest) h)

pub unreadable_none : (bs : List ℕ) (offset : ℕ) (x : Refusal) → Unreadable offset bs x → entries_in 0 bs ≡ []
unfolding entries_in
unreadable_none bs offset x (Unreadable.no_byte p q) = ap (entries_in 0) p
unreadable_none bs offset x (Unreadable.begin_again rest p q) = ap (entries_in 0) p ∙ either_none (leb 16 (length rest))
unreadable_none bs offset x (Unreadable.unknown b rest p no_such q) =
    ap (entries_in 0) p ∙ simp (ne_eqb b 0x20 no_such.no_transistor, ne_eqb b 0x30 no_such.no_remark) (either_none (leb 16 (length rest)))
unreadable_none bs offset x (Unreadable.cut_transistor rest p h q) = ap (entries_in 0) p ∙ cut_none rest _ h
unreadable_none bs offset x (Unreadable.cut_remark rest p h q) = ap (entries_in 0) p ∙ cut_none rest _ h

-- where the entries of an accepted deck stand

one_byte : {P : Type 0} (x : Bool) → ◌≡◌ {A = Verdict} (cond x (Err (CutShort 1)) (Err (OutOfOrder 0))) (Ok tt) → P
one_byte true h = absurd (cc)
one_byte false h = absurd (cc)

opened_entries : (bs : List ℕ) → opening_verdict bs ≡ Ok tt → (2 ≤ length bs) × (entries_in 0 (drop 2 bs) ≡ entries_in 2 bs)
unfolding entries_in
opened_entries [] h = absurd (cc)
opened_entries (b ∷ []) h = one_byte (eqb b 0x10) h
opened_entries (b ∷ e ∷ bs) h = (omega arith, refl)

pub deck_entries_lem : (bs : List ℕ) → deck_verdict bs ≡ Ok tt → (2 ≤ length bs) × (entries_in 0 (drop 2 bs) ≡ entries_in 2 bs)
unfolding deck_verdict
deck_entries_lem bs h = go (ltb 16384 (length bs)) h
  where
    go : (x : Bool) → cond x (Err (TooLong (length bs))) (opening_verdict bs) ≡ Ok tt → (2 ≤ length bs) × (entries_in 0 (drop 2 bs) ≡ entries_in 2 bs)
    go true h = absurd (cc)
    go false h = opened_entries bs h

-- what the reader tells of an accepted deck is what its records state

told_fit : (es : List Entry) → AllByRecursion (λ r. fits r ≡ true) (records_of es) → told es ≡ map stated (records_of es)
told_fit [] h = refl
told_fit (transistor r ∷ es) h = cond-true (fits r) _ _ h.0 ∙ ap (λ ms. stated r ∷ ms) (told_fit es h.1)
told_fit (remark bs ∷ es) h = told_fit es h

pub told_accepted : (v : Verdict) (bs rest : List ℕ) → v ≡ deck_verdict bs → entries_in 0 rest ≡ deck_entries (deck_verdict bs) bs → told (entries_in 0 rest) ≡ deck_tells v bs
told_accepted v bs rest e w = ap told w ∙ go (deck_verdict bs) refl ∙ ap (λ u. deck_tells u bs) (sym e)
  where
    go : (u : Verdict) → deck_verdict bs ≡ u → told (deck_entries u bs) ≡ deck_tells u bs
    go (Ok t) e = told_fit (entries_in 2 bs) (accepted_entries bs e).fit
    go (Err x) e = refl

pub first_length : (c : Command) (es rest : List Entry) → First c es rest → length es ≡ length rest + 1
first_length (Transistor r) es rest e = omega (arith, ap length e)
first_length (Remark at bytes) es rest e = omega (arith, ap length e)
first_length End es rest e = absurd e

-- where the commands of a deck begin, and the entries there
pub handed : (bs : List ℕ) (start : ℕ) → start ≡ commands_offset (deck_verdict bs) bs → (start ≤ length bs) × (entries_in 0 (drop start bs) ≡ deck_entries (deck_verdict bs) bs)
unfolding entries_in
handed bs start e = go (deck_verdict bs) refl e
  where
    go : (v : Verdict) → deck_verdict bs ≡ v → start ≡ commands_offset v bs → (start ≤ length bs) × (entries_in 0 (drop start bs) ≡ deck_entries v bs)
    go (Ok u) f e = let h = deck_entries_lem bs f in rw e h
    go (Err x) f e = (omega arith, ap (entries_in 0) (drop_all start bs (omega arith)))

-- what a deck tells, by its written form
pub deck_told : (bs : List ℕ) (v : Verdict) → v ≡ deck_verdict bs → Told bs (deck_tells v bs)
deck_told bs v e =
    record {
      accepted = λ a.
          ap (λ u. deck_tells u bs) (e ∙ accepted_verdict bs a)
          ∙ ap (λ xs. map stated (records_of (entries_in 2 xs))) a.written
          ∙ ap (λ es. map stated (records_of es)) (deck_back a.entries a.sound.keep);
      refused = λ x r. ap (λ u. deck_tells u bs) (e ∙ refused_verdict bs x r);
    }
