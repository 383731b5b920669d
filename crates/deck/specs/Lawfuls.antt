-- What a deck tells keeps the ranges and the total width.
use Rattle.std.specs.Prelude.{◌≡◌, ℕ, zero, suc, ◌+◌, ◌<◌, ◌≤◌, Bool, true, false, cond, List, [], ◌∷◌, map, length, take, Ok, Err, ◌==◌, nat_le, nat_lt, refl}
use Rattle.std.proofs.Common.{sym, arith}
use Rattle.std.specs.List.{AllByRecursion}
use Rattle.std.proofs.lemmas.List.{length-map}
use Rattle.std.proofs.lemmas.Bool.{ltb-true}
use Rattle.refusal.specs.declared.refusal.Refusal.TheVariants.{TooLong, UnknownCommand, CutShort, OutOfOrder, OutOfRange, TooManyTransistors}
use Rattle.net.specs.Mods.{Lawful}
use Rattle.record.specs.declared.records.Record.{Record}
use Rattle.record.specs.Records.{fits, first_unfit, stated}
use Rattle.table.specs.Tables.{Verdict}
use Rattle.table.specs.Lawfuls.{fits_all_range, few_lawful}
use Rattle.deck.specs.Format.{Entry, transistor, remark, operand_offset, records_of}
use Rattle.deck.specs.Verdicts.{record_at, at_end, transistor_verdict, command_verdict, commands_verdict, opening_verdict, deck_verdict, entry_then, entries_in, deck_tells}

-- the transistors of these entries are in range, and behind n others there are no more than 256
pub record Fine (n : ℕ) (es : List Entry) : Type 0 where
  pub fit : AllByRecursion (λ r. fits r ≡ true) (records_of es)
  pub few : n + length (records_of es) ≤ 256

none_fine : (n : ℕ) → n ≤ 256 → Fine n []
none_fine n h = record { fit = tt; few = omega arith }

accepted_entry : (n offset b : ℕ) (bs : List ℕ) (A B : Verdict) (es : List Entry) → n ≤ 256
    → (n < 256 → A ≡ Ok tt → Fine (n + 1) es) → (B ≡ Ok tt → Fine n es)
    → command_verdict b offset (length bs) (transistor_verdict n offset (record_at bs) A) B (at_end (offset + 1) bs) ≡ Ok tt
    → Fine n (entry_then b bs es)
accepted_entry n offset b bs A B es h on_t on_r e = go (b == 0x20) (nat_le 16 (length bs)) (b == 0x30) (b == 0x7F) (b == 0x10) (nat_lt n 256) (fits r) refl refl e
  where
    r : Record
    r = record_at bs

    go : (t l m z g s f : Bool) → nat_lt n 256 ≡ s → fits (record_at bs) ≡ f
        → cond t (cond l (cond s (cond f A (Err (OutOfRange (offset + 1 + operand_offset (first_unfit (record_at bs)))))) (Err (TooManyTransistors offset))) (Err (CutShort (offset + 1 + length bs)))) (cond m (cond l B (Err (CutShort (offset + 1 + length bs)))) (cond z (at_end (offset + 1) bs) (cond g (Err (OutOfOrder offset)) (Err (UnknownCommand offset))))) ≡ Ok tt
        → Fine n (cond l (cond t (transistor (record_at bs) ∷ es) (cond m (remark (take 16 bs) ∷ es) [])) [])
    go true true m z g true true p q e =
        let f = on_t (ltb-true n 256 p) e in
        record { fit = (q, f.fit); few = omega (arith, f.few) }
    go true true m z g true false p q e = absurd (cc)
    go true true m z g false f p q e = absurd (cc)
    go true false m z g s f p q e = absurd (cc)
    go false true true z g s f p q e = let f = on_r e in record { fit = f.fit; few = f.few }
    go false false true z g s f p q e = absurd (cc)
    go false true false z g s f p q e = none_fine n h
    go false false false z g s f p q e = none_fine n h

accepted_fine : (n k offset : ℕ) (bs : List ℕ) → n ≤ 256 → commands_verdict n k offset bs ≡ Ok tt → Fine n (entries_in k bs)
unfolding commands_verdict entries_in
accepted_fine n k offset [] h e = none_fine n h
accepted_fine n zero offset (b ∷ bs) h e =
    accepted_entry n offset b bs (commands_verdict (n + 1) 16 (offset + 1) bs) (commands_verdict n 16 (offset + 1) bs) (entries_in 16 bs) h
    (λ lt. accepted_fine (n + 1) 16 (offset + 1) bs (omega arith))
    (accepted_fine n 16 (offset + 1) bs h)
    e
accepted_fine n (suc k) offset (b ∷ bs) h e = accepted_fine n k (offset + 1) bs h e

opened_fine : (bs : List ℕ) → opening_verdict bs ≡ Ok tt → Fine 0 (entries_in 2 bs)
unfolding entries_in
opened_fine [] h = none_fine 0 (omega arith)
opened_fine (b ∷ []) h = none_fine 0 (omega arith)
opened_fine (b ∷ e ∷ bs) h = go (b == 0x10) (e == 1) h
  where
    go : (x y : Bool) → cond x (cond y (commands_verdict 0 0 2 bs) (Err (OutOfRange 1))) (Err (OutOfOrder 0)) ≡ Ok tt → Fine 0 (entries_in 0 bs)
    go true true h = accepted_fine 0 0 2 bs (omega arith) h
    go true false h = absurd (cc)
    go false y h = absurd (cc)

-- the transistors of an accepted deck are in range, and at most 256
pub accepted_entries : (bs : List ℕ) → deck_verdict bs ≡ Ok tt → Fine 0 (entries_in 2 bs)
unfolding deck_verdict
accepted_entries bs h = go (nat_lt 16384 (length bs)) h
  where
    go : (x : Bool) → cond x (Err (TooLong (length bs))) (opening_verdict bs) ≡ Ok tt → Fine 0 (entries_in 2 bs)
    go true h = absurd (cc)
    go false h = opened_fine bs h

pub deck_lawful : (v : Verdict) (bs : List ℕ) → v ≡ deck_verdict bs → Lawful (deck_tells v bs)
deck_lawful (Ok u) bs e =
    let rs = records_of (entries_in 2 bs) in
    let f = accepted_entries bs (sym e) in
    few_lawful (map stated rs) (fits_all_range rs f.fit) (omega (arith, f.few, length-map rs stated))
deck_lawful (Err x) bs e = record { each = tt; total = omega arith }
