-- The check of a deck, step by step, and that its answer is the one that the rules give.
use Rattle.std.proofs.Common.{◌≡◌, ℕ, ◌+◌, ◌<◌, ◌≤◌, Bool, true, false, cond, List, [], ◌∷◌, ◌++◌, length, get_or, Ok, Err, sym, refl, ap, ◌∙◌, append_assoc, arith, MatchResult, Bor, nat_lt, ltb-true, ltb-false}
use Rattle.std.specs.List.{AllByRecursion}
use Rattle.std.proofs.lemmas.List.{length-append}
use Rattle.std.proofs.lemmas.Grind.{flat_map-append}
use Rattle.refusal.specs.declared.refusal.Refusal.{Refusal}
use Rattle.refusal.specs.declared.refusal.Refusal.TheVariants.{OutOfOrder, OutOfRange, TooManyTransistors}
use Rattle.record.specs.declared.records.Record.{Record}
use Rattle.record.specs.Records.{fits, first_unfit}
use Rattle.table.specs.Tables.{Verdict}
use Rattle.deck.specs.declared.commands.Command.{Command}
use Rattle.deck.specs.declared.commands.Command.TheVariants.{Transistor, Remark, End}
use Rattle.deck.specs.Commands.{Gives}
use Rattle.deck.specs.Format.{Entry, transistor, remark, operands, operand_offset, entry_bytes, entries_bytes, records_of, Keeps}
use Rattle.deck.specs.Rules.{Accepted, Unreadable, Stops, Unopened, Refused, Judged}
use Rattle.deck.specs.Passes.{Passed, Ended, Stopped}
use Rattle.deck.specs.Verdicts.{at_end, transistor_verdict, deck_verdict}
use Rattle.deck.proofs.Written.{accepted_verdict, refused_verdict}
use Rattle.deck.proofs.Fronts.{behind, front}

-- one entry more

bytes_before : (es : List Entry) (e : Entry) (rest : List ℕ) → entries_bytes (es ++ e ∷ []) ++ rest ≡ entries_bytes es ++ (entry_bytes e ++ rest)
bytes_before es e rest =
    ap (λ q. q ++ rest) (flat_map-append entry_bytes es (e ∷ [])) ∙ append_assoc (entries_bytes es) (entry_bytes e ++ []) rest
    ∙ ap (λ q. entries_bytes es ++ q) (append_assoc (entry_bytes e) [] rest)

records_push : (es : List Entry) (e : Entry) → records_of (es ++ e ∷ []) ≡ records_of es ++ records_of (e ∷ [])
records_push [] e = refl
records_push (transistor r ∷ es) e = ap (λ q. r ∷ q) (records_push es e)
records_push (remark bs ∷ es) e = records_push es e

keeps_push : (es : List Entry) (e : Entry) → AllByRecursion Keeps es → Keeps e → AllByRecursion Keeps (es ++ e ∷ [])
keeps_push [] e h k = (k, tt)
keeps_push (x ∷ es) e h k = (h.0, keeps_push es e h.1 k)

passed_entry : (bs rest rest' : List ℕ) (offset offset' n n' : ℕ) (e : Entry) → Passed bs rest offset n → rest ≡ entry_bytes e ++ rest' → offset' + length rest' ≡ offset + length rest → Keeps e → n' ≡ n + length (records_of (e ∷ [])) → n' ≤ 256 → Passed bs rest' offset' n'
passed_entry bs rest rest' offset offset' n n' e p w further k m few =
    let es = p.entries in
    let many = ap length (records_push es e) ∙ length-append (records_of es) (records_of (e ∷ [])) in
    let long = ap length (flat_map-append entry_bytes es (e ∷ [])) ∙ length-append (entries_bytes es) (entry_bytes e ++ []) in
    let last = length-append (entry_bytes e) [] in
    let size = ap length w ∙ length-append (entry_bytes e) rest' in
    record {
      entries = es ++ e ∷ [];
      sound = record { keep = keeps_push es e p.sound.keep k; few = omega (arith, p.many) };
      written = p.written ∙ ap (λ q. entries_bytes es ++ q) w ∙ sym (bytes_before es e rest');
      place = omega (arith, p.place);
      many = omega (arith, p.many);
    }

-- what the check of a transistor answers

accepted_transistor : (n offset : ℕ) (r : Record) → ◌≡◌ {A = Verdict} (Ok tt) (transistor_verdict n offset r (Ok tt)) → (n < 256) × (fits r ≡ true)
accepted_transistor n offset r e = go (nat_lt n 256) (fits r) refl refl e
  where
    go : (b f : Bool) → nat_lt n 256 ≡ b → fits r ≡ f → ◌≡◌ {A = Verdict} (Ok tt) (cond b (cond f (Ok tt) (Err (OutOfRange (offset + 1 + operand_offset (first_unfit r))))) (Err (TooManyTransistors offset))) → (n < 256) × (fits r ≡ true)
    go true true p q e = (ltb-true n 256 p, q)
    go true false p q e = absurd (cc)
    go false f p q e = absurd (cc)

refused_transistor : (n offset : ℕ) (r : Record) (rest rest' : List ℕ) (x : Refusal) → rest ≡ 0x20 ∷ (operands r ++ rest') → ◌≡◌ {A = Verdict} (Err x) (transistor_verdict n offset r (Ok tt)) → Stops n offset rest x
refused_transistor n offset r rest rest' x w e = go (nat_lt n 256) (fits r) refl refl e
  where
    go : (b f : Bool) → nat_lt n 256 ≡ b → fits r ≡ f → ◌≡◌ {A = Verdict} (Err x) (cond b (cond f (Ok tt) (Err (OutOfRange (offset + 1 + operand_offset (first_unfit r))))) (Err (TooManyTransistors offset))) → Stops n offset rest x
    go true true p q e = absurd (cc)
    go true false p q e = Stops.unfit r rest' w (ltb-true n 256 p) q (cc)
    go false f p q e = Stops.too_many r rest' w (ltb-false n 256 p) (cc)

-- how the pass goes on and ends, by the command that was read

module _ (bs rest : List ℕ) (offset n : ℕ) (p : Passed bs rest offset n) where
  stopped : (x : Refusal) → Stops n offset rest x → Stopped bs x
  stopped x s = record { rest = rest; offset = offset; before = n; passed = p; stops = s }

  pub stopped_unreadable : (x : Refusal) → Unreadable offset rest x → Stopped bs x
  stopped_unreadable x u = stopped x (Stops.unreadable u)

  module _ (c : Command) (rest' : List ℕ) (offset' : ℕ) (g : Gives rest offset c rest' offset') where
    pub passed_transistor : (r : Record) → c ≡ Transistor r → ◌≡◌ {A = Verdict} (Ok tt) (transistor_verdict n offset r (Ok tt)) → Passed bs rest' offset' (n + 1)
    passed_transistor r e v =
        let h = accepted_transistor n offset r v in
        passed_entry bs rest rest' offset offset' n (n + 1) (transistor r) p (rw e at g.says) g.further h.1 refl (omega (arith, h.0))

    pub passed_remark : (at : ℕ) (bytes : Bor (List ℕ)) → c ≡ Remark at bytes → Passed bs rest' offset' n
    passed_remark at bytes e =
        let h = rw e at g.says in
        passed_entry bs rest rest' offset offset' n n (remark bytes.now) p h.0 g.further h.1 (omega arith) (omega (arith, p.sound.few, p.many))

    pub stopped_transistor : (r : Record) (x : Refusal) → c ≡ Transistor r → ◌≡◌ {A = Verdict} (Err x) (transistor_verdict n offset r (Ok tt)) → Stopped bs x
    stopped_transistor r x e v = stopped x (refused_transistor n offset r rest rest' x (rw e at g.says) v)

    pub ended : (v : Verdict) → c ≡ End → v ≡ at_end offset' rest' → MatchResult v (λ _. Ended bs) (λ x. Stopped bs x)
    ended v e = go v rest' (rw e at g.says) g.further
      where
        go : (v : Verdict) (rest' : List ℕ) → rest ≡ 0x7F ∷ rest' → offset' + length rest' ≡ offset + length rest → v ≡ at_end offset' rest' → MatchResult v (λ _. Ended bs) (λ x. Stopped bs x)
        go (Ok u) [] w f e = record { entries = p.entries; sound = p.sound; written = p.written ∙ ap (λ q. entries_bytes p.entries ++ q) w }
        go (Err x) [] w f e = absurd (cc)
        go (Ok u) (b ∷ rest') w f e = absurd (cc)
        go (Err x) (b ∷ rest') w f e =
            let on : offset' ≡ offset + 1 = omega (arith, ap length w) in
            let q : x ≡ OutOfOrder (offset + 1) = cc in
            stopped x (Stops.behind_end b rest' w q)

-- the opening

module _ (bs : List ℕ) (some : 1 ≤ length bs) where
  pub unopened_byte : (get_or bs 0 0 ≡ 0x10 → ⊥) → Unopened bs (OutOfOrder 0)
  unopened_byte h = Unopened.no_begin (get_or bs 0 0) (behind bs) (front 0 bs some (get_or bs 0 0) refl) h refl

  opened : (e : ℕ) → get_or bs 0 0 ≡ 0x10 → 1 ≤ length (behind bs) → get_or (behind bs) 0 0 ≡ e → bs ≡ 0x10 ∷ e ∷ behind (behind bs)
  opened e p more q = front 0 bs some 0x10 p ∙ ap (λ t. 0x10 ∷ t) (front 0 (behind bs) more e q)

  pub unopened_edition : get_or bs 0 0 ≡ 0x10 → 1 ≤ length (behind bs) → (get_or (behind bs) 0 0 ≡ 1 → ⊥) → Unopened bs (OutOfRange 1)
  unopened_edition p more h = Unopened.other_edition (get_or (behind bs) 0 0) (behind (behind bs)) (opened (get_or (behind bs) 0 0) p more refl) h refl

-- the whole check

pub record Answer (bs : List ℕ) (v : Verdict) : Type 0 where
  pub value : v ≡ deck_verdict bs
  pub rules : Judged bs v

pub accepted_answer : (bs : List ℕ) → Accepted bs → Answer bs (Ok tt)
accepted_answer bs a =
    let e = accepted_verdict bs a in
    record {
      value = sym e;
      rules = record { accepted = λ _. a; accepts = λ _. refl; refused = λ x h. absurd (cc); refuses = λ x h. sym e ∙ refused_verdict bs x h };
    }

pub refused_answer : (bs : List ℕ) (x : Refusal) → Refused bs x → Answer bs (Err x)
refused_answer bs x r =
    let e = refused_verdict bs x r in
    record {
      value = sym e;
      rules = record {
        accepted = λ h. absurd (cc);
        accepts = λ a. sym e ∙ accepted_verdict bs a;
        refused = λ y h. let q : x ≡ y = cc in same y q;
        refuses = λ y h. sym e ∙ refused_verdict bs y h;
      };
    }
  where
    same : (y : Refusal) → x ≡ y → Refused bs y
    same y q = rw q at r

pub checked_answer_lem : (bs rest : List ℕ) (v : Verdict) → length bs ≤ 16384 → bs ≡ 0x10 ∷ 1 ∷ rest → MatchResult v (λ _. Ended rest) (λ x. Stopped rest x) → Answer bs v
checked_answer_lem bs rest (Ok u) short w h =
    accepted_answer bs (record { entries = h.entries; sound = h.sound; short = short; written = w ∙ ap (λ q. 0x10 ∷ 1 ∷ q) h.written })
checked_answer_lem bs rest (Err x) short w h =
    let p = h.passed in
    refused_answer bs x (Refused.stopped p.entries h.rest short p.sound (w ∙ ap (λ q. 0x10 ∷ 1 ∷ q) p.written) (at_place p.place p.many h.stops))
  where
    at_place : {n m offset place : ℕ} → offset ≡ place → n ≡ m → Stops n offset h.rest x → Stops m place h.rest x
    at_place e f s = rw (e, f) at s
