-- The round trips between tables and decks.
use Rattle.std.proofs.Common.{◌≡◌, ℕ, ◌+◌, ◌*◌, Bool, true, false, cond, eqb, ltb, leb, List, [], ◌∷◌, map, length, Ok, sym, refl, ap, ◌∙◌, arith}
use Rattle.std.specs.List.{AllByRecursion}
use Rattle.std.proofs.lemmas.List.{length-append}
use Rattle.std.proofs.lemmas.Bool.{and_parts}
use Rattle.std.proofs.lemmas.Bool.Decides.{nat_tests}
use Rattle.net.specs.declared.modules.Kind.TheVariants.{NChannel, PChannel}
use Rattle.net.specs.declared.modules.Side.TheVariants.{Left, Right}
use Rattle.net.specs.Mods.{Mod}
use Rattle.record.specs.declared.records.Record.{Record}
use Rattle.table.specs.Lawfuls.{table_checked}
use Rattle.net.specs.Numbers.{kind_fits}
use Rattle.record.specs.Records.{width_fits, fits, stated}
use Rattle.table.specs.Tables.{table_verdict, told_by}
use Rattle.deck.specs.Format.{Entry, transistor, remark, entry_bytes, entries_bytes, deck_bytes, records_of, Keeps}
use Rattle.deck.specs.Rules.{Accepted}
use Rattle.deck.specs.Verdicts.{deck_verdict, entries_in, deck_entries, deck_tells}
use Rattle.deck.proofs.Written.{accepted_verdict, deck_back}
use Rattle.writer.specs.RoundTrips.{remarks_of, ReadBack, WrittenAgain}
use Rattle.writer.specs.Writing.{table_deck}

pub entries_length : (rs : List Record) → length (entries_bytes (map transistor rs)) ≡ 17 * length rs
entries_length [] = omega arith
entries_length (r ∷ rs) = length-append (entry_bytes (transistor r)) (entries_bytes (map transistor rs)) ∙ omega (arith, entries_length rs)

pub deck_length : (rs : List Record) → length (table_deck rs) ≡ 3 + 17 * length rs
deck_length rs = omega (arith, length-append (entries_bytes (map transistor rs)) (0x7F ∷ []), entries_length rs)

pub records_back : (rs : List Record) → records_of (map transistor rs) ≡ rs
records_back [] = refl
records_back (r ∷ rs) = ap (λ q. r ∷ q) (records_back rs)

keep_all : (rs : List Record) → AllByRecursion (λ r. fits r ≡ true) rs → AllByRecursion Keeps (map transistor rs)
keep_all [] h = tt
keep_all (r ∷ rs) h = (h.0, keep_all rs h.1)

pub table_accepted : (rs : List Record) → table_verdict rs ≡ Ok tt → Accepted (table_deck rs)
table_accepted rs h =
    let f = table_checked rs h in
    record {
      entries = map transistor rs;
      sound = record { keep = keep_all rs f.fit; few = omega (arith, f.few, ap length (records_back rs)) };
      short = omega (arith, f.few, deck_length rs);
      written = refl;
    }

entries_back : (rs : List Record) → table_verdict rs ≡ Ok tt → records_of (deck_entries (deck_verdict (table_deck rs)) (table_deck rs)) ≡ rs
entries_back rs h =
    ap (λ v. records_of (deck_entries v (table_deck rs))) (accepted_verdict (table_deck rs) (table_accepted rs h))
    ∙ ap records_of (deck_back (map transistor rs) (keep_all rs (table_checked rs h).fit)) ∙ records_back rs

pub read_back : (rs : List Record) → ReadBack rs
read_back rs =
    record {
      accepted = table_accepted rs;
      records = entries_back rs;
      tells = λ h. ap (map stated) (entries_back rs h) ∙ ap (λ v. told_by v rs) (sym h);
    }

-- a record in range is known by what it states

number_same : (m n : ℕ) → leb m 1 ≡ true → leb n 1 ≡ true → eqb m 0 ≡ eqb n 0 → m ≡ n
number_same m n h k e = grind (arith, nat_tests)

-- the answer of a test is known by which of two different values it picks
picked_same : {A : Type 0} (x y : A) (a b : Bool) → (x ≡ y → ⊥) → cond a x y ≡ cond b x y → a ≡ b
picked_same x y true true other e = refl
picked_same x y true false other e = absurd (other e)
picked_same x y false true other e = absurd (other (sym e))
picked_same x y false false other e = refl

net_same : (m n : ℕ) → ◌≡◌ {A = List ℕ} (m ∷ []) (n ∷ []) → m ≡ n
net_same m n e = cc

made : ℕ → ℕ → ℕ → ℕ → ℕ → ℕ → ℕ → ℕ → ℕ → Record
made k b g s d w t p i = record { kind = k; body = b; gate = g; source = s; drain = d; width = w; tag = t; pair = p; side = i }

made_same : (k b g s d w t p i k' b' g' s' d' w' t' p' i' : ℕ) → k ≡ k' → b ≡ b' → g ≡ g' → s ≡ s' → d ≡ d' → w ≡ w' → t ≡ t' → p ≡ p' → i ≡ i' → made k b g s d w t p i ≡ made k' b' g' s' d' w' t' p' i'
made_same k b g s d w t p i k' b' g' s' d' w' t' p' i' e1 e2 e3 e4 e5 e6 e7 e8 e9 = cc

-- the parts of `fits` that a kind and a side ask for
small : (r : Record) → fits r ≡ true → (leb r.kind 1 ≡ true) × (leb r.side 1 ≡ true)
small r h =
    let p = and_parts (kind_fits r.kind) _ h in
    let q = and_parts (width_fits r.width) _ p.1 in
    let t = and_parts (ltb r.tag 65536) _ q.1 in
    let s = and_parts (ltb r.pair 65536) _ t.1 in
    (p.0, (and_parts (leb r.side 1) _ s.1).0)

stated_same : (r q : Record) → fits r ≡ true → fits q ≡ true → stated r ≡ stated q → r ≡ q
unfolding made
stated_same r q f g e =
    let a = small r f in
    let b = small q g in
    let kind = number_same r.kind q.kind a.0 b.0 (picked_same NChannel PChannel (eqb r.kind 0) (eqb q.kind 0) (λ p. cc) (ap (λ (m : Mod). m.kind) e)) in
    let side = number_same r.side q.side a.1 b.1 (picked_same Left Right (eqb r.side 0) (eqb q.side 0) (λ p. cc) (ap (λ (m : Mod). m.side) e)) in
    made_same r.kind r.body r.gate r.source r.drain r.width r.tag r.pair r.side
    q.kind q.body q.gate q.source q.drain q.width q.tag q.pair q.side
    kind
    (net_same r.body q.body (ap (λ (m : Mod). m.body) e))
    (net_same r.gate q.gate (ap (λ (m : Mod). m.gate) e))
    (net_same r.source q.source (ap (λ (m : Mod). m.source) e))
    (net_same r.drain q.drain (ap (λ (m : Mod). m.drain) e))
    (ap (λ (m : Mod). m.width) e) (ap (λ (m : Mod). m.tag) e) (ap (λ (m : Mod). m.pair) e)
    side

all_same : (rs qs : List Record) → AllByRecursion (λ r. fits r ≡ true) rs → AllByRecursion (λ r. fits r ≡ true) qs → map stated rs ≡ map stated qs → rs ≡ qs
all_same [] [] f g e = refl
all_same [] (q ∷ qs) f g e = cc
all_same (r ∷ rs) [] f g e = cc
all_same (r ∷ rs) (q ∷ qs) f g e =
    let here : stated r ≡ stated q = cc in
    let rest : map stated rs ≡ map stated qs = cc in
    let h = stated_same r q f.0 g.0 here in
    let t = all_same rs qs f.1 g.1 rest in
    cc

-- entries without remarks are transistors
no_remarks : (es : List Entry) → remarks_of es ≡ [] → map transistor (records_of es) ≡ es
no_remarks [] h = refl
no_remarks (transistor r ∷ es) h = ap (λ q. transistor r ∷ q) (no_remarks es h)
no_remarks (remark bs ∷ es) h = let z : ◌≡◌ {A = ℕ} 0 1 = cc in absurd (omega arith)

keeps_fit : (es : List Entry) → AllByRecursion Keeps es → AllByRecursion (λ r. fits r ≡ true) (records_of es)
keeps_fit [] h = tt
keeps_fit (transistor r ∷ es) h = (h.0, keeps_fit es h.1)
keeps_fit (remark bs ∷ es) h = keeps_fit es h.1

pub written_again : (rs : List Record) → WrittenAgain rs
written_again rs bs a none h same =
    let es = a.entries in
    let told : map stated rs ≡ map stated (records_of es) =
    ap (λ v. told_by v rs) (sym h) ∙ same ∙ ap (λ v. deck_tells v bs) (accepted_verdict bs a)
    ∙ ap (λ xs. map stated (records_of (entries_in 2 xs))) a.written ∙ ap (λ q. map stated (records_of q)) (deck_back es a.sound.keep) in
    let rows = all_same rs (records_of es) (table_checked rs h).fit (keeps_fit es a.sound.keep) told in
    ap table_deck rows ∙ ap deck_bytes (no_remarks es none) ∙ sym a.written
