-- What a table tells keeps the ranges and the total width.
use Rattle.std.specs.Prelude.{◌≡◌, ℕ, ◌+◌, ◌≤◌, Bool, true, false, cond, not, ◌||◌, List, [], ◌∷◌, map, length, Ok, Err, ◌==◌, nat_le, nat_lt, refl}
use Rattle.std.proofs.Common.{sym, ap, ◌∙◌, arith}
use Rattle.std.specs.List.{AllByRecursion}
use Rattle.std.proofs.lemmas.List.{length-map}
use Rattle.std.proofs.ByRecursion.{All-weaker, sum_by_le}
use Rattle.std.proofs.lemmas.Bool.{and_parts, leb-true, ltb-true, ltb-false, eq-eqb}
use Rattle.refusal.specs.declared.refusal.Refusal.{Refusal}
use Rattle.refusal.specs.declared.refusal.Refusal.TheVariants.{OutOfRange, TooManyTransistors}
use Rattle.net.specs.Mods.{Mod, InRange, Lawful}
use Rattle.net.specs.declared.modules.Side.TheVariants.{Left, Right}
use Rattle.record.specs.declared.records.Record.{Record}
use Rattle.net.specs.Numbers.{kind_fits}
use Rattle.record.specs.Records.{width_fits, side_fits, fits, stated}
use Rattle.table.specs.Tables.{Verdict, unfit_from, table_verdict, told_by}

left_of_none : (pair side : ℕ) → side_fits pair side ≡ true → pair ≡ 0 → (side == 0) ≡ true
left_of_none pair side h z =
    let p = (and_parts (nat_le side 1) (not (pair == 0) || side == 0) h).1 in
    let e = eq-eqb pair 0 z in
    ap (λ b. not b || side == 0) (sym e) ∙ p

-- what a record in range states is in range
pub fits_range : (r : Record) → fits r ≡ true → InRange (stated r)
fits_range r h =
    let p = (and_parts (kind_fits r.kind) _ h).1 in
    let q = and_parts (width_fits r.width) _ p in
    let w = and_parts (nat_le 1 r.width) (nat_le r.width 4095) q.0 in
    let t = and_parts (nat_lt r.tag 65536) _ q.1 in
    let s = and_parts (nat_lt r.pair 65536) _ t.1 in
    record {
      least = leb-true 1 r.width w.0;
      most = leb-true r.width 4095 w.1;
      tag = ltb-true r.tag 65536 t.0;
      pair = ltb-true r.pair 65536 s.0;
      alone = λ z. ap (λ b. cond b Left Right) (left_of_none r.pair r.side s.1 z);
    }

-- a list of modules in range, no longer than 256, keeps the total width
pub few_lawful : (ms : List Mod) → AllByRecursion InRange ms → length ms ≤ 256 → Lawful ms
few_lawful ms each few =
    let small = sum_by_le (λ (m : Mod). m.width) 4095 ms (All-weaker InRange (λ (m : Mod). m.width ≤ 4095) (λ m r. r.most) ms each) in
    record { each = each; total = omega arith }

-- what records in range state is in range
pub fits_all_range : (rs : List Record) → AllByRecursion (λ r. fits r ≡ true) rs → AllByRecursion InRange (map stated rs)
fits_all_range [] h = tt
fits_all_range (r ∷ rs) h = (fits_range r h.0, fits_all_range rs h.1)

-- a refusal is no acceptance
pub err_ok : {P : Type 0} (x : Refusal) → ◌≡◌ {A = Verdict} (Err x) (Ok tt) → P
err_ok x h = absurd (cc)

none_unfit : (i : ℕ) (rs : List Record) → unfit_from i rs ≡ Ok tt → AllByRecursion (λ r. fits r ≡ true) rs
none_unfit i [] h = tt
none_unfit i (r ∷ rs) h = go (fits r) refl (none_unfit (i + 1) rs) h
  where
    go : (b : Bool) → fits r ≡ b → (unfit_from (i + 1) rs ≡ Ok tt → AllByRecursion (λ q. fits q ≡ true) rs) → ◌≡◌ {A = Verdict} (cond b (unfit_from (i + 1) rs) (Err (OutOfRange i))) (Ok tt) → AllByRecursion (λ q. fits q ≡ true) (r ∷ rs)
    go true e f h = (e, f h)
    go false e f h = absurd (cc)

-- what an accepted table gives of its records
pub record Checked (rs : List Record) : Type 0 where
  pub few : length rs ≤ 256
  pub fit : AllByRecursion (λ r. fits r ≡ true) rs

pub table_checked : (rs : List Record) → table_verdict rs ≡ Ok tt → Checked rs
table_checked rs h = go (nat_lt 256 (length rs)) refl h
  where
    go : (b : Bool) → nat_lt 256 (length rs) ≡ b → ◌≡◌ {A = Verdict} (cond b (Err (TooManyTransistors 256)) (unfit_from 0 rs)) (Ok tt) → Checked rs
    go true e h = absurd (cc)
    go false e h = record { few = ltb-false 256 (length rs) e; fit = none_unfit 0 rs h }

pub table_lawful : (v : Verdict) (rs : List Record) → v ≡ table_verdict rs → Lawful (told_by v rs)
table_lawful (Ok u) rs e =
    let c = table_checked rs (sym e) in
    few_lawful (map stated rs) (fits_all_range rs c.fit) (omega (arith, c.few, length-map rs stated))
table_lawful (Err x) rs e = record { each = tt; total = omega arith }
