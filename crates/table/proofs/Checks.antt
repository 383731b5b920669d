-- The check of a table, and a pass over it.
use Rattle.std.proofs.Common.{◌≡◌, ℕ, ◌+◌, ◌≤◌, Bool, true, false, cond, not, nat_lt, List, [], ◌∷◌, length, drop, Some, None, Option, Ok, Err, sym, refl, ap, ◌∙◌, ⊎_elim}
use Rattle.std.specs.List.{slice_get, position, position_from}
use Rattle.std.proofs.lemmas.List.{drop_more, drop_all, drop-map}
use Rattle.std.proofs.Math.Seq.{drop-nil}
use Rattle.std.proofs.lemmas.Option.{none-some, slice_get_within, slice_get_cases, get_or_from_slice_get}
use Rattle.std.proofs.lemmas.Bool.{le-ltb, cond-false}
use Rattle.std.proofs.lemmas.Iterator.Adapters.{position_from-zero}
use Rattle.refusal.specs.declared.refusal.Refusal.TheVariants.{OutOfRange}
use Rattle.net.specs.Mods.{Mod}
use Rattle.record.specs.declared.records.Record.{Record}
use Rattle.record.specs.Records.{fits, stated}
use Rattle.table.specs.Tables.{Verdict, unfit_from, table_verdict, told_by}

-- what the check of few records answers, by where the first one out of range stands
abbrev verdict_at : Option ℕ → Verdict
verdict_at None = Ok tt
verdict_at (Some i) = Err (OutOfRange i)

unfit_place : (i : ℕ) (rs : List Record) → unfit_from i rs ≡ verdict_at (position_from (λ r. not (fits r)) i rs)
unfit_place i [] = refl
unfit_place i (r ∷ rs) = go (fits r) (unfit_place (i + 1) rs)
  where
    go : (b : Bool) → unfit_from (i + 1) rs ≡ verdict_at (position_from (λ r. not (fits r)) (i + 1) rs) → cond b (unfit_from (i + 1) rs) (Err (OutOfRange i)) ≡ verdict_at (cond (not b) (Some i) (position_from (λ r. not (fits r)) (i + 1) rs))
    go true f = f
    go false f = refl

pub verdict_place : (rs : List Record) (o : Option ℕ) → length rs ≤ 256 → o ≡ position (λ r. not (fits r)) rs → verdict_at o ≡ table_verdict rs
verdict_place rs o few h =
    ap verdict_at (h ∙ position_from-zero (λ r. not (fits r)) rs)
    ∙ sym (cond-false (nat_lt 256 (length rs)) _ _ (le-ltb 256 (length rs) few) ∙ unfit_place 0 rs)

-- one step of a pass over a table

told_drop : (o : Verdict) (rs : List Record) (i : ℕ) → told_by o (drop i rs) ≡ drop i (told_by o rs)
told_drop (Ok u) rs i = sym (drop-map stated i rs)
told_drop (Err x) rs i = sym (drop-nil i)

pub step_some : (o : Verdict) (rs : List Record) (i : ℕ) (x : Mod) → slice_get (told_by o rs) i ≡ Some x → told_by o (drop i rs) ≡ x ∷ told_by o (drop (i + 1) rs)
step_some o rs i x h =
    let ms = told_by o rs in
    told_drop o rs i ∙ drop_more ms i x (slice_get_within ms i x h)
    ∙ ap (λ y. y ∷ drop (i + 1) ms) (get_or_from_slice_get ms i x x h)
    ∙ ap (λ t. x ∷ t) (sym (told_drop o rs (i + 1)))

none_past : {X : Type 0} (xs : List X) (i : ℕ) → slice_get xs i ≡ None → length xs ≤ i
none_past xs i h = ⊎_elim (λ w. absurd (none-some w.0 (sym h ∙ w.2))) (λ w. w.0) (slice_get_cases xs i).1

pub step_none : (o : Verdict) (rs : List Record) (i : ℕ) → slice_get (told_by o rs) i ≡ None → told_by o (drop i rs) ≡ []
step_none o rs i h = told_drop o rs i ∙ drop_all i (told_by o rs) (none_past (told_by o rs) i h)
