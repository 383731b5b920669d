-- The fingers of twins are twins, in their order, and no other fingers are.
use Rattle.std.proofs.Common.{◌≡◌, ℕ, zero, suc, ◌+◌, ◌-◌, ◌<◌, ◌≤◌, Bool, true, false, cond, ◌⊎◌, List, [], ◌∷◌, ◌++◌, map, length, take, Some, sym, refl, ap, ◌∙◌, ap₂, inl, inr, arith, length-append, append_assoc}
use Rattle.std.specs.List.{slice_get, range_with_len, flat_map}
use Rattle.std.specs.Option.{option_map_or}
use Rattle.std.proofs.Math.Seq.{take-append_seam}
use Rattle.std.proofs.lemmas.List.FromFn.{length-range_with_len}
use Rattle.std.proofs.lemmas.Option.{slice_get-get_or}
use Rattle.std.proofs.lemmas.Bool.{cases_lt}
use Rattle.std.proofs.lemmas.Grind.{common_steps}
use Rattle.net.specs.Mods.{Mod}
use Rattle.net.specs.declared.modules.Side.{Side}
use Rattle.net.specs.declared.modules.Side.TheVariants.{Left, Right}
use Rattle.circuit.specs.Twins.{stands_on, positions_on, Twins, EvenTwins}
use Rattle.folding.specs.Folds.{finger_count, finger_width, finger, fingers, folded_by}
use Rattle.folding.specs.Laws.{finger_position, FingersOfTwins, FoldsTwins}
use Rattle.folding.proofs.Steps.{length_fingers, finger_at}

-- What stands at an index of two lists, one behind the other, and of numbers in a row

nth_front : {X : Type 0} (xs ys : List X) (i : ℕ) → i < length xs → slice_get (xs ++ ys) i ≡ slice_get xs i
nth_front [] ys i h = absurd (omega arith)
nth_front (x ∷ xs) ys zero h = refl
nth_front (x ∷ xs) ys (suc i) h = nth_front xs ys i (omega arith)

nth_behind : {X : Type 0} (xs ys : List X) (i j : ℕ) → j ≡ length xs + i → slice_get (xs ++ ys) j ≡ slice_get ys i
nth_behind [] ys i j e = ap (slice_get ys) (omega arith)
nth_behind (x ∷ xs) ys i zero e = absurd (omega arith)
nth_behind (x ∷ xs) ys i (suc j) e = nth_behind xs ys i j (omega arith)

nth_counting : (a n i : ℕ) → i < n → slice_get (range_with_len a n) i ≡ Some (a + i)
nth_counting a zero i h = absurd (omega arith)
nth_counting a (suc n) zero h = ap (λ x. Some x) (omega arith)
nth_counting a (suc n) (suc i) h = nth_counting (a + 1) n i (omega arith) ∙ ap (λ x. Some x) (omega arith)

-- Each finger stands in its place

finger_place : (limit : ℕ) (ms : List Mod) (p k : ℕ) (m : Mod) → slice_get ms p ≡ Some m → k < finger_count limit m.width → slice_get (folded_by limit ms) (finger_position limit ms p k) ≡ Some (finger (finger_count limit m.width) m k)
finger_place limit [] p k m e h = cc
finger_place limit (x ∷ ms) zero k m e h =
    let same : x ≡ m = cc in
    let finger_k = finger_at limit m k h in
    grind (arith, common_steps, length_fingers limit m, nth_front (fingers limit m) (folded_by limit ms) k, slice_get-get_or (fingers limit m) k m)
finger_place limit (x ∷ ms) (suc p) k m e h =
    grind (arith, common_steps, nth_behind (fingers limit x) (folded_by limit ms) (finger_position limit ms p k), finger_place limit ms p k m e h, length-append)

-- The positions of fingers come in runs, one for each module

module _ (start count : ℕ → ℕ) where
  -- the positions of the fingers of the module at p
  abbrev run : ℕ → List ℕ
  run p = range_with_len (start p) (count p)

  -- an index in the first run, and one behind it
  run_here : (p k : ℕ) (others : List ℕ) → k < count p → slice_get (run p ++ others) k ≡ Some (start p + k)
  run_here p k others h = nth_front (run p) others k (omega (arith, length-range_with_len (start p) (count p))) ∙ nth_counting (start p) (count p) k h

  run_behind : (p i j : ℕ) (others : List ℕ) → j ≡ count p + i → slice_get (run p ++ others) j ≡ slice_get others i
  run_behind p i j others e = nth_behind (run p) others i j (omega (arith, length-range_with_len (start p) (count p)))

  -- modules at one index have as many fingers
  abbrev Even : List ℕ → List ℕ → Type 0
  Even ps qs = (j p q : ℕ) → slice_get ps j ≡ Some p → slice_get qs j ≡ Some q → count p ≡ count q

  -- left and right stand at one index of the two lists of runs
  record Common (ps qs : List ℕ) (left right : ℕ) : Type 0 where
    index : ℕ
    first : slice_get (flat_map run ps) index ≡ Some left
    second : slice_get (flat_map run qs) index ≡ Some right

  -- then fingers k of the modules at one index stand at one index
  in_common : (ps qs : List ℕ) → Even ps qs → (j k p q : ℕ) → slice_get ps j ≡ Some p → slice_get qs j ≡ Some q → k < count p → Common ps qs (start p + k) (start q + k)
  in_common [] qs even j k p q e f h = cc
  in_common (x ∷ ps) [] even j k p q e f h = cc
  in_common (x ∷ ps) (y ∷ qs) even zero k p q e f h =
      let xp : x ≡ p = cc in
      let yq : y ≡ q = cc in
      record {
        index = k;
        first = ap (λ r. slice_get (run r ++ flat_map run ps) k) xp ∙ run_here p k (flat_map run ps) h;
        second = ap (λ r. slice_get (run r ++ flat_map run qs) k) yq ∙ run_here q k (flat_map run qs) (omega (arith, even 0 p q e f));
      }
  in_common (x ∷ ps) (y ∷ qs) even (suc j) k p q e f h =
      let more = in_common ps qs (λ i. even (suc i)) j k p q e f h in
      record {
        index = count x + more.index;
        first = run_behind x more.index (count x + more.index) (flat_map run ps) refl ∙ more.first;
        second = run_behind y more.index (count x + more.index) (flat_map run qs) (omega (arith, even 0 x y refl refl)) ∙ more.second;
      }

  -- left and right are fingers k of the modules at one index
  record Within (ps qs : List ℕ) (left right : ℕ) : Type 0 where
    index : ℕ
    p : ℕ
    q : ℕ
    k : ℕ
    here : slice_get ps index ≡ Some p
    there : slice_get qs index ≡ Some q
    inside : k < count p
    first : left ≡ start p + k
    second : right ≡ start q + k

  -- and the other way round
  from_common : (ps qs : List ℕ) → Even ps qs → (i left right : ℕ) → slice_get (flat_map run ps) i ≡ Some left → slice_get (flat_map run qs) i ≡ Some right → Within ps qs left right
  from_common [] qs even i left right e f = cc
  from_common (x ∷ ps) [] even i left right e f = cc
  from_common (x ∷ ps) (y ∷ qs) even i left right e f = go (cases_lt i (count x)) (from_common ps qs (λ j. even (suc j)) (i - count x) left right)
    where
      level : count x ≡ count y
      level = even 0 x y refl refl

      go : (i < count x) ⊎ (count x ≤ i) → (slice_get (flat_map run ps) (i - count x) ≡ Some left → slice_get (flat_map run qs) (i - count x) ≡ Some right → Within ps qs left right) → Within (x ∷ ps) (y ∷ qs) left right
      go (inl h) more =
          let here = run_here x i (flat_map run ps) h in
          let there = run_here y i (flat_map run qs) (omega (arith, level)) in
          record { index = 0; p = x; q = y; k = i; here = refl; there = refl; inside = h; first = cc; second = cc }
      go (inr h) more =
          let here = run_behind x (i - count x) i (flat_map run ps) (omega arith) in
          let there = run_behind y (i - count x) i (flat_map run qs) (omega (arith, level)) in
          let w = more (sym here ∙ e) (sym there ∙ f) in
          record { index = suc w.index; p = w.p; q = w.q; k = w.k; here = w.here; there = w.there; inside = w.inside; first = w.first; second = w.second }

-- Where the module at p has its fingers in the folded list, and how many

abbrev first_finger : ℕ → List Mod → ℕ → ℕ
first_finger limit ms p = length (folded_by limit (take p ms))

abbrev count_at : ℕ → List Mod → ℕ → ℕ
count_at limit ms p = option_map_or (λ (m : Mod). finger_count limit m.width) (slice_get ms p) 0

-- where module m stands at p, they are as many as its width becomes
count_is : (limit : ℕ) (ms : List Mod) (p : ℕ) (m : Mod) → slice_get ms p ≡ Some m → count_at limit ms p ≡ finger_count limit m.width
count_is limit ms p m e = ap (λ x. option_map_or (λ (y : Mod). finger_count limit y.width) x 0) e

-- lists are folded one behind the other
folded_length : (limit : ℕ) (xs ys : List Mod) → length (folded_by limit (xs ++ ys)) ≡ length (folded_by limit xs) + length (folded_by limit ys)
folded_length limit [] ys = grind (arith, common_steps)
folded_length limit (x ∷ xs) ys = grind (arith, common_steps, folded_length limit xs ys)

-- The positions on one side of a pair number, in the list and in the folded list

module _ (number : ℕ) (side : Side) where
  -- the positions in two lists, one behind the other
  positions_append : (o : ℕ) (xs ys : List Mod) → positions_on number side o (xs ++ ys) ≡ positions_on number side o xs ++ positions_on number side (o + length xs) ys
  positions_append o [] ys = grind (arith, common_steps)
  positions_append o (x ∷ xs) ys = grind (arith, common_steps, positions_append (o + 1) xs ys)

  -- all fingers of a module stand on its side, or none
  positions_fingers : (m : Mod) (n o k j : ℕ) → positions_on number side o (map (finger n m) (range_with_len k j)) ≡ cond (stands_on number side m) (range_with_len o j) []
  positions_fingers m n o k zero = grind (arith, common_steps)
  positions_fingers m n o k (suc j) = grind (arith, common_steps, positions_fingers m n (o + 1) (k + 1) j)

  -- the module that stands at a position
  record Site (o : ℕ) (ms : List Mod) (p : ℕ) : Type 0 where
    at : ℕ
    m : Mod
    place : p ≡ o + at
    here : slice_get ms at ≡ Some m

  site : (o : ℕ) (ms : List Mod) (j p : ℕ) → slice_get (positions_on number side o ms) j ≡ Some p → Site o ms p
  site o [] j p e = cc
  site o (x ∷ ms) j p e = go (stands_on number side x) j e (λ i h. let s = site (o + 1) ms i p h in record { at = suc s.at; m = s.m; place = omega (arith, s.place); here = s.here })
    where
      others : List ℕ
      others = positions_on number side (o + 1) ms

      go : (b : Bool) (j : ℕ) → slice_get (cond b (o ∷ others) others) j ≡ Some p → ((i : ℕ) → slice_get others i ≡ Some p → Site o (x ∷ ms) p) → Site o (x ∷ ms) p
      go true zero e later = let op : o ≡ p = cc in record { at = 0; m = x; place = omega (arith, op); here = refl }
      go true (suc j) e later = later j e
      go false j e later = later j e

  standing : (ms : List Mod) (p : ℕ) (s : Site 0 ms p) → slice_get ms p ≡ Some s.m
  standing ms p s = ap (slice_get ms) (omega (arith, s.place)) ∙ s.here

  module _ (limit : ℕ) (all : List Mod) where
    abbrev runs : List ℕ → List ℕ
    runs ps = flat_map (run (first_finger limit all) (count_at limit all)) ps

    -- the positions in the folded list are the runs of those in the list
    positions_folded : (before ms : List Mod) → all ≡ before ++ ms → positions_on number side (length (folded_by limit before)) (folded_by limit ms) ≡ runs (positions_on number side (length before) ms)
    positions_folded before [] e = refl
    positions_folded before (m ∷ ms) e =
        let o = length (folded_by limit before) in
        let n = finger_count limit m.width in
        let at = length before in
        let others = positions_on number side (at + 1) ms in
        let next : length (folded_by limit (before ++ m ∷ [])) ≡ o + length (fingers limit m) = omega (arith, folded_length limit before (m ∷ []), length-append (fingers limit m) []) in
        let more : positions_on number side (o + length (fingers limit m)) (folded_by limit ms) ≡ runs others = ap (λ i. positions_on number side i (folded_by limit ms)) (sym next) ∙ positions_folded (before ++ m ∷ []) ms (e ∙ sym (append_assoc before (m ∷ []) ms)) ∙ ap (λ i. runs (positions_on number side i ms)) (length-append before (m ∷ [])) in
        let first : first_finger limit all at ≡ o = ap (λ xs. length (folded_by limit xs)) (ap (take at) e ∙ take-append_seam before (m ∷ ms)) in
        let it : slice_get all at ≡ Some m = ap (λ xs. slice_get xs at) e ∙ nth_behind before (m ∷ ms) 0 at (omega arith) in
        let count : count_at limit all at ≡ n = count_is limit all at m it in
        let here : range_with_len o n ≡ run (first_finger limit all) (count_at limit all) at = ap₂ range_with_len (sym first) (sym count) in
        positions_append o (fingers limit m) (folded_by limit ms) ∙ ap₂ (λ xs ys. xs ++ ys) (positions_fingers m n o 0 n) more ∙ elim (stands_on number side m) as (λ b. cond b (range_with_len o n) [] ++ runs others ≡ runs (cond b (at ∷ others) others)) [ true ↦ ap (λ xs. xs ++ runs others) here | false ↦ refl ]

-- Twins

module _ (limit : ℕ) (ms : List Mod) (widths : EvenTwins ms) where
  abbrev start : ℕ → ℕ
  start p = first_finger limit ms p

  abbrev count : ℕ → ℕ
  count p = count_at limit ms p

  abbrev on : ℕ → Side → List ℕ
  on number side = positions_on number side 0 ms

  folded_on : (number : ℕ) (side : Side) (i : ℕ) → slice_get (positions_on number side 0 (folded_by limit ms)) i ≡ slice_get (runs number side limit ms (on number side)) i
  folded_on number side i = ap (λ ps. slice_get ps i) (positions_folded number side limit ms [] ms refl)

  -- twins have as many fingers
  even : (number : ℕ) → 0 < number → Even start count (on number Left) (on number Right)
  even number h j p q e f =
      let x = site number Left 0 ms j p e in
      let y = site number Right 0 ms j q f in
      let here = standing number Left ms p x in
      let there = standing number Right ms q y in
      count_is limit ms p x.m here ∙ ap (finger_count limit) (widths p q x.m y.m (record { number = number; paired = h; index = j; first = e; second = f }) here there) ∙ sym (count_is limit ms q y.m there)

  twins_of_fingers : (left right : ℕ) → FingersOfTwins limit ms left right → Twins (folded_by limit ms) left right
  twins_of_fingers left right f =
      let t = f.twins in
      let c = in_common start count (on t.number Left) (on t.number Right) (even t.number t.paired) t.index f.k f.p f.q t.first t.second (omega (arith, f.some, count_is limit ms f.p f.m f.here)) in
      record {
        number = t.number;
        paired = t.paired;
        index = c.index;
        first = folded_on t.number Left c.index ∙ c.first ∙ ap (λ i. Some i) (sym f.first);
        second = folded_on t.number Right c.index ∙ c.second ∙ ap (λ i. Some i) (sym f.second);
      }

  fingers_of_twins : (left right : ℕ) → Twins (folded_by limit ms) left right → FingersOfTwins limit ms left right
  fingers_of_twins left right t =
      let w = from_common start count (on t.number Left) (on t.number Right) (even t.number t.paired) t.index left right (sym (folded_on t.number Left t.index) ∙ t.first) (sym (folded_on t.number Right t.index) ∙ t.second) in
      let x = site t.number Left 0 ms w.index w.p w.here in
      let here = standing t.number Left ms w.p x in
      record {
        p = w.p;
        q = w.q;
        k = w.k;
        m = x.m;
        twins = record { number = t.number; paired = t.paired; index = w.index; first = w.here; second = w.there };
        here = here;
        some = omega (arith, w.inside, count_is limit ms w.p x.m here);
        first = w.first;
        second = w.second;
      }

  -- what stands in the place of a finger is as wide as the finger
  at_place : (i : ℕ) (a : Mod) (p k : ℕ) (m : Mod) → slice_get (folded_by limit ms) i ≡ Some a → i ≡ finger_position limit ms p k → slice_get ms p ≡ Some m → k < finger_count limit m.width → a.width ≡ finger_width (finger_count limit m.width) k m.width
  at_place i a p k m ha e here h =
      let it : Some a ≡ Some (finger (finger_count limit m.width) m k) = sym ha ∙ ap (slice_get (folded_by limit ms)) e ∙ finger_place limit ms p k m here h in
      let same : a ≡ finger (finger_count limit m.width) m k = cc in
      ap (λ (x : Mod). x.width) same

  -- fingers of twins have equal widths
  fingers_even : EvenTwins (folded_by limit ms)
  fingers_even left right a b t ha hb =
      let f = fingers_of_twins left right t in
      let u = f.twins in
      let y = site u.number Right 0 ms u.index f.q u.second in
      let there = standing u.number Right ms f.q y in
      let w : f.m.width ≡ y.m.width = widths f.p f.q f.m y.m u f.here there in
      let first = at_place left a f.p f.k f.m ha f.first f.here f.some in
      let second = at_place right b f.q f.k y.m hb f.second there (omega (arith, f.some, ap (finger_count limit) w)) in
      first ∙ ap (λ v. finger_width (finger_count limit v) f.k v) w ∙ sym second

pub folds_twins : (limit : ℕ) (ms : List Mod) → FoldsTwins limit ms
folds_twins limit ms = record { place = finger_place limit ms; fingers = twins_of_fingers limit ms; only = fingers_of_twins limit ms; even = fingers_even limit ms }
