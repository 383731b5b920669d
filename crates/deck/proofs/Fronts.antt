-- The first byte of a slice, and what is read behind it.
use Rattle.std.proofs.Common.{◌≡◌, ℕ, ◌+◌, ◌-◌, ◌<◌, ◌≤◌, List, ◌∷◌, length, get_or, take, drop, refl, ap, ◌∙◌, arith}
use Rattle.std.proofs.lemmas.Slice.{first_rest}
use Rattle.refusal.specs.declared.refusal.Refusal.{Refusal}
use Rattle.refusal.specs.declared.refusal.Refusal.TheVariants.{UnknownCommand, CutShort, OutOfOrder}
use Rattle.deck.specs.Rules.{NoCommand, Unreadable}

-- what stands behind the first byte, as the checker reads it
abbrev pub behind : List ℕ → List ℕ
behind bs = take (length bs - 1) (drop 1 bs)

module _ (offset : ℕ) (bs : List ℕ) (some : 1 ≤ length bs) where
  pub front : (b : ℕ) → get_or bs 0 0 ≡ b → bs ≡ b ∷ behind bs
  front b e = first_rest bs 0 some ∙ ap (λ x. x ∷ behind bs) e

  pub front_begin : get_or bs 0 0 ≡ 0x10 → Unreadable offset bs (OutOfOrder offset)
  front_begin e = Unreadable.begin_again (behind bs) (front 0x10 e) refl

  pub front_unknown : NoCommand (get_or bs 0 0) → Unreadable offset bs (UnknownCommand offset)
  front_unknown h = Unreadable.unknown (get_or bs 0 0) (behind bs) (front (get_or bs 0 0) refl) h refl

  place : (b : ℕ) (x : Refusal) → get_or bs 0 0 ≡ b → x ≡ CutShort (offset + 1 + length (behind bs)) → x ≡ CutShort (offset + length bs)
  place b x e q = q ∙ ap CutShort (omega (arith, ap length (front b e)))

  pub front_cut_transistor : (x : Refusal) → get_or bs 0 0 ≡ 0x20 → (length (behind bs) < 16) × (x ≡ CutShort (offset + 1 + length (behind bs))) → Unreadable offset bs x
  front_cut_transistor x e h = Unreadable.cut_transistor (behind bs) (front 0x20 e) h.0 (place 0x20 x e h.1)

  pub front_cut_remark : (x : Refusal) → get_or bs 0 0 ≡ 0x30 → (length (behind bs) < 16) × (x ≡ CutShort (offset + 1 + length (behind bs))) → Unreadable offset bs x
  front_cut_remark x e h = Unreadable.cut_remark (behind bs) (front 0x30 e) h.0 (place 0x30 x e h.1)
