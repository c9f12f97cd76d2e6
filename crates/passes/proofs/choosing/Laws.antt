-- The steps that stay, are entered and run on: the code's sets are those of the definition (document 02, request viii).
use Rattle.std.proofs.Common.{◌≡◌, ℕ, ◌<◌, Bool, true, false, not, ◌&&◌, ◌||◌, sym, refl, ap, ◌∙◌, ap₂}
use Rattle.sets.specs.Sets.{has, minus}
use Rattle.sets.proofs.Members.{collect-same}
use Rattle.sets.proofs.Below.{has-union, has-minus}
use Rattle.choice.specs.declared.Choice.{Choice}
use Rattle.passes.specs.Choosing.{moved_to, entered_by}

module _ (active : ℕ) (ch : Choice) where
  -- what was active and not left
  abbrev stayed : ℕ
  stayed = minus active ch.left

  -- "a target and was inactive or left" is a target that did not stay
  pub entered-did-not-stay : minus ch.claimed stayed ≡ entered_by active ch
  entered-did-not-stay =
      collect-same _ _ 64 (λ k l. ap (λ (b : Bool). has ch.claimed k && not b) (has-minus active ch.left k l) ∙ ap (λ (b : Bool). has ch.claimed k && b) (either (has active k) (has ch.left k)))
    where
      either : (a l : Bool) → not (a && not l) ≡ (not a || l)
      either true true = refl
      either true false = refl
      either false l = refl

  -- and those that stayed are the active ones that were not entered
  pub stayed-run-on : stayed ≡ minus (moved_to active ch) (entered_by active ch)
  stayed-run-on = collect-same _ _ 64 (λ k l. sym (has-minus active ch.left k l) ∙ go k l)
    where
      both : (s c : Bool) → s ≡ ((s || c) && not (c && not s))
      both true true = refl
      both true false = refl
      both false true = refl
      both false false = refl

      go : (k : ℕ) → k < 64 → has stayed k ≡ (has (moved_to active ch) k && not (has (entered_by active ch) k))
      go k l =
          both (has stayed k) (has ch.claimed k)
          ∙ ap₂ (λ (a b : Bool). a && not b) (sym (has-union stayed ch.claimed k l)) (sym (has-minus ch.claimed stayed k l) ∙ ap (λ (s : ℕ). has s k) entered-did-not-stay)
