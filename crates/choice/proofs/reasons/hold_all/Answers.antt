-- Sevens in front of what was there.
use Rattle.std.proofs.Common.{◌≡◌, List, ℕ, ◌++◌, drop, replicate, rules, ap, ◌∙◌}
use Rattle.std.proofs.lemmas.Slice.{overwrites}
use Rattle.choice.proofs.Laws.{all-held}
use Rattle.choice.proofs.reasons.hold_all.Goals as goal

pub returns : goal.returns
returns c =
    let f : c.fill.new.self ≡ replicate c.min.result 7 = search (rules, overwrites) in
    ap (λ (s : List ℕ). s ++ drop c.min.result (replicate 64 0)) f ∙ all-held _ _ c.min.ensures
