-- By the test of the pair.
use Prim.Native.Nat.{ℕ, ◌/◌, ◌%◌}
use mathlib.Core.Path.{◌≡◌, sym, ap, ◌∙◌}
use native.Mathlib.Omega.{arith}
use Rattle.sets.specs.Sets.{insert}
use Rattle.sets.proofs.Bytes.{put-none}
use Rattle.lines.specs.Lines.{text}
use Rattle.page.specs.Page.{both, pair_line, pair_at}
use Rattle.page.proofs.page.Laws.{side-ends}
use Rattle.page.proofs.page.pair_line.Goals.{After-with-both}
use Rattle.page.proofs.page.pair_line.Goals as goal

-- the set that is named
the-pair : (c : After-with-both) → let p = c.args.pair in c.with-both.result ≡ both (p / 64) (p % 64)
the-pair c = let p = c.args.pair in c.with-both.ensures ∙ ap (λ (s : ℕ). insert s (p % 64)) c.with.ensures

pub returns-then-is_apart : goal.returns-then-is_apart
unfolding pair_at pair_line
returns-then-is_apart c =
    let a = c.args in
    let p = c.side_line.ensures in
    (rw (sym c.is_apart.ensures ∙ c.if-is_apart.true, ← the-pair (goal.at.returns-then-is_apart c).After-with-both) p, side-ends a.line.now (text "never together") c.with-both.result a.weights.now p (omega arith))

pub returns : goal.returns
unfolding pair_at
returns c = rw (sym c.is_apart.ensures ∙ c.if-is_apart.false) (put-none c.args.line.now 0, omega arith)
