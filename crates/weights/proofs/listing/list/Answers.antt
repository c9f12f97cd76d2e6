-- Line by line, as `split` gives them.
use Rattle.std.proofs.Common.{rules, ◌<◌, Some, length, get_or, eqb, ◌≡◌, ◌∷◌, [], ◌∙◌, ap, length-append}
use borrow.Author.Tests.{tests}
use Rattle.std.proofs.lemmas.Iterator.Consumers.{YieldsList-from_enumerate, YieldsList-turn, YieldsList-end}
use Rattle.std.proofs.lemmas.Iterator.Splits.{YieldsList-from_slice_split}
use Rattle.std.proofs.lemmas.List.FromFn.{length-enumerate_from}
use Rattle.std.specs.Option.{option_or}
use Rattle.weights.proofs.listing.Laws.{lines, numbered-at, read-start, read-line, still-first, now-first, still-put, read-end}
use Rattle.weights.proofs.listing.list.Goals.{In-Some}
use Rattle.weights.proofs.listing.list.Goals as goal

pub loop-k-init : goal.loop-k-init
loop-k-init c = read-start _ _

-- the line in hand
turn : (c : In-Some) → let k = length c.loop-k.yielded in
    (k < length (lines c.args.text.now)) × (c.in-Some.k ≡ k) × (c.in-Some.line.now ≡ get_or (lines c.args.text.now) k c.in-Some.line.now)
turn c =
    let at = YieldsList-turn (YieldsList-from_enumerate (YieldsList-from_slice_split _ (λ b. eqb b 10) c.args.text.now (cc) (cc) (cc) (λ x b q k. search (rules, tests))) (cc)) c.loop-k.yielded _ c.loop-k.yielded_by _ _ _ c.in-Some.is c.next.ensures.steps in
    numbered-at (lines c.args.text.now) (length c.loop-k.yielded) c.in-Some.k c.in-Some.line.now at.0 at.1

pub loop-k-preserved-in-Ok-Some : goal.loop-k-preserved-in-Ok-Some
loop-k-preserved-in-Ok-Some c =
    let t = turn (goal.at.loop-k-preserved-in-Ok-Some c).In-Some in
    let r = c.loop-k.invariant in
    rw (length-append c.loop-k.yielded ((c.in-Some.k, c.in-Some.line) ∷ []))
    (read-line _ r _ _ t.0 t.2 (rw c.in-Ok-Some.field-0-is at c.in-Ok-Some.ensures) (still-first _ r) c.kept-count.ensures)

pub loop-k-preserved-in-Ok-None : goal.loop-k-preserved-in-Ok-None
loop-k-preserved-in-Ok-None c =
    let t = turn (goal.at.loop-k-preserved-in-Ok-None c).In-Some in
    let r = c.loop-k.invariant in
    rw (length-append c.loop-k.yielded ((c.in-Some.k, c.in-Some.line) ∷ []))
    (read-line _ r _ _ t.0 t.2 (rw c.in-Ok-None.field-0-is at c.in-Ok-None.ensures) (still-first _ r) (still-put _ r))

pub loop-k-preserved : goal.loop-k-preserved
loop-k-preserved c =
    let t = turn (goal.at.loop-k-preserved c).In-Some in
    let r = c.loop-k.invariant in
    rw (length-append c.loop-k.yielded ((c.in-Some.k, c.in-Some.line) ∷ []))
    (read-line _ r _ _ t.0 t.2 c.in-Err.ensures (now-first _ r (c.or-fault.ensures ∙ ap (λ k. option_or c.loop-k.fault (Some k)) t.1)) (still-put _ r))

pub returns : goal.returns
returns c =
    let end = YieldsList-end (YieldsList-from_enumerate (YieldsList-from_slice_split _ (λ b. eqb b 10) c.args.text.now (cc) (cc) (cc) (λ x b q k. search (rules, tests))) (cc)) c.loop-k.yielded _ c.loop-k.yielded_by _ _ c.in-None.is c.next.ensures.steps in
    read-end _ c.loop-k.invariant (end.1 ∙ length-enumerate_from 0 (lines c.args.text.now))
