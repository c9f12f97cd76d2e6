use Rattle.std.proofs.Common.{◌≡◌, length, ap, ◌∙◌, arith}
use Rattle.reader.specs.Reading.{refused}
use Rattle.text.proofs.Answer.{answers_by}
use Rattle.text.proofs.reading.Laws.{stop-here, on-silent, on-first, on-digit, on-name, on-role, end_refused, end-finished}
use Rattle.text.proofs.Tables.{name-role}
use Rattle.text.proofs.saying.Draft.read.Goals as goal

pub next_of-state-requires : goal.next_of-state-requires
next_of-state-requires c = (c.requires.1, c.requires.2, c.loop-at.invariant.state-in)

pub loop-at-preserved-then-state-lt-SILENT : goal.loop-at-preserved-then-state-lt-SILENT
loop-at-preserved-then-state-lt-SILENT c = on-silent c.loop-at.invariant c.loop-at-test.true c.next_of-state.ensures c.if-state-lt-SILENT.true

pub loop-at-preserved-then-state-lt-FIRSTS : goal.loop-at-preserved-then-state-lt-FIRSTS
loop-at-preserved-then-state-lt-FIRSTS c =
    on-first c.loop-at.invariant c.loop-at-test.true c.next_of-state.ensures c.if-state-lt-SILENT.false c.if-state-lt-FIRSTS.true _ c.take.ensures

pub loop-at-preserved-then-state-lt-DIGITS : goal.loop-at-preserved-then-state-lt-DIGITS
loop-at-preserved-then-state-lt-DIGITS c =
    on-digit c.loop-at.invariant c.loop-at-test.true c.next_of-state.ensures c.if-state-lt-FIRSTS.false c.if-state-lt-DIGITS.true _ c.take-then-state-lt-DIGITS.ensures

pub name-requires : goal.name-requires
name-requires c =
    let n = name-role _ c.if-state-lt-DIGITS.false c.if-state-lt-NAMES.true in
    (rw c.role_of.ensures n.0, rw c.role_of.ensures n.1)

pub loop-at-preserved-then-state-lt-NAMES : goal.loop-at-preserved-then-state-lt-NAMES
loop-at-preserved-then-state-lt-NAMES c =
    on-name c.loop-at.invariant c.loop-at-test.true c.next_of-state.ensures _ c.role_of.ensures c.if-state-lt-DIGITS.false c.if-state-lt-NAMES.true _ c.name.ensures

pub returns-then-state-ge-STOP : goal.returns-then-state-ge-STOP
returns-then-state-ge-STOP c =
    let g = c.loop-at.invariant in
    record {
      answer = answers_by _ _ (λ k. omega (arith, c.type_inv.bytes k)) (stop-here g c.loop-at-test.true c.next_of-state.ensures c.if-state-ge-STOP.true);
      counts = (g.actions-in, g.no-actions);
    }

pub loop-at-preserved : goal.loop-at-preserved
loop-at-preserved c =
    let w = c.say.ensures in
    on-role c.loop-at.invariant c.loop-at-test.true c.next_of-state.ensures _ c.if-state-ge-STOP.false c.role_of-role.ensures _ _ _ _ c.take-in-loop-at.ensures w.stray w.actions w.chart

pub returns-then-is_final : goal.returns-then-is_final
returns-then-is_final c =
    let g = c.loop-at.invariant in
    record {
      answer = answers_by _ _ (λ k. omega (arith, c.type_inv.bytes k)) (end-finished g c.loop-at-test.false _ c.is_final.ensures c.if-is_final.true);
      counts = (g.actions-in, g.no-actions);
    }

pub returns : goal.returns
returns c =
    let g = c.loop-at.invariant in
    let e : length c.args.bytes.now ≡ c.loop-at.at = omega arith in
    record {
      answer = answers_by _ _ (λ k. omega (arith, c.type_inv.bytes k))
          (ap (refused 19) e ∙ end_refused g c.loop-at-test.false _ c.is_final.ensures c.if-is_final.false);
      counts = (g.actions-in, g.no-actions);
    }
