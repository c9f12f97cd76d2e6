-- The tests in their order; then the pieces of the file, one behind the other.
use Prim.Native.Nat.{ℕ, ◌≤◌}
use mathlib.Core.List.{List}
use mathlib.Core.Path.{refl, sym}
use native.Mathlib.Omega.{arith}
use lib.ListN.{length}
use Rattle.sets.specs.Bytes.{Put}
use Rattle.chart.proofs.held.Sound.{Sound, sound}
use Rattle.writer.specs.Writing.{file_of}
use Rattle.writer.proofs.writing.Laws.{Passed, passed-kept, passed-room, passed-turn, passed-all, steps-length, actions-length, transitions-length, blocks-length, cases-length, edition-length, piece, file-joined, file-length, file-start, chart-refused, too_few, written}
use Rattle.writer.proofs.writing.write_chart.Goals.{In_ok-check, Else-bytes-file_length}
use Rattle.writer.proofs.writing.write_chart.Goals as goal

held : (c : In_ok-check) → Sound c.args.chart.now
held c = sound c.args.chart.now (sym c.in_ok-check.ensures)

enough : (c : Else-bytes-file_length) → length (file_of c.args.chart.now) ≤ length c.args.bytes.now
enough c = omega (arith, file-length c.args.chart.now, c.file_length.ensures, c.if-bytes-file_length.false)

-- so many pieces are written
module _ (c : Else-bytes-file_length) where
  abbrev Wrote : ℕ → List ℕ → ℕ → Type 0
  Wrote k l end = Passed (piece c.args.chart.now) c.args.bytes.now 0 7 l end k

  module _ {l1 : List ℕ} {r1 : ℕ} (p1 : Put c.args.bytes.now 0 (piece c.args.chart.now 0) l1 r1) where
    wrote-steps : Wrote 1 l1 r1
    wrote-steps = passed-turn (file-start c.args.chart.now c.args.bytes.now (enough c)) (omega arith) p1

    module _ {l2 : List ℕ} {r2 : ℕ} (p2 : Put l1 r1 (piece c.args.chart.now 1) l2 r2) where
      wrote-actions : Wrote 2 l2 r2
      wrote-actions = passed-turn wrote-steps (omega arith) p2

      module _ {l3 : List ℕ} {r3 : ℕ} (p3 : Put l2 r2 (piece c.args.chart.now 2) l3 r3) where
        wrote-transitions : Wrote 3 l3 r3
        wrote-transitions = passed-turn wrote-actions (omega arith) p3

        module _ {l4 : List ℕ} {r4 : ℕ} (p4 : Put l3 r3 (piece c.args.chart.now 3) l4 r4) where
          wrote-blocks : Wrote 4 l4 r4
          wrote-blocks = passed-turn wrote-transitions (omega arith) p4

          module _ {l5 : List ℕ} {r5 : ℕ} (p5 : Put l4 r4 (piece c.args.chart.now 4) l5 r5) where
            wrote-cases : Wrote 5 l5 r5
            wrote-cases = passed-turn wrote-blocks (omega arith) p5

            module _ {l6 : List ℕ} {r6 : ℕ} (p6 : Put l5 r5 (piece c.args.chart.now 5) l6 r6) where
              wrote-edition : Wrote 6 l6 r6
              wrote-edition = passed-turn wrote-cases (omega arith) p6

              module _ {l7 : List ℕ} {r7 : ℕ} (p7 : Put l6 r6 (piece c.args.chart.now 6) l7 r7) where
                wrote-end : Wrote 7 l7 r7
                wrote-end = passed-turn wrote-edition (omega arith) p7

pub returns-in_err-check : goal.returns-in_err-check
returns-in_err-check c = chart-refused c.args.chart.now c.args.bytes.now _ _ c.from_residual.ensures.1 c.in_err-check.ensures

pub file_length-requires : goal.file_length-requires
file_length-requires c =
    let s = held (goal.at.file_length-requires c).In_ok-check in
    let l = s.limits in
    (l.steps, l.actions, l.transitions, l.blocks, l.cases, s.edition)

pub returns-then-bytes-file_length : goal.returns-then-bytes-file_length
returns-then-bytes-file_length c =
    let k = c.args.chart.now in
    too_few k c.args.bytes.now (sym c.in_ok-check.ensures) (omega (arith, file-length k, c.file_length.ensures, c.if-bytes-file_length.true))

pub put_steps-after_steps-requires : goal.put_steps-after_steps-requires
put_steps-after_steps-requires c =
    let s = (goal.at.put_steps-after_steps-requires c).Else-bytes-file_length in
    ((held (goal.at.put_steps-after_steps-requires c).In_ok-check).limits.steps, passed-room (file-start s.args.chart.now s.args.bytes.now (enough s)) (omega arith) (steps-length s.args.chart.now))

pub put_actions-after_actions-requires : goal.put_actions-after_actions-requires
put_actions-after_actions-requires c =
    let s = (goal.at.put_actions-after_actions-requires c).Else-bytes-file_length in
    ((held (goal.at.put_actions-after_actions-requires c).In_ok-check).limits.actions, passed-room (wrote-steps s c.put_steps-after_steps.ensures) (omega arith) (actions-length s.args.chart.now))

pub put_transitions-after_transitions-requires : goal.put_transitions-after_transitions-requires
put_transitions-after_transitions-requires c =
    let s = (goal.at.put_transitions-after_transitions-requires c).Else-bytes-file_length in
    ((held (goal.at.put_transitions-after_transitions-requires c).In_ok-check).limits.transitions, passed-room (wrote-actions s c.put_steps-after_steps.ensures c.put_actions-after_actions.ensures) (omega arith) (transitions-length s.args.chart.now))

pub put_blocks-after_blocks-requires : goal.put_blocks-after_blocks-requires
put_blocks-after_blocks-requires c =
    let s = (goal.at.put_blocks-after_blocks-requires c).Else-bytes-file_length in
    ((held (goal.at.put_blocks-after_blocks-requires c).In_ok-check).limits.blocks, passed-room (wrote-transitions s c.put_steps-after_steps.ensures c.put_actions-after_actions.ensures c.put_transitions-after_transitions.ensures) (omega arith) (blocks-length s.args.chart.now))

pub put_cases-after_cases-requires : goal.put_cases-after_cases-requires
put_cases-after_cases-requires c =
    let s = (goal.at.put_cases-after_cases-requires c).Else-bytes-file_length in
    ((held (goal.at.put_cases-after_cases-requires c).In_ok-check).limits.cases, passed-room (wrote-blocks s c.put_steps-after_steps.ensures c.put_actions-after_actions.ensures c.put_transitions-after_transitions.ensures c.put_blocks-after_blocks.ensures) (omega arith) (cases-length s.args.chart.now))

pub put_edition-after_edition-requires : goal.put_edition-after_edition-requires
put_edition-after_edition-requires c =
    let s = (goal.at.put_edition-after_edition-requires c).Else-bytes-file_length in
    ((held (goal.at.put_edition-after_edition-requires c).In_ok-check).edition, passed-room (wrote-cases s c.put_steps-after_steps.ensures c.put_actions-after_actions.ensures c.put_transitions-after_transitions.ensures c.put_blocks-after_blocks.ensures c.put_cases-after_cases.ensures) (omega arith) (edition-length s.args.chart.now))

pub put_end-requires : goal.put_end-requires
put_end-requires c =
    let s = (goal.at.put_end-requires c).Else-bytes-file_length in
    passed-room (wrote-edition s c.put_steps-after_steps.ensures c.put_actions-after_actions.ensures c.put_transitions-after_transitions.ensures c.put_blocks-after_blocks.ensures c.put_cases-after_cases.ensures c.put_edition-after_edition.ensures) (omega arith) refl

pub shape_of-bytes : goal.shape_of-bytes
shape_of-bytes c =
    let s = (goal.at.shape_of-bytes c).Else-bytes-file_length in
    passed-kept (wrote-end s c.put_steps-after_steps.ensures c.put_actions-after_actions.ensures c.put_transitions-after_transitions.ensures c.put_blocks-after_blocks.ensures c.put_cases-after_cases.ensures c.put_edition-after_edition.ensures c.put_end.ensures)

pub returns : goal.returns
returns c =
    let s = (goal.at.returns c).Else-bytes-file_length in
    let k = s.args.chart.now in
    written k s.args.bytes.now (sym c.in_ok-check.ensures) (enough s) (rw (file-joined k) (passed-all (wrote-end s c.put_steps-after_steps.ensures c.put_actions-after_actions.ensures c.put_transitions-after_transitions.ensures c.put_blocks-after_blocks.ensures c.put_cases-after_cases.ensures c.put_edition-after_edition.ensures c.put_end.ensures) (omega arith)))
