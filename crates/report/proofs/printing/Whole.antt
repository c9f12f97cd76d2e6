-- The lines of the steps, in their order, are all that is printed, and the steps end.
use Prim.Native.Nat.{ℕ, zero, suc, ◌+◌, ◌-◌, ◌*◌, ◌≤◌, ◌<◌}
use mathlib.Core.Bool.{Bool, true, false}
use mathlib.Core.List.{List, [], ◌++◌, append-nil}
use mathlib.Core.Path.{◌≡◌, refl, sym, ap, ◌∙◌}
use native.Mathlib.Omega.{arith}
use lib.ListN.{length}
use lib.Dec.{eqb}
use borrow.Author.Tests.{ne_eqb, eqb-true, eqb-false}
use Rattle.chart.specs.Held.{chart_code}
use Rattle.chart.specs.declared.chart.Chart.{Chart}
use Rattle.reader.specs.Reading.{read_chart}
use Rattle.reader.proofs.reading.Accepted.{read-accepted}
use Rattle.run.specs.Run.{no_run}
use Rattle.run.specs.Belongs.{belongs}
use Rattle.run.specs.declared.run.Run.{Run}
use Rattle.run.proofs.belongs.Laws.{none-own}
use Rattle.cycle.specs.Cycling.{start_of, cycle_of}
use Rattle.cycle.specs.Answer.{Cycled}
use Rattle.cycle.proofs.cycling.Kept.{start-belongs, cycle-keeps}
use Rattle.trace.specs.Tracing.{call_at}
use Rattle.trace.specs.Answer.{Call}
use Rattle.trace.specs.Answer.{Start, Cycle, End, Refused}
use Rattle.trace.proofs.tracing.Laws.{after-start, after-cycle}
use Rattle.tally.specs.Tallying.{tally_of}
use Rattle.lines.specs.Lines.{chart_line}
use Rattle.report.specs.Wording.{trace_line, tally_line}
use Rattle.report.specs.Printing.{line_of, cycle_lines, closing_line, printed_at, printed_from, printed_run, number_at, opening, line_for, standing_for, next_line, next_standing, standing_after, lines_of}
use Rattle.report.specs.declared.printing.Standing.{Standing}
use Rattle.report.proofs.printing.Laws.{one-printed}

abbrev standing : Bool → ℕ → Run → Standing
standing done at run = record { done = done; at = at; run = run }

module _ (code : ℕ) (c : Chart) (s : List ℕ) where
  -- ---- what is done stays so and prints nothing

  done-line : (at : ℕ) (run : Run) → next_line code c s (standing true at run) ≡ []
  unfolding next_line
  done-line at run = refl

  done-stays : (at : ℕ) (run : Run) → next_standing code c s (standing true at run) ≡ standing true at run
  unfolding next_standing
  done-stays at run = refl

  done-lines : (k at : ℕ) (run : Run) → lines_of k code c s (standing true at run) ≡ []
  unfolding lines_of
  done-lines zero at run = refl
  done-lines (suc k) at run = rw (done-line at run, done-stays at run) (done-lines k at run)

  done-after : (k at : ℕ) (run : Run) → standing_after k code c s (standing true at run) ≡ standing true at run
  unfolding standing_after
  done-after zero at run = refl
  done-after (suc k) at run = rw (done-stays at run) (done-after k at run)

-- ---- the refused chart

chart-line : (code : ℕ) (c : Chart) (s : List ℕ) (at : ℕ) (run : Run) → (code ≡ 0 → ⊥) → next_line code c s (standing false at run) ≡ chart_line code
unfolding next_line
chart-line code c s at run h = rw (ne_eqb _ _ h)

chart-stands : (code : ℕ) (c : Chart) (s : List ℕ) (at : ℕ) (run : Run) → (code ≡ 0 → ⊥) → next_standing code c s (standing false at run) ≡ standing true at run
unfolding next_standing
chart-stands code c s at run h = rw (ne_eqb _ _ h)

chart-lines : (k code : ℕ) (c : Chart) (s : List ℕ) (at : ℕ) (run : Run) → (code ≡ 0 → ⊥) → 0 < k → lines_of k code c s (standing false at run) ≡ chart_line code
unfolding lines_of
chart-lines zero code c s at run h l = absurd (omega arith)
chart-lines (suc k) code c s at run h l = rw (chart-line code c s at run h, chart-stands code c s at run h, done-lines code c s k at run) (append-nil (chart_line code))

chart-ends : (k code : ℕ) (c : Chart) (s : List ℕ) (at : ℕ) (run : Run) → (code ≡ 0 → ⊥) → 0 < k → standing_after k code c s (standing false at run) ≡ standing true at run
unfolding standing_after
chart-ends zero code c s at run h l = absurd (omega arith)
chart-ends (suc k) code c s at run h l = rw (chart-stands code c s at run h, done-after code c s k at run)

-- ---- the accepted chart

module _ (c : Chart) (s : List ℕ) (passes : chart_code c ≡ 0) where
  call-line : (at : ℕ) (run : Run) (x : Call) → call_at s at ≡ x → next_line 0 c s (standing false at run) ≡ line_for c at run x
  unfolding next_line
  call-line at run x e = rw e

  call-stands : (at : ℕ) (run : Run) (x : Call) → call_at s at ≡ x → next_standing 0 c s (standing false at run) ≡ standing_for c at run x
  unfolding next_standing
  call-stands at run x e = rw e

  started-code : (clock : ℕ) → (start_of c clock 32).code ≡ 0
  started-code clock = rw passes

  start_fits : (clock : ℕ) → belongs c (start_of c clock 32).run ≡ true
  start_fits clock = start-belongs c clock 32 (started-code clock)

  tally-line : (n : ℕ) (run : Run) → belongs c run ≡ true → closing_line n (tally_of c run) ≡ tally_line (tally_of c run).passed (tally_of c run).failed (tally_of c run).notrun
  tally-line n run h = rw (passes, h)

  -- calls are numbered from 0, and the place tells the number
  numbered : (n at : ℕ) → at ≡ 12 * n - 4 → number_at at ≡ n
  numbered n at h = omega arith

  -- the steps from a standing print what is printed from its call on, and end
  record Prints (k more n at : ℕ) (run : Run) : Type 0 where
    lines : lines_of k 0 c s (standing false at run) ≡ printed_from more c s n at run
    ends : (standing_after k 0 c s (standing false at run)).done ≡ true

  one_line : (k at : ℕ) (run : Run) (x : Call) → call_at s at ≡ x → lines_of (suc k) 0 c s (standing false at run) ≡ line_for c at run x ++ lines_of k 0 c s (standing_for c at run x)
  unfolding lines_of
  one_line k at run x e = rw (call-line at run x e, call-stands at run x e)

  one-after : (k at : ℕ) (run : Run) (x : Call) → call_at s at ≡ x → standing_after (suc k) 0 c s (standing false at run) ≡ standing_after k 0 c s (standing_for c at run x)
  unfolding standing_after
  one-after k at run x e = rw (call-stands at run x e)

  -- one step, with what follows it at hand
  abbrev Follows : ℕ → ℕ → Type 0
  Follows k more = (n at : ℕ) (run : Run) → length s - at < more → at ≡ 12 * n - 4 → belongs c run ≡ true → Prints k more n at run

  call-prints : (more k n at at' : ℕ) (run : Run) (o : Cycled) (printed : ℕ → List ℕ) (x : Call) → call_at s at ≡ x → line_for c at run x ≡ printed (number_at at) → standing_for c at run x ≡ standing false at' o.run
      → printed_at c n at run x (printed_from more c s (n + 1)) ≡ printed n ++ printed_from more c s (n + 1) at' o.run → number_at at ≡ n → Prints k more (n + 1) at' o.run → Prints (suc k) (suc more) n at run
  call-prints more k n at at' run o printed x e line then all num p = record {
    lines = one_line k at run x e ∙ rw (line, then, num, p.lines) (sym (one-printed more c s n at run x e ∙ all));
    ends = ap (λ (st : Standing). st.done) (one-after k at run x e) ∙ rw then p.ends;
  }

  last-prints : (more k n at : ℕ) (run : Run) (t : List ℕ) (x : Call) → call_at s at ≡ x → line_for c at run x ≡ t → standing_for c at run x ≡ standing true at run
      → printed_at c n at run x (printed_from more c s (n + 1)) ≡ t → Prints (suc k) (suc more) n at run
  last-prints more k n at run t x e line then all = record {
    lines = one_line k at run x e ∙ rw (line, then, done-lines 0 c s k at run, append-nil t) (sym (one-printed more c s n at run x e ∙ all));
    ends = ap (λ (st : Standing). st.done) (one-after k at run x e) ∙ rw (then, done-after 0 c s k at run);
  }

  step : (more k n at : ℕ) (run : Run) (x : Call) → call_at s at ≡ x → length s - at < suc more → at ≡ 12 * n - 4 → belongs c run ≡ true → Follows k more → Prints (suc k) (suc more) n at run
  step more k n at run (Start clock) e l h b on =
      let o = after-start s n at more clock h l e in
      call-prints more k n at (at + 8) run (start_of c clock 32) (λ m. line_of m (start_of c clock 32)) (Start clock) e refl refl refl (numbered n at h) (on (n + 1) (at + 8) (start_of c clock 32).run o.fewer o.place (start_fits clock))
  step more k n at run (Cycle clock inputs) e l h b on =
      let o = after-cycle s n at more clock inputs h l e in
      call-prints more k n at (at + 12) run (cycle_of c run clock inputs 32) (λ m. cycle_lines c m (cycle_of c run clock inputs 32)) (Cycle clock inputs) e refl refl refl (numbered n at h) (on (n + 1) (at + 12) (cycle_of c run clock inputs 32).run o.fewer o.place (cycle-keeps c run clock inputs 32 b))
  step more k n at run End e l h b on = last-prints more k n at run _ End e (tally-line (number_at at) run b) refl refl
  step more k n at run Refused e l h b on = last-prints more k n at run trace_line Refused e refl refl refl

  prints : (more k n at : ℕ) (run : Run) → length s - at < more → more ≤ k → at ≡ 12 * n - 4 → belongs c run ≡ true → Prints k more n at run
  prints zero k n at run l m h b = absurd (omega arith)
  prints (suc more) zero n at run l m h b = absurd (omega arith)
  prints (suc more) (suc k) n at run l m h b =
      step more k n at run (call_at s at) refl l h b (λ n' at' run' l' h' b'. prints more k n' at' run' l' (omega arith) h' b')

-- ---- the theorems: after as many steps as the trace has bytes, and one more

module _ (chart trace : List ℕ) (k : ℕ) (enough : length trace + 1 ≤ k) where
  abbrev code : ℕ
  code = (read_chart chart).code

  abbrev c : Chart
  c = (read_chart chart).chart

  pub record Whole : Type 0 where
    pub lines : lines_of k code c trace opening ≡ printed_run chart trace
    pub ends : (standing_after k code c trace opening).done ≡ true

  whole-read : code ≡ 0 → Whole
  whole-read e =
      let p = prints c trace (read-accepted chart e).passes (length trace + 1) k 0 0 no_run (omega arith) enough (omega arith) (none-own c) in
      record { lines = rw e p.lines; ends = rw e p.ends }

  whole-refused : (code ≡ 0 → ⊥) → Whole
  whole-refused h = record { lines = chart-lines k code c trace 0 no_run h (omega arith) ∙ rw (ne_eqb _ _ h); ends = ap (λ (st : Standing). st.done) (chart-ends k code c trace 0 no_run h (omega arith)) }

  pub whole : Whole
  whole = go (eqb code 0) refl
    where
      go : (b : Bool) → eqb code 0 ≡ b → Whole
      go true e = whole-read (eqb-true code 0 e)
      go false e = whole-refused (eqb-false code 0 e)
