-- Of a longer trace the first 65,536 bytes decide all that is printed.
use Prim.Native.Nat.{ℕ, zero, suc, ◌+◌, ◌-◌, ◌*◌, ◌≤◌, ◌<◌}
use mathlib.Core.Bool.{Bool, true, false, cond}
use mathlib.Core.List.{List, ◌++◌}
use mathlib.Core.Path.{◌≡◌, refl, sym, ap, ◌∙◌}
use mathlib.Core.Logic.{⊎_elim}
use native.Mathlib.Nat.{eq-or-lt_of_le}
use native.Mathlib.Omega.{arith}
use lib.ListN.{length, take}
use lib.Seq.{length-take-le, take_all, get_or-take}
use lib.Dec.{eqb, leb}
use borrow.Author.Tests.{leb-true, leb-false, le-leb, lt-leb}
use Rattle.chart.specs.declared.chart.Chart.{Chart}
use Rattle.reader.specs.Numbers.{le}
use Rattle.reader.specs.Reading.{read_chart}
use Rattle.run.specs.Run.{no_run}
use Rattle.run.specs.declared.run.Run.{Run}
use Rattle.cycle.specs.Cycling.{start_of, cycle_of}
use Rattle.trace.specs.Tracing.{body_due, record_fits, call_at}
use Rattle.trace.specs.Answer.{Call}
use Rattle.trace.specs.Answer.{Start, Cycle, End, Refused}
use Rattle.trace.proofs.tracing.Laws.{due, after-start, after-cycle}
use Rattle.lines.specs.Lines.{chart_line}
use Rattle.report.specs.Printing.{line_of, cycle_lines, printed_at, printed_from, printed_run}
use Rattle.report.proofs.printing.Laws.{one-printed}

-- a number that lies in the front is read from there
le-take : (w m at : ℕ) (s : List ℕ) → at + w ≤ m → le w (take m s) at ≡ le w s at
le-take zero m at s h = refl
le-take (suc w) m at s h = rw (get_or-take m s at 0 (omega arith), le-take w m (at + 1) s (omega arith))

module _ (s : List ℕ) (long : 65536 < length s) where
  abbrev front : List ℕ
  front = take 65536 s

  front_long : length front ≡ 65536
  front_long = length-take-le 65536 s (omega arith)

  -- a record that begins at 65,528 is refused in both
  late-call : (t : List ℕ) → 65528 < length t → call_at t 65528 ≡ Refused
  unfolding call_at
  late-call t h = rw (lt-leb (length t) 65528 h)

  early-fits : (at : ℕ) → at + 12 ≤ 65536 → record_fits front at ≡ record_fits s at
  early-fits at h =
      let d = due at in
      let l = front_long in
      rw (le-take 2 65536 (at + 2) s (omega arith), le-take 2 65536 at s (omega arith), le-leb (body_due at + 4) (length front - at) (omega arith), le-leb (body_due at + 4) (length s - at) (omega arith))

  early-call : (at : ℕ) → at + 12 ≤ 65536 → call_at front at ≡ call_at s at
  unfolding call_at
  early-call at h =
      let l = front_long in
      rw (early-fits at h, le-take 4 65536 (at + 4) s (omega arith), le-take 4 65536 (at + 8) s (omega arith), lt-leb (length front) at (omega arith), lt-leb (length s) at (omega arith))

  same-call : (n at : ℕ) → at ≡ 12 * n - 4 → at ≤ 65528 → call_at front at ≡ call_at s at
  same-call n at h l = ⊎_elim late (λ m. early-call at (omega arith)) (eq-or-lt_of_le l)
    where
      late : at ≡ 65528 → call_at front at ≡ call_at s at
      late e = let f = front_long in rw e (late-call front (omega arith) ∙ sym (late-call s (omega arith)))

  module _ (c : Chart) where
    abbrev Same : ℕ → ℕ → Type 0
    Same f g = (n at : ℕ) (run : Run) → length front - at < f → length s - at < g → at ≡ 12 * n - 4 → at ≤ 65528 → printed_from f c front n at run ≡ printed_from g c s n at run

    one_same : (f g n at : ℕ) (run : Run) (x : Call) → call_at front at ≡ x → call_at s at ≡ x → length front - at < suc f → length s - at < suc g → at ≡ 12 * n - 4 → Same f g
        → printed_at c n at run x (printed_from f c front (n + 1)) ≡ printed_at c n at run x (printed_from g c s (n + 1))
    one_same f g n at run (Start clock) d e l m h on =
        let a = after-start front n at f clock h l d in
        let b = after-start s n at g clock h m e in
        ap (λ (t : List ℕ). line_of n (start_of c clock 32) ++ t) (on (n + 1) (at + 8) (start_of c clock 32).run a.fewer b.fewer a.place a.early)
    one_same f g n at run (Cycle clock inputs) d e l m h on =
        let a = after-cycle front n at f clock inputs h l d in
        let b = after-cycle s n at g clock inputs h m e in
        ap (λ (t : List ℕ). cycle_lines c n (cycle_of c run clock inputs 32) ++ t) (on (n + 1) (at + 12) (cycle_of c run clock inputs 32).run a.fewer b.fewer a.place a.early)
    one_same f g n at run End d e l m h on = refl
    one_same f g n at run Refused d e l m h on = refl

    same : (f g : ℕ) → Same f g
    same zero g n at run l m h q = absurd (omega arith)
    same (suc f) zero n at run l m h q = absurd (omega arith)
    same (suc f) (suc g) n at run l m h q =
        one-printed f c front n at run (call_at s at) (same-call n at h q)
        ∙ one_same f g n at run (call_at s at) (same-call n at h q) refl l m h (same f g)
        ∙ sym (one-printed g c s n at run (call_at s at) refl)

pub enough : (chart trace : List ℕ) → printed_run chart (take 65536 trace) ≡ printed_run chart trace
enough chart trace = go (leb (length trace) 65536) refl
  where
    short : length trace ≤ 65536 → printed_run chart (take 65536 trace) ≡ printed_run chart trace
    short h = ap (printed_run chart) (take_all 65536 trace h)

    long : 65536 < length trace → printed_run chart (take 65536 trace) ≡ printed_run chart trace
    long h =
        let c = (read_chart chart).chart in
        ap (λ (t : List ℕ). cond (eqb (read_chart chart).code 0) t (chart_line (read_chart chart).code))
        (same trace h c (length (take 65536 trace) + 1) (length trace + 1) 0 0 no_run (omega arith) (omega arith) (omega arith) (omega arith))

    go : (b : Bool) → leb (length trace) 65536 ≡ b → printed_run chart (take 65536 trace) ≡ printed_run chart trace
    go true e = short (leb-true _ _ e)
    go false e = long (leb-false _ _ e)
