-- Each step's line and standing, branch by branch, and that the steps come nearer to the end.
use Prim.Native.Nat.{ℕ, suc, ◌+◌, ◌-◌, ◌≤◌, ◌<◌}
use mathlib.Core.Bool.{Bool, true, false, ◌&&◌, cond}
use mathlib.Core.List.{List, ◌++◌, append_assoc}
use mathlib.Core.Path.{◌≡◌, refl, sym, ap, ◌∙◌}
use native.Mathlib.Nat.{zero-add}
use native.Mathlib.Omega.{arith}
use lib.ListN.{length, get_or, take, drop, take-append-drop}
use lib.Seq.{length-take-le, drop-append-le}
use lib.Dec.{eqb}
use borrow.Author.Tests.{le-leb, ne_eqb, eqb-true}
use Rattle.sets.specs.Bytes.{Put}
use Rattle.sets.proofs.Bytes.{put-put}
use Rattle.chart.specs.declared.chart.Chart.{Chart}
use Rattle.chart.proofs.held.Sound.{sound}
use Rattle.run.specs.declared.run.Run.{Run}
use Rattle.cycle.specs.Cycling.{refused, cycle_code, cycled, cycle_of}
use Rattle.cycle.specs.Answer.{Cycled}
use Rattle.cycle.proofs.cycling.Laws.{cycle-passed}
use Rattle.cycle.proofs.calling.Laws.{why-most}
use Rattle.trace.specs.Tracing.{call_at}
use Rattle.trace.specs.Answer.{Call}
use Rattle.trace.specs.Answer.{Start, Cycle, End, Refused}
use Rattle.trace.proofs.tracing.Laws.{start-there, cycle-there}
use Rattle.lines.specs.Lines.{chart_line}
use Rattle.report.specs.Wording.{reasons_line}
use Rattle.report.specs.Printing.{line_of, second_line, printed_at, printed_from, stepped, unmoved, line_for, standing_for, Prints, next_line, next_standing, printed_of, line_after}
use Rattle.report.specs.declared.printing.Standing.{Standing}
use Rattle.report.specs.Answer.{Printed}
use Rattle.report.proofs.wording.Laws.{reasons-length}

-- what is printed from a place on begins with what stands there
pub one-printed : (more : ℕ) (c : Chart) (s : List ℕ) (n at : ℕ) (run : Run) (x : Call) → call_at s at ≡ x → printed_from (suc more) c s n at run ≡ printed_at c n at run x (printed_from more c s (n + 1))
unfolding printed_from
one-printed more c s n at run x e = rw e

-- ---- the steps end: how much is left falls with each

unfoldable pub remaining : List ℕ → Standing → ℕ
remaining s st = cond st.done 0 (length s - st.at + 1)

call-falls : (c : Chart) (s : List ℕ) (at : ℕ) (run : Run) (x : Call) → call_at s at ≡ x → remaining s (standing_for c at run x) < length s - at + 1
unfolding remaining
call-falls c s at run (Start clock) e = let h = start-there s at clock e in omega arith
call-falls c s at run (Cycle clock inputs) e = let h = cycle-there s at clock inputs e in omega arith
call-falls c s at run End e = omega arith
call-falls c s at run Refused e = omega arith

falls : (code : ℕ) (c : Chart) (s : List ℕ) (st : Standing) → st.done ≡ false → remaining s (next_standing code c s st) < remaining s st
unfolding remaining next_standing
falls code c s st e = go (eqb code 0)
  where
    go : (b : Bool)
        → remaining s (cond st.done st (cond b (standing_for c st.at st.run (call_at s st.at)) (record { done = true; at = st.at; run = st.run }))) < cond st.done 0 (length s - st.at + 1)
    go true = rw e (call-falls c s st.at st.run (call_at s st.at) refl)
    go false = rw e (omega arith)

-- the same of the answer, where the lent buffer has room
pub moves : (lent code : ℕ) (c : Chart) (s : List ℕ) (st : Standing) (r : Printed) → 129 ≤ lent → r ≡ printed_of lent code c s st → st.done ≡ false → remaining s r.standing < remaining s st
moves lent code c s st r l h e =
    let q : r.standing ≡ next_standing code c s st = ap (λ (p : Printed). p.standing) h ∙ rw (le-leb 129 lent l) in
    rw q (falls code c s st e)

-- ---- a cycle's lines

accepted-cycle : (c : Chart) (r : Run) (clock inputs lent : ℕ) → (cycle_of c r clock inputs lent).code ≡ 0 → cycle_code c r clock lent ≡ 0
accepted-cycle c r clock inputs lent = go (eqb (cycle_code c r clock lent) 0) refl
  where
    go : (b : Bool) → eqb (cycle_code c r clock lent) 0 ≡ b → (cond b (cycled c r clock inputs) (refused (cycle_code c r clock lent) r)).code ≡ 0 → cycle_code c r clock lent ≡ 0
    go true e h = eqb-true _ 0 e
    go false e h = h

-- an accepted cycle has at most 64 reasons to print, and each is one digit
pub cycle-reasons : (c : Chart) (r : Run) (clock inputs lent : ℕ) (o : Cycled) → o ≡ cycle_of c r clock inputs lent
    → (o.code ≡ 0 → c.transitions ≤ 64) × ((k : ℕ) → k < 64 → get_or o.reasons k 0 ≤ 7)
cycle-reasons c r clock inputs lent o e =
    rw e (λ h. (sound c (cycle-passed c r clock lent (accepted-cycle c r clock inputs lent h)).chart).limits.transitions, why-most c r clock inputs lent)

module _ (e m : List ℕ) (number transitions : ℕ) (o : Cycled) (n : ℕ) (room : 129 ≤ length e) (p : Put e 0 (line_of number o) m n) (l : n ≤ 64) where
  pub second-there : (f : List ℕ) (r : ℕ) → (eqb o.code 0 && eqb o.taken 0) ≡ true → transitions ≤ 64 → Put m n (reasons_line transitions o.reasons) f r
      → Put e 0 (line_of number o ++ second_line transitions o) f r × (r ≤ 129)
  second-there f r h k q =
      (rw h (put-put e 0 (line_of number o) (reasons_line transitions o.reasons) p q (omega arith)), omega (arith, q.1, reasons-length transitions o.reasons))

-- ---- a line at the front of a buffer is at the front of all of it

put-front : (n : ℕ) (e t now : List ℕ) (r : ℕ) → n ≤ length e → length t ≤ n → Put (take n e) 0 t now r → Put e 0 t (now ++ drop n e) r
put-front n e t now r h k p = (
  ap (λ (x : List ℕ). x ++ drop n e) p.0
      ∙ append_assoc t (drop (length t) (take n e)) (drop n e)
      ∙ ap (λ (x : List ℕ). t ++ x) (sym (drop-append-le (length t) (take n e) (drop n e) (omega (arith, length-take-le n e h))) ∙ ap (λ (x : List ℕ). drop (length t) x) (take-append-drop n e)),
  p.1,
)

-- ---- one step, branch by branch

put-prints : (e t now : List ℕ) (n : ℕ) (done : Bool) (at : ℕ) (run : Run) (r : Printed) → Put e 0 t now n → n ≤ 129 → r ≡ stepped n done at run
    → Prints e t (record { done = done; at = at; run = run }) now r
put-prints e t now n done at run r p l q =
    let h : n ≡ length t = p.1 ∙ zero-add (length t) in
    record { line = p.0; answer = q ∙ ap (λ (m : ℕ). stepped m done at run) h; short = omega arith }

-- ---- the next line, for every argument

module _ (code : ℕ) (c : Chart) (s : List ℕ) (st : Standing) (line now : List ℕ) (r : Printed) where
  pub record Answers : Type 0 where
    pub answer : r ≡ printed_of (length line) code c s st
    pub content : now ≡ line_after code c s st line
    pub within : r.length ≤ length line

  -- what is printed, where there is room
  pub has_room : 129 ≤ length line → Prints line (next_line code c s st) (next_standing code c s st) now r → Answers
  has_room l p = record {
    answer = p.answer ∙ rw (le-leb 129 (length line) l);
    content = p.line ∙ rw (le-leb 129 (length line) l);
    within = rw p.answer (let h = p.short in omega arith);
  }

  -- what is printed into the first 129 bytes
  front-prints : (f : List ℕ) → 129 ≤ length line → Prints (take 129 line) (next_line code c s st) (next_standing code c s st) f r → now ≡ f ++ drop 129 line → Answers
  front-prints f l p e =
      let t = next_line code c s st in
      has_room l (record { line = e ∙ (put-front 129 line t f (length t) l p.short (p.line, omega arith)).0; answer = p.answer; short = p.short })

  pub is-done : 129 ≤ length line → st.done ≡ true → now ≡ line → r ≡ unmoved st → Answers
  unfolding next_line next_standing
  is-done l d e h = has_room l (rw d (record { line = e; answer = rw d at h; short = omega arith }))

  pub chart-prints : (n : ℕ) (f : List ℕ) → 129 ≤ length line → now ≡ f ++ drop 129 line → st.done ≡ false → (code ≡ 0 → ⊥) → Put (take 129 line) 0 (chart_line code) f n → n ≤ 129
      → r ≡ stepped n true st.at st.run → Answers
  unfolding next_line next_standing
  chart-prints n f l e d z p m q =
      front-prints f l (rw (d, ne_eqb code 0 z) (put-prints (take 129 line) (chart_line code) f n true st.at st.run r p m q)) e

  pub call-prints : (f : List ℕ) → 129 ≤ length line → now ≡ f ++ drop 129 line → st.done ≡ false → code ≡ 0
      → Prints (take 129 line) (line_for c st.at st.run (call_at s st.at)) (standing_for c st.at st.run (call_at s st.at)) f r → Answers
  unfolding next_line next_standing
  call-prints f l e d z p = front-prints f l (rw (d, z) p) e
