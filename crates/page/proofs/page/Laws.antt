-- What is put at the front of a line, and how long it is; each definition by its tests.
use Prim.Native.Nat.{ℕ, ◌+◌, ◌-◌, ◌≤◌, ◌<◌}
use mathlib.Core.Bool.{Bool, true, false, cond}
use mathlib.Core.List.{List, [], ◌++◌, append_assoc}
use mathlib.Core.Path.{◌≡◌, refl, sym, ap, ◌∙◌, subst}
use native.Mathlib.Omega.{arith}
use lib.ListN.{length, get_or, take, drop, length-append, take-append-drop}
use lib.Seq.{length-take-le}
use borrow.Author.Tests.{lt-ltb, le-ltb, le-leb, lt-leb, eq-eqb, ne_eqb}
use Rattle.std.proofs.lemmas.List.{drop-append-le}
use Rattle.sets.specs.Bytes.{over, Put}
use Rattle.lines.specs.Lines.{text, decimal, named_line, chart_line, Puts}
use Rattle.lines.proofs.Laws.{named-short, no_line, line_on, put-there}
use Rattle.tally.specs.Weighing.{balanced}
use Rattle.tally.specs.Answer.{Weighed}
use Rattle.page.specs.Page.{transition_line, closing_line, pair_at, too_long, fault_line, wrong_count, is_refused, refusal_line, line_at, page_line}
use Rattle.page.specs.Sides.{side}
use Rattle.page.specs.Answer.{Heard}
use Rattle.page.proofs.sides.Laws.{side-short}

-- a line of a name and a number
pub named-line-short : (name : List ℕ) (n : ℕ) → length (named_line name n) ≤ length name + 21
named-line-short name n = omega (arith, length-append (name ++ decimal n) (text "\n"), named-short name n)

-- a whole line of one part that had room
pub puts-line : (room : ℕ) (e t : List ℕ) {now : List ℕ} {end : ℕ} → Puts room e 0 t now end → length t ≤ room → room ≤ 512 → 512 ≤ length e → Put e 0 t now end × (end ≤ 512)
puts-line room e t p s h l = let q = line_on (no_line e) room t p s (omega arith) in (q.put, omega (arith, q.within))

-- a side's line
pub side-ends : (e name : List ℕ) (set : ℕ) (weights : List ℕ) {now : List ℕ} {end : ℕ} → Put e 0 (side name set weights ++ text "\n") now end → length name ≤ 20 → end ≤ 512
side-ends e name set weights p h = omega (arith, p.1, length-append (side name set weights) (text "\n"), side-short name set weights)

-- the same line by another name
pub put_as : (e : List ℕ) {t u now : List ℕ} {end : ℕ} → t ≡ u → Put e 0 t now end × (end ≤ 512) → Put e 0 u now end × (end ≤ 512)
put_as e {t} {u} {now} {end} q p = (subst (λ (x : List ℕ). Put e 0 x now end) q p.0, p.1)

-- what is put at the front of a longer buffer is put there in the whole of it
over-front : (n : ℕ) (e t : List ℕ) → length t ≤ n → n ≤ length e → over (take n e) 0 t ++ drop n e ≡ over e 0 t
over-front n e t h l =
    append_assoc t (drop (length t) (take n e)) (drop n e)
    ∙ ap (λ (x : List ℕ). t ++ x) (sym (drop-append-le (length t) (take n e) (drop n e) (omega (arith, length-take-le n e l))) ∙ ap (drop (length t)) (take-append-drop n e))

-- so a line in the first 512 bytes of a buffer is one in the buffer
pub front-puts : (e t : List ℕ) {f m : List ℕ} {end : ℕ} → f ≡ take 512 e → 512 ≤ length e → Put f 0 t m end × (end ≤ 512)
    → Puts 512 e 0 t (m ++ drop 512 e) end × (end ≤ length e)
front-puts e t {f} {m} s l p =
    let w = p.1 in
    let g : m ≡ over (take 512 e) 0 t = p.0.0 ∙ ap (λ (x : List ℕ). over x 0 t) s in
    (put-there 512 e 0 t l (ap (λ (x : List ℕ). x ++ drop 512 e) g ∙ over-front 512 e t (omega (arith, p.0.1)) l, p.0.1), omega arith)

-- a transition's line, by what the two sides tell
pub transition-is : (t sources targets : ℕ) (weights : List ℕ) (b : Bool) → balanced weights sources targets ≡ b
    → (text "transition " ++ decimal t) ++ side (text " from") sources weights ++ side (text " to") targets weights
    ++ cond b (text " equal\n") (text " unequal\n") ≡ transition_line t sources targets weights
unfolding transition_line
transition-is t sources targets weights b e = rw e

-- ---- line k

module _ (n : ℕ) (sources targets : List ℕ) (initial : ℕ) (weights : List ℕ) (w : Weighed) (k : ℕ) where
  pub line-transition : k < n → transition_line k (get_or sources k 0) (get_or targets k 0) weights ≡ line_at n sources targets initial weights w k
  unfolding line_at
  line-transition h = rw (lt-ltb k n h)

  pub line-closing : k ≡ n → closing_line initial weights w ≡ line_at n sources targets initial weights w k
  unfolding line_at
  line-closing h = rw (le-ltb k n (omega arith), eq-eqb k n h)

  pub line-pair : n ≤ k → (k ≡ n → ⊥) → w.code ≡ 0 → pair_at weights w.total (k - n - 1) ≡ line_at n sources targets initial weights w k
  unfolding line_at
  line-pair l h e = rw (le-ltb k n l, ne_eqb k n h, e)

  pub line-none : n ≤ k → (k ≡ n → ⊥) → (w.code ≡ 0 → ⊥) → [] ≡ line_at n sources targets initial weights w k
  unfolding line_at
  line-none l h e = rw (le-ltb k n l, ne_eqb k n h, ne_eqb w.code 0 e)

-- ---- line k, or the refusal

module _ (h : Heard) (n : ℕ) (sources targets : List ℕ) (initial : ℕ) (weights : List ℕ) (k : ℕ) where
  pub page-shown : is_refused h ≡ false → line_at n sources targets initial weights h.weighed k ≡ page_line h n sources targets initial weights k
  page-shown e = rw e refl

  pub page-refused : is_refused h ≡ true → k ≡ 0 → refusal_line h ≡ page_line h n sources targets initial weights k
  page-refused e z = rw (e, z) refl

  pub page-ended : is_refused h ≡ true → (k ≡ 0 → ⊥) → [] ≡ page_line h n sources targets initial weights k
  page-ended e z = rw (e, ne_eqb k 0 z) refl

-- ---- the refusals, in their order

module _ (h : Heard) where
  pub refused-chart : (h.code ≡ 0 → ⊥) → chart_line h.code ≡ refusal_line h
  unfolding refusal_line
  refused-chart z = rw (ne_eqb h.code 0 z)

  pub refused-length : h.code ≡ 0 → 65536 ≤ h.length → too_long ≡ refusal_line h
  unfolding refusal_line
  refused-length e l = rw (e, le-leb 65536 h.length l)

  pub refused-fault : h.code ≡ 0 → h.length < 65536 → (h.fault ≡ 0 → ⊥) → fault_line h.fault ≡ refusal_line h
  unfolding refusal_line
  refused-fault e l z = rw (e, lt-leb 65536 h.length l, ne_eqb h.fault 0 z)

  pub refused-count : h.code ≡ 0 → h.length < 65536 → h.fault ≡ 0 → wrong_count ≡ refusal_line h
  unfolding refusal_line
  refused-count e l z = rw (e, lt-leb 65536 h.length l, z)
