-- The reading, a byte at a time: in no role, and in one.
use Rattle.std.proofs.Common.{ℕ, zero, suc, ◌+◌, ◌-◌, ◌≤◌, ◌<◌, ◌≡◌, Bool, true, false, cond, List, [], ◌∷◌, length, get_or, drop, refl, sym, ap, ◌∙◌, ◌⊎◌, inl, inr, arith, add-one}
use lib.ListN.{drop_of_length-le}
use lib.Seq.{drop-cons}
use borrow.Author.Tests.{le-ltb, lt-ltb}
use Rattle.chart.specs.Chart.{empty_chart}
use Rattle.chart.specs.declared.chart.Chart.{Chart}
use Rattle.reader.specs.Reading.{refused}
use Rattle.reader.specs.Answer.{Reading}
use Rattle.grammar.specs.Answer.{with_all, reach}
use Rattle.grammar.specs.Meaning.{Said, a_step, a_block, a_transition}
use Rattle.grammar.specs.Pen.{Pen, penned, settled, said_at, blank_pen}
use Rattle.text.specs.Answer.{Stray}
use Rattle.text.specs.Scan.{clip, next_of, role_of, is_final, no_stray, stray_in, finished, scan}
use Rattle.text.proofs.Answer.{one_at_most}
use Rattle.text.proofs.Tables.{silent-role, first-role, digit-role, name-role}

abbrev pub whole : List ℕ → Reading
whole s = scan 0 blank_pen no_stray 0 (empty_chart 1) 0 s

-- what holds before each byte
pub record Going (s : List ℕ) (state : ℕ) (p : Pen) (stray : Stray) (actions : ℕ) (c : Chart) (i : ℕ) : Type 0 where
  pub state-in : state < 161
  pub actions-in : actions ≤ 256
  pub no-actions : c.actions ≡ 0
  pub steps-in : c.steps ≤ i
  pub blocks-in : c.blocks ≤ i
  pub transitions-in : c.transitions ≤ i
  pub goes : scan state p stray actions c i (drop i s) ≡ whole s

pub starts : (s : List ℕ) → Going s 0 blank_pen no_stray 0 (empty_chart 1) 0
starts s = record {
  state-in = omega arith;
  actions-in = omega arith;
  no-actions = refl;
  steps-in = omega arith;
  blocks-in = omega arith;
  transitions-in = omega arith;
  goes = refl;
}

-- a byte says at most one thing, so each count grows by one at most
record Grows (c d : Chart) : Type 0 where
  actions : d.actions ≡ c.actions
  steps : d.steps ≤ c.steps + 1
  blocks : d.blocks ≤ c.blocks + 1
  transitions : d.transitions ≤ c.transitions + 1

grows : (m : List Said) → (m ≡ []) ⊎ ((x : Said) × (m ≡ x ∷ [])) → (c : Chart) → Grows c (with_all c m)
unfolding with_all
grows m (inl e) c = rw e (record { actions = refl; steps = omega arith; blocks = omega arith; transitions = omega arith })
grows m (inr (a_step mark n place, e)) c = rw e (record { actions = refl; steps = omega arith; blocks = omega arith; transitions = omega arith })
grows m (inr (a_block step action qualifier duration, e)) c = rw e (record { actions = refl; steps = omega arith; blocks = omega arith; transitions = omega arith })
grows m (inr (a_transition sources targets on off, e)) c = rw e (record { actions = refl; steps = omega arith; blocks = omega arith; transitions = omega arith })

-- to a state that is reached in the role r
go_on : (s : List ℕ) (q : ℕ) (p : Pen) (o : Stray) (n : ℕ) (c : Chart) (i m r : ℕ) → m ≡ next_of q (get_or s i 0) → i < length s → m < 161 → role_of m ≡ r
    → (p' : Pen) (o' : Stray) (n' : ℕ) → p' ≡ penned clip p r i (get_or s i 0) → o' ≡ stray_in o c.steps (said_at r p) → n' ≡ reach n (said_at r p)
    → scan m p' o' n' (with_all c (said_at r p)) (i + 1) (drop (i + 1) s) ≡ scan q p o n c i (drop i s)
unfolding scan
go_on s q p o n c i m r e h l k p' o' n' x y z =
    rw (drop-cons s i 0 h, lt-ltb (next_of q (get_or s i 0)) 161 (rw e at l), add-one i, x, y, z, sym k, e)

-- of a name's role
named-pen : (r i b : ℕ) (p : Pen) → 3 ≤ r → r ≤ 6 → (record p { kind = r - 3; sets = settled p } ≡ penned clip p r i b) × (said_at r p ≡ [])
named-pen zero i b p x y = absurd (omega arith)
named-pen (suc zero) i b p x y = absurd (omega arith)
named-pen (suc (suc zero)) i b p x y = absurd (omega arith)
named-pen (suc (suc (suc zero))) i b p x y = (refl, refl)
named-pen (suc (suc (suc (suc zero)))) i b p x y = (refl, refl)
named-pen (suc (suc (suc (suc (suc zero))))) i b p x y = (refl, refl)
named-pen (suc (suc (suc (suc (suc (suc zero)))))) i b p x y = (refl, refl)
named-pen (suc (suc (suc (suc (suc (suc (suc r))))))) i b p x y = absurd (omega arith)

module _ {s : List ℕ} {q : ℕ} {p : Pen} {o : Stray} {n : ℕ} {c : Chart} {i : ℕ} (g : Going s q p o n c i) where
  module _ (h : i < length s) {m : ℕ} (e : m ≡ next_of q (get_or s i 0)) where
    pub stop-here : 161 ≤ m → refused 19 i ≡ whole s
    unfolding scan
    stop-here l = sym (rw (drop-cons s i 0 h, le-ltb (next_of q (get_or s i 0)) 161 (rw e at l))) ∙ g.goes

    pub on-role : (r : ℕ) → m < 161 → r ≡ role_of m → (p' : Pen) (o' : Stray) (n' : ℕ) (c' : Chart)
        → p' ≡ penned clip p r i (get_or s i 0)
        → o' ≡ stray_in o c.steps (said_at r p) → (n' ≡ reach n (said_at r p)) × (n' ≤ 256) → c' ≡ with_all c (said_at r p)
        → Going s m p' o' n' c' (i + 1)
    on-role r l k p' o' n' c' x y z w =
        let f = grows (said_at r p) (one_at_most r p) c in
        rw w (record {
          state-in = l;
          actions-in = z.1;
          no-actions = f.actions ∙ g.no-actions;
          steps-in = omega (arith, f.steps, g.steps-in);
          blocks-in = omega (arith, f.blocks, g.blocks-in);
          transitions-in = omega (arith, f.transitions, g.transitions-in);
          goes = go_on s q p o n c i m r e h l (sym k) p' o' n' x y z.0 ∙ g.goes;
        })

    pub on-silent : m < 95 → Going s m p o n c (i + 1)
    unfolding reach with_all
    on-silent l = on-role 0 (omega arith) (sym (silent-role m l)) p o n c refl refl (refl, g.actions-in) refl

    -- where only the pen changes
    on-quiet : (r : ℕ) → m < 161 → r ≡ role_of m → said_at r p ≡ [] → (p' : Pen) → p' ≡ penned clip p r i (get_or s i 0)
        → Going s m p' o n c (i + 1)
    unfolding reach with_all
    on-quiet r l k f p' x =
        on-role r l k p' o n c x (sym (ap (stray_in o c.steps) f)) (sym (ap (reach n) f), g.actions-in) (sym (ap (with_all c) f))

    pub on-first : 95 ≤ m → m < 124 → (p' : Pen) → p' ≡ penned clip p 1 i (get_or s i 0) → Going s m p' o n c (i + 1)
    on-first f l = on-quiet 1 (omega arith) (sym (first-role m f l)) refl

    pub on-digit : 124 ≤ m → m < 134 → (p' : Pen) → p' ≡ penned clip p 2 i (get_or s i 0) → Going s m p' o n c (i + 1)
    on-digit f l = on-quiet 2 (omega arith) (sym (digit-role m f l)) refl

    pub on-name : (r : ℕ) → r ≡ role_of m → 134 ≤ m → m < 142 → (p' : Pen) → p' ≡ record p { kind = r - 3; sets = settled p } → Going s m p' o n c (i + 1)
    on-name r k f l p' x =
        let w : (3 ≤ r) × (r ≤ 6) = rw k (name-role m f l) in
        let y = named-pen r i (get_or s i 0) p w.0 w.1 in
        on-quiet r (omega arith) k y.1 p' (x ∙ y.0)

  -- at the end
  module _ (h : length s ≤ i) (v : Bool) (e : v ≡ is_final q) where
    at-end : cond (is_final q) (finished o n c) (refused 19 i) ≡ whole s
    unfolding scan
    at-end = sym (rw (drop_of_length-le s h)) ∙ g.goes

    pub end_refused : v ≡ false → refused 19 i ≡ whole s
    end_refused f = rw (← e, f) at at-end

    pub end-finished : v ≡ true → finished o n c ≡ whole s
    end-finished f = rw (← e, f) at at-end
