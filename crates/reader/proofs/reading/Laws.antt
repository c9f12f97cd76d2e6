-- Reading on from where the loop stands gives the whole answer: what each way of a turn makes of that.
use Prim.Native.Nat.{ℕ, zero, suc, ◌+◌, ◌-◌, ◌≤◌, ◌<◌}
use mathlib.Core.List.{List}
use mathlib.Core.Bool.{Bool, true, false, cond}
use mathlib.Core.Path.{◌≡◌, refl}
use lib.ListN.{length}
use lib.Dec.{eqb}
use native.Mathlib.Omega.{arith}
use borrow.Author.Tests.{eq-eqb, ne_eqb, ltb-true, lt-ltb, le-ltb}
use Rattle.chart.specs.Chart.{empty_chart}
use Rattle.chart.specs.Held.{closing_code}
use Rattle.chart.specs.declared.chart.Chart.{Chart}
use Rattle.reader.specs.Framing.{length_at, kind_at, record_number}
use Rattle.judging.specs.Judging.{limited}
use Rattle.reader.specs.Bodies.{body_at}
use Rattle.reader.specs.Reading.{refused, accepted, ended, with_body, number_in, taken, read_from, read_chart}
use Rattle.judging.specs.declared.Body.{Body}
use Rattle.judging.specs.declared.Body.TheVariants.{Step, Action, Transition, Block, Case, Edition}
use Rattle.reader.proofs.framing.Laws.{Found}

-- ---- a body whose number is 0

pub limited-zero : (room : Bool) (n : ℕ) → limited room n ≡ 0 → (room ≡ true) × (n ≡ 0)
limited-zero true n e = (refl, e)
limited-zero false n e = let z : ◌≡◌ {A = ℕ} 4 0 = e in absurd (omega arith)

-- there is room for it
abbrev pub Room : Chart → Body → Type 0
Room c (Step i) = c.steps < 64
Room c (Action o v) = c.actions < 32
Room c (Transition s t on off w) = c.transitions < 64
Room c (Block s a q d) = c.blocks < 256
Room c (Case s n e) = c.cases < 64
Room c (Edition x) = c.edition < 2

pub room : (c : Chart) (b : Body) → number_in c b ≡ 0 → Room c b
room c (Step i) e = ltb-true _ _ (limited-zero _ _ e).0
room c (Action o v) e = ltb-true _ _ (limited-zero _ _ e).0
room c (Transition s t on off w) e = ltb-true _ _ (limited-zero _ _ e).0
room c (Block s a q d) e = ltb-true _ _ (limited-zero _ _ e).0
room c (Case s n m) e = ltb-true _ _ (limited-zero _ _ e).0
room c (Edition x) e = ltb-true _ _ (limited-zero _ _ e).0

-- ---- after the end record

module _ (size next : ℕ) (c : Chart) where
  pub ended-surplus : next < size → refused 10 next ≡ ended size next c
  ended-surplus h = rw (lt-ltb next size h)

  module _ (h : size ≤ next) {n : ℕ} (e : n ≡ closing_code c.steps c.blocks c.initial c.blockaction c.qualifier) where
    pub ended-refused : (n ≡ 0 → ⊥) → refused n 0 ≡ ended size next c
    ended-refused z = rw (le-ltb next size h, ← e, ne_eqb n 0 z)

    pub ended-accepted : n ≡ 0 → accepted c ≡ ended size next c
    ended-accepted z = rw (le-ltb next size h, ← e, eq-eqb n 0 z)

-- ---- where the loop stands

shorter : (l at m p n f : ℕ) → p ≡ at + 4 → n ≡ m → at + 4 + m ≤ l → l - at ≤ f → l - (p + n) < f
shorter l at m p n f e q h k = omega arith

pub record Onward (s : List ℕ) (at before : ℕ) (c : Chart) : Type 0 where
  pub fuel : ℕ
  pub enough : length s - at < fuel
  pub same : read_from fuel s at before c ≡ read_chart s

pub begin : (s : List ℕ) → Onward s 0 0 (empty_chart 1)
begin s = record { fuel = length s + 1; enough = omega arith; same = refl }

record Turn (s : List ℕ) (at before : ℕ) (c : Chart) : Type 0 where
  fuel : ℕ
  enough : length s - at ≤ fuel
  same :
      cond (eqb (record_number s at before) 0)
      (cond (eqb (kind_at s at) 0) (ended (length s) (at + 4) c)
      (taken at c (body_at s (kind_at s at) (at + 4)) (read_from fuel s (at + 4 + length_at s at) (kind_at s at))))
      (refused (record_number s at before) at)
      ≡ read_chart s

module _ (s : List ℕ) (at before : ℕ) (c : Chart) where
  opened : (f : ℕ) → length s - at < f → read_from f s at before c ≡ read_chart s → Turn s at before c
  unfolding read_from
  opened zero h e = absurd (omega arith)
  opened (suc f) h e = record { fuel = f; enough = omega arith; same = e }

  module _ (o : Onward s at before c) where
    turn : Turn s at before c
    turn = opened o.fuel o.enough o.same

    pub refused-here : (n : ℕ) → n ≡ record_number s at before → (n ≡ 0 → ⊥) → refused n at ≡ read_chart s
    refused-here n e z = rw (← e, ne_eqb n 0 z) at turn.same

    pub ended_here : 0 ≡ record_number s at before → kind_at s at ≡ 0 → ended (length s) (at + 4) c ≡ read_chart s
    ended_here e z = rw (← e, eq-eqb _ 0 z) at turn.same

    module _ (k p n : ℕ) (f : Found s at before k p n) (b : Body) (q : b ≡ body_at s k p) where
      taken_here : taken at c b (read_from turn.fuel s (p + n) k) ≡ read_chart s
      taken_here = rw (q, f.kind, f.place, f.size) (rw (← f.number, ne_eqb _ 0 f.some) at turn.same)

      pub halted : (m : ℕ) → m ≡ number_in c b → (m ≡ 0 → ⊥) → refused m at ≡ read_chart s
      halted m h z = rw (← h, ne_eqb m 0 z) at taken_here

      pub onward : 0 ≡ number_in c b → Onward s (p + n) k (with_body c b)
      onward z =
          let d = f.headed in
          record {
            fuel = turn.fuel;
            enough = shorter (length s) at (length_at s at) p n turn.fuel f.place f.size d.whole turn.enough;
            same = rw (← z) at taken_here;
          }
