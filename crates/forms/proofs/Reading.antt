-- A table that passes the test reads what its first state's forms produce: what it answers is right, of every text.
use mathlib.Core.Path.{◌≡◌, refl, sym, ap, ◌∙◌, subst}
use mathlib.Core.Bool.{Bool, true, false, cond, ◌&&◌, ◌||◌}
use mathlib.Core.List.{List, [], ◌∷◌, ◌++◌}
use mathlib.Core.Logic.{◌⊎◌, inl, inr}
use Prim.Native.Nat.{ℕ, zero, suc, ◌≤◌, ◌<◌}
use native.Mathlib.Omega.{arith}
use lib.Dec.{eqb, leb}
use lib.ListN.{get_or, length, take}
use borrow.Author.Tests.{eqb-true, leb-true}
use Rattle.forms.specs.Form.{Mark, Form, empty, one, then, or, many, Tree, byte, marks, bytes, Opens, Stops}
use Rattle.forms.specs.Table.{Row, State, Table, stuck, at, Move, halt, go, move, Head, heads, heads_of, ends, each, any, Outcome, read, stopped, push, turn, final, run, same, live, kept, range, leads, comes, backs, head_fits, row_fits, state_fits, fits}
use Rattle.forms.proofs.Heads.{Produces, Starts, here, there, starts-before, starts-behind, starts-cases, produces-starts, starts-produces, ends-produces, produces-ends, then-produces, or_left, many-none, empty-produces}
use Rattle.forms.proofs.Tests.{never, and_left, and_right, same_true, range_at}

-- one of the forms produces w
pub data Among (w : List Mark) : List Form → Type 0 where
  this : {f : Form} {l : List Form} → Produces f w → Among w (f ∷ l)
  later : {f : Form} {l : List Form} → Among w l → Among w (f ∷ l)

among-starts : (l : List Form) {m : Mark} {w : List Mark} → Among (m ∷ w) l → Starts (heads_of l) m w
unfolding heads_of
among-starts (f ∷ l) (this p) = starts-before (heads f) (heads_of l) (produces-starts p)
among-starts (f ∷ l) (later a) = starts-behind (heads f) (heads_of l) (among-starts l a)
among-starts [] {m = m} {w = w} x' = elim x' [ ]

starts-among : (l : List Form) {m : Mark} {w : List Mark} → Starts (heads_of l) m w → Among (m ∷ w) l
unfolding heads_of
starts-among (f ∷ l) {m} {w} s = cases (starts-among l) (starts-cases (heads f) (heads_of l) s)
  where
    cases : (Starts (heads_of l) m w → Among (m ∷ w) l) → (Starts (heads f) m w) ⊎ (Starts (heads_of l) m w) → Among (m ∷ w) (f ∷ l)
    cases r (inl a) = this (starts-produces f m w a)
    cases r (inr b) = later (r b)
starts-among [] {m = m} {w = w} s = elim s [ ]

-- a form with no empty range has a sentence
live-produces : (f : Form) → live f ≡ true → (w : List Mark) × Produces f w
unfolding live marks
live-produces empty h = ([], empty-produces)
live-produces (one a z r) h = (record { byte = a; role = r } ∷ [], record { tree = byte {a = a} {z = z} {r = r} a (omega arith) (leb-true a z h); is = refl })
live-produces (then f g) h =
    let p : (w : List Mark) × Produces f w = live-produces f (and_left (live f) (live g) h) in
    let q : (w : List Mark) × Produces g w = live-produces g (and_right (live f) (live g) h) in
    (p.0 ++ q.0, then-produces p.1 q.1)
live-produces (or f g) h =
    let p : (w : List Mark) × Produces f w = live-produces f (and_left (live f) (live g) h) in
    (p.0, or_left p.1)
live-produces (many f) h = ([], many-none f)

kept-among : (l : List Form) → kept l ≡ true → (w : List Mark) × Among w l
unfolding kept
kept-among [] h = never h
kept-among (f ∷ l) h = let p : (w : List Mark) × Produces f w = live-produces f h in (p.0, this p.1)

final-among : (l : List Form) → final l ≡ true → Among [] l
unfolding final any
final-among [] h = never h
final-among (f ∷ l) h = cases (ends f) refl h (final-among l)
  where
    cases : (b : Bool) → ends f ≡ b → (b || any ends l) ≡ true → (any ends l ≡ true → Among [] l) → Among [] (f ∷ l)
    cases true e t r = this (ends-produces f e)
    cases false e t r = later (r t)

or-right-true : (a b : Bool) → b ≡ true → (a || b) ≡ true
or-right-true true b h = refl
or-right-true false b h = h

among-final : {l : List Form} → Among [] l → final l ≡ true
unfolding final any
among-final (this {f} {l} p) = ap (λ (b : Bool). b || any ends l) (produces-ends p)
among-final (later {f} {l} a) = or-right-true (ends f) (any ends l) (among-final a)

-- a form that is the same as one of the list
any_same : (g : Form) (l : List Form) {w : List Mark} → any (same g) l ≡ true → Produces g w → Among w l
unfolding any
any_same g [] h p = never h
any_same g (f ∷ l) {w} h p = cases (same g f) refl h (λ t. any_same g l t p)
  where
    cases : (b : Bool) → same g f ≡ b → (b || any (same g) l) ≡ true → (any (same g) l ≡ true → Among w l) → Among w (f ∷ l)
    cases true e t r = this (subst (λ (x : Form). Produces x w) (same_true g f e) p)
    cases false e t r = later (r t)

-- every state of the table passes, also one past its end
module _ (t : Table) where
  none-fits : state_fits t stuck ≡ true
  unfolding state_fits each heads_of
  none-fits = refl

  state-at : (l : List State) → each (state_fits t) l ≡ true → (q : ℕ) → state_fits t (get_or l q stuck) ≡ true
  unfolding each
  state-at [] h q = none-fits
  state-at (s ∷ l) h zero = and_left (state_fits t s) (each (state_fits t) l) h
  state-at (s ∷ l) h (suc q) = state-at l (and_right (state_fits t s) (each (state_fits t) l) h) q

  pub state-fits : fits t ≡ true → (q : ℕ) → state_fits t (at t q) ≡ true
  unfolding fits
  state-fits h q = state-at t h q

-- One step, both ways.

record Moved (t : Table) (l : List Row) (m : Mark) (w : List Mark) : Type 0 where
  next : ℕ
  goes : move l m.byte ≡ go m.role next
  among : Among w (at t next).forms

leads-moved : (t : Table) (l : List Row) (m : Mark) (w : List Mark) (role : ℕ) (g : Form) (v : Move) → move l m.byte ≡ v → leads t role g v ≡ true
    → m.role ≡ role → Produces g w → Moved t l m w
unfolding leads
leads-moved t l m w role g halt e h r p = never h
leads-moved t l m w role g (go r' q) e h r p = record {
  next = q;
  goes = e ∙ ap (λ (x : ℕ). go x q) (sym (r ∙ eqb-true role r' (and_left (eqb role r') (any (same g) (at t q).forms) h)));
  among = any_same g (at t q).forms (and_right (eqb role r') (any (same g) (at t q).forms) h) p;
}

heads-moved : (t : Table) (l : List Row) (k : List Head) {m : Mark} {w : List Mark} → each (head_fits t l) k ≡ true → Starts k m w → Moved t l m w
unfolding each head_fits
heads-moved t l (h ∷ k) {m} {w} a (here s) =
    leads-moved t l m w h.role h.rest (move l m.byte) refl
    (range_at (λ b. leads t h.role h.rest (move l b)) h.from h.to m.byte (and_left (head_fits t l h) (each (head_fits t l) k) a) s.fits.low s.fits.high)
    s.fits.role s.rest
heads-moved t l (h ∷ k) a (there s) = heads-moved t l k (and_right (head_fits t l h) (each (head_fits t l) k) a) s
heads-moved t l [] {m = m} {w = w} a x'' = elim x'' [ ]

forward : (t : Table) (s : State) {m : Mark} {w : List Mark} → state_fits t s ≡ true → Among (m ∷ w) s.forms → Moved t s.rows m w
unfolding state_fits
forward t s f a =
    heads-moved t s.rows (heads_of s.forms)
    (and_left (each (head_fits t s.rows) (heads_of s.forms)) (each (row_fits t (heads_of s.forms) s.rows) s.rows) f)
    (among-starts s.forms a)

-- a head of the list fits
any_head : (r b : ℕ) (g : Form) (k : List Head) {w : List Mark}
    → any (comes r b g) k ≡ true → Produces g w → Starts k (record { byte = b; role = r }) w
unfolding any
any_head r b g [] h p = never h
any_head r b g (h ∷ k) {w} t p =
    cases (comes r b g h) refl t (λ e. any_head r b g k e p)
  where
    rest : Bool
    rest = any (comes r b g) k

    cases : (v : Bool) → comes r b g h ≡ v → (v || rest) ≡ true
        → (rest ≡ true → Starts k (record { byte = b; role = r }) w) → Starts (h ∷ k) (record { byte = b; role = r }) w
    cases true e o n =
        let x = and_right (leb h.from b) (leb b h.to && (eqb r h.role && same h.rest g)) e in
        let y = and_right (leb b h.to) (eqb r h.role && same h.rest g) x in
        here (record {
          fits = record {
            low = leb-true h.from b (and_left (leb h.from b) (leb b h.to && (eqb r h.role && same h.rest g)) e);
            high = leb-true b h.to (and_left (leb b h.to) (eqb r h.role && same h.rest g) x);
            role = eqb-true r h.role (and_left (eqb r h.role) (same h.rest g) y);
          };
          rest = subst (λ (f : Form). Produces f w) (sym (same_true h.rest g (and_right (eqb r h.role) (same h.rest g) y))) p;
        })
    cases false e o n = there (n o)

all-backs : (r b : ℕ) (k : List Head) (l : List Form) {w : List Mark}
    → each (λ g. any (comes r b g) k) l ≡ true
    → Among w l → Starts k (record { byte = b; role = r }) w
unfolding each
all-backs r b k (f ∷ l) h (this p) =
    any_head r b f k (and_left _ (each (λ g. any (comes r b g) k) l) h) p
all-backs r b k (f ∷ l) h (later a) =
    all-backs r b k l (and_right (any (comes r b f) k) _ h) a
all-backs r b k [] {w = w} h x'' = elim x'' [ ]

-- a byte that moves is in the range of a row
row-backs : (t : Table) (k : List Head) (l : List Row) (p : ℕ → Bool) (b r q : ℕ) → each (λ (x : Row). range p x.from x.to) l ≡ true → move l b ≡ go r q → p b ≡ true
unfolding each move
row-backs t k [] p b r q a e = let z : ◌≡◌ {A = ℕ} 0 1 = cc in absurd (omega arith)
row-backs t k (x ∷ l) p b r q a e = cases (leb x.from b && leb b x.to) refl e (row-backs t k l p b r q (and_right (range p x.from x.to) _ a))
  where
    cases : (v : Bool) → (leb x.from b && leb b x.to) ≡ v → cond v (go x.role x.next) (move l b) ≡ go r q → (move l b ≡ go r q → p b ≡ true) → p b ≡ true
    cases true f g n =
        range_at p x.from x.to b (and_left (range p x.from x.to) _ a)
        (leb-true x.from b (and_left (leb x.from b) (leb b x.to) f)) (leb-true b x.to (and_right (leb x.from b) (leb b x.to) f))
    cases false f g n = n g

backs-at : (t : Table) (s : State) (b r q : ℕ) → state_fits t s ≡ true → move s.rows b ≡ go r q → backs t (heads_of s.forms) b (go r q) ≡ true
unfolding state_fits row_fits
backs-at t s b r q f e =
    subst (λ (v : Move). backs t (heads_of s.forms) b v ≡ true) e
    (row-backs t (heads_of s.forms) s.rows (λ c. backs t (heads_of s.forms) c (move s.rows c)) b r q
    (and_right (each (head_fits t s.rows) (heads_of s.forms)) _ f) e)

backward : (t : Table) (s : State) (b r q : ℕ) {w : List Mark} → state_fits t s ≡ true → move s.rows b ≡ go r q
    → Among w (at t q).forms → Among (record { byte = b; role = r } ∷ w) s.forms
unfolding backs
backward t s b r q f e a =
    starts-among s.forms (all-backs r b (heads_of s.forms) (at t q).forms (and_right (kept (at t q).forms) _ (backs-at t s b r q f e)) a)

keeps : (t : Table) (s : State) (b r q : ℕ) → state_fits t s ≡ true → move s.rows b ≡ go r q → kept (at t q).forms ≡ true
unfolding backs
keeps t s b r q f e = and_left (kept (at t q).forms) _ (backs-at t s b r q f e)

-- Whole texts.

abbrev Reads : List Form → List ℕ → List Mark → Type 0
Reads l s w = Among w l × (bytes w ≡ s)

abbrev Viable : List Form → List ℕ → Type 0
Viable l s = (r : List ℕ) × (w : List Mark) × Reads l (s ++ r) w

push-read : (m : Mark) (o : Outcome) (w : List Mark) → push m o ≡ read w → (v : List Mark) × (o ≡ read v) × (m ∷ v ≡ w)
unfolding push
push-read m (read v) w e = (v, refl, cc)
push-read m (stopped k) w e = let z : ◌≡◌ {A = ℕ} 0 1 = cc in absurd (omega arith)

push-stopped : (m : Mark) (o : Outcome) (k : ℕ) → push m o ≡ stopped k → (j : ℕ) × (o ≡ stopped j) × (suc j ≡ k)
unfolding push
push-stopped m (read v) k e = let z : ◌≡◌ {A = ℕ} 0 1 = cc in absurd (omega arith)
push-stopped m (stopped j) k e = (j, refl, cc)

unread : {A : Type 0} {k : ℕ} {w : List Mark} → stopped k ≡ read w → A
unread e = let z : ◌≡◌ {A = ℕ} 0 1 = cc in absurd (omega arith)

pub record Halts (l : List Form) (s : List ℕ) (k : ℕ) : Type 0 where
  pub within : k ≤ length s
  pub before : Viable l (take k s)
  pub beyond : k < length s → Viable l (take (suc k) s) → ⊥

module _ (t : Table) (ok : fits t ≡ true) where
  -- what is read is a reading
  run-reads : (s : List ℕ) (q : ℕ) (w : List Mark) → run t s q ≡ read w → Reads (at t q).forms s w
  unfolding run bytes turn
  run-reads [] q w e = cases (final (at t q).forms) refl e
    where
      cases : (b : Bool) → final (at t q).forms ≡ b → cond b (read []) (stopped 0) ≡ read w → Reads (at t q).forms [] w
      cases true f g = let n : [] ≡ w = cc in subst (λ (x : List Mark). Reads (at t q).forms [] x) n (final-among (at t q).forms f, refl)
      cases false f g = unread g
  run-reads (b ∷ s) q w e = cases (move (at t q).rows b) refl e (λ n v. run-reads s n v)
    where
      cases : (v : Move) → move (at t q).rows b ≡ v → turn b v (λ n. run t s n) ≡ read w
          → ((n : ℕ) (v : List Mark) → run t s n ≡ read v → Reads (at t n).forms s v) → Reads (at t q).forms (b ∷ s) w
      cases halt f g ih = unread g
      cases (go r n) f g ih =
          let m : Mark = record { byte = b; role = r } in
          let p : (v : List Mark) × (run t s n ≡ read v) × (m ∷ v ≡ w) = push-read m (run t s n) w g in
          let i : Reads (at t n).forms s p.0 = ih n p.0 p.1 in
          subst (λ (x : List Mark). Reads (at t q).forms (b ∷ s) x) p.2
          (backward t (at t q) b r n (state-fits t ok q) f i.0, ap (λ (x : List ℕ). b ∷ x) i.1)

  -- a reading is read
  reads-run : (w : List Mark) (q : ℕ) → Among w (at t q).forms → run t (bytes w) q ≡ read w
  unfolding run bytes turn push
  reads-run [] q a = ap (λ (b : Bool). cond b (read []) (stopped 0)) (among-final a)
  reads-run (m ∷ w) q a =
      let d : Moved t (at t q).rows m w = forward t (at t q) (state-fits t ok q) a in
      ap (λ (v : Move). turn m.byte v (λ n. run t (bytes w) n)) d.goes ∙ ap (push m) (reads-run w d.next d.among)

  kept-viable : (q : ℕ) → kept (at t q).forms ≡ true → Viable (at t q).forms []
  kept-viable q h = let p : (w : List Mark) × Among w (at t q).forms = kept-among (at t q).forms h in (bytes p.0, p.0, (p.1, refl))

  -- a text that goes on from a byte
  tail-viable : (q b : ℕ) (s : List ℕ) → Viable (at t q).forms (b ∷ s) → (r : ℕ) × (n : ℕ) × (move (at t q).rows b ≡ go r n) × Viable (at t n).forms s
  unfolding bytes
  tail-viable q b s v = cases v.1 v.2.0 v.2.1
    where
      cases : (w : List Mark) → Among w (at t q).forms → bytes w ≡ b ∷ (s ++ v.0) → (r : ℕ) × (n : ℕ) × (move (at t q).rows b ≡ go r n) × Viable (at t n).forms s
      cases [] a e = let z : ◌≡◌ {A = ℕ} 0 1 = cc in absurd (omega arith)
      cases (m ∷ w) a e =
          let x : m.byte ≡ b = cc in
          let y : bytes w ≡ s ++ v.0 = cc in
          let d : Moved t (at t q).rows m w = forward t (at t q) (state-fits t ok q) a in
          (m.role, d.next, subst (λ (c : ℕ). move (at t q).rows c ≡ go m.role d.next) x d.goes, (v.0, w, (d.among, y)))

  head-viable : (q b r n : ℕ) (s : List ℕ) → move (at t q).rows b ≡ go r n → Viable (at t n).forms s → Viable (at t q).forms (b ∷ s)
  unfolding bytes
  head-viable q b r n s e v =
      (v.0, record { byte = b; role = r } ∷ v.1, (backward t (at t q) b r n (state-fits t ok q) e v.2.0, ap (λ (x : List ℕ). b ∷ x) v.2.1))

  -- where it stops, no sentence goes on
  run-halts : (s : List ℕ) (q k : ℕ) → kept (at t q).forms ≡ true → run t s q ≡ stopped k → Halts (at t q).forms s k
  unfolding run turn
  run-halts [] q k h e = cases (final (at t q).forms) e
    where
      cases : (b : Bool) → cond b (read []) (stopped 0) ≡ stopped k → Halts (at t q).forms [] k
      cases true g = let z : ◌≡◌ {A = ℕ} 0 1 = cc in absurd (omega arith)
      cases false g =
          let z : 0 ≡ k = cc in
          subst (λ (x : ℕ). Halts (at t q).forms [] x) z (record { within = omega arith; before = kept-viable q h; beyond = λ l. absurd (omega arith) })
  run-halts (b ∷ s) q k h e = cases (move (at t q).rows b) refl e (λ n j. run-halts s n j)
    where
      cases : (v : Move) → move (at t q).rows b ≡ v → turn b v (λ n. run t s n) ≡ stopped k
          → ((n j : ℕ) → kept (at t n).forms ≡ true → run t s n ≡ stopped j → Halts (at t n).forms s j) → Halts (at t q).forms (b ∷ s) k
      cases halt f g ih =
          let z : 0 ≡ k = cc in
          subst (λ (x : ℕ). Halts (at t q).forms (b ∷ s) x) z (record {
            within = omega arith;
            before = kept-viable q h;
            beyond = λ l v.
                let d : (r : ℕ) × (n : ℕ) × (move (at t q).rows b ≡ go r n) × Viable (at t n).forms [] = tail-viable q b [] v in
                let y : halt ≡ go d.0 d.1 = sym f ∙ d.2 in
                let z : ◌≡◌ {A = ℕ} 0 1 = cc in absurd (omega arith);
          })
      cases (go r n) f g ih =
          let m : Mark = record { byte = b; role = r } in
          let p : (j : ℕ) × (run t s n ≡ stopped j) × (suc j ≡ k) = push-stopped m (run t s n) k g in
          let i : Halts (at t n).forms s p.0 = ih n p.0 (keeps t (at t q) b r n (state-fits t ok q) f) p.1 in
          subst (λ (x : ℕ). Halts (at t q).forms (b ∷ s) x) p.2 (record {
            within = omega (arith, i.within);
            before = head-viable q b r n (take p.0 s) f i.before;
            beyond = λ l v.
                let d : (r : ℕ) × (n : ℕ) × (move (at t q).rows b ≡ go r n) × Viable (at t n).forms (take (suc p.0) s) = tail-viable q b (take (suc p.0) s) v in
                let y : go r n ≡ go d.0 d.1 = sym f ∙ d.2 in
                let u : d.1 ≡ n = cc in
                i.beyond (omega arith) (subst (λ (x : ℕ). Viable (at t x).forms (take (suc p.0) s)) u d.3);
          })

-- The theorems, of a table that passes the test and whose first state has one form, that has a sentence.

single : {f : Form} {w : List Mark} → Among w (f ∷ []) → Produces f w
single (this p) = p
single {f = f} {w = w} (later x3) = elim x3 [ ]

module _ (t : Table) (f : Form) (ok : fits t ≡ true) (first : (at t 0).forms ≡ f ∷ []) (some-text : live f ≡ true) where
  from-tree : (u : Tree f) → Among (marks u) (at t 0).forms
  from-tree u = subst (λ (l : List Form). Among (marks u) l) (sym first) (this (record { tree = u; is = refl }))

  from-opens : {s : List ℕ} → Opens f s → Viable (at t 0).forms s
  from-opens o = (o.rest, marks o.sentence.tree, (from-tree o.sentence.tree, o.sentence.text))

  to-sentence : {s : List ℕ} {w : List Mark} → Reads (at t 0).forms s w → (u : Tree f) × (marks u ≡ w) × (bytes (marks u) ≡ s)
  to-sentence {s} {w} r =
      let p : Produces f w = single (subst (λ (l : List Form). Among w l) first r.0) in
      (p.tree, p.is, ap bytes p.is ∙ r.1)

  to-opens : {s : List ℕ} → Viable (at t 0).forms s → Opens f s
  to-opens v = let p = to-sentence v.2 in record { rest = v.0; sentence = record { tree = p.0; text = p.2 } }

  -- what is read are the marks of a tree of the text
  pub reads-right : (s : List ℕ) (w : List Mark) → run t s 0 ≡ read w → (u : Tree f) × (marks u ≡ w) × (bytes (marks u) ≡ s)
  reads-right s w e = to-sentence (run-reads t ok s 0 w e)

  -- the text of a tree is read, with its marks: so all trees of a text have the same
  pub reads-tree : (u : Tree f) → run t (bytes (marks u)) 0 ≡ read (marks u)
  reads-tree u = reads-run t ok (marks u) 0 (from-tree u)

  -- where it stops, no sentence goes on
  pub stops-right : (s : List ℕ) (k : ℕ) → run t s 0 ≡ stopped k → Stops f s k
  unfolding kept
  stops-right s k e =
      let h : Halts (at t 0).forms s k = run-halts t ok s 0 k (subst (λ (l : List Form). kept l ≡ true) (sym first) some-text) e in
      record {
        within = h.within;
        before = to-opens h.before;
        beyond = λ l o. h.beyond l (from-opens o);
        refused = λ x. unread (sym e ∙ subst (λ (y : List ℕ). run t y 0 ≡ read (marks x.tree)) x.text (reads-tree x.tree));
      }
