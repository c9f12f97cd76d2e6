-- How a form begins. It produces m ∷ w exactly if one of its heads fits m and what comes after that head produces w.
use mathlib.Core.Path.{◌≡◌, refl, sym, ap, ap₂, ◌∙◌, subst}
use mathlib.Core.Bool.{Bool, true, false, cond, ◌&&◌, ◌||◌}
use mathlib.Core.List.{List, [], ◌∷◌, ◌++◌, append_assoc}
use mathlib.Core.Logic.{◌⊎◌, inl, inr}
use Prim.Native.Nat.{ℕ, ◌≤◌}
use native.Mathlib.Omega.{arith}
use Rattle.sets.proofs.Loops.{and-true}
use Rattle.forms.specs.Form.{Mark, Form, empty, one, then, or, many, Tree, nothing, byte, both, left, right, done, more, marks}
use Rattle.forms.specs.Table.{Head, ends, seq, follow, heads}

-- the form has a tree with these marks
pub record Produces (f : Form) (w : List Mark) : Type 0 where
  pub tree : Tree f
  pub is : marks tree ≡ w

-- one of the heads fits m, and what comes after it produces w
pub record Fits (h : Head) (m : Mark) : Type 0 where
  pub low : h.from ≤ m.byte
  pub high : m.byte ≤ h.to
  pub role : m.role ≡ h.role

pub record Start (h : Head) (m : Mark) (w : List Mark) : Type 0 where
  pub fits : Fits h m
  pub rest : Produces h.rest w

pub data Begins (m : Mark) (w : List Mark) : List Head → Type 0 where
  here : {h : Head} {l : List Head} → Start h m w → Begins m w (h ∷ l)
  there : {h : Head} {l : List Head} → Begins m w l → Begins m w (h ∷ l)

abbrev pub Starts : List Head → Mark → List Mark → Type 0
Starts l m w = Begins m w l

-- Trees, put together and taken apart.

record Parts (f g : Form) (w : List Mark) : Type 0 where
  first : List Mark
  second : List Mark
  whole : first ++ second ≡ w
  of-first : Produces f first
  of-second : Produces g second

pub then-produces : {f g : Form} {u v : List Mark} → Produces f u → Produces g v → Produces (then f g) (u ++ v)
unfolding marks
then-produces p q = record { tree = both p.tree q.tree; is = ap₂ ◌++◌ p.is q.is }

then-parts : {f g : Form} {w : List Mark} → Produces (then f g) w → Parts f g w
unfolding marks
then-parts {f} {g} {w} p = parts p.tree p.is
  where
    parts : (t : Tree (then f g)) → marks t ≡ w → Parts f g w
    parts (both t u) e = record {
      first = marks t;
      second = marks u;
      whole = e;
      of-first = record { tree = t; is = refl };
      of-second = record { tree = u; is = refl };
    }

pub or_left : {f g : Form} {w : List Mark} → Produces f w → Produces (or f g) w
unfolding marks
or_left p = record { tree = left p.tree; is = p.is }

or_right : {f g : Form} {w : List Mark} → Produces g w → Produces (or f g) w
unfolding marks
or_right p = record { tree = right p.tree; is = p.is }

pub many-none : (f : Form) → Produces (many f) []
unfolding marks
many-none f = record { tree = done; is = refl }

many_more : {f : Form} {u v : List Mark} → Produces f u → Produces (many f) v → Produces (many f) (u ++ v)
unfolding marks
many_more p q = record { tree = more p.tree q.tree; is = ap₂ ◌++◌ p.is q.is }

pub empty-produces : Produces empty []
unfolding marks
empty-produces = record { tree = nothing; is = refl }

empty-only : {w : List Mark} → Produces empty w → w ≡ []
unfolding marks
empty-only {w} p = only p.tree p.is
  where
    only : (t : Tree empty) → marks t ≡ w → w ≡ []
    only nothing e = sym e

same : {f : Form} {u v : List Mark} → u ≡ v → Produces f u → Produces f v
same e p = record { tree = p.tree; is = p.is ∙ e }

-- seq is then

pub seq-produces : (f g : Form) {u v : List Mark} → Produces f u → Produces g v → Produces (seq f g) (u ++ v)
unfolding seq
seq-produces empty g {u} {v} p q = same (ap (λ (x : List Mark). x ++ v) (sym (empty-only p))) q
seq-produces (one a z r) g p q = then-produces p q
seq-produces (then f h) g {u} {v} p q =
    let c : Parts f h u = then-parts p in
    same (sym (append_assoc c.first c.second v) ∙ ap (λ (x : List Mark). x ++ v) c.whole)
    (then-produces c.of-first (seq-produces h g c.of-second q))
seq-produces (or f h) g p q = then-produces p q
seq-produces (many f) g p q = then-produces p q

seq-parts : (f g : Form) {w : List Mark} → Produces (seq f g) w → Parts f g w
unfolding seq
seq-parts empty g {w} p = record { first = []; second = w; whole = refl; of-first = empty-produces; of-second = p }
seq-parts (one a z r) g p = then-parts p
seq-parts (then f h) g p =
    let c : Parts f (seq h g) _ = then-parts p in
    let d : Parts h g c.second = seq-parts h g c.of-second in
    record {
      first = c.first ++ d.first;
      second = d.second;
      whole = append_assoc c.first d.first d.second ∙ ap (λ (x : List Mark). c.first ++ x) d.whole ∙ c.whole;
      of-first = then-produces c.of-first d.of-first;
      of-second = d.of-second;
    }
seq-parts (or f h) g p = then-parts p
seq-parts (many f) g p = then-parts p

-- what ends does

and_both : {a b : Bool} → a ≡ true → b ≡ true → (a && b) ≡ true
and_both p q = ap₂ ◌&&◌ p q

or_cases : {A : Type 0} (a b : Bool) → (a ≡ true → A) → (b ≡ true → A) → (a || b) ≡ true → A
or_cases true b f g h = f refl
or_cases false b f g h = g h

or-is-left : (a b : Bool) → a ≡ true → (a || b) ≡ true
or-is-left true b h = refl
or-is-left false b h = let z : ◌≡◌ {A = ℕ} 0 1 = cc in absurd (omega arith)

or-is-right : (a b : Bool) → b ≡ true → (a || b) ≡ true
or-is-right true b h = refl
or-is-right false b h = h

no_front : (u v : List Mark) → u ++ v ≡ [] → u ≡ []
no_front [] v e = refl
no_front (m ∷ u) v e = let z : ◌≡◌ {A = ℕ} 0 1 = cc in absurd (omega arith)

no-back : (u v : List Mark) → u ++ v ≡ [] → v ≡ []
no-back [] v e = e
no-back (m ∷ u) v e = let z : ◌≡◌ {A = ℕ} 0 1 = cc in absurd (omega arith)

pub ends-produces : (f : Form) → ends f ≡ true → Produces f []
unfolding ends
ends-produces empty h = empty-produces
ends-produces (one a z r) h = let z : ◌≡◌ {A = ℕ} 0 1 = cc in absurd (omega arith)
ends-produces (then f g) h = then-produces (ends-produces f (and-true (ends f) (ends g) h).0) (ends-produces g (and-true (ends f) (ends g) h).1)
ends-produces (or f g) h = or_cases (ends f) (ends g) (λ e. or_left (ends-produces f e)) (λ e. or_right (ends-produces g e)) h
ends-produces (many f) h = many-none f

ends_by : {f : Form} (t : Tree f) → marks t ≡ [] → ends f ≡ true
unfolding ends marks
ends_by nothing h = refl
ends_by (byte b l k) h = let z : ◌≡◌ {A = ℕ} 0 1 = cc in absurd (omega arith)
ends_by (both t u) h = and_both (ends_by t (no_front (marks t) (marks u) h)) (ends_by u (no-back (marks t) (marks u) h))
ends_by (left {f} {g} t) h = or-is-left (ends f) (ends g) (ends_by t h)
ends_by (right {f} {g} t) h = or-is-right (ends f) (ends g) (ends_by t h)
ends_by done h = refl
ends_by (more t l) h = refl

pub produces-ends : {f : Form} → Produces f [] → ends f ≡ true
produces-ends p = ends_by p.tree p.is

-- heads put together

pub starts-before : (l k : List Head) {m : Mark} {w : List Mark} → Starts l m w → Starts (l ++ k) m w
starts-before (h ∷ l) k (here s) = here s
starts-before (h ∷ l) k (there s) = there (starts-before l k s)
starts-before [] k {m = m} {w = w} x' = elim x' [ ]

pub starts-behind : (l k : List Head) {m : Mark} {w : List Mark} → Starts k m w → Starts (l ++ k) m w
starts-behind [] k s = s
starts-behind (h ∷ l) k s = there (starts-behind l k s)

pub starts-cases : (l k : List Head) {m : Mark} {w : List Mark} → Starts (l ++ k) m w → (Starts l m w) ⊎ (Starts k m w)
starts-cases [] k s = inr s
starts-cases (h ∷ l) k (here s) = inl (here s)
starts-cases (h ∷ l) k {m} {w} (there s) = go (starts-cases l k s)
  where
    go : (Starts l m w) ⊎ (Starts k m w) → (Starts (h ∷ l) m w) ⊎ (Starts k m w)
    go (inl a) = inl (there a)
    go (inr b) = inr b

starts-follow : (g : Form) (l : List Head) {m : Mark} {u v : List Mark} → Starts l m u → Produces g v → Starts (follow g l) m (u ++ v)
unfolding follow
starts-follow g (h ∷ l) (here s) q = here (record {
  fits = record { low = s.fits.low; high = s.fits.high; role = s.fits.role };
  rest = seq-produces h.rest g s.rest q;
})
starts-follow g (h ∷ l) (there s) q = there (starts-follow g l s q)
starts-follow g [] {m = m} {u = u} {v = v} x'' q = elim x'' [ ]

record Followed (g : Form) (l : List Head) (m : Mark) (w : List Mark) : Type 0 where
  first : List Mark
  second : List Mark
  whole : first ++ second ≡ w
  of-first : Starts l m first
  of-second : Produces g second

follow-parts : (g : Form) (l : List Head) {m : Mark} {w : List Mark} → Starts (follow g l) m w → Followed g l m w
unfolding follow
follow-parts g (h ∷ l) {m} (here s) =
    let c : Parts h.rest g _ = seq-parts h.rest g s.rest in
    record {
      first = c.first;
      second = c.second;
      whole = c.whole;
      of-first = here (record { fits = record { low = s.fits.low; high = s.fits.high; role = s.fits.role }; rest = c.of-first });
      of-second = c.of-second;
    }
follow-parts g (h ∷ l) (there s) =
    let c : Followed g l _ _ = follow-parts g l s in
    record { first = c.first; second = c.second; whole = c.whole; of-first = there c.of-first; of-second = c.of-second }
follow-parts g [] {m = m} {w = w} x' = elim x' [ ]

starts-as : (l : List Head) {m n : Mark} {u w : List Mark} → m ≡ n → u ≡ w → Starts l m u → Starts l n w
starts-as l {m} {n} {u} {w} e f s = subst (λ (x : Mark). Starts l x w) e (subst (λ (x : List Mark). Starts l m x) f s)

cond-starts : (b : Bool) (l : List Head) {m : Mark} {w : List Mark} → b ≡ true → Starts l m w → Starts (cond b l []) m w
cond-starts true l e s = s
cond-starts false l e s = let z : ◌≡◌ {A = ℕ} 0 1 = cc in absurd (omega arith)

cond_cases : (b : Bool) (l : List Head) {m : Mark} {w : List Mark} → Starts (cond b l []) m w → (b ≡ true) × Starts l m w
cond_cases true l s = (refl, s)
cond_cases false l {m = m} {w = w} s = elim s [ ]

-- a tree and then g: what the tree's form starts with, or what comes next does
split-start : {f : Form} (g : Form) (m : Mark) (w : List Mark) (t : Tree f) → ((u : List Mark) → marks t ≡ m ∷ u → Starts (heads f) m u)
    → (u v : List Mark) → marks t ≡ u → Produces g v → u ++ v ≡ m ∷ w → (Starts (follow g (heads f)) m w) ⊎ ((ends f ≡ true) × (v ≡ m ∷ w))
split-start g m w t ih [] v i q e = inr (ends_by t i, e)
split-start {f} g m w t ih (c ∷ u) v i q e =
    let a : c ≡ m = cc in
    let b : u ++ v ≡ w = cc in
    inl (starts-as (follow g (heads f)) refl b (starts-follow g (heads f) (ih u (i ∙ ap (λ (x : Mark). x ∷ u) a)) q))

front-byte : {w : List Mark} {m n : Mark} → n ∷ [] ≡ m ∷ w → n ≡ m
front-byte e = cc

starts_by : {f : Form} (m : Mark) (w : List Mark) (t : Tree f) → marks t ≡ m ∷ w → Starts (heads f) m w
unfolding heads marks
starts_by m w nothing e = let z : ◌≡◌ {A = ℕ} 0 1 = cc in absurd (omega arith)
starts_by m w (byte {a} {z} {r} b l h) e =
    let k : record { byte = b; role = r } ≡ m = front-byte e in
    let p : b ≡ m.byte = ap (λ (x : Mark). x.byte) k in
    let q : r ≡ m.role = ap (λ (x : Mark). x.role) k in
    let n : [] ≡ w = cc in
    here (record { fits = record { low = subst (λ (x : ℕ). a ≤ x) p l; high = subst (λ (x : ℕ). x ≤ z) p h; role = sym q }; rest = same n empty-produces })
starts_by m w (both {f} {g} t u) e =
    go (starts_by m w u) (split-start g m w t (λ v i. starts_by m v t i) (marks t) (marks u) refl (record { tree = u; is = refl }) e)
  where
    go : (marks u ≡ m ∷ w → Starts (heads g) m w) → (Starts (follow g (heads f)) m w) ⊎ ((ends f ≡ true) × (marks u ≡ m ∷ w))
        → Starts (follow g (heads f) ++ cond (ends f) (heads g) []) m w
    go r (inl s) = starts-before (follow g (heads f)) (cond (ends f) (heads g) []) s
    go r (inr p) = starts-behind (follow g (heads f)) (cond (ends f) (heads g) []) (cond-starts (ends f) (heads g) p.0 (r p.1))
starts_by m w (left {f} {g} t) e = starts-before (heads f) (heads g) (starts_by m w t e)
starts_by m w (right {f} {g} t) e = starts-behind (heads f) (heads g) (starts_by m w t e)
starts_by m w done e = let z : ◌≡◌ {A = ℕ} 0 1 = cc in absurd (omega arith)
starts_by m w (more {f} t l) e =
    go (starts_by m w l) (split-start (many f) m w t (λ v i. starts_by m v t i) (marks t) (marks l) refl (record { tree = l; is = refl }) e)
  where
    go : (marks l ≡ m ∷ w → Starts (follow (many f) (heads f)) m w) → (Starts (follow (many f) (heads f)) m w) ⊎ ((ends f ≡ true) × (marks l ≡ m ∷ w))
        → Starts (follow (many f) (heads f)) m w
    go r (inl s) = s
    go r (inr p) = r p.1

-- the two directions
pub produces-starts : {f : Form} {m : Mark} {w : List Mark} → Produces f (m ∷ w) → Starts (heads f) m w
produces-starts {f} {m} {w} p = starts_by m w p.tree p.is

alone : (a z r : ℕ) (m : Mark) (w : List Mark) → Start (record { from = a; to = z; role = r; rest = empty }) m w → Produces (one a z r) (m ∷ w)
unfolding marks
alone a z r m w s = record {
  tree = byte m.byte s.fits.low s.fits.high;
  is = ap₂ (λ (x : ℕ) (y : List Mark). record { byte = m.byte; role = x } ∷ y) (sym s.fits.role) (sym (empty-only s.rest));
}

pub starts-produces : (f : Form) (m : Mark) (w : List Mark) → Starts (heads f) m w → Produces f (m ∷ w)
unfolding heads
starts-produces (one a z r) m w (here s) = alone a z r m w s
starts-produces (then f g) m w s =
    go (λ u. starts-produces f m u) (starts-produces g m w) (starts-cases (follow g (heads f)) (cond (ends f) (heads g) []) s)
  where
    go : ((u : List Mark) → Starts (heads f) m u → Produces f (m ∷ u)) → (Starts (heads g) m w → Produces g (m ∷ w))
        → (Starts (follow g (heads f)) m w) ⊎ (Starts (cond (ends f) (heads g) []) m w) → Produces (then f g) (m ∷ w)
    go p q (inl a) =
        let c : Followed g (heads f) m w = follow-parts g (heads f) a in
        same (ap (λ (x : List Mark). m ∷ x) c.whole) (then-produces (p c.first c.of-first) c.of-second)
    go p q (inr b) =
        let c : (ends f ≡ true) × Starts (heads g) m w = cond_cases (ends f) (heads g) b in
        then-produces (ends-produces f c.0) (q c.1)
starts-produces (or f g) m w s = go (starts-produces f m w) (starts-produces g m w) (starts-cases (heads f) (heads g) s)
  where
    go : (Starts (heads f) m w → Produces f (m ∷ w)) → (Starts (heads g) m w → Produces g (m ∷ w))
        → (Starts (heads f) m w) ⊎ (Starts (heads g) m w) → Produces (or f g) (m ∷ w)
    go p q (inl a) = or_left (p a)
    go p q (inr b) = or_right (q b)
starts-produces (many f) m w s =
    let c : Followed (many f) (heads f) m w = follow-parts (many f) (heads f) s in
    same (ap (λ (x : List Mark). m ∷ x) c.whole) (many_more (starts-produces f m c.first c.of-first) c.of-second)
starts-produces empty m w s = elim s [ ]
starts-produces (one a z r) m w (there x5) = elim x5 [ ]
