-- The pen says what the tree says whose marks it is given.
use mathlib.Core.Path.{◌≡◌, refl, sym, ap, ap₂, ◌∙◌, subst}
use mathlib.Core.Bool.{Bool, true, false, ◌&&◌}
use mathlib.Core.List.{List, [], ◌∷◌, ◌++◌, append_assoc}
use Prim.Native.Nat.{ℕ, suc, ◌+◌, ◌-◌, ◌*◌, ◌%◌, ◌≤◌}
use native.Mathlib.Omega.{arith}
use lib.Dec.{eqb, leb}
use lib.ListN.{length}
use borrow.Author.Tests.{eqb-true, leb-true}
use Rattle.sets.proofs.Loops.{and-true}
use Rattle.forms.proofs.Tests.{never}
use Rattle.forms.specs.Form.{Mark, Form, empty, one, then, or, many, Tree, nothing, byte, both, left, right, done, more, marks, bytes, text_of}
use Rattle.grammar.specs.Grammar.{NONE, FIRST, DIGIT}
use Rattle.grammar.specs.Meaning.{Said, width, decimal, number_of}
use Rattle.grammar.specs.Pen.{Pen, penned, said_at, pen_after, said_over}

-- no byte of the form has a role; each is a digit that goes on; each begins with a digit and has such behind it
unfoldable pub silent : Form → Bool
silent empty = true
silent (one a z r) = eqb r NONE
silent (then f g) = silent f && silent g
silent (or f g) = silent f && silent g
silent (many f) = silent f

abbrev digits : ℕ → ℕ → ℕ → ℕ → Bool
digits role a z r = eqb r role && (leb 48 a && leb z 57)

unfoldable pub digital : Form → Bool
digital empty = true
digital (one a z r) = digits DIGIT a z r
digital (then f g) = digital f && digital g
digital (or f g) = digital f && digital g
digital (many f) = digital f

unfoldable pub numeral : Form → Bool
numeral empty = false
numeral (one a z r) = digits FIRST a z r
numeral (then f g) = numeral f && digital g
numeral (or f g) = numeral f && numeral g
numeral (many f) = false

bytes-append : (u v : List Mark) → bytes (u ++ v) ≡ bytes u ++ bytes v
unfolding bytes
bytes-append [] v = refl
bytes-append (m ∷ u) v = ap (λ (x : List ℕ). m.byte ∷ x) (bytes-append u v)

decimal-append : (n : ℕ) (s t : List ℕ) → decimal n (s ++ t) ≡ decimal (decimal n s) t
unfolding decimal
decimal-append n [] t = refl
decimal-append n (b ∷ s) t = decimal-append (n * 10 + (b - 48)) s t

low : (b : ℕ) → 48 ≤ b → b ≤ 57 → b % 16 ≡ b - 48
low b l h = omega arith

-- the pen with another number
abbrev pub numbered : Pen → ℕ → Pen
numbered p n = record { number = n; kind = p.kind; sets = p.sets; line = p.line }

module _ (clip : ℕ → ℕ) (again : (n d : ℕ) → clip (clip n * 10 + d) ≡ clip (n * 10 + d)) where
  pen-append : (u v : List Mark) (p : Pen) (i : ℕ) → pen_after clip p i (u ++ v) ≡ pen_after clip (pen_after clip p i u) (i + length u) v
  unfolding pen_after
  pen-append [] v p i = let e : i ≡ i + 0 = omega arith in ap (λ (j : ℕ). pen_after clip p j v) e
  pen-append (m ∷ u) v p i =
      let e : suc i + length u ≡ i + suc (length u) = omega arith in
      pen-append u v (penned clip p m.role i m.byte) (suc i)
      ∙ ap (λ (j : ℕ). pen_after clip (pen_after clip (penned clip p m.role i m.byte) (suc i) u) j v) e

  said-append : (u v : List Mark) (p : Pen) (i : ℕ) → said_over clip p i (u ++ v) ≡ said_over clip p i u ++ said_over clip (pen_after clip p i u) (i + length u) v
  unfolding pen_after said_over
  said-append [] v p i = let e : i ≡ i + 0 = omega arith in ap (λ (j : ℕ). said_over clip p j v) e
  said-append (m ∷ u) v p i =
      let e : suc i + length u ≡ i + suc (length u) = omega arith in
      ap (λ (x : List Said). said_at m.role p ++ x)
      (said-append u v (penned clip p m.role i m.byte) (suc i)
      ∙ ap (λ (j : ℕ). said_over clip (penned clip p m.role i m.byte) (suc i) u ++ said_over clip (pen_after clip (penned clip p m.role i m.byte) (suc i) u) j v) e)
      ∙ sym (append_assoc (said_at m.role p) _ _)

  -- of marks from the place i on: what is said, and what holds of the pen after them
  pub record Says (i : ℕ) (w : List Mark) (p : Pen) (l : List Said) (Q : Pen → Type 0) : Type 0 where
    pub said : said_over clip p i w ≡ l
    pub pen : Q (pen_after clip p i w)

  pub says_then : {i : ℕ} (u v : List Mark) {p : Pen} {l m : List Said} {Q R : Pen → Type 0}
      → Says i u p l Q → ((q : Pen) → Q q → Says (i + length u) v q m R) → Says i (u ++ v) p (l ++ m) R
  says_then {i = i} u v {p = p} {R = R} a b =
      let c = b (pen_after clip p i u) a.pen in
      record {
        said = said-append u v p i ∙ ap₂ ◌++◌ a.said c.said;
        pen = subst R (sym (pen-append u v p i)) c.pen;
      }

  pub says_none : {i : ℕ} {p : Pen} {Q : Pen → Type 0} → Q p → Says i [] p [] Q
  unfolding pen_after said_over
  says_none h = record { said = refl; pen = h }

  pub says-as : {i : ℕ} {w : List Mark} {p : Pen} {l m : List Said} {Q R : Pen → Type 0} → l ≡ m → ((q : Pen) → Q q → R q) → Says i w p l Q → Says i w p m R
  says-as {i = i} {w = w} {p = p} e h s = record { said = s.said ∙ e; pen = h (pen_after clip p i w) s.pen }

  -- a byte in a role
  pub says-one : {a z r : ℕ} (i : ℕ) (t : Tree (one a z r)) {p : Pen} {Q : Pen → Type 0} → ((b : ℕ) → a ≤ b → b ≤ z → Q (penned clip p r i b)) → Says i (marks t) p (said_at r p ++ []) Q
  unfolding marks pen_after said_over
  says-one i (byte b x y) h = record { said = refl; pen = h b x y }

  pub says-silent : {f : Form} (i : ℕ) (t : Tree f) {p : Pen} {Q : Pen → Type 0} → silent f ≡ true → Q p → Says i (marks t) p [] Q
  unfolding silent marks
  says-silent i nothing e h = says_none h
  says-silent i (byte {a} {z} {r} b x y) {p} {Q} e h =
      let k : r ≡ NONE = eqb-true r NONE e in
      says-as (ap (λ (j : ℕ). said_at j p ++ []) k) (λ q g. g)
      (says-one i (byte {a = a} {z = z} {r = r} b x y) {Q = Q} (λ c l m. subst (λ (j : ℕ). Q (penned clip p j i c)) (sym k) h))
  says-silent i (both {f} {g} t u) e h =
      let s = and-true (silent f) (silent g) e in
      says_then (marks t) (marks u) (says-silent i t s.0 h) (λ q k. says-silent (i + width t) u s.1 k)
  says-silent i (left {f} {g} t) e h = says-silent i t (and-true (silent f) (silent g) e).0 h
  says-silent i (right {f} {g} t) e h = says-silent i t (and-true (silent f) (silent g) e).1 h
  says-silent i done e h = says_none h
  says-silent i (more t l) e h = says_then (marks t) (marks l) (says-silent i t e h) (λ q k. says-silent (i + width t) l e k)

  -- a digit, in either role
  digit_at : {a z r : ℕ} (role i : ℕ) (t : Tree (one a z r)) (p o : Pen) (n : ℕ) → digits role a z r ≡ true → said_at role o ++ [] ≡ []
      → ((b : ℕ) → penned clip o role i b ≡ numbered p (clip (n * 10 + b % 16)))
      → Says i (marks t) o [] (λ q. q ≡ numbered p (clip (decimal n (text_of t))))
  unfolding marks bytes decimal pen_after said_over
  digit_at {a} {z} {r} role i (byte b x y) p o n e s h =
      let d = and-true (eqb r role) (leb 48 a && leb z 57) e in
      let g = and-true (leb 48 a) (leb z 57) d.1 in
      let l : 48 ≤ a = leb-true 48 a g.0 in
      let m : z ≤ 57 = leb-true z 57 g.1 in
      let k : r ≡ role = eqb-true r role d.0 in
      let w : b % 16 ≡ b - 48 = low b (omega arith) (omega arith) in
      record {
        said = ap (λ (j : ℕ). said_at j o ++ []) k ∙ s;
        pen = ap (λ (j : ℕ). penned clip o j i b) k ∙ h b ∙ ap (λ (j : ℕ). numbered p (clip (n * 10 + j))) w;
      }

  Reaches : Pen → ℕ → Pen → Type 0
  Reaches p n q = q ≡ numbered p (clip n)

  -- one after the other
  digits-then : (i : ℕ) (u v : List Mark) (p o : Pen) (n : ℕ) → Says i u o [] (Reaches p (decimal n (bytes u)))
      → Says (i + length u) v (numbered p (clip (decimal n (bytes u)))) [] (Reaches p (decimal (decimal n (bytes u)) (bytes v)))
      → Says i (u ++ v) o [] (Reaches p (decimal n (bytes (u ++ v))))
  unfolding Reaches
  digits-then i u v p o n a b =
      says-as refl (λ q h. h ∙ ap (λ (j : ℕ). numbered p (clip j)) (sym (ap (decimal n) (bytes-append u v) ∙ decimal-append n (bytes u) (bytes v))))
      (says_then u v a (λ q h. subst (λ (o : Pen). Says (i + length u) v o [] (Reaches p (decimal (decimal n (bytes u)) (bytes v)))) (sym h) b))

  digits-on : {f : Form} (i : ℕ) (t : Tree f) (p : Pen) (n : ℕ) → digital f ≡ true → Says i (marks t) (numbered p (clip n)) [] (Reaches p (decimal n (text_of t)))
  unfolding digital marks bytes decimal Reaches
  digits-on i nothing p n e = says_none refl
  digits-on i (byte {a} {z} {r} b x y) p n e = digit_at DIGIT i (byte {a = a} {z = z} {r = r} b x y) p (numbered p (clip n)) n e refl (λ c. ap (numbered p) (again n (c % 16)))
  digits-on i (both {f} {g} t u) p n e =
      let s = and-true (digital f) (digital g) e in
      digits-then i (marks t) (marks u) p _ n (digits-on i t p n s.0) (digits-on (i + width t) u p (decimal n (text_of t)) s.1)
  digits-on i (left {f} {g} t) p n e = digits-on i t p n (and-true (digital f) (digital g) e).0
  digits-on i (right {f} {g} t) p n e = digits-on i t p n (and-true (digital f) (digital g) e).1
  digits-on i done p n e = says_none refl
  digits-on i (more t u) p n e = digits-then i (marks t) (marks u) p _ n (digits-on i t p n e) (digits-on (i + width t) u p (decimal n (text_of t)) e)

  -- a number
  pub says-number : {f : Form} (i : ℕ) (t : Tree f) (p : Pen) → numeral f ≡ true → Says i (marks t) p [] (λ q. q ≡ numbered p (clip (number_of t)))
  unfolding numeral marks bytes decimal Reaches
  says-number i nothing p e = never e
  says-number i (byte {a} {z} {r} b x y) p e = digit_at FIRST i (byte {a = a} {z = z} {r = r} b x y) p p 0 e refl (λ c. refl)
  says-number i (both {f} {g} t u) p e =
      let s = and-true (numeral f) (digital g) e in
      digits-then i (marks t) (marks u) p p 0 (says-number i t p s.0) (digits-on (i + width t) u p (number_of t) s.1)
  says-number i (left {f} {g} t) p e = says-number i t p (and-true (numeral f) (numeral g) e).0
  says-number i (right {f} {g} t) p e = says-number i t p (and-true (numeral f) (numeral g) e).1
  says-number i done p e = never e
  says-number i (more t u) p e = never e
