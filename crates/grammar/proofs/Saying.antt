-- The pen says what a text's tree says, production by production.
use mathlib.Core.Path.{◌≡◌, refl, sym, ap, ap₂, ◌∙◌, subst}
use mathlib.Core.Bool.{true}
use mathlib.Core.List.{List, [], ◌∷◌, ◌++◌, append-nil}
use Prim.Native.Nat.{ℕ, ◌+◌, ◌*◌, ◌%◌, ◌<◌}
use native.Mathlib.Omega.{arith}
use lib.ListN.{length, get_or, set, length-append}
use Rattle.fields.specs.Fields.{S, D, P}
use Rattle.sets.specs.Sets.{insert}
use Rattle.forms.specs.Form.{Mark, Form, one, or, many, Tree, nothing, byte, both, left, right, done, more, marks, bytes}
use Rattle.grammar.specs.Pen.{Line}
use Rattle.grammar.specs.Grammar.{◌·◌, ◌▹◌, ◌▸◌, ws, gap, perhaps, token, up_to_63, up_to_31, step_name, input, condition, list, steps, transition, duration, untimed, timed, qualifier, association, declaration, initial, step, text, NONE, SOURCE, TARGET, INPUT, NOT-INPUT, ACTED}
use Rattle.grammar.specs.Meaning.{Said, a_step, a_block, width, decimal, number_of, name_of, Inputs, with_input, with_inputs, no_inputs, inputs_of, with_names, list_of, steps_of, transition_says, transitions_say, untimed_of, timed_of, duration_of, qualified_of, association_says, associations_say, declaration_says, step_says, steps_say, text_says}
use Rattle.grammar.specs.Pen.{Pen, joined, no_sets, settled, owning, acting, penned, said_at, said_over, blank_pen, clipped, all_clipped, transition_with}
use Rattle.grammar.proofs.Writing.{numbered, silent, digital, numeral, Says, says_then, says_none, says-as, says-one, says-silent, says-number}

-- the numbers of names
up-to-63 : (t : Tree up_to_63) → number_of t < 64
unfolding marks bytes decimal
up-to-63 (left (byte b l h)) = omega arith
up-to-63 (right (left (both (byte b l h) (left nothing)))) = omega arith
up-to-63 (right (left (both (byte b l h) (right (byte c k m))))) = omega arith
up-to-63 (right (right (left (both (byte b l h) (left nothing))))) = omega arith
up-to-63 (right (right (left (both (byte b l h) (right (byte c k m)))))) = omega arith
up-to-63 (right (right (right (byte b l h)))) = omega arith

up-to-31 : (t : Tree up_to_31) → number_of t < 64
unfolding marks bytes decimal
up-to-31 (left (byte b l h)) = omega arith
up-to-31 (right (left (both (byte b l h) (left nothing)))) = omega arith
up-to-31 (right (left (both (byte b l h) (right (byte c k m))))) = omega arith
up-to-31 (right (right (left (both (byte b l h) (left nothing))))) = omega arith
up-to-31 (right (right (left (both (byte b l h) (right (byte c k m)))))) = omega arith
up-to-31 (right (right (right (byte b l h)))) = omega arith

clipped-append : (clip : ℕ → ℕ) (l m : List Said) → all_clipped clip (l ++ m) ≡ all_clipped clip l ++ all_clipped clip m
unfolding all_clipped
clipped-append clip [] m = refl
clipped-append clip (x ∷ l) m = ap (λ (k : List Said). clipped clip x ∷ k) (clipped-append clip l m)

module _ (clip : ℕ → ℕ) (again : (n d : ℕ) → clip (clip n * 10 + d) ≡ clip (n * 10 + d)) (small : (n : ℕ) → n < 64 → clip n ≡ n) where
  abbrev Is : Pen → Pen → Type 0
  Is o q = q ≡ o

  abbrev Any : Pen → Type 0
  Any q = q ≡ q

  -- one after another, where the pen in between is known
  chain : {i : ℕ} {u v : List Mark} {p o : Pen} {l m : List Said} {R : Pen → Type 0}
      → Says clip again i u p l (Is o) → Says clip again (i + length u) v o m R → Says clip again i (u ++ v) p (l ++ m) R
  chain {i} {u} {v} {m = m} {R = R} a b = says_then clip again u v a (λ q k. subst (λ (x : Pen). Says clip again (i + length u) v x m R) (sym k) b)

  skip : {f : Form} {i : ℕ} {v : List Mark} {p : Pen} {m : List Said} {R : Pen → Type 0} (t : Tree f) → silent f ≡ true
      → Says clip again (i + width t) v p m R → Says clip again i (marks t ++ v) p m R
  skip {i = i} t e b = chain (says-silent clip again i t e refl) b

  end : {f : Form} {i : ℕ} {p : Pen} {R : Pen → Type 0} (t : Tree f) → silent f ≡ true → R p → Says clip again i (marks t) p [] R
  end {i = i} t e h = says-silent clip again i t e h

  -- a word with a role at its first letter
  says-word : {a z r : ℕ} {g : Form} (i : ℕ) (t : Tree (one a z r · g)) (p o : Pen) → silent g ≡ true → ((b : ℕ) → penned clip p r i b ≡ o)
      → Says clip again i (marks t) p (said_at r p ++ []) (Is o)
  unfolding marks
  says-word {r = r} i (both l w) p o e h = says-as clip again (append-nil (said_at r p ++ [])) (λ q k. k) (chain (says-one clip again i l (λ b x y. h b)) (end w e refl))

  -- a letter with a role, and a number
  says-name : {a z r : ℕ} {f : Form} (i : ℕ) (t : Tree (one a z r · f)) (p o : Pen) → numeral f ≡ true → said_at r p ++ [] ≡ [] → ((b : ℕ) → penned clip p r i b ≡ o)
      → Says clip again i (marks t) p [] (Is (numbered o (clip (name_of t))))
  unfolding marks
  says-name i (both l n) p o e s h = chain (says-as clip again s (λ q k. k) (says-one clip again i l (λ b x y. h b))) (says-number clip again (i + width l) n o e)

  -- the pen with another line
  abbrev with-line : Pen → ℕ → Line → Pen
  with-line p n l = record { number = n; kind = p.kind; sets = p.sets; line = l }

  -- Blocks: the pen that has read an association has its action, qualifier and duration.

  abbrev Of : Pen → ℕ → ℕ → ℕ → Pen → Type 0
  Of p d a k q = q ≡ with-line p d (acting p.line a k)

  says-untimed : (i : ℕ) (t : Tree untimed) (p : Pen) → Says clip again i (marks t) p [] (Of p p.number p.line.action (untimed_of t))
  unfolding marks
  says-untimed i (left t) p = says-one clip again i t (λ b x y. refl)
  says-untimed i (right (left t)) p = says-one clip again i t (λ b x y. refl)
  says-untimed i (right (right (left t))) p = says-one clip again i t (λ b x y. refl)
  says-untimed i (right (right (right (left t)))) p = says-one clip again i t (λ b x y. refl)
  says-untimed i (right (right (right (right (left (both t u)))))) p =
      chain (says-one clip again i t {Q = Of p p.number p.line.action P} (λ b x y. refl)) (says-one clip again (i + width t) u (λ b x y. refl))
  says-untimed i (right (right (right (right (right (both t u)))))) p =
      chain (says-one clip again i t {Q = Of p p.number p.line.action P} (λ b x y. refl)) (says-one clip again (i + width t) u (λ b x y. refl))

  says-timed : (i : ℕ) (t : Tree timed) (p : Pen) → Says clip again i (marks t) p [] (Of p p.number p.line.action (timed_of t))
  unfolding marks
  says-timed i (left t) p = says-one clip again i t (λ b x y. refl)
  says-timed i (right (left t)) p = says-one clip again i t (λ b x y. refl)
  says-timed i (right (right (left (both t u)))) p =
      chain (says-one clip again i t {Q = Of p p.number p.line.action S} (λ b x y. refl)) (says-one clip again (i + width t) u (λ b x y. refl))
  says-timed i (right (right (right (left (both t u))))) p =
      chain (says-one clip again i t {Q = Of p p.number p.line.action D} (λ b x y. refl)) (says-one clip again (i + width t) u (λ b x y. refl))
  says-timed i (right (right (right (right (both t u))))) p =
      chain (says-one clip again i t {Q = Of p p.number p.line.action S} (λ b x y. refl)) (says-one clip again (i + width t) u (λ b x y. refl))

  says-duration : (i : ℕ) (t : Tree duration) (p : Pen) → Says clip again i (marks t) p [] (Is (numbered p (clip (duration_of t))))
  unfolding marks silent numeral digital
  says-duration i (both time (both n unit)) p = skip time refl (chain (says-number clip again (i + width time) n p refl) (end unit refl refl))

  -- behind the bracket, where the number is 0
  says-qualified : (i : ℕ) (t : Tree (perhaps qualifier)) (p : Pen) (a : ℕ)
      → Says clip again i (marks t) (with-line p 0 (acting p.line a 0)) [] (Of p (clip (qualified_of t).duration) a (qualified_of t).qualifier)
  unfolding marks silent
  says-qualified i (left nothing) p a = says_none clip again (ap (λ (n : ℕ). with-line p n (acting p.line a 0)) (sym (small 0 (omega arith))))
  says-qualified i (right (left t)) p a =
      says-as clip again refl (λ q k. k ∙ ap (λ (n : ℕ). with-line p n (acting p.line a (untimed_of t))) (sym (small 0 (omega arith))))
      (says-untimed i t (with-line p 0 (acting p.line a 0)))
  says-qualified i (right (right (both t (both v (both comma (both w d)))))) p a =
      chain (says-timed i t (with-line p 0 (acting p.line a 0)))
      (skip v refl (skip comma refl (skip w refl (says-duration _ d (with-line p 0 (acting p.line a (timed_of t)))))))

  qualifier-byte : (t : Tree (perhaps qualifier)) → (qualified_of t).qualifier % 256 ≡ (qualified_of t).qualifier
  qualifier-byte (left nothing) = refl
  qualifier-byte (right (left (left t))) = refl
  qualifier-byte (right (left (right (left t)))) = refl
  qualifier-byte (right (left (right (right (left t))))) = refl
  qualifier-byte (right (left (right (right (right (left t)))))) = refl
  qualifier-byte (right (left (right (right (right (right (left t))))))) = refl
  qualifier-byte (right (left (right (right (right (right (right t))))))) = refl
  qualifier-byte (right (right (both (left t) (both v (both comma (both w d)))))) = refl
  qualifier-byte (right (right (both (right (left t)) (both v (both comma (both w d)))))) = refl
  qualifier-byte (right (right (both (right (right (left t))) (both v (both comma (both w d)))))) = refl
  qualifier-byte (right (right (both (right (right (right (left t)))) (both v (both comma (both w d)))))) = refl
  qualifier-byte (right (right (both (right (right (right (right t)))) (both v (both comma (both w d)))))) = refl

  byte_of : (n : ℕ) → n < 64 → clip n % 256 ≡ n
  byte_of n h = let e : clip n ≡ n = small n h in rw e (omega arith)

  name-31 : {g : Form} (t : Tree (g · up_to_31)) → name_of t < 64
  name-31 (both l n) = up-to-31 n

  name-63 : {g : Form} (t : Tree (g · up_to_63)) → name_of t < 64
  name-63 (both l n) = up-to-63 n

  Acted : ℕ → Tree association → Pen → Type 0
  Acted k t q = (q.line.own % 256 ≡ k) × (said_at ACTED q ≡ clipped clip (association_says k t) ∷ [])

  says-association : (i k : ℕ) (t : Tree association) (p : Pen) → p.line.own % 256 ≡ k → Says clip again i (marks t) p [] (Acted k t)
  unfolding marks silent numeral digital Acted
  says-association i k (both a (both v (both bracket (both w (both q (both x close)))))) p h =
      chain (says-name i a p p refl refl (λ b. refl))
      (skip v refl
      (chain (says-one clip again _ bracket {Q = Is (with-line p 0 (acting p.line (clip (name_of a)) 0))} (λ b l m. refl))
      (skip w refl
      (chain (says-qualified _ q p (clip (name_of a)))
      (skip x refl (end close refl (h, block)))))))
    where
      block : a_block (p.line.own % 256) (clip (name_of a) % 256) ((qualified_of q).qualifier % 256) (clip (qualified_of q).duration) ∷ []
          ≡ a_block k (name_of a) (qualified_of q).qualifier (clip (qualified_of q).duration) ∷ []
      block = rw (h, byte_of (name_of a) (name-31 a), qualifier-byte q)

  abbrev Owned : ℕ → Pen → Type 0
  Owned k q = q.line.own % 256 ≡ k

  says-associations : (i k : ℕ) (l : Tree (many (association ▹ token ACTED ";" · ws))) (p : Pen) → Owned k p → Says clip again i (marks l) p (all_clipped clip (associations_say k l)) (Owned k)
  unfolding marks silent associations_say all_clipped Acted
  says-associations i k done p h = says_none clip again h
  says-associations i k (more (both a (both v (both colon w))) l) p h =
      says_then clip again _ _
      (says_then clip again _ _ (says-association i k a p h)
      (λ q g. skip v refl
      (says_then clip again _ _ (says-as clip again (ap (λ (x : List Said). x ++ []) g.1) (λ o e. e) (says-one clip again _ colon {Q = Owned k} (λ b x y. g.0))) (λ o e. end w refl e))))
      (λ q g. says-associations (i + length (marks a ++ (marks v ++ (marks colon ++ marks w)))) k l q g)

  -- Steps.

  says-declaration : (i mark : ℕ) (t : Tree declaration) (p : Pen) → p.line.initial % 256 ≡ mark → Says clip again i (marks t) p (all_clipped clip (declaration_says mark i t)) Any
  unfolding marks silent numeral digital all_clipped
  says-declaration i mark (both n (both v (both colon (both w (both l e))))) p h =
      chain (says-name i n p (with-line p p.number (owning p.line i p.line.initial p.line.own)) refl refl (λ b. refl))
      (skip v refl
      (says-as clip again (ap₂ (λ (m k : ℕ). a_step m k i ∷ all_clipped clip (associations_say (name_of n) l)) h (small (name_of n) (name-63 n))) (λ q k. refl)
      (says_then clip again _ _ (says-one clip again _ colon {Q = Owned (name_of n)} (λ b x y. byte_of (name_of n) (name-63 n)))
      (λ q k. skip w refl
      (says-as clip again {Q = Any} (append-nil _) (λ o g. g) (says_then clip again _ _ (says-associations _ (name_of n) l q k) (λ o g. end {R = Any} e refl refl)))))))

  says-step : (i : ℕ) (t : Tree (or initial step)) (p : Pen) → Says clip again i (marks t) p (all_clipped clip (step_says i t)) Any
  unfolding marks silent
  says-step i (left (both word (both w d))) p =
      chain (says-word i word p (with-line p p.number (owning p.line p.line.place 1 p.line.own)) refl (λ b. refl)) (skip w refl (says-declaration _ 1 d _ refl))
  says-step i (right (both word (both w d))) p =
      chain (says-word i word p (with-line p p.number (owning p.line p.line.place 0 p.line.own)) refl (λ b. refl)) (skip w refl (says-declaration _ 0 d _ refl))

  says-steps : (i : ℕ) (l : Tree (many (gap · or initial step))) (p : Pen) → Says clip again i (marks l) p (all_clipped clip (steps_say i l)) Any
  unfolding marks silent steps_say all_clipped
  says-steps i done p = says_none clip again refl
  says-steps i (more (both w t) l) p =
      says-as clip again (sym (clipped-append clip (step_says (i + width w) t) _)) (λ q k. k)
      (says_then clip again _ _ (skip w refl (says-step (i + width w) t p)) (λ q k. at_place (says-steps (i + width w + width t) l q)))
    where
      n : i + width w + width t ≡ i + length (marks w ++ marks t)
      n = let e : length (marks w ++ marks t) ≡ width w + width t = length-append (marks w) (marks t) in omega arith

      at_place : {m : List Mark} {q : Pen} {k : List Said} → Says clip again (i + width w + width t) m q k Any → Says clip again (i + length (marks w ++ marks t)) m q k Any
      at_place {m} {q} {k} s = subst (λ (j : ℕ). Says clip again j m q k Any) n s

  -- Transitions: the pen's sets with the last name are those of the tree; F has the set that is asked for, and one that never is.

  abbrev With : (ℕ → List ℕ) → Pen → Type 0
  With F q = (z : ℕ) × (settled q ≡ F z)

  -- the pen behind the letter of a name
  abbrev naming : Pen → ℕ → Pen
  naming p k = record { number = p.number; kind = k; sets = settled p; line = p.line }

  rest_of : (n : ℕ) → n < 64 → n % 64 ≡ n
  rest_of n h = omega arith

  -- names of one role, where F has the set that they go into
  module _ (r k : ℕ) (F : ℕ → ℕ → List ℕ) (joins : (x n z : ℕ) → set (F x z) k (insert (get_or (F x z) k 0) n) ≡ F (insert x n) z) (quiet : (p : Pen) → said_at r p ++ [] ≡ [])
      (pens : (p : Pen) (i b : ℕ) → penned clip p r i b ≡ naming p k) where
    says-member : {a z : ℕ} {f : Form} (i x : ℕ) (t : Tree (one a z r · f)) (p : Pen) → numeral f ≡ true → name_of t < 64 → With (F x) p
        → Says clip again i (marks t) p [] (With (F (insert x (name_of t))))
    says-member i x t p e b h =
        says-as clip again refl
        (λ q g. (
          h.0,
          ap settled g ∙ ap₂ (λ (n : ℕ) (s : List ℕ). joined k n s) (small (name_of t) b) h.1
              ∙ ap (λ (n : ℕ). set (F x h.0) k (insert (get_or (F x h.0) k 0) n)) (rest_of (name_of t) b) ∙ joins x (name_of t) h.0,
        ))
        (says-name i t p (naming p k) e (quiet p) (pens p i))

    says-names : (i x : ℕ) (l : Tree (many (token NONE "," ▹ step_name r · ws))) (p : Pen) → With (F x) p → Says clip again i (marks l) p [] (With (F (with_names x l)))
    unfolding marks silent numeral digital with_names
    says-names i x done p h = says_none clip again h
    says-names i x (more (both comma (both v (both n w))) l) p h =
        says_then clip again _ _
        (skip comma refl (skip v refl (says_then clip again _ _ (says-member _ x n p refl (name-63 n) h) (λ q k. end w refl k))))
        (λ q k. says-names (i + length (marks comma ++ (marks v ++ (marks n ++ marks w)))) (insert x (name_of n)) l q k)

    says-list : (i : ℕ) (t : Tree (list r)) (p : Pen) → With (F 0) p → Says clip again i (marks t) p [] (With (F (list_of t)))
    unfolding marks silent numeral digital
    says-list i (both bracket (both u (both n (both v (both comma (both w (both m (both x (both l e))))))))) p h =
        skip bracket refl (skip u refl
        (says_then clip again _ _ (says-member _ 0 n p refl (name-63 n) h)
        (λ q k. skip v refl (skip comma refl (skip w refl
        (says_then clip again _ _ (says-member _ (insert 0 (name_of n)) m q refl (name-63 m) k)
        (λ o g. skip x refl (says_then clip again _ _ (says-names _ (insert (insert 0 (name_of n)) (name_of m)) l o g) (λ y c. end e refl c)))))))))

    says-side : {behind : Form} (i : ℕ) (t : Tree (steps r behind)) (p : Pen) → silent behind ≡ true → With (F 0) p → Says clip again i (marks t) p [] (With (F (steps_of t)))
    unfolding marks silent numeral digital
    says-side i (left (both v (both n w))) p e h = skip v refl (says_then clip again _ _ (says-member _ 0 n p refl (name-63 n) h) (λ q k. end w e k))
    says-side i (right (both v (both l w))) p e h = skip v refl (says_then clip again _ _ (says-list _ l p h) (λ q k. end w refl k))

  -- inputs, beside the sets s and t of steps
  module _ (s t : ℕ) where
    abbrev asking : Inputs → ℕ → List ℕ
    asking x z = s ∷ t ∷ x.on ∷ x.off ∷ z ∷ []

    says-input : (i : ℕ) (x : Inputs) (u : Tree input) (p : Pen) → With (asking x) p → Says clip again i (marks u) p [] (With (asking (with_input x u)))
    unfolding marks silent numeral digital
    says-input i x (left n) p h =
        says-member INPUT 2 (λ y z. s ∷ t ∷ y ∷ x.off ∷ z ∷ []) (λ y m z. refl) (λ q. refl) (λ q j b. refl) i x.on n p refl (name-31 n) h
    says-input i x (right (both word (both w n))) p h =
        skip word refl (skip w refl (says-member NOT-INPUT 3 (λ y z. s ∷ t ∷ x.on ∷ y ∷ z ∷ []) (λ y m z. refl) (λ q. refl) (λ q j b. refl) _ x.off n p refl (name-31 n) h))

    says-inputs : (i : ℕ) (x : Inputs) (l : Tree (many (gap · token NONE "AND" ▸ input))) (p : Pen) → With (asking x) p → Says clip again i (marks l) p [] (With (asking (with_inputs x l)))
    unfolding marks silent with_inputs
    says-inputs i x done p h = says_none clip again h
    says-inputs i x (more (both v (both word (both w u))) l) p h =
        says_then clip again _ _ (skip v refl (skip word refl (skip w refl (says-input _ x u p h)))) (λ q k. says-inputs (i + length (marks v ++ (marks word ++ (marks w ++ marks u)))) (with_input x u) l q k)

    says-condition : (i : ℕ) (u : Tree condition) (p : Pen) → With (asking no_inputs) p → Says clip again i (marks u) p [] (With (asking (inputs_of u)))
    unfolding marks silent
    says-condition i (left word) p h = end word refl h
    says-condition i (right (both u l)) p h = says_then clip again _ _ (says-input i no_inputs u p h) (λ q k. says-inputs _ (with_input no_inputs u) l q k)

  says-transition : (i : ℕ) (t : Tree transition) (p : Pen) → Says clip again i (marks t) p (transition_says t ∷ []) Any
  unfolding marks silent
  says-transition i (both word (both u (both from (both s (both to (both t (both is (both v (both c (both x (both stop (both y last)))))))))))) p =
      chain (says-word i word p (record { number = p.number; kind = 4; sets = no_sets; line = p.line }) refl (λ b. refl))
      (skip u refl (skip from refl
      (says_then clip again _ _ (says-side SOURCE 0 (λ x z. x ∷ 0 ∷ 0 ∷ 0 ∷ z ∷ []) (λ x n z. refl) (λ q. refl) (λ q j b. refl) _ s _ refl (insert 0 (p.number % 64), refl))
      (λ q k. skip to refl
      (says_then clip again _ _ (says-side TARGET 1 (λ x z. steps_of s ∷ x ∷ 0 ∷ 0 ∷ z ∷ []) (λ x n z. refl) (λ o. refl) (λ o j b. refl) _ t q refl k)
      (λ o g. skip is refl (skip v refl
      (says_then clip again _ _ (says-condition (steps_of s) (steps_of t) _ c o g)
      (λ e h. skip x refl (skip stop refl (skip y refl
      (says-as clip again (ap (λ (z : List ℕ). transition_with z ∷ []) h.1) (λ z w. refl) (says-word _ last e (record { number = e.number; kind = e.kind; sets = settled e; line = e.line }) refl (λ b. refl))))))))))))))

  says-transitions : (i : ℕ) (l : Tree (many (gap · transition))) (p : Pen) → Says clip again i (marks l) p (all_clipped clip (transitions_say l)) Any
  unfolding marks silent transitions_say all_clipped
  says-transitions i done p = says_none clip again refl
  says-transitions i (more (both w t) l) p =
      says_then clip again _ _ (skip w refl (says-as clip again (by t) (λ q k. k) (says-transition _ t p))) (λ q k. says-transitions (i + length (marks w ++ marks t)) l q)
    where
      by : (u : Tree transition) → transition_says u ∷ [] ≡ clipped clip (transition_says u) ∷ []
      by (both word (both u (both from (both s (both to (both v (both is (both w (both c e))))))))) = refl

  -- all of a text
  pub says-text : (t : Tree text) → said_over clip blank_pen 0 (marks t) ≡ all_clipped clip (text_says t)
  unfolding text marks silent text_says
  says-text (both v (both t (both l (both m w)))) =
      all.said
      ∙ ap (λ (x : List Said). all_clipped clip (step_says (width v) (left t)) ++ (all_clipped clip (steps_say (width v + width t) l) ++ x)) (append-nil (all_clipped clip (transitions_say m)))
      ∙ sym (clipped-append clip (step_says (width v) (left t)) (steps_say (width v + width t) l ++ transitions_say m)
      ∙ ap (λ (x : List Said). all_clipped clip (step_says (width v) (left t)) ++ x) (clipped-append clip (steps_say (width v + width t) l) (transitions_say m)))
    where
      behind : Says clip again (width v) (marks t ++ (marks l ++ (marks m ++ marks w))) blank_pen
          (all_clipped clip (step_says (width v) (left t)) ++ (all_clipped clip (steps_say (width v + width t) l) ++ (all_clipped clip (transitions_say m) ++ []))) Any
      behind =
          says_then clip again _ _ (says-step (width v) (left t) blank_pen)
          (λ q k. says_then clip again _ _ (says-steps (width v + width t) l q)
          (λ o g. says_then clip again _ _ (says-transitions _ m o) (λ e h. end w refl refl)))

      all : Says clip again 0 (marks v ++ (marks t ++ (marks l ++ (marks m ++ marks w)))) blank_pen
          (all_clipped clip (step_says (width v) (left t)) ++ (all_clipped clip (steps_say (width v + width t) l) ++ (all_clipped clip (transitions_say m) ++ []))) Any
      all =
          let e : width v ≡ 0 + width v = omega arith in
          skip v refl
          (subst (λ (j : ℕ). Says clip again j (marks t ++ (marks l ++ (marks m ++ marks w))) blank_pen
          (all_clipped clip (step_says (width v) (left t)) ++ (all_clipped clip (steps_say (width v + width t) l) ++ (all_clipped clip (transitions_say m) ++ []))) Any) e behind)
