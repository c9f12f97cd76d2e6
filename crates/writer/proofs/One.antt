-- One record that stands in the bytes is read as it was written: its head names its kind and length, and its fields fit their widths.
use Prim.Native.Nat.{ℕ, suc, ◌+◌, ◌^◌, ◌≤◌, ◌<◌}
use mathlib.Core.List.{List, [], ◌∷◌, ◌++◌}
use mathlib.Core.Bool.{Bool, true, false}
use mathlib.Core.Path.{◌≡◌, refl, ap}
use native.Mathlib.Omega.{arith}
use lib.ListN.{length, length-append}
use lib.Dec.{ltb, eqb}
use borrow.Author.Tests.{le-leb, le-ltb, leb-true, eqb-true}
use mir.Syntax.{w32}
use mir.Val.{SFits}
use mir.Facts.{Fits-of_z, to_z-of_z}
use Rattle.fields.specs.Fields.{kind_fits, unless, step_fits, action_fits, second}
use Rattle.chart.specs.Held.{closing_code}
use Rattle.chart.specs.declared.chart.Chart.{Chart}
use Rattle.chart.proofs.held.Sound.{fits, transition-zero, block-fits, case-fits}
use Rattle.reader.specs.Framing.{length_at, kind_at, widths, body_length, record_bytes, record_number}
use Rattle.judging.specs.Judging.{limited}
use Rattle.reader.specs.Bodies.{body_of, kind_of, fields_of, record_of, body_at, fields_at}
use Rattle.reader.specs.Reading.{accepted, with_body, number_in, read_from}
use Rattle.judging.specs.declared.Body.{Body}
use Rattle.judging.specs.declared.Body.TheVariants.{Step, Action, Transition, Block, Case, Edition}
use Rattle.reader.proofs.framing.Laws.{is-record}
use Rattle.reader.proofs.reading.Laws.{limited-zero}
use Rattle.writer.proofs.Standing.{Stands, stands-first, stands-last, stands-whole, Fit, numbers-back, numbers-length}

-- ---- a part of the bytes, up to a place

pub record Part (s : List ℕ) (at : ℕ) (t : List ℕ) (stop : ℕ) : Type 0 where
  pub stands : Stands s at t
  pub ends : at + length t ≡ stop
  pub inside : stop ≤ length s

pub whole : (s : List ℕ) → Part s 0 s (length s)
whole s = record { stands = stands-whole s; ends = omega arith; inside = omega arith }

pub split : (s : List ℕ) (at : ℕ) (t u : List ℕ) (stop : ℕ) → Part s at (t ++ u) stop → Part s at t (at + length t) × Part s (at + length t) u stop
split s at t u stop p =
    let l = length-append t u in
    let e = p.ends in
    let h = p.inside in (
      record { stands = stands-first s at t u p.stands; ends = refl; inside = omega arith },
      record { stands = stands-last s at t u p.stands; ends = omega arith; inside = h },
    )

-- ---- its head

record Head (s : List ℕ) (at k : ℕ) (fields : List ℕ) (stop : ℕ) : Type 0 where
  size : length_at s at ≡ body_length k
  kind : kind_at s at ≡ k
  body : fields_at s k (at + 4) ≡ fields
  next : at + 4 + body_length k ≡ stop
  number : (before : ℕ) → kind_fits k before ≡ true → record_number s at before ≡ 0

head : (s : List ℕ) (at k : ℕ) (fields : List ℕ) (stop : ℕ) → Part s at (record_bytes k fields) stop → Fit (2 ∷ 2 ∷ widths k) (body_length k ∷ k ∷ fields) → Head s at k fields stop
head s at k fields stop p f = record { size = size; kind = kind; body = (let e = back in cc); next = next; number = number }
  where
    four : at + 2 + 2 ≡ at + 4
    four = omega arith

    back : length_at s at ∷ kind_at s at ∷ fields_at s k (at + 4) ≡ body_length k ∷ k ∷ fields
    back = rw four at (numbers-back s (2 ∷ 2 ∷ widths k) (body_length k ∷ k ∷ fields) at f p.stands)

    size : length_at s at ≡ body_length k
    size = let e = back in cc

    kind : kind_at s at ≡ k
    kind = let e = back in cc

    next : at + 4 + body_length k ≡ stop
    next = let e = p.ends in let l = numbers-length (2 ∷ 2 ∷ widths k) (body_length k ∷ k ∷ fields) f in omega arith

    number : (before : ℕ) → kind_fits k before ≡ true → record_number s at before ≡ 0
    number before h =
        let i = p.inside in
        let e = next in
        is-record s at before (rw kind h) (rw (kind, size)) (rw size (omega arith))

-- ---- the record step

later : (b : Body) (before : ℕ) → before ≤ kind_of b → kind_fits (kind_of b) before ≡ true
later (Step i) before h = le-leb _ _ h
later (Action o v) before h = le-leb _ _ h
later (Transition s t on off w) before h = le-leb _ _ h
later (Block s a q d) before h = le-leb _ _ h
later (Case s n e) before h = le-leb _ _ h
later (Edition x) before h = le-leb _ _ h

no_end : (b : Body) → eqb (kind_of b) 0 ≡ false
no_end (Step i) = refl
no_end (Action o v) = refl
no_end (Transition s t on off w) = refl
no_end (Block s a q d) = refl
no_end (Case s n e) = refl
no_end (Edition x) = refl

-- a body that its fields' bytes give back
pub record Faithful (b : Body) : Type 0 where
  pub fit : Fit (2 ∷ 2 ∷ widths (kind_of b)) (body_length (kind_of b) ∷ kind_of b ∷ fields_of b)
  pub same : body_of (kind_of b) (fields_of b) ≡ b

module _ (s : List ℕ) (at fuel before : ℕ) (c : Chart) where
  pub read_one : (stop : ℕ) (b : Body) → Part s at (record_of b) stop → Faithful b → before ≤ kind_of b → number_in c b ≡ 0 → read_from (suc fuel) s at before c ≡ read_from fuel s stop (kind_of b) (with_body c b)
  unfolding read_from body_at
  read_one stop b p k h e =
      let x = head s at (kind_of b) (fields_of b) stop p k.fit in
      rw (x.number before (later b before h), x.kind, no_end b, x.body, k.same, e, x.size, x.next)

  pub read-end : Part s at (record_bytes 0 []) (length s) → closing_code c.steps c.blocks c.initial c.blockaction c.qualifier ≡ 0 → read_from (suc fuel) s at before c ≡ accepted c
  unfolding read_from
  read-end p e =
      let x = head s at 0 [] (length s) p (omega arith, (omega arith, refl)) in
      let n = x.next in
      rw (x.number before refl, x.kind, le-ltb (at + 4) (length s) (omega arith), e)

-- ---- what fits its widths

-- sets are 64-bit words, and a value is a signed 32-bit number
abbrev pub Sized : Body → Type 0
Sized (Step i) = Unit {0}
Sized (Action o v) = SFits w32 v
Sized (Transition f g on off w) = (f < 2 ^ 64) × (g < 2 ^ 64) × (on < 2 ^ 64) × (off < 2 ^ 64)
Sized (Block s a q d) = Unit {0}
Sized (Case s n e) = Unit {0}
Sized (Edition x) = Unit {0}

fields_fit : (room t : Bool) → limited room (unless t 5) ≡ 0 → t ≡ true
fields_fit room t e = fits t 5 (λ z. omega arith) (limited-zero room (unless t 5) e).1

pub faithful : (c : Chart) (b : Body) → number_in c b ≡ 0 → c.steps ≤ 64 → c.actions ≤ 32 → Sized b → Faithful b
faithful c (Step i) e l m z =
    let x = leb-true i 1 (fields_fit (ltb c.steps 64) (step_fits i) e) in
    record { fit = (omega arith, (omega arith, (omega arith, refl))); same = refl }
faithful c (Action o v) e l m z =
    let x = leb-true o 31 (fields_fit (ltb c.actions 32) (action_fits o) e) in
    let y = (Fits-of_z {w = w32} {z = v} z).fits in
    record { fit = (omega arith, (omega arith, (omega arith, (y, refl)))); same = ap (Action o) (to_z-of_z {w = w32} {z = v} z) }
faithful c (Transition f g on off w) e l m z =
    let x = (transition-zero c.steps c.actions f g on off w (limited-zero (ltb c.transitions 64) _ e).1).2 in
    record { fit = (omega arith, (omega arith, (z.0, (z.1, (z.2, (z.3, (omega arith, refl))))))); same = refl }
faithful c (Block s a q d) e l m z =
    let x = block-fits c.steps c.actions s a q d (fields_fit (ltb c.blocks 256) _ e) in
    record { fit = (omega arith, (omega arith, (omega arith, (omega arith, (omega arith, (omega arith, refl)))))); same = refl }
faithful c (Case s n k) e l m z =
    let x = case-fits c.steps c.actions s n k (fields_fit (ltb c.cases 64) _ e) in
    record { fit = (omega arith, (omega arith, (omega arith, (omega arith, (omega arith, refl))))); same = refl }
faithful c (Edition x) e l m z =
    let y = eqb-true x 2 (fields_fit (ltb c.edition 2) (second x) e) in
    record { fit = (omega arith, (omega arith, (omega arith, refl))); same = refl }
