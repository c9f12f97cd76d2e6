-- What is proved of specs/Pulses.antt.
use Prim.Native.Nat.{ℕ}
use Rattle.std.specs.Prelude.{Bool, true, false, cond, ◌≡◌, ℤ, eqb}
use mathlib.Core.List.{List, [], ◌∷◌, map}
use Rattle.std.proofs.Math.Path.{refl, ap, fun_ext}
use Rattle.std.proofs.Common.{sym, ap₂, ◌∙◌, eqb-true}
use Rattle.std.proofs.Math.ListN.{get_or, get_or-map}
use Rattle.sets.specs.Loops.{first_code}
use Rattle.fields.specs.Fields.{P, P1, timed, unless, block_fits}
use Rattle.chart.specs.Held.{blocks_code, held_code, chart_code}
use Rattle.chart.specs.declared.chart.Chart.{Chart}
use Rattle.chart.proofs.held.Laws.{twice_same}
use Rattle.acting.specs.Acting.{request_at, request_of, asked_by, asked}
use Rattle.acting.specs.declared.Steps.{Steps}
use Rattle.acting.specs.declared.Request.{Request}
use Rattle.run.specs.declared.run.Run.{Run}
use Rattle.cycle.specs.Cycling.{start_of, cycle_of, outputs_after}
use Rattle.cycle.specs.Answer.{Cycled}
use Rattle.key.specs.Turning.{turn_of}
use Rattle.key.specs.Answer.{Turned}
use Rattle.claims.specs.Runs.{Call, cycle, turn, answer, after}
use Rattle.claims.specs.Pulses.{as_p1, qualified, with_p1, Alike}

-- what is the same of P1 as of P is the same of a qualifier with P1 for P as of the qualifier
module _ {A : Type 0} (f : ℕ → A) (same : f P1 ≡ f P) where
  told : (q : ℕ) → f (as_p1 q) ≡ f q
  told q = go (eqb q P) refl
    where
      go : (t : Bool) → eqb q P ≡ t → f (cond t P1 q) ≡ f q
      go true e = same ∙ ap f (sym (eqb-true q P e))
      go false e = refl

  told_at : (qs : List ℕ) (b : ℕ) → f (get_or (map as_p1 qs) b 0) ≡ f (get_or qs b 0)
  told_at qs b = ap f (get_or-map as_p1 qs b 0) ∙ told (get_or qs b 0)

-- a P1 block asks what a P block asks
pub request-like-P1 : (s d count time : ℕ) (steps : Steps) → request_at s P1 d count time steps ≡ request_at s P d count time steps
request-like-P1 s d count time steps = refl

module _ (qualifier : List ℕ) where
  abbrev told-P1 : List ℕ
  told-P1 = map as_p1 qualifier

  request-same : (s d count time : ℕ) (steps : Steps) (b : ℕ) → request_at s (get_or told-P1 b 0) d count time steps ≡ request_at s (get_or qualifier b 0) d count time steps
  request-same s d count time steps = told_at (λ q. request_at s q d count time steps) (request-like-P1 s d count time steps) qualifier

  asked-same : (n : ℕ) (step action duration counts times : List ℕ) (steps : Steps)
      → asked n step action told-P1 duration counts times steps ≡ asked n step action qualifier duration counts times steps
  unfolding asked
  asked-same n step action duration counts times steps =
      ap (λ (f : ℕ → Request). asked_by f (λ b. get_or action b 0) n) (fun_ext same)
    where
      same : (b : ℕ) → request_of step action told-P1 duration counts times steps b ≡ request_of step action qualifier duration counts times steps b
      same b = request-same _ _ _ _ steps b

  blocks-same : (n steps actions : ℕ) (step action duration : List ℕ) → blocks_code n steps actions step action told-P1 duration ≡ blocks_code n steps actions step action qualifier duration
  unfolding blocks_code
  blocks-same n steps actions step action duration =
      ap (λ (f : ℕ → Bool). first_code (λ b. unless (f b) 5) n)
      (fun_ext (λ b. told_at (λ q. block_fits steps actions (get_or step b 0) (get_or action b 0) q (get_or duration b 0)) refl qualifier b))

module _ (c : Chart) where
  test-same : chart_code (with_p1 c) ≡ chart_code c
  unfolding held_code
  test-same = rw (blocks-same c.qualifier c.blocks c.steps c.actions c.blockstep c.blockaction c.duration, twice_same c.blocks c.blockaction c.blockaction (map as_p1 c.qualifier) c.qualifier (λ i l. refl) (λ i l. told_at timed refl c.qualifier i))

  start-same : (clock lent : ℕ) → start_of (with_p1 c) clock lent ≡ start_of c clock lent
  start-same clock lent = rw (test-same, asked-same c.qualifier c.blocks c.blockstep c.blockaction c.duration _ _ _)

  cycle-same : (r : Run) (clock inputs lent : ℕ) → cycle_of (with_p1 c) r clock inputs lent ≡ cycle_of c r clock inputs lent
  cycle-same r clock inputs lent = rw (test-same, asked-same c.qualifier c.blocks c.blockstep c.blockaction c.duration _ _ _)

  key-same : (held : Bool) (r : Run) → turn_of held (with_p1 c) r ≡ turn_of held c r
  key-same held r = rw test-same

-- a chart and the same with P1 for all its P
pub alike-P1 : (c : Chart) → Alike (with_p1 c) c
alike-P1 c = ap (qualified c) (twice c.qualifier)
  where
    twice : (qs : List ℕ) → map as_p1 (map as_p1 qs) ≡ map as_p1 qs
    twice [] = refl
    twice (q ∷ qs) = ap₂ ◌∷◌ (told as_p1 refl q) (twice qs)

-- In every start and every cycle they answer the same number, the same run, and with it the same activity, and the same transitions taken,
module _ (c d : Chart) (alike : Alike c d) where
  pub starts-alike : (clock lent : ℕ) → start_of c clock lent ≡ start_of d clock lent
  starts-alike clock lent = sym (start-same c clock lent) ∙ ap (λ (x : Chart). start_of x clock lent) alike ∙ start-same d clock lent

  pub cycles-alike : (r : Run) (clock inputs lent : ℕ) → cycle_of c r clock inputs lent ≡ cycle_of d r clock inputs lent
  cycles-alike r clock inputs lent = sym (cycle-same c r clock inputs lent) ∙ ap (λ (x : Chart). cycle_of x r clock inputs lent) alike ∙ cycle-same d r clock inputs lent

  -- the outputs are the same,
  pub outputs-alike : (o : Cycled) (out : List ℤ) → outputs_after c o out ≡ outputs_after d o out
  outputs-alike o out = ap (λ (x : Chart). outputs_after x o out) alike

  -- the key answers the same,
  pub keys-alike : (held : Bool) (r : Run) → turn_of held c r ≡ turn_of held d r
  keys-alike held r = sym (key-same c held r) ∙ ap (λ (x : Chart). turn_of held x r) alike ∙ key-same d held r

  -- and so is the run after any calls.
  pub runs-alike : (r : Run) (xs : List Call) → after c r xs ≡ after d r xs
  unfolding after
  runs-alike r [] = refl
  runs-alike r (cycle x ∷ xs) = ap (λ (o : Cycled). after c o.run xs) (cycles-alike r x.clock x.inputs x.lent) ∙ runs-alike (answer d r (cycle x)).run xs
  runs-alike r (turn held ∷ xs) = ap (λ (o : Turned). after c o.run xs) (keys-alike held r) ∙ runs-alike (answer d r (turn held)).run xs
