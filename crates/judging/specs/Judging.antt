-- The number of refusal of a record's body.
use Rattle.std.specs.Prelude.{ℕ, Bool, ltb}
use Rattle.sets.specs.Loops.{or_else}
use Rattle.fields.specs.Fields.{unless, step_fits, action_fits, transition_code, block_fits, case_fits, second}
use Rattle.judging.specs.declared.Body.{Body}
use Rattle.judging.specs.declared.Body.TheVariants.{Step, Action, Transition, Block, Case, Edition}

-- "one more of a kind than its limit" (4), before the fields' number
abbrev pub limited : Bool → ℕ → ℕ
limited room code = or_else (unless room 4) code

-- the number of a body that is read after so many steps, actions, transitions, blocks and cases, in the edition so far: the first, until the one
-- record that "limit one" allows says the second
abbrev pub body_code : ℕ → ℕ → ℕ → ℕ → ℕ → ℕ → Body → ℕ
body_code s a t b c e (Step i) = limited (ltb s 64) (unless (step_fits i) 5)
body_code s a t b c e (Action o v) = limited (ltb a 32) (unless (action_fits o) 5)
body_code s a t b c e (Transition f g on off w) = limited (ltb t 64) (transition_code s a f g on off w)
body_code s a t b c e (Block k l q d) = limited (ltb b 256) (unless (block_fits s a k l q d) 5)
body_code s a t b c e (Case k n x) = limited (ltb c 64) (unless (case_fits s a k n x) 5)
body_code s a t b c e (Edition x) = limited (ltb e 2) (unless (second x) 5)
