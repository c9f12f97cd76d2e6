-- 2. "Transitions are taken in number order. One is taken if all its sources were active at the cycle's beginning and are not a source of one
-- already taken; every "on" signal is 1 and every "off" signal 0; each source's counter has reached the wait; each target was inactive at the
-- beginning and is not a target of one already taken." Document 02, request (vi): "The test answers for each transition: taken; a source not
-- active; a source used by an earlier one; a signal; a wait; a target occupied; a target claimed by an earlier one. The first in this order counts."
use Rattle.std.specs.Prelude.{ℕ, List, Bool, ◌&&◌, ◌||◌, not, cond, get_or, leb, ltb, eqb}
use Rattle.sets.specs.Loops.{all, or_else, table, turns}
use Rattle.sets.specs.Sets.{has, Within, Apart, union, insert, among}
use Rattle.fields.specs.Fields.{unless, second}
use Rattle.choice.specs.declared.Choice.{Choice}

-- step k is no source, or its counter has reached the wait
abbrev pub ripe_at : ℕ → ℕ → ℕ → ℕ → Bool
ripe_at wait sources k count = not (has sources k) || leb wait count

abbrev pub ripe : ℕ → ℕ → List ℕ → Bool
ripe wait sources counts = all (λ k. ripe_at wait sources k (get_or counts k 0)) 64

-- why a transition is not taken after those of the choice, 0 if it is, by the targets that are tested; `active` and `signals` are those of the
-- cycle's beginning
unfoldable pub reason : Choice → ℕ → ℕ → ℕ → ℕ → ℕ → List ℕ → ℕ → ℕ → ℕ
reason choice sources targets on off wait counts active signals =
    or_else (unless (Within sources active) 1)
    (or_else (unless (Apart sources choice.left) 2)
    (or_else (unless (Within on signals && Apart off signals) 3)
    (or_else (unless (ripe wait sources counts) 4)
    (or_else (unless (Apart targets active) 5)
    (unless (Apart targets choice.claimed) 6)))))

-- document 02, request (viii): in the second edition "targets are not tested", which is "the only difference"
abbrev pub tested : ℕ → ℕ → ℕ
tested edition targets = cond (second edition) 0 targets

abbrev pub takes : Choice → ℕ → ℕ → ℕ → Choice
takes choice t sources targets = record {
  taken = insert choice.taken t;
  left = union choice.left sources;
  claimed = union choice.claimed targets;
}

-- a transition taken or not, after those of the choice: taken is what nothing speaks against
abbrev pub choosing : ℕ → Choice → ℕ → ℕ → ℕ → ℕ → ℕ → ℕ → List ℕ → ℕ → ℕ → Choice
choosing edition choice t sources targets on off wait counts active signals =
    cond (eqb (reason choice sources (tested edition targets) on off wait counts active signals) 0) (takes choice t sources targets) choice

abbrev pub none_taken : Choice
none_taken = record { taken = 0; left = 0; claimed = 0 }

abbrev pub choosing_at : ℕ → List ℕ → List ℕ → List ℕ → List ℕ → List ℕ → List ℕ → ℕ → ℕ → ℕ → Choice → Choice
choosing_at edition sources targets on off wait counts active signals t choice =
    choosing edition choice t (get_or sources t 0) (get_or targets t 0) (get_or on t 0) (get_or off t 0) (get_or wait t 0) counts active signals

unfoldable pub chosen : ℕ → ℕ → List ℕ → List ℕ → List ℕ → List ℕ → List ℕ → List ℕ → ℕ → ℕ → Choice
chosen edition n sources targets on off wait counts active signals =
    turns (choosing_at edition sources targets on off wait counts active signals) none_taken n

-- document 02, request (ix): of some transitions only, those that are consulted, in number order
unfoldable pub chosen_from : ℕ → ℕ → List ℕ → List ℕ → List ℕ → List ℕ → List ℕ → List ℕ → ℕ → ℕ → Choice
chosen_from edition consulted sources targets on off wait counts active signals =
    turns (among consulted (choosing_at edition sources targets on off wait counts active signals)) none_taken 64

-- transition t's, after those before it
abbrev pub reason_at : ℕ → List ℕ → List ℕ → List ℕ → List ℕ → List ℕ → List ℕ → ℕ → ℕ → ℕ → ℕ
reason_at edition sources targets on off wait counts active signals t =
    reason (chosen edition t sources targets on off wait counts active signals) (get_or sources t 0) (tested edition (get_or targets t 0)) (get_or on t 0) (get_or off t 0) (get_or wait t 0) counts active signals

-- document 02, request (vii): the hold mark of a run is set
abbrev pub held : ℕ → Bool
held hold = eqb hold 1

-- "In a cycle under hold no transition is taken"
abbrev pub chosen_under : ℕ → ℕ → ℕ → List ℕ → List ℕ → List ℕ → List ℕ → List ℕ → List ℕ → ℕ → ℕ → Choice
chosen_under hold edition n sources targets on off wait counts active signals =
    cond (held hold) none_taken (chosen edition n sources targets on off wait counts active signals)

-- "reason 7 of request (vi) is "hold" and comes first"
abbrev pub reason_under : ℕ → ℕ → ℕ
reason_under hold why = or_else (unless (not (held hold)) 7) why

-- of 64, n of which there are: "Reasons .. beyond the last transition are 0."
unfoldable pub reasons_of : ℕ → ℕ → ℕ → List ℕ → List ℕ → List ℕ → List ℕ → List ℕ → List ℕ → ℕ → ℕ → List ℕ
reasons_of hold edition n sources targets on off wait counts active signals =
    table (λ t. cond (ltb t n) (reason_under hold (reason_at edition sources targets on off wait counts active signals t)) 0) 64

-- under hold they are the same whatever the transitions are
unfoldable pub held_reasons : ℕ → List ℕ
held_reasons n = table (λ t. cond (ltb t n) 7 0) 64
