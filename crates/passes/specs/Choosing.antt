-- 3. "Sources of taken transitions are left, targets entered." A step's counter runs on if it is active and was not entered.
-- Document 02, request (viii): "a step both left and entered stays active".
use Rattle.std.specs.Prelude.{ℕ, not, ◌&&◌, ◌||◌}
use Rattle.sets.specs.Sets.{has, collect, union, minus}
use Rattle.choice.specs.declared.Choice.{Choice}
use Rattle.acting.specs.declared.Steps.{Steps}

abbrev pub moved_to : ℕ → Choice → ℕ
moved_to active choice = union (minus active choice.left) choice.claimed

-- "a step counts as entered if it is a target and was inactive or left": in the first edition each target is
abbrev pub entered_by : ℕ → Choice → ℕ
entered_by active choice = collect (λ k. has choice.claimed k && (not (has active k) || has choice.left k)) 64

-- "then its counter is 0, otherwise it runs on"
abbrev pub steps_of : ℕ → Choice → Steps
steps_of active choice = record {
  active = moved_to active choice;
  entered = entered_by active choice;
  left = choice.left;
  kept = minus (moved_to active choice) (entered_by active choice);
}
