-- What a record's kind and its fields must be, kind by kind, and the number of refusal otherwise. The reader and the held test both go by these.
use Rattle.std.specs.Prelude.{ℕ, ◌+◌, Bool, ◌&&◌, ◌||◌, not, cond, leb, ltb, eqb}
use Rattle.sets.specs.Loops.{or_else}
use Rattle.sets.specs.Sets.{Apart, Below}

-- "Qualifiers: 0 N, 1 R, 2 S, 3 L, 4 D, 5 P, 6 SD, 7 DS, 8 SL, 9 P1, 10 P0"
abbrev pub N : ℕ
N = 0

abbrev pub R : ℕ
R = 1

abbrev pub S : ℕ
S = 2

abbrev pub L : ℕ
L = 3

abbrev pub D : ℕ
D = 4

abbrev pub P : ℕ
P = 5

abbrev pub SD : ℕ
SD = 6

abbrev pub DS : ℕ
DS = 7

abbrev pub SL : ℕ
SL = 8

abbrev pub P1 : ℕ
P1 = 9

abbrev pub P0 : ℕ
P0 = 10

-- "L, D, SD, DS and SL are timed"
abbrev pub timed : ℕ → Bool
timed q = eqb q L || eqb q D || eqb q SD || eqb q DS || eqb q SL

-- "Waits and durations are at most 86,400,000"
abbrev pub longest : ℕ
longest = 86400000

-- the number n unless the test holds
abbrev pub unless : Bool → ℕ → ℕ
unless ok n = cond ok 0 n

-- not "kind above 5, or smaller than the kind before it (kind 0 excepted)"; document 02, request (viii): "2 now means a kind above 6"
abbrev pub kind_fits : ℕ → ℕ → Bool
kind_fits k before = leb k 6 && (eqb k 0 || leb before k)

-- "1 initial, 0 not"
abbrev pub step_fits : ℕ → Bool
step_fits initial = leb initial 1

-- "output 0..31"; every value is a signed 32-bit number
abbrev pub action_fits : ℕ → Bool
action_fits output = leb output 31

-- "Signals 0..31 are the cycle's inputs; signal 32+k is the activity of action k", "signal 0..63"
abbrev pub signal_exists : ℕ → ℕ → Bool
signal_exists signal actions = ltb signal (32 + actions)

abbrev pub signals_exist : ℕ → ℕ → Bool
signals_exist signals actions = Below signals (32 + actions)

-- "A set or field may name only steps and actions that exist; all 32 inputs exist"
abbrev pub transition_fits : ℕ → ℕ → ℕ → ℕ → ℕ → ℕ → ℕ → Bool
transition_fits steps actions sources targets on off wait =
    Below sources steps && Below targets steps && signals_exist on actions && signals_exist off actions && leb wait longest

-- not "a transition has no source, no target, or a step that is both"
abbrev pub steps_differ : ℕ → ℕ → Bool
steps_differ sources targets = not (eqb sources 0) && not (eqb targets 0) && Apart sources targets

-- 5, "a field outside its stated range"; 6; 7, "a signal in both on and off"
unfoldable pub transition_code : ℕ → ℕ → ℕ → ℕ → ℕ → ℕ → ℕ → ℕ
transition_code steps actions sources targets on off wait =
    or_else (unless (transition_fits steps actions sources targets on off wait) 5)
    (or_else (unless (steps_differ sources targets) 6) (unless (Apart on off) 7))

-- the last qualifier is 10, P0
abbrev pub block_names : ℕ → ℕ → ℕ → ℕ → ℕ → Bool
block_names steps actions step action qualifier = ltb step steps && ltb action actions && leb qualifier P0

-- timed qualifiers "may have duration 0; the others must have duration 0"
abbrev pub duration_fits : ℕ → ℕ → Bool
duration_fits qualifier duration = leb duration longest && (timed qualifier || eqb duration 0)

abbrev pub block_fits : ℕ → ℕ → ℕ → ℕ → ℕ → ℕ → Bool
block_fits steps actions step action qualifier duration = block_names steps actions step action qualifier && duration_fits qualifier duration

abbrev pub case_fits : ℕ → ℕ → ℕ → ℕ → ℕ → Bool
case_fits steps actions step signal expected =
    ltb step steps && ltb signal 64 && signal_exists signal actions && leb expected 1

-- document 02, request (viii): "A held chart says 1 or 2."
abbrev pub edition_fits : ℕ → Bool
edition_fits edition = eqb edition 1 || eqb edition 2

-- the second edition, which a file says by "one byte with the value 2"
abbrev pub second : ℕ → Bool
second edition = eqb edition 2
