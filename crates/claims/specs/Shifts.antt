-- A whole shift in one call (document 02, request iii): "The rig computer collects up to 4,096 cycles and hands them over at once, clocks and inputs
-- in two lent lists, and wants the activity word of each in a third. The result equals the calls made singly. It stops at the first refused cycle and
-- returns the number accepted and the run there, with the outputs of the last accepted cycle, untouched if there was none. Activity words behind that
-- number stay. Refusals: 15, chart, 12, then 18 when the three lists differ in length or exceed 4,096, all before any cycle, with 0 accepted and
-- nothing written; then 11, at its place."
use Prim.Native.Nat.{ℕ, zero, suc, ◌≤◌, ◌<◌}
use Rattle.std.specs.Prelude.{Bool, true, false, List, [], ◌∷◌, ◌++◌, ◌≡◌, ℤ, length, get_or, drop}
use Rattle.chart.specs.Held.{chart_code}
use Rattle.chart.specs.declared.chart.Chart.{Chart}
use Rattle.run.specs.Belongs.{belongs}
use Rattle.run.specs.declared.run.Run.{Run}
use Rattle.passes.specs.Outputs.{outputs_of}
use Rattle.cycle.specs.Calling.{singly}
use Rattle.shift.specs.Shifting.{Done, answer_of, done_of, lists_fit, shift_of}
use Rattle.claims.specs.Answers.{one_of, start_numbers}
use Rattle.claims.specs.Runs.{Call, cycle, answer, after}

-- ---- what is claimed

-- "15, chart, 12, then 18 .. then 11"
abbrev pub shift_numbers : List ℕ
shift_numbers = start_numbers ++ (12 ∷ 18 ∷ 11 ∷ [])

-- call k of a shift, and its first n calls
abbrev pub call_at : List ℕ → List ℕ → ℕ → ℕ → Call
call_at clocks inputs lent k = cycle (record { clock = get_or clocks k 0; inputs = get_or inputs k 0; lent = lent })

unfoldable pub calls_of : List ℕ → List ℕ → ℕ → ℕ → List Call
calls_of clocks inputs lent zero = []
calls_of clocks inputs lent (suc n) = calls_of clocks inputs lent n ++ (call_at clocks inputs lent n ∷ [])

module _ (c : Chart) (r : Run) (clocks inputs words : List ℕ) (out : List ℤ) where
  -- "all before any cycle, with 0 accepted and nothing written"
  abbrev pub turned_away : ℕ → Done
  turned_away code = (answer_of code 0 r, words, out)

  -- not "18 when the three lists differ in length or exceed 4,096"
  abbrev pub even : Bool
  even = lists_fit (length clocks) (length inputs) (length words)

  -- a shift answers d
  pub record ShiftAnswer (d : Done) : Type 0 where
    pub numbered : one_of (0 ∷ shift_numbers) d.0.code ≡ true
    pub few-outputs : length out < 32 → d ≡ turned_away 15
    pub bad-chart : 32 ≤ length out → (chart_code c ≡ 0 → ⊥) → d ≡ turned_away (chart_code c)
    pub other-run : 32 ≤ length out → chart_code c ≡ 0 → belongs c r ≡ false → d ≡ turned_away 12
    pub uneven : 32 ≤ length out → chart_code c ≡ 0 → belongs c r ≡ true → even ≡ false → d ≡ turned_away 18
    pub passed : 32 ≤ length out → chart_code c ≡ 0 → belongs c r ≡ true → even ≡ true → d ≡ done_of (singly c r clocks inputs words out (length clocks))
    pub none : 32 ≤ length out → chart_code c ≡ 0 → belongs c r ≡ true → length clocks ≡ 0 → length inputs ≡ 0 → length words ≡ 0 → d ≡ turned_away 0

  -- call k, given the outputs `out`
  abbrev pub call : ℕ → Call
  call k = call_at clocks inputs (length out) k

  -- the run after the first n calls
  abbrev pub reached : ℕ → Run
  reached n = after c r (calls_of clocks inputs (length out) n)

  -- the first m calls, each given the run that the one before returned, were accepted; they leave the run `now`, these activity words and outputs
  pub record Made (m : ℕ) (now : Run) (activities : List ℕ) (outputs : List ℤ) : Type 0 where
    pub accepted : (k : ℕ) → k < m → (answer c (reached k) (call k)).code ≡ 0
    pub run : now ≡ reached m
    pub each_word : (k : ℕ) → k < m → get_or activities k 0 ≡ (reached (suc k)).activity
    pub behind : (k : ℕ) → m ≤ k → get_or activities k 0 ≡ get_or words k 0
    pub long : length activities ≡ length words
    pub untouched : m ≡ 0 → outputs ≡ out
    pub writes : (m ≡ 0 → ⊥) → outputs ≡ outputs_of c.actions c.output c.value now.activity ++ drop 32 out
    pub no-others : drop 32 outputs ≡ drop 32 out
    pub lent : length outputs ≡ length out

  -- n calls answer d: "It stops at the first refused cycle and returns the number accepted and the run there"
  pub record ShiftCalls (n : ℕ) (d : Done) : Type 0 where
    pub few : d.0.accepted ≤ n
    pub made : Made d.0.accepted d.0.run d.1 d.2
    pub stops : d.0.accepted < n → (d.0.code ≡ 0 → ⊥) × (d.0.code ≡ (answer c d.0.run (call d.0.accepted)).code)
    pub all : d.0.accepted ≡ n → d.0.code ≡ 0

-- what a rig calls: single calls, and shifts with their clocks, inputs, lent activity words and outputs
pub data Entry : Type 0 where
  single : Call → Entry
  shift : List ℕ → List ℕ → List ℕ → List ℤ → Entry

-- the run after them, each given the run that the one before returned
unfoldable pub after_all : Chart → Run → List Entry → Run
after_all c r [] = r
after_all c r (single x ∷ es) = after_all c (answer c r x).run es
after_all c r (shift clocks inputs words out ∷ es) = after_all c (shift_of c r clocks inputs words out).0.run es

-- the calls that they come to: a shift is those that it accepted
unfoldable pub calls_in : Chart → Run → List Entry → List Call
calls_in c r [] = []
calls_in c r (single x ∷ es) = x ∷ calls_in c (answer c r x).run es
calls_in c r (shift clocks inputs words out ∷ es) =
    calls_of clocks inputs (length out) (shift_of c r clocks inputs words out).0.accepted ++ calls_in c (shift_of c r clocks inputs words out).0.run es

-- the run that a shift returns is the run after the calls before it and those that it accepted
abbrev pub ShiftAfter : Type 0
ShiftAfter =
    (c : Chart) (r : Run) (xs : List Call) (clocks inputs words : List ℕ) (out : List ℤ)
    → (shift_of c (after c r xs) clocks inputs words out).0.run
    ≡ after c r (xs ++ calls_of clocks inputs (length out) (shift_of c (after c r xs) clocks inputs words out).0.accepted)
