-- The body of a record: what its bytes are, by the table of kinds, both ways.
use Rattle.std.specs.Prelude.{ℕ, List, [], ◌∷◌, cond, get_or, eqb}
use Rattle.std.specs.Int.{w32}
use Rattle.std.proofs.Common.{to_z, of_z}
use Rattle.reader.specs.Numbers.{numbers_at}
use Rattle.reader.specs.Framing.{widths, record_bytes}
use Rattle.judging.specs.declared.Body.{Body}
use Rattle.judging.specs.declared.Body.TheVariants.{Step, Action, Transition, Block, Case, Edition}

-- a body of kind k from its fields: "1 initial, 0 not"; "output 0..31; value, signed 32 bits"; "sources, targets, on, off (64-bit sets, bit k
-- is number k); wait in ms (32 bits)"; "step, action, qualifier (a byte each); duration in ms (32 bits)"; "step, signal 0..63, expected 0 or 1";
-- document 02, request (viii): "one byte with the value 2"
abbrev pub body_of : ℕ → List ℕ → Body
body_of k fields =
    let x : ℕ → ℕ = λ i. get_or fields i 0 in
    cond (eqb k 1) (Step (x 0))
    (cond (eqb k 2) (Action (x 0) (to_z w32 (x 1)))
    (cond (eqb k 3) (Transition (x 0) (x 1) (x 2) (x 3) (x 4))
    (cond (eqb k 4) (Block (x 0) (x 1) (x 2) (x 3))
    (cond (eqb k 5) (Case (x 0) (x 1) (x 2)) (Edition (x 0))))))

-- its kind, and its fields again
abbrev pub kind_of : Body → ℕ
kind_of (Step i) = 1
kind_of (Action o v) = 2
kind_of (Transition s t on off w) = 3
kind_of (Block s a q d) = 4
kind_of (Case s n e) = 5
kind_of (Edition x) = 6

abbrev pub fields_of : Body → List ℕ
fields_of (Step i) = i ∷ []
fields_of (Action o v) = o ∷ of_z w32 v ∷ []
fields_of (Transition s t on off w) = s ∷ t ∷ on ∷ off ∷ w ∷ []
fields_of (Block s a q d) = s ∷ a ∷ q ∷ d ∷ []
fields_of (Case s n e) = s ∷ n ∷ e ∷ []
fields_of (Edition x) = x ∷ []

-- the body of kind k that stands at a place, and the record that a body is
abbrev pub fields_at : List ℕ → ℕ → ℕ → List ℕ
fields_at s k at = numbers_at (widths k) s at

unfoldable pub body_at : List ℕ → ℕ → ℕ → Body
body_at s k at = body_of k (fields_at s k at)

abbrev pub record_of : Body → List ℕ
record_of b = record_bytes (kind_of b) (fields_of b)
