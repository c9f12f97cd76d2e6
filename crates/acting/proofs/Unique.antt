-- Two answers that one statement allows are equal, for each public function.
use Prim.Native.Nat.{ℕ, ◌%◌}
use mathlib.Core.List.{List}
use mathlib.Core.Path.{◌≡◌}
use lib.ListN.{get_or}
use Rattle.sets.proofs.Unique.{one_answer}
use Rattle.acting.specs.Acting.{request_at, none_asked, putting, acted}
use Rattle.acting.specs.declared.Steps.{Steps}
use Rattle.acting.specs.declared.Request.{Request}
use Rattle.acting.specs.declared.Asked.{Asked}
use Rattle.acting.specs.declared.Acted.{Acted}

pub asks-unique : (q d s a : ℕ) (counts times : List ℕ) (steps : Steps) (x y : Request) → x ≡ request_at (s % 64) q d (get_or counts (s % 64) 0) (get_or times (a % 32) 0) steps
    → y ≡ request_at (s % 64) q d (get_or counts (s % 64) 0) (get_or times (a % 32) 0) steps → x ≡ y
asks-unique q d s a counts times steps x y = one_answer

pub none-unique : (x y : Asked) → x ≡ none_asked → y ≡ none_asked → x ≡ y
none-unique x y = one_answer

pub put-unique : (asked : Asked) (a : ℕ) (r : Request) (x y : Asked) → x ≡ putting asked (a % 64) r → y ≡ putting asked (a % 64) r → x ≡ y
put-unique asked a r x y = one_answer

pub act-unique : (asked : Asked) (stored latched : ℕ) (x y : Acted) → x ≡ acted asked stored latched → y ≡ acted asked stored latched → x ≡ y
act-unique asked stored latched x y = one_answer
