-- "Qualifiers: 0 N, 1 R, 2 S, 3 L, 4 D, 5 P, 6 SD, 7 DS, 8 SL, 9 P1, 10 P0"; another byte is a field outside its stated range, 5.
use Rattle.std.specs.Prelude.{ℕ, ◌≡◌, ◌<◌, Result}
use Rattle.std.specs.Result.{MatchResult}
use Rattle.refusals.specs.declared.Refusal.{Refusal}
use Rattle.refusals.specs.declared.Refusal.TheVariants.{BadField}
use Rattle.fields.specs.declared.Qualifier.{Qualifier}
use Rattle.fields.specs.declared.Qualifier.TheVariants.{N, R, S, L, D, P, Sd, Ds, Sl, P1, P0}

abbrev pub byte_of : Qualifier → ℕ
byte_of N = 0
byte_of R = 1
byte_of S = 2
byte_of L = 3
byte_of D = 4
byte_of P = 5
byte_of Sd = 6
byte_of Ds = 7
byte_of Sl = 8
byte_of P1 = 9
byte_of P0 = 10

-- what a byte names
abbrev pub names : ℕ → Result Qualifier Refusal → Type 0
names b r = MatchResult r (λ q. byte_of q ≡ b) (λ e. (e ≡ BadField) × (10 < b))
