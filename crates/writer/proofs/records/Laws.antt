-- A number's bytes as the library has them, by their places, are its bytes, each the rest by 256 of what is left.
use Prim.Native.Nat.{ℕ, zero, suc, ◌/◌, ◌%◌, ◌^◌, ◌<◌}
use mathlib.Core.Path.{◌≡◌, refl, sym}
use native.Mathlib.Nat.{pow-suc, div-div-eq-div-mul}
use native.Mathlib.Omega.{arith}
use mir.Syntax.{w16, w32, w64}
use Rattle.std.specs.Int.{bytes_low_first, to_le_bytes}
use Rattle.reader.specs.Numbers.{bytes_of}

from_byte : (i w x : ℕ) → bytes_low_first i w x ≡ bytes_of w (x / 256 ^ i)
from_byte i zero x = refl
from_byte zero (suc w) x =
    let e : x / 256 ^ 0 ≡ x = omega arith in
    rw (e, from_byte 1 w x)
from_byte (suc i) (suc w) x =
    let e : x / 256 ^ suc (suc i) ≡ x / 256 ^ suc i / 256 = rw (pow-suc 256 (suc i)) (sym (div-div-eq-div-mul x (256 ^ suc i) 256)) in
    rw (from_byte (suc (suc i)) w x, e)

pub bytes-2 : (x : ℕ) → to_le_bytes w16 x ≡ bytes_of 2 x
bytes-2 x = let e : x / 256 ^ 0 ≡ x = omega arith in rw e at (from_byte 0 2 x)

pub bytes-4 : (x : ℕ) → to_le_bytes w32 x ≡ bytes_of 4 x
bytes-4 x = let e : x / 256 ^ 0 ≡ x = omega arith in rw e at (from_byte 0 4 x)

pub bytes-8 : (x : ℕ) → to_le_bytes w64 x ≡ bytes_of 8 x
bytes-8 x = let e : x / 256 ^ 0 ≡ x = omega arith in rw e at (from_byte 0 8 x)

-- a byte is its own rest
pub byte : (x : ℕ) → x < 256 → x % 256 ≡ x
byte x h = omega arith
