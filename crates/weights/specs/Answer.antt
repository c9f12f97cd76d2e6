-- What is answered, as the definitions have it, and the code's answers as such.
use Rattle.std.specs.Prelude.{ℕ, zero, suc, Option, Some, None, Result, Ok, Err}
use Rattle.weights.specs.declared.words.Unreadable.{Unreadable}

-- the kinds of bytes: those before a line end, those before a comment, blanks, and digits
pub data Class : Type 0 where
  Line : Class
  Text : Class
  Blank : Class
  Digit : Class

-- what a line says: no weight, the next one, or nothing that can be read
pub data Said : Type 0 where
  Nothing : Said
  Weight : ℕ → Said
  Faulty : Said

abbrev pub said_as : Result (Option ℕ) Unreadable → Said
said_as (Ok None) = Nothing
said_as (Ok (Some weight)) = Weight weight
said_as (Err e) = Faulty

-- the place of a line, from 0 on, by its number in the definitions, which is 0 for none
abbrev pub place : ℕ → Option ℕ
place zero = None
place (suc k) = Some k
