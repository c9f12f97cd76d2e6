-- What the code keeps, as the definitions have it.
use Rattle.std.specs.Prelude.{ℕ, Bool, true, false, Option, Some, None}
use Rattle.grammar.specs.Pen.{Line, Pen}
use Rattle.text.specs.declared.pen.Line.{Line as Written}
use Rattle.text.specs.declared.pen.Pen.{Pen as Held}

-- whether a step is not named by its number, and the place of the first such name
pub record Stray : Type 0 where
  pub found : Bool
  pub place : ℕ

abbrev pub stray_of : Option ℕ → Stray
stray_of None = record { found = false; place = 0 }
stray_of (Some place) = record { found = true; place = place }

abbrev pub line_of : Written → Line
line_of l = record { place = l.place; initial = l.initial; own = l.own; action = l.action; qualifier = l.qualifier }

abbrev pub pen_of : Held → Pen
pen_of p = record { number = p.number; kind = p.kind; sets = p.sets; line = line_of p.line }
