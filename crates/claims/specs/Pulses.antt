-- Document 02, request (ii): "P is now active only in the call that enters the step, like P1." So P and P1 give the same activity in every call:
-- charts that differ at most in P where the other has P1 answer every start and every cycle alike.
use Prim.Native.Nat.{ℕ}
use Rattle.std.specs.Prelude.{cond, ◌≡◌, eqb}
use mathlib.Core.List.{List, map}
use Rattle.fields.specs.Fields.{P, P1}
use Rattle.chart.specs.declared.chart.Chart.{Chart}
use Rattle.chart.specs.Chart.{chart_of}

-- P1 for P
abbrev pub as_p1 : ℕ → ℕ
as_p1 q = cond (eqb q P) P1 q

-- a chart with other qualifiers
abbrev pub qualified : Chart → List ℕ → Chart
qualified c qualifier =
    chart_of c.steps c.actions c.transitions c.blocks c.cases c.initial c.output c.value c.sources c.targets c.on c.off c.wait c.blockstep c.blockaction qualifier c.duration c.casestep c.signal c.expected c.edition

-- a chart with P1 where it has P
abbrev pub with_p1 : Chart → Chart
with_p1 c = qualified c (map as_p1 c.qualifier)

-- two charts that differ at most in P where the other has P1
abbrev pub Alike : Chart → Chart → Type 0
Alike c d = with_p1 c ≡ with_p1 d
