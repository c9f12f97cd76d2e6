-- Reading on from here gives the whole answer. Each turn goes past a head, so the bytes that are left fall.
use Rattle.std.proofs.Common.{◌-◌, length}
use Rattle.reader.proofs.reading.Laws.{Onward}
use Rattle.reader.proofs.reading.read_records.Given as goal

abbrev pub invariant-loop-record : goal.invariant-loop-record
invariant-loop-record l = Onward l.bytes l.at l.before l.chart

abbrev pub decreases-loop-record : goal.decreases-loop-record
decreases-loop-record l = length l.bytes - l.at
