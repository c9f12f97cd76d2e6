-- The measure is the count of digits.
use Rattle.lines.proofs.+write_hex.Given as goal

abbrev pub decreases-write_hex : goal.decreases-write_hex
decreases-write_hex l = l.k
