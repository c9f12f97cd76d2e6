-- What one step of the printing answers: how many bytes were printed, and where the printing then stands. A length of 0: nothing was printed.
use Rattle.std.specs.Prelude.{ℕ}
use Rattle.report.specs.declared.printing.Standing.{Standing}

pub record Printed : Type 0 where
  pub length : ℕ
  pub standing : Standing

abbrev pub printed_as : ℕ → Standing → Printed
printed_as length standing = record { length = length; standing = standing }
