-- A refused text leaves the all-zero chart.
use Rattle.desk.proofs.filing.tolwaziho_read_text.Goals as goal

pub returns-in-Err : goal.returns-in-Err
returns-in-Err c = rw (c.number.ensures, c.empty.ensures) c.in-Err.ensures
