-- An edition is at least 1.
use Rattle.reader.proofs.reading.Kept.{one-or-two}
use Rattle.writer.proofs.writing.file_length.Goals as goal

pub overflow_sub-said : goal.overflow_sub-said
overflow_sub-said c = (one-or-two _ c.requires.5).0
