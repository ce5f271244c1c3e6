use Rattle.still_readers.proofs.readers.Readers.has_read_at.Goals as goal

pub returns-in-Some : goal.returns-in-Some
returns-in-Some c = λ yes. let h = c.has_read.ensures yes in record { reader = c.in-Some.reader; own = c.in-Some.ensures; of_row = h.0; enrolled = h.1 }
