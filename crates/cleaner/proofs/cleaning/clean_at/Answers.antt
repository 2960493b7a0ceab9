-- `clean_at` meets its contract: one store. Assumes nothing.
use Rattle.cleaner.proofs.cleaning.clean_at.Goals as goal

pub returns : goal.returns
returns c = rw (c.store.ensures, c.clean_byte-byte.ensures)
