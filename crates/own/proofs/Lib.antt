-- The laws of the run over node records of its own.
mod Owning
