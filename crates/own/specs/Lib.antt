-- What the public runs over node records of their own promise.
pub mod Own
