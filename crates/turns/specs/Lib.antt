-- What a turn of one run, and newcomers and turns over eight places promise.
pub mod Turn
pub mod Pool
