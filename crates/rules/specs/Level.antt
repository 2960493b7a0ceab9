-- Levels: sets of eight parties. Everything else uses a level only through these names. Assumes nothing.
use Rattle.std.specs.Prelude.{ℕ, zero, suc, ◌/◌, ◌%◌, Bool, eqb, ltb}
use Rattle.std.specs.Int.Bits.{bit_or}
use Rattle.std.specs.Int.Count.{ones}

-- "A level becomes one byte, a set of eight parties whose matters a number carries"
abbrev pub Level : Type 0
Level = ℕ

-- whether party k is in a level: its binary digit k is 1
unfoldable pub has : ℕ → Level → Bool
has zero a = eqb (a % 2) 1
has (suc k) a = has k (a / 2)

-- "0 is public": the empty set
unfoldable pub public : Level
public = 0

-- "the old 1 is the first party"
unfoldable pub secret : Level
secret = 1

-- "Joining is union"
unfoldable pub join : Level → Level → Level
join a b = bit_or a b

-- "not above means contained in": a adds nothing to b
unfoldable pub not_above : Level → Level → Bool
not_above a b = eqb (join a b) b

-- whether a number is a level: every byte is
unfoldable pub is_level : ℕ → Bool
is_level n = ltb n 256

-- a reader of level o may know what has level l: "a level being public where it is contained in that set"
unfoldable pub visible : Level → Level → Bool
visible o l = not_above l o

-- how many parties' matters a level carries
unfoldable pub parties : Level → ℕ
parties a = ones a
