-- What answers are made of, piece by piece, and what each leaves waiting. Assumes nothing.
use Rattle.std.specs.Prelude.{List, [], ◌∷◌, ◌++◌, ◌≡◌, ℕ, zero, suc}
use Rattle.print.specs.Waiting.{Output, pushes, Number, Row, Listed}

-- a text; a number behind a name; a line of a name and numbers, the one at a place signed; the first n board lines of an area, each behind a name
pub data Piece : Type 0 where
  text : List ℕ → Piece
  item : List ℕ → ℕ → Piece
  row : List ℕ → List ℕ → ℕ → Piece
  board : List ℕ → List ℕ → ℕ → Piece

-- a piece more: w waited, and then v
abbrev pub Put : Piece → List ℕ → List ℕ → Type 0
Put (text t) w v = v ≡ pushes w t
Put (item name n) w v = Number n (pushes w name) v
Put (row name numbers below) w v = Row name numbers below w v
Put (board name area n) w v = Listed name area w n v

-- pieces more, one behind the other
pub data Puts : List Piece → List ℕ → List ℕ → Type 0 where
  none : {w : List ℕ} → Puts [] w w
  more : {p : Piece} {ps : List Piece} {w u v : List ℕ} → Put p w u → Puts ps u v → Puts (p ∷ ps) w v

-- a call that puts pieces
pub record Writes (ps : List Piece) (o p : Output) : Type 0 where
  pub same : p.fd ≡ o.fd
  pub puts : Puts ps o.waits p.waits

-- the pieces of the first n of something
unfoldable pub first : (ℕ → Piece) → ℕ → List Piece
first f zero = []
first f (suc n) = first f n ++ (f n ∷ [])
