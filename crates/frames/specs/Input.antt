-- What comes of the input, and the state that this leaves. What the system puts into a block is not known: any bytes, and any number of them. Assumes
-- nothing.
use Rattle.std.specs.Prelude.{cond, List, [], ◌∷◌, ◌≡◌, ℕ, suc, ◌≤◌, ◌<◌, ltb, length, replicate, take, Result, Ok, Err, IfOk}
use Rattle.std.specs.declared.io.Stdin.{Stdin}
use Rattle.print.specs.Waiting.{Output}
use Rattle.rules.specs.Bytes.{full}
use Rattle.frames.specs.Block.{Block, at, unread}
use Rattle.frames.specs.Header.{header_at}
use Rattle.frames.specs.declared.Ended.{Ended}
use Rattle.frames.specs.declared.Event.{Event}
use Rattle.frames.specs.declared.State.{State}

-- a byte is wanted: where nothing is left of the block w, another is read, of which nothing is handed out yet
pub data Ready (w v : Block) : Type 0 where
  same : 0 < length w.left → v ≡ w → Ready w v
  anew : w.left ≡ [] → v.gone ≡ 0 → Ready w v

-- a byte is handed out: the first that is left
pub record Handed (w : Block) (x : ℕ) (v : Block) : Type 0 where
  pub before : ℕ
  pub ready : Ready w (at v before (x ∷ v.left))
  pub next : v.gone ≡ suc before

-- bytes that came one by one
pub data Comes : Block → List ℕ → Block → Type 0 where
  none : {w : Block} → Comes w [] w
  more : {x : ℕ} {w u v : Block} {l : List ℕ} → Handed w x u → Comes u l v → Comes w (x ∷ l) v

-- n bytes were wanted and came; or fewer, since the input has ended: the block that was read then is empty
pub data Gives (w : Block) (n : ℕ) (l : List ℕ) (v : Block) : Type 0 where
  all : length l ≡ n → Comes w l v → Gives w n l v
  fewer : {u : Block} → length l < n → Comes w l u → u.left ≡ [] → Ready u v → v.left ≡ [] → Gives w n l v

-- bytes over the first of others, as far as there are so many
unfoldable pub onto : List ℕ → List ℕ → List ℕ
onto [] t = t
onto (x ∷ l) [] = []
onto (x ∷ l) (y ∷ t) = x ∷ onto l t

-- n bytes were wanted, and those that came, so many, were put over `old`
pub record Takes (w : Block) (n : ℕ) (old new : List ℕ) (v : Block) (count : ℕ) : Type 0 where
  pub came : List ℕ
  pub gives : Gives w n came v
  pub counted : count ≡ length came
  pub put : new ≡ onto came old

-- output to a file descriptor, of which nothing waits
abbrev pub written : ℕ → Output
written fd = record { fd = fd; waits = [] }

-- before n bytes are read: what waits is written out where the block does not have so many
unfoldable pub settled : State → ℕ → Output
settled s n = cond (ltb (length s.input.left) n) (written s.out.fd) s.out

-- before the first frame: answers go to standard output
abbrev pub started : Stdin → State
started stdin = record { input = unread stdin; out = written 1 }

-- nothing waits
abbrev pub finished : State → State
finished s = record { input = s.input; out = written s.out.fd }

-- n bytes were wanted, and what waits settled before: they came, and the input goes on; or it has ended, and nothing waits
pub data Reads {X : Type 0} (s : State) (n : ℕ) (old new : List ℕ) (t : State) (r : Result X Ended) : Type 0 where
  goes : {count : ℕ} {x : X} → Takes s.input n old new t.input count → n ≤ count → t.out ≡ settled s n → r ≡ Ok x → Reads s n old new t r
  ends : {count : ℕ} {e : Ended} → Takes s.input n old new t.input count → count < n → t.out ≡ written s.out.fd → r ≡ Err e → Reads s n old new t r

-- no more waits, and what still waits has not changed
abbrev pub Keeps : Output → Output → Type 0
Keeps o p = p.waits ≡ take (length p.waits) o.waits

-- sixteen bytes were wanted: the kind in 4 bytes, and the header
pub record Comprises (s t : State) (r : Result Event Ended) : Type 0 where
  pub bytes : List ℕ
  pub reads : Reads s 16 (replicate 16 0) bytes t r
  pub event : IfOk r (λ e. (e.kind ≡ full bytes 0) × (e.header ≡ header_at bytes 4))
