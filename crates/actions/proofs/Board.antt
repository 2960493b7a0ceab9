-- Laws of board lines in a byte area: the rules' reading of four bytes gives the line's number back, the fifth its readers, and a line written behind the others is one line more.
-- By the parts that an area is cut into. Assumes nothing.
use mathlib.Core.Path.{◌≡◌, refl, sym, ap, ap₂, ◌∙◌}
use mathlib.Core.Bool.{cond}
use mathlib.Core.List.{List, [], ◌∷◌, ◌++◌, IsPrefix, append_assoc, append-nil}
use Prim.Native.Nat.{ℕ, zero, suc, ◌+◌, ◌*◌, ◌/◌, ◌%◌, ◌<◌, ◌≤◌}
use native.Mathlib.Omega.{arith}
use native.Mathlib.Nat.{div-div-eq-div-mul, mod-add-div}
use lib.ListN.{length, get_or, set, take, drop, length-append, length-drop, take-append-drop}
use lib.Seq.{length-take-le, take_at, drop_at, get_or-append-add, sets-eq}
use lib.IntN.{pos}
use Rattle.rules.specs.Number.{Fits, range, bits, signed}
use Rattle.rules.specs.Bytes.{byte, full}
use Rattle.rules.specs.Level.{Level, visible}
use Rattle.rules.specs.Run.{Line}
use Rattle.rules.specs.Public.{seen_lines}
use Rattle.rules.proofs.Tests.{Test, holds, fails, test}
use Rattle.rules.proofs.Number.{bits_below, signed_bits}
use Rattle.actions.specs.Board.{four_bytes, line_bytes, spell, written, replaced, seen_board}
use Rattle.actions.specs.Shows.{Lines}

-- ---- four bytes

pub four_long : (w : ℕ) → length (four_bytes w) ≡ 4
unfolding four_bytes
four_long w = refl

-- "Numbers are little-endian": what is written is read back
pub four_read : (w : ℕ) (rest : List ℕ) → w < range → full (four_bytes w ++ rest) 0 ≡ w
unfolding four_bytes full
four_read w rest h =
    let e₁ : w / 256 / 256 ≡ w / 65536 = div-div-eq-div-mul w 256 256 in
    let e₂ : w / 65536 / 256 ≡ w / 16777216 = div-div-eq-div-mul w 65536 256 in
    digits w (w / 256) (w / 65536) (w / 16777216) (w % 256) (w / 256 % 256) (w / 65536 % 256) (w / 16777216 % 256) (mod-add-div w 256)
    (rw (← e₁) (mod-add-div (w / 256) 256)) (rw (← e₂) (mod-add-div (w / 65536) 256)) (omega arith)
  where
    digits : (w q₁ q₂ q₃ d₀ d₁ d₂ d₃ : ℕ) → d₀ + 256 * q₁ ≡ w → d₁ + 256 * q₂ ≡ q₁ → d₂ + 256 * q₃ ≡ q₂ → d₃ ≡ q₃
        → d₀ + d₁ * 256 + d₂ * 65536 + d₃ * 16777216 ≡ w
    digits w q₁ q₂ q₃ d₀ d₁ d₂ d₃ a b c d = omega arith

-- ---- a line: four bytes and its readers

pub line_long : (l : Line) → length (line_bytes l) ≡ 5
unfolding line_bytes four_bytes
line_long l = refl

line_first : (l : Line) (rest : List ℕ) → full (line_bytes l ++ rest) 0 ≡ bits l.number
unfolding line_bytes
line_first l rest =
    ap (λ (r : List ℕ). full r 0) (append_assoc (four_bytes (bits l.number)) (l.readers ∷ []) rest)
    ∙ four_read (bits l.number) ((l.readers ∷ []) ++ rest) (bits_below l.number)

line_last : (l : Line) (rest : List ℕ) → byte (line_bytes l ++ rest) 4 ≡ l.readers
unfolding line_bytes four_bytes
line_last l rest = refl

-- five bytes further on
line_byte : (l : Line) (rest : List ℕ) (at : ℕ) → byte (line_bytes l ++ rest) (5 + at) ≡ byte rest at
line_byte l rest at = rw (← line_long l) (get_or-append-add (line_bytes l) rest at 0)

line_on : (l : Line) (rest : List ℕ) (at : ℕ) → full (line_bytes l ++ rest) (5 + at) ≡ full rest at
unfolding full
line_on l rest at =
    let e₁ : 5 + at + 1 ≡ 5 + (at + 1) = omega arith in
    let e₂ : 5 + at + 2 ≡ 5 + (at + 2) = omega arith in
    let e₃ : 5 + at + 3 ≡ 5 + (at + 3) = omega arith in
    rw (e₁, e₂, e₃, line_byte l rest at, line_byte l rest (at + 1), line_byte l rest (at + 2), line_byte l rest (at + 3))

-- five stores
pub line_put : (area : List ℕ) (i : ℕ) (l : Line) {a b c d e : ℕ} → a ≡ bits l.number % 256 → b ≡ bits l.number / 256 % 256
    → c ≡ bits l.number / 65536 % 256 → d ≡ bits l.number / 16777216 % 256 → e ≡ l.readers → i + 5 ≤ length area
    → set (set (set (set (set area i a) (i + 1) b) (i + 2) c) (i + 3) d) (i + 4) e ≡ take i area ++ line_bytes l ++ drop (i + 5) area
unfolding line_bytes four_bytes
line_put area i l ea eb ec ed ee h =
    let w = bits l.number in
    let e₁ : i + 1 ≡ suc i = omega arith in
    let e₂ : i + 2 ≡ suc (suc i) = omega arith in
    let e₃ : i + 3 ≡ suc (suc (suc i)) = omega arith in
    let e₄ : i + 4 ≡ suc (suc (suc (suc i))) = omega arith in
    rw (ea, eb, ec, ed, ee, e₁, e₂, e₃, e₄) (sets-eq (w % 256 ∷ w / 256 % 256 ∷ w / 65536 % 256 ∷ w / 16777216 % 256 ∷ l.readers ∷ []) area i h)

-- ---- lines

pub spell_long : (ls : List Line) → length (spell ls) ≡ 5 * length ls
unfolding spell
spell_long [] = refl
spell_long (l ∷ ls) = omega (arith, length-append (line_bytes l) (spell ls), line_long l, spell_long ls)

pub spell_append : (ls ks : List Line) → spell (ls ++ ks) ≡ spell ls ++ spell ks
unfolding spell
spell_append [] ks = refl
spell_append (l ∷ ls) ks = ap (λ (r : List ℕ). line_bytes l ++ r) (spell_append ls ks) ∙ sym (append_assoc (line_bytes l) (spell ls) (spell ks))

pub spell_one : (l : Line) → spell (l ∷ []) ≡ line_bytes l
unfolding spell
spell_one l = append-nil (line_bytes l)

-- the beginning of lines is spelled as the beginning of their bytes
pub spell_prefix : (ls ks : List Line) → IsPrefix ls ks → IsPrefix (spell ls) (spell ks)
spell_prefix ls ks p = (spell p.0, sym (spell_append ls p.0) ∙ ap spell p.1)

-- no line
abbrev pub no_line : Line
no_line = record { number = pos 0; readers = 0 }

-- line i, read from the bytes as the rules read a number, has the bits of the line that was put out
pub line_read : (ls : List Line) (rest : List ℕ) (i : ℕ) → i < length ls → signed (full (spell ls ++ rest) (5 * i)) ≡ signed (bits (get_or ls i no_line).number)
unfolding spell
line_read [] rest i h = absurd (omega arith)
line_read (l ∷ ls) rest zero h = ap signed (ap (λ (r : List ℕ). full r 0) (append_assoc (line_bytes l) (spell ls) rest) ∙ line_first l (spell ls ++ rest))
line_read (l ∷ ls) rest (suc i) h =
    let e : 5 * suc i ≡ 5 + 5 * i = omega arith in
    rw (e, append_assoc (line_bytes l) (spell ls) rest, line_on l (spell ls ++ rest) (5 * i)) (line_read ls rest i (omega arith))

-- and is that line, where it is a 32-bit number
pub line_exact : (ls : List Line) (rest : List ℕ) (i : ℕ) → i < length ls → Fits (get_or ls i no_line).number
    → signed (full (spell ls ++ rest) (5 * i)) ≡ (get_or ls i no_line).number
line_exact ls rest i h f = line_read ls rest i h ∙ signed_bits (record { sfits = f })

-- its readers stand behind it
pub line_readers : (ls : List Line) (rest : List ℕ) (i : ℕ) → i < length ls → byte (spell ls ++ rest) (5 * i + 4) ≡ (get_or ls i no_line).readers
unfolding spell
line_readers [] rest i h = absurd (omega arith)
line_readers (l ∷ ls) rest zero h = ap (λ (r : List ℕ). byte r 4) (append_assoc (line_bytes l) (spell ls) rest) ∙ line_last l (spell ls ++ rest)
line_readers (l ∷ ls) rest (suc i) h =
    let e : 5 * suc i + 4 ≡ 5 + (5 * i + 4) = omega arith in
    rw (e, append_assoc (line_bytes l) (spell ls) rest, line_byte l (spell ls ++ rest) (5 * i + 4)) (line_readers ls rest i (omega arith))

-- what a reader sees of the bytes of lines is the bytes of what they see of the lines
pub seen_spelled : (o : Level) (ls : List Line) (rest : List ℕ) → seen_board o (length ls) (spell ls ++ rest) ≡ spell (seen_lines o ls)
unfolding seen_board spell seen_lines
seen_spelled o [] rest = refl
seen_spelled o (l ∷ ls) rest =
    rw (
      append_assoc (line_bytes l) (spell ls) rest,
      line_last l (spell ls ++ rest),
      take_at (line_bytes l) (spell ls ++ rest) 5 (line_long l),
      drop_at (line_bytes l) (spell ls ++ rest) 5 (line_long l),
      seen_spelled o ls rest,
    ) (pick (test (visible o l.readers)))
  where
    pick : Test (visible o l.readers) → cond (visible o l.readers) (line_bytes l ++ spell (seen_lines o ls)) (spell (seen_lines o ls))
        ≡ spell (cond (visible o l.readers) (l ∷ seen_lines o ls) (seen_lines o ls))
    pick (holds e) = rw e
    pick (fails e) = rw e

-- ---- an area with lines

module _ (ls : List Line) (area : List ℕ) where
  pub written_lines : take (5 * length ls) (written ls area) ≡ spell ls
  unfolding written
  written_lines = take_at (spell ls) _ _ (spell_long ls)

  pub written_rest : drop (5 * length ls) (written ls area) ≡ drop (5 * length ls) area
  unfolding written
  written_rest = drop_at (spell ls) _ _ (spell_long ls)

  pub written_seen : (o : Level) → seen_board o (length ls) (written ls area) ≡ spell (seen_lines o ls)
  unfolding written
  written_seen o = seen_spelled o ls _

  -- an area that starts with the lines, and is as it was behind them
  pub as_written : (n : ℕ) (area' : List ℕ) → Lines area' n ls → length ls ≡ n → drop (5 * n) area' ≡ drop (5 * n) area → area' ≡ written ls area
  unfolding written
  as_written n area' h many e =
      sym (take-append-drop (5 * n) area') ∙ ap₂ (λ (a b : List ℕ). a ++ b) h.are e ∙ ap (λ (k : ℕ). spell ls ++ drop (5 * k) area) (sym many)

-- every area starts with no lines
pub no_lines : {area : List ℕ} → Lines area 0 []
unfolding spell
no_lines = record { fits = omega arith; are = refl }

-- how many lines there are
pub lines_many : {area : List ℕ} {n : ℕ} {ls : List Line} → Lines area n ls → length ls ≡ n
lines_many {area} {n} {ls} h = omega (arith, spell_long ls, ap length h.are, length-take-le (5 * n) area h.fits)

-- the line n replaced, where there is room for it
module _ (area : List ℕ) (n : ℕ) (z : Line) (room : 5 * n + 5 ≤ length area) where
  front : List ℕ
  front = take (5 * n) area ++ line_bytes z

  front_long : length (take (5 * n) area ++ line_bytes z) ≡ 5 * n + 5
  front_long = omega (arith, length-append (take (5 * n) area) (line_bytes z), line_long z, length-take-le (5 * n) area (omega arith))

  pub replaced_long : length (replaced area n z) ≡ length area
  unfolding replaced
  replaced_long = omega (arith, length-append (take (5 * n) area ++ line_bytes z) (drop (5 * n + 5) area), front_long, length-drop (5 * n + 5) area)

  pub replaced_rest : drop (5 * (n + 1)) (replaced area n z) ≡ drop (5 * (n + 1)) area
  unfolding replaced
  replaced_rest =
      let k : 5 * n + 5 ≡ 5 * (n + 1) = omega arith in
      drop_at (take (5 * n) area ++ line_bytes z) _ _ (front_long ∙ k) ∙ ap (λ (j : ℕ). drop j area) k

  -- one line more
  pub lines_on : (ls : List Line) → Lines area n ls → Lines (replaced area n z) (n + 1) (ls ++ (z ∷ []))
  unfolding replaced
  lines_on ls h =
      record {
        fits = omega (arith, replaced_long);
        are =
            take_at (take (5 * n) area ++ line_bytes z) (drop (5 * n + 5) area) (5 * (n + 1)) (omega (arith, front_long))
            ∙ ap₂ (λ (a b : List ℕ). a ++ b) h.are (sym (spell_one z)) ∙ sym (spell_append ls (z ∷ []));
      }
