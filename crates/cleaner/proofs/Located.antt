-- Where a byte stands and whether it is read, by the layout: the sections lie one behind the other. Assumes nothing.
use mathlib.Core.Path.{◌≡◌, refl, ap}
use Prim.Native.Nat.{ℕ, zero, suc, ◌+◌, ◌-◌, ◌/◌, ◌%◌, ◌≤◌, ◌<◌}
use native.Mathlib.Omega.{arith}
use mathlib.Core.Bool.{Bool, true, false, ◌||◌, not}
use mathlib.Core.List.{List, [], ◌∷◌}
use lib.ListN.{length, get_or}
use borrow.Author.Tests.{lt-ltb, le-ltb, eq-eqb, ne_eqb}
use Rattle.rules.specs.Bytes.{byte, nodes_at, script_at, trailer_at, record_place}
use Rattle.rules.specs.Check.{variable_reads, node_reads, record_reads}
use Rattle.rules.specs.Clean.{spot_in, spot_of, reads_at, is_read, is_dirty}
use Rattle.rules.proofs.Checks.{Sections, sections, long_enough}
use Rattle.fields.specs.declared.sections.Layout.{Layout}
use Rattle.fields.specs.Layout.{layout_of}
use Rattle.cleaner.specs.Cleaner.{Laid}

-- within a list it does not matter what would stand behind it
pub get_d_any : (xs : List Bool) (i : ℕ) (x y : Bool) → i < length xs → get_or xs i x ≡ get_or xs i y
get_d_any [] i x y h = absurd (omega arith)
get_d_any (z ∷ xs) zero x y h = refl
get_d_any (z ∷ xs) (suc i) x y h = get_d_any xs i x y (omega arith)

-- a byte that is zero is not dirty, any other is where it is not read
pub dirty_zero : (b : List ℕ) (at : ℕ) → byte b at ≡ 0 → is_dirty b at ≡ false
unfolding is_dirty
dirty_zero b at e = rw (eq-eqb (byte b at) 0 e) (by (is_read b at))
  where
    by : (a : Bool) → not (a || true) ≡ false
    by true = refl
    by false = refl

pub dirty_other : (b : List ℕ) (at : ℕ) → (byte b at ≡ 0 → ⊥) → is_dirty b at ≡ not (is_read b at)
unfolding is_dirty
dirty_other b at e = rw (ne_eqb (byte b at) 0 e) (by (is_read b at))
  where
    by : (a : Bool) → not (a || false) ≡ not a
    by true = refl
    by false = refl

module _ (b : List ℕ) (l : Layout) (d : Laid b l) where
  pub tree_at : l.tree ≡ nodes_at b
  unfolding layout_of
  tree_at = ap (λ (k : Layout). k.tree) d.layout

  pub script_at_law : l.script ≡ script_at b
  unfolding layout_of
  script_at_law = ap (λ (k : Layout). k.script) d.layout

  pub long : 8 ≤ length b
  long = long_enough (length b) d.lengths

  lie : Sections b
  lie = sections b d.offsets

  -- the spot, section by section
  pub spot_variable : (at : ℕ) → at < l.tree → spot_of b at ≡ spot_in 0 0 8 at
  unfolding spot_of
  spot_variable at h = let t = tree_at in rw (lt-ltb at (nodes_at b) (omega arith))

  pub spot_node : (at : ℕ) → l.tree ≤ at → at < l.script → spot_of b at ≡ spot_in 1 l.tree 12 at
  unfolding spot_of
  spot_node at g h =
      let t = tree_at in let s = script_at_law in rw (t, le-ltb at (nodes_at b) (omega arith), lt-ltb at (script_at b) (omega arith))

  pub spot_record : (at : ℕ) → l.script ≤ at → at < length b - 8 → spot_of b at ≡ spot_in 2 l.script 16 at
  unfolding spot_of
  spot_record at g h =
      let s = script_at_law in
      let y = lie in
      rw (s, le-ltb at (nodes_at b) (omega arith), le-ltb at (script_at b) (omega arith), lt-ltb at (trailer_at b) (omega arith))

  pub spot_trailer : (at : ℕ) → length b - 8 ≤ at → spot_of b at ≡ spot_in 3 (length b - 8) 8 at
  unfolding spot_of
  spot_trailer at h =
      let y = lie in
      rw (le-ltb at (nodes_at b) (omega arith), le-ltb at (script_at b) (omega arith), le-ltb at (trailer_at b) (omega arith))
      (ap (λ (k : ℕ). spot_in 3 k 8 at) y.trailer)

  -- what is read, section by section
  pub read_variable : (at : ℕ) → at < l.tree → is_read b at ≡ get_or variable_reads (at % 8) true
  unfolding is_read reads_at spot_in
  read_variable at h = let z : at - 0 ≡ at = omega arith in rw (spot_variable at h, z)

  pub read_node : (at : ℕ) → l.tree ≤ at → at < l.script → is_read b at ≡ get_or node_reads ((at - l.tree) % 12) true
  unfolding is_read reads_at spot_in
  read_node at g h = rw (spot_node at g h)

  pub read_record : (at : ℕ) → l.script ≤ at → at < length b - 8
      → is_read b at ≡ get_or (record_reads b (record_place l.script ((at - l.script) / 16)) false) ((at - l.script) % 16) true
  unfolding is_read reads_at spot_in
  read_record at g h = rw (spot_record at g h, script_at_law)

  pub read_trailer : (at : ℕ) → length b - 8 ≤ at → is_read b at ≡ true
  unfolding is_read reads_at spot_in
  read_trailer at h = rw (spot_trailer at h)

  -- a record of the script lies within the bytes
  pub record_within : (at : ℕ) → l.script ≤ at → at < length b - 8 → record_place l.script ((at - l.script) / 16) + 16 ≤ length b
  record_within at g h = let s = script_at_law in let y = lie in let n = long in omega arith
