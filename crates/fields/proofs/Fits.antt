-- A script record is right and clean where words of four and eight bytes of it are as the pass asks: a word that is zero, or below a bound, has zero bytes. The bytes that
-- are read are known by the row of the command. Assumes nothing.
use mathlib.Core.Path.{◌≡◌, refl, sym, ap, ◌∙◌, subst}
use mathlib.Core.Bool.{Bool, true, false, ◌&&◌, ◌||◌, not, cond, and-true, and-false}
use mathlib.Core.List.{List}
use Prim.Native.Nat.{ℕ, zero, suc, ◌+◌, ◌*◌, ◌≤◌, ◌<◌}
use native.Mathlib.Omega.{arith}
use lib.ListN.{length, get_or, replicate, get_or-map}
use lib.Dec.{leb, ltb, eqb, leb-suc-suc}
use borrow.Author.Tests.{lt-ltb, le-ltb, lt-leb, eq-eqb, ne_eqb, ltb-true, leb-true, eqb-true}
use Rattle.rules.specs.Limits.{command_count}
use Rattle.rules.specs.Bytes.{byte, half, full, node_place, variable_place}
use Rattle.rules.specs.Script.{Row, row, rows, row_of}
use Rattle.rules.specs.Check.{operand_rule, expression_rule, fields_rule, record_rule, variable_reads, node_reads, field_reads, has_number, reads_right, reads_target, record_reads, spare_rule, variable_clean, node_clean}
use Rattle.rules.proofs.Tests.{Test, holds, fails, test, both, joined, neither, clash}
use Rattle.rules.proofs.Ranges.{all_three, other, needed}
use Rattle.rules.proofs.ReadBytes.{spare_all, spare_zero}
use Rattle.fields.specs.declared.rows.Row as Held
use Rattle.fields.specs.Fields.{rest, double, row_used}
use Rattle.fields.specs.Fits.{limits_of, target_limit, operand_fits, kind_word, right_fits, expression_fits, bare_fits, cover_fits, record_fits}

-- tests that hold together are one
pub same_tests : (x y : Bool) → (x ≡ true → y ≡ true) → (y ≡ true → x ≡ true) → x ≡ y
same_tests true y f g = sym (f refl)
same_tests false true f g = g refl
same_tests false false f g = refl

-- the three bytes of a variable and of a node that are spare
three_zero : (x y z : ℕ) → (eqb x 0 && (eqb y 0 && (eqb z 0 && true))) ≡ eqb (x + y * 256 + z * 65536) 0
three_zero x y z =
    same_tests _ _
    (λ h. let p = both (eqb x 0) _ h in
    let q = both (eqb y 0) _ p.1 in
    let r = both (eqb z 0) true q.1 in
    let u = eqb-true x 0 p.0 in
    let v = eqb-true y 0 q.0 in
    let w = eqb-true z 0 r.0 in eq-eqb (x + y * 256 + z * 65536) 0 (omega arith))
    (λ h. let e = eqb-true (x + y * 256 + z * 65536) 0 h in
    joined (eq-eqb x 0 (omega arith)) (joined (eq-eqb y 0 (omega arith)) (joined (eq-eqb z 0 (omega arith)) refl)))

rest_is : (b : List ℕ) (at : ℕ) → byte b (suc at) + byte b (suc (suc at)) * 256 + byte b (suc (suc (suc at))) * 65536 ≡ rest b at
unfolding rest
rest_is b at =
    let x = ap (byte b) {x = suc at} {y = at + 1} (omega arith) in
    let y = ap (byte b) {x = suc (suc at)} {y = at + 2} (omega arith) in
    let z = ap (byte b) {x = suc (suc (suc at))} {y = at + 3} (omega arith) in omega arith

pub variable_rest : (b : List ℕ) (i : ℕ) → variable_clean b i ≡ eqb (rest b (variable_place i)) 0
unfolding variable_clean variable_reads spare_rule
variable_rest b i =
    three_zero (byte b (suc (variable_place i))) (byte b (suc (suc (variable_place i)))) (byte b (suc (suc (suc (variable_place i)))))
    ∙ ap (λ (n : ℕ). eqb n 0) (rest_is b (variable_place i))

pub node_rest : (b : List ℕ) (base i : ℕ) → node_clean b base i ≡ eqb (rest b (node_place base i + 4)) 0
unfolding node_clean node_reads spare_rule
node_rest b base i =
    let at = suc (suc (suc (suc (node_place base i)))) in
    three_zero (byte b (suc at)) (byte b (suc (suc at))) (byte b (suc (suc (suc at))))
    ∙ ap (λ (n : ℕ). eqb n 0)
    (rest_is b at ∙ ap (rest b) {x = at} {y = node_place base i + 4} (omega arith))

-- by the limit of its kind an operand fits
below_one : (n : ℕ) → ltb n 1 ≡ eqb n 0
below_one zero = refl
below_one (suc n) = le-ltb (suc n) 1 (omega arith) ∙ sym (ne_eqb (suc n) 0 (λ (e : suc n ≡ 0). omega arith))

pub limited : (vars kind n : ℕ) → n < 4294967296 → kind < 4 → ltb n (get_or (limits_of vars) kind 0) ≡ operand_fits vars kind n
unfolding limits_of operand_fits operand_rule has_number
limited vars zero n h l = lt-ltb n 4294967296 h
limited vars (suc zero) n h l = sym (and-true (ltb n vars))
limited vars (suc (suc zero)) n h l = below_one n
limited vars (suc (suc (suc zero))) n h l = below_one n
limited vars (suc (suc (suc (suc kind)))) n h l = absurd (omega arith)

pub unlimited : (vars kind n : ℕ) → 4 ≤ kind → operand_fits vars kind n ≡ false
unfolding operand_fits operand_rule
unlimited vars kind n h = rw (lt-leb kind 3 (omega arith))

-- of a right operand its kind
kind_known : (vars kind n : ℕ) → operand_rule vars kind n ≡ true → kind ≤ 3
unfolding operand_rule
kind_known vars kind n h = leb-true kind 3 (both (leb kind 3) _ h).0

-- what no row of the table has
falses : (n k : ℕ) → get_or (replicate n false) k false ≡ false
falses zero k = refl
falses (suc n) zero = refl
falses (suc n) (suc k) = falses n k

module _ (k : ℕ) where
  -- a target that is read as two of an index, a mark and a set
  never_both : (row_of k).target ≡ true → ((row_of k).mark ≡ false) × ((row_of k).readers ≡ false)
  unfolding rows
  never_both t =
      let z : ((row_of k).target && ((row_of k).mark || (row_of k).readers)) ≡ false =
      sym (get_or-map (λ (r : Row). r.target && (r.mark || r.readers)) rows k (row false false false false false false)) ∙ falses command_count k
      in neither (row_of k).mark (row_of k).readers (rw t at z)

  -- a target that is read without an expression
  never_alone : (row_of k).expression ≡ false → ((row_of k).target ≡ false) × ((row_of k).mark ≡ false)
  unfolding rows
  never_alone t =
      let z : (not (row_of k).expression && ((row_of k).target || (row_of k).mark)) ≡ false =
      sym (get_or-map (λ (r : Row). not r.expression && (r.target || r.mark)) rows k (row false false false false false false)) ∙ falses command_count k
      in neither (row_of k).target (row_of k).mark (rw t at z)

  -- a reader set, or a set in byte 6, without an expression
  never_set : (row_of k).expression ≡ false → ((row_of k).readers ≡ false) × ((row_of k).sixth ≡ false)
  unfolding rows
  never_set t =
      let z : (not (row_of k).expression && ((row_of k).readers || (row_of k).sixth)) ≡ false =
      sym (get_or-map (λ (r : Row). not r.expression && (r.readers || r.sixth)) rows k (row false false false false false false)) ∙ falses command_count k
      in neither (row_of k).readers (row_of k).sixth (rw t at z)

  -- with an expression, a set in one of the bytes 5 and 6
  both_sets : (row_of k).expression ≡ true → (row_of k).sixth ≡ (row_of k).fifth
  unfolding rows
  both_sets t =
      let x : ((row_of k).expression && ((row_of k).fifth && not (row_of k).sixth)) ≡ false =
      sym (get_or-map (λ (r : Row). r.expression && (r.fifth && not r.sixth)) rows k (row false false false false false false)) ∙ falses command_count k
      in
      let y : ((row_of k).expression && ((row_of k).sixth && not (row_of k).fifth)) ≡ false =
      sym (get_or-map (λ (r : Row). r.expression && (r.sixth && not r.fifth)) rows k (row false false false false false false)) ∙ falses command_count k
      in same (row_of k).fifth (row_of k).sixth (rw t at x) (rw t at y)
    where
      same : (p q : Bool) → (p && not q) ≡ false → (q && not p) ≡ false → q ≡ p
      same true true x y = refl
      same true false x y = sym x
      same false true x y = y
      same false false x y = refl

-- what spare bytes of a record are zero, in words, by what it reads
module _ (b : List ℕ) (at : ℕ) (t e r p s n m : Bool) where
  abbrev reads : List Bool
  reads = field_reads t e r p s n m

  record Zero : Type 0 where
    target : t ≡ false → byte b (at + 1) ≡ 0
    fields : e ≡ false → (byte b (at + 2) ≡ 0) × (byte b (at + 3) ≡ 0)
    right : r ≡ false → byte b (at + 4) ≡ 0
    fifth : p ≡ false → byte b (at + 5) ≡ 0
    sixth : s ≡ false → byte b (at + 6) ≡ 0
    seventh : byte b (at + 7) ≡ 0
    left_number : n ≡ false → full b (at + 8) ≡ 0
    right_number : m ≡ false → full b (at + 12) ≡ 0

  zero_if : spare_rule reads b at ≡ true → Zero
  unfolding field_reads full
  zero_if rule =
      record {
        target = λ q. at_byte 1 (at + 1) (omega arith) refl q;
        fields = λ q. (at_byte 2 (at + 2) (omega arith) refl q, at_byte 3 (at + 3) (omega arith) refl q);
        right = λ q. at_byte 4 (at + 4) (omega arith) refl q;
        fifth = λ q. at_byte 5 (at + 5) (omega arith) refl q;
        sixth = λ q. at_byte 6 (at + 6) (omega arith) refl q;
        seventh = at_byte 7 (at + 7) (omega arith) refl refl;
        left_number =
            λ q. let x = at_byte 8 (at + 8) (omega arith) refl q in
            let y = at_byte 9 (at + 8 + 1) (omega arith) (omega arith) q in
            let z = at_byte 10 (at + 8 + 2) (omega arith) (omega arith) q in
            let w = at_byte 11 (at + 8 + 3) (omega arith) (omega arith) q in omega arith;
        right_number =
            λ q. let x = at_byte 12 (at + 12) (omega arith) refl q in
            let y = at_byte 13 (at + 12 + 1) (omega arith) (omega arith) q in
            let z = at_byte 14 (at + 12 + 2) (omega arith) (omega arith) q in
            let w = at_byte 15 (at + 12 + 3) (omega arith) (omega arith) q in omega arith;
      }
    where
      at_byte : (j x : ℕ) → j < 16 → x ≡ at + j → get_or reads j true ≡ false → byte b x ≡ 0
      at_byte j x l i q = ap (byte b) i ∙ spare_zero reads b at rule j l q

  if_zero : Zero → spare_rule reads b at ≡ true
  unfolding field_reads full
  if_zero z = spare_all reads b at each
    where
      each : (j : ℕ) → j < length reads → get_or reads j true ≡ false → byte b (at + j) ≡ 0
      each zero l q = clash refl q
      each (suc zero) l q = z.target q
      each (suc (suc zero)) l q = (z.fields q).0
      each (suc (suc (suc zero))) l q = (z.fields q).1
      each (suc (suc (suc (suc zero)))) l q = z.right q
      each (suc (suc (suc (suc (suc zero))))) l q = z.fifth q
      each (suc (suc (suc (suc (suc (suc zero)))))) l q = z.sixth q
      each (suc (suc (suc (suc (suc (suc (suc zero))))))) l q = z.seventh
      each (suc (suc (suc (suc (suc (suc (suc (suc zero)))))))) l q = let w = z.left_number q in omega arith
      each (suc (suc (suc (suc (suc (suc (suc (suc (suc zero))))))))) l q = let w = z.left_number q in ap (byte b) {x = at + 9} {y = at + 8 + 1} (omega arith) ∙ (omega arith)
      each (suc (suc (suc (suc (suc (suc (suc (suc (suc (suc zero)))))))))) l q = let w = z.left_number q in ap (byte b) {x = at + 10} {y = at + 8 + 2} (omega arith) ∙ (omega arith)
      each (suc (suc (suc (suc (suc (suc (suc (suc (suc (suc (suc zero))))))))))) l q = let w = z.left_number q in ap (byte b) {x = at + 11} {y = at + 8 + 3} (omega arith) ∙ (omega arith)
      each (suc (suc (suc (suc (suc (suc (suc (suc (suc (suc (suc (suc zero)))))))))))) l q = let w = z.right_number q in omega arith
      each (suc (suc (suc (suc (suc (suc (suc (suc (suc (suc (suc (suc (suc zero))))))))))))) l q = let w = z.right_number q in ap (byte b) {x = at + 13} {y = at + 12 + 1} (omega arith) ∙ (omega arith)
      each (suc (suc (suc (suc (suc (suc (suc (suc (suc (suc (suc (suc (suc (suc zero)))))))))))))) l q = let w = z.right_number q in ap (byte b) {x = at + 14} {y = at + 12 + 2} (omega arith) ∙ (omega arith)
      each (suc (suc (suc (suc (suc (suc (suc (suc (suc (suc (suc (suc (suc (suc (suc zero))))))))))))))) l q = let w = z.right_number q in ap (byte b) {x = at + 15} {y = at + 12 + 3} (omega arith) ∙ (omega arith)
      each (suc (suc (suc (suc (suc (suc (suc (suc (suc (suc (suc (suc (suc (suc (suc (suc j)))))))))))))))) l q = absurd (omega arith)

-- tests that matter only where another holds, or fails
if_so : (a c : Bool) → (a ≡ true → c ≡ true) → (not a || c) ≡ true
if_so true c f = f refl
if_so false c f = refl

if_not : (a c : Bool) → (a ≡ false → c ≡ true) → (a || c) ≡ true
if_not true c f = refl
if_not false c f = f refl

-- a byte that is a target, by its limit
by_limit : (vars t : ℕ) (i m r : Bool) → t < 256 → (i ≡ true → m ≡ false)
    → ltb t (cond i vars (cond m 4 (cond r 256 1))) ≡ ((not i || ltb t vars) && (not m || leb t 3) && (((i || m) || r) || eqb t 0))
by_limit vars t true true r h n = clash refl (n refl)
by_limit vars t true false r h n = sym (and-true _ ∙ and-true _)
by_limit vars t false true r h n = leb-suc-suc t 3 ∙ sym (and-true _)
by_limit vars t false false true h n = lt-ltb t 256 h
by_limit vars t false false false h n = below_one t

-- an operand
module _ (vars kind n : ℕ) where
  operand_to : operand_rule vars kind n ≡ true → (has_number kind ≡ false → n ≡ 0) → operand_fits vars kind n ≡ true
  unfolding operand_fits
  operand_to r z = joined r (if_not (has_number kind) (eqb n 0) (λ e. eq-eqb n 0 (z e)))

  operand_from : operand_fits vars kind n ≡ true → (operand_rule vars kind n ≡ true) × (has_number kind ≡ false → n ≡ 0)
  unfolding operand_fits
  operand_from h =
      let z = both (operand_rule vars kind n) (has_number kind || eqb n 0) h in
      (z.0, λ e. eqb-true n 0 (other (has_number kind) (eqb n 0) z.1 e))

-- the record at a place
module _ (sets : Bool) (b : List ℕ) (vars at : ℕ) (small : byte b at < command_count) where
  abbrev own : Row
  own = row_of (byte b at)

  abbrev Spare : Type 0
  Spare =
      Zero b at (reads_target b at sets) own.expression (reads_right b at) (sets && own.fifth) (sets && own.sixth)
      (own.expression && has_number (byte b (at + 3))) (reads_right b at && has_number (byte b (at + 4)))

  -- the two checks, taken apart and put together
  fits_parts : record_fits sets b vars at ≡ true → (fields_rule b vars own at ≡ true) × Spare
  unfolding record_fits record_rule record_reads
  fits_parts h =
      let z = both (record_rule b vars at) (spare_rule (record_reads b at sets) b at) h in
      ((both (ltb (byte b at) command_count) (fields_rule b vars own at) z.0).1, zero_if b at _ _ _ _ _ _ _ z.1)

  parts_fit : fields_rule b vars own at ≡ true → Spare → record_fits sets b vars at ≡ true
  unfolding record_fits record_rule record_reads
  parts_fit f z = joined (joined (lt-ltb (byte b at) command_count small) f) (if_zero b at _ _ _ _ _ _ _ z)

  next_word : full b (at + 8 + 4) ≡ full b (at + 12)
  next_word = ap (full b) {x = at + 8 + 4} {y = at + 12} (omega arith)

  -- a record with no expression
  module _ (h : own.expression ≡ false) where
    bare_right : fields_rule b vars own at ≡ true
    unfolding fields_rule
    bare_right = let z = never_alone (byte b at) h in rw (z.0, z.1, h)

    -- no target, and no set in byte 6
    bare_target : reads_target b at sets ≡ false
    unfolding reads_target
    bare_target = let n = never_alone (byte b at) h in let s = never_set (byte b at) h in rw (n.0, n.1, s.0, and-false sets)

    bare_sixth : (sets && own.sixth) ≡ false
    bare_sixth = let s = never_set (byte b at) h in rw (s.1, and-false sets)

    -- what is zero of it in any case
    record Bare : Type 0 where
      target : byte b (at + 1) ≡ 0
      operator : byte b (at + 2) ≡ 0
      left : byte b (at + 3) ≡ 0
      right : byte b (at + 4) ≡ 0
      sixth : byte b (at + 6) ≡ 0
      seventh : byte b (at + 7) ≡ 0
      left_number : full b (at + 8) ≡ 0
      right_number : full b (at + 12) ≡ 0

    spare_bare : Spare → Bare
    unfolding reads_right
    spare_bare z =
        record {
          target = z.target bare_target;
          operator = (z.fields h).0;
          left = (z.fields h).1;
          right = z.right (rw h);
          sixth = z.sixth bare_sixth;
          seventh = z.seventh;
          left_number = z.left_number (rw h);
          right_number = z.right_number (rw h);
        }

    bare_spare : Bare → ((sets && own.fifth) ≡ false → byte b (at + 5) ≡ 0) → Spare
    bare_spare z f =
        record {
          target = λ q. z.target;
          fields = λ q. (z.operator, z.left);
          right = λ q. z.right;
          fifth = f;
          sixth = λ q. z.sixth;
          seventh = z.seventh;
          left_number = λ q. z.left_number;
          right_number = λ q. z.right_number;
        }

    bytes_four : full b (at + 4) ≡ byte b (at + 4) + byte b (at + 5) * 256 + byte b (at + 6) * 65536 + byte b (at + 7) * 16777216
    unfolding full
    bytes_four =
        let p = ap (byte b) {x = at + 4 + 1} {y = at + 5} (omega arith) in
        let q = ap (byte b) {x = at + 4 + 2} {y = at + 6} (omega arith) in
        let r = ap (byte b) {x = at + 4 + 3} {y = at + 7} (omega arith) in omega arith

    first_word : Bare → full b at ≡ byte b at
    unfolding full
    first_word z = let x = z.target in let y = z.operator in let w = z.left in omega arith

    bare_words : Bare → byte b (at + 5) ≡ 0 → (double b at < 256) × (double b (at + 8) ≡ 0)
    unfolding double
    bare_words z f =
        let e = next_word in
        let g = bytes_four in
        let k = first_word z in
        let x = z.right in
        let y = z.sixth in
        let w = z.seventh in
        let u = z.left_number in
        let v = z.right_number in (omega arith, omega arith)

    words_bare : double b at < 256 → double b (at + 8) ≡ 0 → Bare × (byte b (at + 5) ≡ 0)
    unfolding double full
    words_bare u v =
        let e = next_word in
        let g = bytes_four in (
          record {
            target = omega arith;
            operator = omega arith;
            left = omega arith;
            right = omega arith;
            sixth = omega arith;
            seventh = omega arith;
            left_number = omega arith;
            right_number = omega arith;
          },
          omega arith,
        )

    bare_fits_law : (sets && own.fifth) ≡ false → record_fits sets b vars at ≡ bare_fits b at
    unfolding bare_fits
    bare_fits_law k =
        same_tests (record_fits sets b vars at) (bare_fits b at)
        (λ e. let z = (fits_parts e).1 in let w = bare_words (spare_bare z) (z.fifth k) in joined (lt-ltb (double b at) 256 w.0) (eq-eqb (double b (at + 8)) 0 w.1))
        (λ e. let w = both (ltb (double b at) 256) (eqb (double b (at + 8)) 0) e in
        let z = words_bare (ltb-true _ 256 w.0) (eqb-true _ 0 w.1) in parts_fit bare_right (bare_spare z.0 (λ q. z.1)))

    -- a cover
    cover_words : Bare → (full b at < 256) × (half b (at + 6) ≡ 0) × (double b (at + 8) ≡ 0)
    unfolding double full half
    cover_words z =
        let e = next_word in
        let g = ap (byte b) {x = at + 6 + 1} {y = at + 7} (omega arith) in
        let t = z.target in
        let o = z.operator in
        let l = z.left in
        let y = z.sixth in
        let w = z.seventh in
        let u = z.left_number in
        let v = z.right_number in (omega arith, omega arith, omega arith)

    words_cover : full b at < 256 → byte b (at + 4) ≡ 0 → half b (at + 6) ≡ 0 → double b (at + 8) ≡ 0 → Bare
    unfolding double full half
    words_cover u x y v =
        let e = next_word in
        let g = ap (byte b) {x = at + 6 + 1} {y = at + 7} (omega arith) in
        record {
          target = omega arith;
          operator = omega arith;
          left = omega arith;
          right = x;
          sixth = omega arith;
          seventh = omega arith;
          left_number = omega arith;
          right_number = omega arith;
        }

    cover_fits_law : (sets && own.fifth) ≡ true → record_fits sets b vars at ≡ cover_fits b at
    unfolding cover_fits
    cover_fits_law k =
        same_tests (record_fits sets b vars at) (cover_fits b at)
        (λ e. let z = spare_bare (fits_parts e).1 in
        let w = cover_words z in
        joined (joined (joined (lt-ltb (full b at) 256 w.0) (eq-eqb (byte b (at + 4)) 0 z.right)) (eq-eqb (half b (at + 6)) 0 w.1))
        (eq-eqb (double b (at + 8)) 0 w.2))
        (λ e. let p = both (ltb (full b at) 256 && eqb (byte b (at + 4)) 0 && eqb (half b (at + 6)) 0) (eqb (double b (at + 8)) 0) e in
        let q = all_three (ltb (full b at) 256) (eqb (byte b (at + 4)) 0) (eqb (half b (at + 6)) 0) p.0 in
        parts_fit bare_right
        (bare_spare (words_cover (ltb-true _ 256 q.0) (eqb-true _ 0 q.1) (eqb-true _ 0 q.2) (eqb-true _ 0 p.1)) (λ f. clash k f)))

  -- a record with one
  module _ (h : own.expression ≡ true) where
    abbrev operator : ℕ
    operator = byte b (at + 2)

    abbrev kind : ℕ
    kind = byte b (at + 4)

    abbrev gap : Bool
    gap = sets && own.fifth

    -- its right side
    record Right : Type 0 where
      rule : (eqb operator 0 || operand_rule vars kind (full b (at + 12))) ≡ true
      unread : reads_right b at ≡ false → kind ≡ 0
      always : gap ≡ false → (byte b (at + 5) ≡ 0) × (byte b (at + 6) ≡ 0)
      seventh : byte b (at + 7) ≡ 0
      number : (reads_right b at && has_number kind) ≡ false → full b (at + 12) ≡ 0

    -- the word is the kind where the rest of it is zero
    word_is : (gap ≡ false → (byte b (at + 5) ≡ 0) × (byte b (at + 6) ≡ 0)) → byte b (at + 7) ≡ 0 → kind_word gap b at ≡ kind
    unfolding kind_word full
    word_is f s = by (test gap)
      where
        by : Test gap → kind_word gap b at ≡ kind
        by (holds t) = rw t (omega arith)
        by (fails t) =
            let z = f t in
            let p = ap (byte b) {x = at + 4 + 1} {y = at + 5} (omega arith) in
            let q = ap (byte b) {x = at + 4 + 2} {y = at + 6} (omega arith) in
            let r = ap (byte b) {x = at + 4 + 3} {y = at + 7} (omega arith) in
            let x = z.0 in let y = z.1 in rw t (omega arith)

    -- a word that is small has the rest zero
    record Small : Type 0 where
      word : kind_word gap b at ≡ kind
      always : gap ≡ false → (byte b (at + 5) ≡ 0) × (byte b (at + 6) ≡ 0)
      seventh : byte b (at + 7) ≡ 0

    small_word : kind_word gap b at ≤ 3 → Small
    unfolding kind_word full
    small_word h = by (test gap)
      where
        by : Test gap → Small
        by (holds t) =
            let e : byte b (at + 4) + byte b (at + 7) * 16777216 ≤ 3 = rw t at h in
            record { word = rw t (omega arith); always = λ q. clash t q; seventh = omega arith }
        by (fails t) =
            let e : byte b (at + 4) + byte b (at + 4 + 1) * 256 + byte b (at + 4 + 2) * 65536 + byte b (at + 4 + 3) * 16777216 ≤ 3 = rw t at h in
            let p = ap (byte b) {x = at + 4 + 1} {y = at + 5} (omega arith) in
            let q = ap (byte b) {x = at + 4 + 2} {y = at + 6} (omega arith) in
            let r = ap (byte b) {x = at + 4 + 3} {y = at + 7} (omega arith) in
            record { word = rw t (omega arith); always = λ i. (omega arith, omega arith); seventh = omega arith }

    right_to : Right → right_fits gap b vars operator at ≡ true
    unfolding right_fits reads_right
    right_to r = by (test (eqb operator 0))
      where
        by : Test (eqb operator 0) → right_fits gap b vars operator at ≡ true
        by (holds t) =
            let u = r.unread (rw (h, t)) in
            rw t
            (joined (eq-eqb (kind_word gap b at) 0 (word_is r.always r.seventh ∙ u)) (eq-eqb (full b (at + 12)) 0 (r.number (rw (h, t)))))
        by (fails t) =
            rw (t, word_is r.always r.seventh)
            (operand_to vars kind (full b (at + 12)) (other (eqb operator 0) _ r.rule t) (λ q. r.number (rw (h, t, q))))

    right_from : right_fits gap b vars operator at ≡ true → Right
    unfolding right_fits reads_right
    right_from r = by (test (eqb operator 0))
      where
        by : Test (eqb operator 0) → Right
        by (holds t) =
            let z = both (eqb (kind_word gap b at) 0) (eqb (full b (at + 12)) 0) (rw t at r) in
            let u = eqb-true (kind_word gap b at) 0 z.0 in
            let w = small_word (omega arith) in
            record {
              rule = rw t;
              unread = λ q. sym w.word ∙ u;
              always = w.always;
              seventh = w.seventh;
              number = λ q. eqb-true (full b (at + 12)) 0 z.1;
            }
        by (fails t) =
            let z = operand_from vars (kind_word gap b at) (full b (at + 12)) (rw t at r) in
            let w = small_word (kind_known vars (kind_word gap b at) (full b (at + 12)) z.0) in
            record {
              rule = rw t (rw w.word at z.0);
              unread = λ q. clash (rw (h, t)) q;
              always = w.always;
              seventh = w.seventh;
              number = λ q. z.1 (rw w.word (rw (h, t) at q));
            }

    -- its target
    abbrev target : ℕ
    target = byte b (at + 1)

    target_fits : target < 256
        → ltb target (target_limit sets vars own) ≡ ((not own.target || ltb target vars) && (not own.mark || leb target 3) && (reads_target b at sets || eqb target 0))
    unfolding target_limit reads_target
    target_fits u = by_limit vars target own.target own.mark (sets && own.readers) u (λ q. (never_both (byte b at) q).0)

    expression_fits_law : target < 256 → record_fits sets b vars at ≡ (ltb target (target_limit sets vars own) && expression_fits gap b vars at)
    unfolding expression_fits fields_rule expression_rule
    expression_fits_law u = same_tests (record_fits sets b vars at) _ to from
      where
        to : record_fits sets b vars at ≡ true → (ltb target (target_limit sets vars own) && expression_fits gap b vars at) ≡ true
        to e =
            let p = fits_parts e in
            let z = p.1 in
            let f = all_three (not own.target || ltb target vars) (not own.mark || leb target 3) (not own.expression || expression_rule b vars at) p.0 in
            let x = all_three (leb operator 5) (operand_rule vars (byte b (at + 3)) (full b (at + 8))) (eqb operator 0 || operand_rule vars kind (full b (at + 12)))
            (needed own.expression (expression_rule b vars at) f.2 h)
            in
            joined (target_fits u ∙ joined (joined f.0 f.1) (if_not (reads_target b at sets) (eqb target 0) (λ q. eq-eqb target 0 (z.target q))))
            (joined (joined x.0 (operand_to vars (byte b (at + 3)) (full b (at + 8)) x.1 (λ q. z.left_number (rw (h, q)))))
            (right_to
            (record {
              rule = x.2;
              unread = z.right;
              always = λ q. (z.fifth q, z.sixth (rw (both_sets (byte b at) h) q));
              seventh = z.seventh;
              number = z.right_number;
            })))

        from : (ltb target (target_limit sets vars own) && expression_fits gap b vars at) ≡ true → record_fits sets b vars at ≡ true
        from e =
            let p = both (ltb target (target_limit sets vars own)) (expression_fits gap b vars at) e in
            let t = all_three (not own.target || ltb target vars) (not own.mark || leb target 3) (reads_target b at sets || eqb target 0) (sym (target_fits u) ∙ p.0) in
            let x = all_three (leb operator 5) (operand_fits vars (byte b (at + 3)) (full b (at + 8))) (right_fits gap b vars operator at) p.1 in
            let l = operand_from vars (byte b (at + 3)) (full b (at + 8)) x.1 in
            let r = right_from x.2 in
            parts_fit (joined (joined t.0 t.1) (if_so own.expression _ (λ q. joined (joined x.0 l.0) r.rule)))
            (record {
              target = λ q. eqb-true target 0 (other (reads_target b at sets) (eqb target 0) t.2 q);
              fields = λ q. clash h q;
              right = r.unread;
              fifth = λ q. (r.always q).0;
              sixth = λ q. (r.always (rw (both_sets (byte b at) h) at q)).1;
              seventh = r.seventh;
              left_number = λ q. l.1 (rw h at q);
              right_number = r.number;
            })

  -- the same by the row that the program holds
  module _ (held : Held.Row) (e : held ≡ row_used sets own) where
    pub held_bare : held.expression ≡ false → held.fifth ≡ false → record_fits sets b vars at ≡ bare_fits b at
    unfolding row_used
    held_bare = subst (λ (r : Held.Row). r.expression ≡ false → r.fifth ≡ false → record_fits sets b vars at ≡ bare_fits b at) (sym e) bare_fits_law

    pub held_cover : held.expression ≡ false → held.fifth ≡ true → record_fits sets b vars at ≡ cover_fits b at
    unfolding row_used
    held_cover = subst (λ (r : Held.Row). r.expression ≡ false → r.fifth ≡ true → record_fits sets b vars at ≡ cover_fits b at) (sym e) cover_fits_law

    pub held_expression : held.expression ≡ true → byte b (at + 1) < 256
        → record_fits sets b vars at ≡ (ltb (byte b (at + 1)) (target_limit sets vars own) && expression_fits held.fifth b vars at)
    unfolding row_used
    held_expression =
        subst
        (λ (r : Held.Row). r.expression ≡ true → byte b (at + 1) < 256
        → record_fits sets b vars at ≡ (ltb (byte b (at + 1)) (target_limit sets vars own) && expression_fits r.fifth b vars at))
        (sym e) expression_fits_law
