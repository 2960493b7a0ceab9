-- R-4: what a script record means, and whether it passes, depends only on the bytes that it reads. Assumes nothing.
use mathlib.Core.Path.{◌≡◌, refl, ap, ap₂, ◌∙◌}
use Prim.Native.Nat.{ℕ, zero, suc, ◌+◌, ◌<◌}
use native.Mathlib.Omega.{arith}
use mathlib.Core.Bool.{Bool, true, false, ◌&&◌, ◌||◌, not}
use mathlib.Core.List.{List, [], ◌∷◌}
use lib.ListN.{length, get_or}
use lib.Dec.{leb, ltb, eqb}
use borrow.Author.Tests.{eqb-true, eq-eqb, ne_eqb, lt-ltb, not-true}
use Rattle.rules.specs.Limits.{command_count}
use Rattle.rules.specs.Level.{Level}
use Rattle.rules.specs.Tree.{child, sibling}
use Rattle.rules.specs.Bytes.{byte, full}
use Rattle.rules.specs.Script.{rows, row_of, Operand, Expression, Command, act, Action, content_set, list_set, cover_set, commands}
use Rattle.rules.specs.Check.{operand_rule, expression_rule, fields_rule, record_rule, variable_reads, node_reads, field_reads, has_number, reads_right, reads_target, record_reads, spare_rule}
use Rattle.rules.specs.Job.{operand, expression, expression_of, set_at, command_by}
use Rattle.rules.proofs.Tests.{Test, holds, fails, test, both as both_hold, joined, clash}

-- what stands behind a test matters only where it holds
pub and_agree : (a : Bool) {x y : Bool} → (a ≡ true → x ≡ y) → (a && x) ≡ (a && y)
and_agree true h = h refl
and_agree false h = refl

if_agree : (a : Bool) {x y : Bool} → (a ≡ true → x ≡ y) → (not a || x) ≡ (not a || y)
if_agree true h = h refl
if_agree false h = refl

pub unless_agree : (a : Bool) {x y : Bool} → (a ≡ false → x ≡ y) → (a || x) ≡ (a || y)
unless_agree true h = refl
unless_agree false h = h refl

or_one : (a c : Bool) → a ≡ true → (a || c) ≡ true
or_one true c e = refl
or_one false c e = clash e refl

or_other : (a c : Bool) → c ≡ true → (a || c) ≡ true
or_other true c e = refl
or_other false c e = e

-- kinds 2 and 3 do not read the number
operand_agree : (kind n m : ℕ) → (has_number kind ≡ true → n ≡ m) → operand kind n ≡ operand kind m
unfolding operand has_number
operand_agree zero n m h = ap (operand 0) (h refl)
operand_agree (suc zero) n m h = ap (operand 1) (h refl)
operand_agree (suc (suc zero)) n m h = refl
operand_agree (suc (suc (suc k))) n m h = refl

-- operator 0 does not read the right side
expression_agree : (o : ℕ) (l r s : Operand) → (eqb o 0 ≡ false → r ≡ s) → expression o l r ≡ expression o l s
unfolding expression
expression_agree zero l r s h = refl
expression_agree (suc o) l r s h = ap (expression (suc o) l) (h (ne_eqb (suc o) 0 (λ (e : suc o ≡ 0). omega arith)))

-- each command reads what its row names
command_reads : (k t u : ℕ) (r s p p' q q' : Level) (e f : Expression) → (((row_of k).target || (row_of k).mark) ≡ true → t ≡ u)
    → ((row_of k).readers ≡ true → r ≡ s) → ((row_of k).fifth ≡ true → p ≡ p') → ((row_of k).sixth ≡ true → q ≡ q') → ((row_of k).expression ≡ true → e ≡ f)
    → get_or (commands t r p q e) k (act Action.skip) ≡ get_or (commands u s p' q' f) k (act Action.skip)
unfolding rows commands
command_reads zero t u r s p p' q q' e f h m v w g = refl
command_reads (suc zero) t u r s p p' q q' e f h m v w g = ap₂ (λ (x : ℕ) (y : Expression). act (Action.assign x y)) (h refl) (g refl)
command_reads (suc (suc zero)) t u r s p p' q q' e f h m v w g = ap Command.if (g refl)
command_reads (suc (suc (suc zero))) t u r s p p' q q' e f h m v w g = refl
command_reads (suc (suc (suc (suc zero)))) t u r s p p' q q' e f h m v w g = ap Command.while (g refl)
command_reads (suc (suc (suc (suc (suc zero))))) t u r s p p' q q' e f h m v w g = refl
command_reads (suc (suc (suc (suc (suc (suc zero)))))) t u r s p p' q q' e f h m v w g = ap₂ (λ (x : Level) (y : Expression). act (Action.output x y)) (m refl) (g refl)
command_reads (suc (suc (suc (suc (suc (suc (suc zero))))))) t u r s p p' q q' e f h m v w g = refl
command_reads (suc (suc (suc (suc (suc (suc (suc (suc zero)))))))) t u r s p p' q q' e f h m v w g = refl
command_reads (suc (suc (suc (suc (suc (suc (suc (suc (suc zero))))))))) t u r s p p' q q' e f h m v w g = refl
command_reads (suc (suc (suc (suc (suc (suc (suc (suc (suc (suc zero)))))))))) t u r s p p' q q' e f h m v w g = refl
command_reads (suc (suc (suc (suc (suc (suc (suc (suc (suc (suc (suc zero))))))))))) t u r s p p' q q' e f h m v w g =
    λ i. act (Action.insert child (content_set (h refl i) (v refl i)) (list_set (h refl i) (w refl i)) (g refl i))
command_reads (suc (suc (suc (suc (suc (suc (suc (suc (suc (suc (suc (suc zero)))))))))))) t u r s p p' q q' e f h m v w g =
    λ i. act (Action.insert sibling (content_set (h refl i) (v refl i)) (list_set (h refl i) (w refl i)) (g refl i))
command_reads (suc (suc (suc (suc (suc (suc (suc (suc (suc (suc (suc (suc (suc zero))))))))))))) t u r s p p' q q' e f h m v w g = refl
command_reads (suc (suc (suc (suc (suc (suc (suc (suc (suc (suc (suc (suc (suc (suc zero)))))))))))))) t u r s p p' q q' e f h m v w g = refl
command_reads (suc (suc (suc (suc (suc (suc (suc (suc (suc (suc (suc (suc (suc (suc (suc zero))))))))))))))) t u r s p p' q q' e f h m v w g =
    ap (λ (y : Expression). act (Action.write y)) (g refl)
command_reads (suc (suc (suc (suc (suc (suc (suc (suc (suc (suc (suc (suc (suc (suc (suc (suc zero)))))))))))))))) t u r s p p' q q' e f h m v w g =
    ap (λ (x : Level). act (Action.raise (cover_set x))) (v refl)
command_reads (suc (suc (suc (suc (suc (suc (suc (suc (suc (suc (suc (suc (suc (suc (suc (suc (suc zero))))))))))))))))) t u r s p p' q q' e f h m v w g =
    ap Command.ifBack (g refl)
command_reads (suc (suc (suc (suc (suc (suc (suc (suc (suc (suc (suc (suc (suc (suc (suc (suc (suc (suc k)))))))))))))))))) t u r s p p' q q' e f h m v w g = refl

-- two jobs with the same bytes where the record at a place is read
module _
    (sets : Bool) (b c : List ℕ) (at : ℕ) (agree : (j x : ℕ) → j < 16 → x ≡ at + j → get_or (record_reads b at sets) j true ≡ true → byte c x ≡ byte b x)
  where
    pub command_same : byte c at ≡ byte b at
    unfolding record_reads field_reads
    command_same = agree 0 at (omega arith) (omega arith) refl

    target_same : ((row_of (byte b at)).target || (row_of (byte b at)).mark) ≡ true → byte c (at + 1) ≡ byte b (at + 1)
    unfolding record_reads field_reads reads_target
    target_same h = agree 1 (at + 1) (omega arith) refl (or_one _ _ h)

    -- the sets that the record holds
    set_same : (x : ℕ) → (sets ≡ true → byte c x ≡ byte b x) → set_at sets c x ≡ set_at sets b x
    unfolding set_at
    set_same x h = pick (test sets)
      where
        pick : Test sets → set_at sets c x ≡ set_at sets b x
        pick (holds e) = rw (e, h e)
        pick (fails e) = rw e

    readers_same : (row_of (byte b at)).readers ≡ true → set_at sets c (at + 1) ≡ set_at sets b (at + 1)
    unfolding record_reads field_reads reads_target
    readers_same h =
        set_same (at + 1)
        (λ e. let z : (sets && (row_of (byte b at)).readers) ≡ true = rw (e, h) in agree 1 (at + 1) (omega arith) refl (or_other ((row_of (byte b at)).target || (row_of (byte b at)).mark) _ z))

    fifth_same : (row_of (byte b at)).fifth ≡ true → set_at sets c (at + 5) ≡ set_at sets b (at + 5)
    unfolding record_reads field_reads
    fifth_same h = set_same (at + 5) (λ e. let z : (sets && (row_of (byte b at)).fifth) ≡ true = rw (e, h) in agree 5 (at + 5) (omega arith) refl z)

    sixth_same : (row_of (byte b at)).sixth ≡ true → set_at sets c (at + 6) ≡ set_at sets b (at + 6)
    unfolding record_reads field_reads
    sixth_same h = set_same (at + 6) (λ e. let z : (sets && (row_of (byte b at)).sixth) ≡ true = rw (e, h) in agree 6 (at + 6) (omega arith) refl z)

    module _ (h : (row_of (byte b at)).expression ≡ true) where
      operator_same : byte c (at + 2) ≡ byte b (at + 2)
      unfolding record_reads field_reads
      operator_same = agree 2 (at + 2) (omega arith) refl h

      left_same : byte c (at + 3) ≡ byte b (at + 3)
      unfolding record_reads field_reads
      left_same = agree 3 (at + 3) (omega arith) refl h

      right_read : eqb (byte b (at + 2)) 0 ≡ false → reads_right b at ≡ true
      unfolding reads_right
      right_read e = rw (h, e)

      right_same : eqb (byte b (at + 2)) 0 ≡ false → byte c (at + 4) ≡ byte b (at + 4)
      unfolding record_reads field_reads
      right_same e = agree 4 (at + 4) (omega arith) refl (right_read e)

      left_number : has_number (byte b (at + 3)) ≡ true → full c (at + 8) ≡ full b (at + 8)
      unfolding record_reads field_reads full
      left_number e =
          let z : ((row_of (byte b at)).expression && has_number (byte b (at + 3))) ≡ true = rw (h, e) in
          let p = agree 8 (at + 8) (omega arith) refl z in
          let q = agree 9 (at + 8 + 1) (omega arith) (omega arith) z in
          let r = agree 10 (at + 8 + 2) (omega arith) (omega arith) z in
          let s = agree 11 (at + 8 + 3) (omega arith) (omega arith) z in omega arith

      right_number : eqb (byte b (at + 2)) 0 ≡ false → has_number (byte b (at + 4)) ≡ true → full c (at + 12) ≡ full b (at + 12)
      unfolding record_reads field_reads full
      right_number w e =
          let z : (reads_right b at && has_number (byte b (at + 4))) ≡ true = rw (right_read w, e) in
          let p = agree 12 (at + 12) (omega arith) refl z in
          let q = agree 13 (at + 12 + 1) (omega arith) (omega arith) z in
          let r = agree 14 (at + 12 + 2) (omega arith) (omega arith) z in
          let s = agree 15 (at + 12 + 3) (omega arith) (omega arith) z in omega arith

      expression_same : expression_of c at ≡ expression_of b at
      unfolding expression_of
      expression_same =
          rw (operator_same, left_same, operand_agree (byte b (at + 3)) (full c (at + 8)) (full b (at + 8)) left_number)
          (expression_agree (byte b (at + 2)) _ _ _ (λ w. rw (right_same w) (operand_agree (byte b (at + 4)) (full c (at + 12)) (full b (at + 12)) (right_number w))))

      kind_agree : (vars kind n m : ℕ) → (has_number kind ≡ true → n ≡ m) → operand_rule vars kind n ≡ operand_rule vars kind m
      unfolding operand_rule has_number
      kind_agree vars kind n m g =
          ap (λ (x : Bool). leb kind 3 && x)
          (if_agree (eqb kind 1) (λ e. let z = eqb-true kind 1 e in ap (λ (k : ℕ). ltb k vars) (g (lt-ltb kind 2 (omega arith)))))

      expression_rule_law : (vars : ℕ) → expression_rule c vars at ≡ expression_rule b vars at
      unfolding expression_rule
      expression_rule_law vars =
          rw (operator_same, left_same, kind_agree vars (byte b (at + 3)) (full c (at + 8)) (full b (at + 8)) left_number)
          (ap (λ (x : Bool). leb (byte b (at + 2)) 5 && operand_rule vars (byte b (at + 3)) (full b (at + 8)) && x)
          (unless_agree (eqb (byte b (at + 2)) 0)
          (λ w. rw (right_same w) (kind_agree vars (byte b (at + 4)) (full c (at + 12)) (full b (at + 12)) (right_number w)))))

    pub same_command : command_by sets c at ≡ command_by sets b at
    unfolding command_by
    same_command = rw command_same (command_reads (byte b at) _ _ _ _ _ _ _ _ _ _ target_same readers_same fifth_same sixth_same expression_same)

    pub same_rule : (vars : ℕ) → record_rule c vars at ≡ record_rule b vars at
    unfolding record_rule fields_rule
    same_rule vars =
        rw command_same
        (ap (λ (x : Bool). ltb (byte b at) command_count && x)
        (ap₂ ◌&&◌
        (ap₂ ◌&&◌ (if_agree (row_of (byte b at)).target (λ e. ap (λ (k : ℕ). ltb k vars) (target_same (or_one (row_of (byte b at)).target (row_of (byte b at)).mark e))))
        (if_agree (row_of (byte b at)).mark (λ e. ap (λ (k : ℕ). leb k 3) (target_same (or_other (row_of (byte b at)).target (row_of (byte b at)).mark e)))))
        (if_agree (row_of (byte b at)).expression (λ e. expression_rule_law e vars))))

    reads_right_law : reads_right c at ≡ reads_right b at
    unfolding reads_right
    reads_right_law = rw command_same (and_agree (row_of (byte b at)).expression (λ e. ap (λ (k : ℕ). not (eqb k 0)) (operator_same e)))

    right_kind : reads_right b at ≡ true → byte c (at + 4) ≡ byte b (at + 4)
    unfolding reads_right
    right_kind w =
        let z = both_hold (row_of (byte b at)).expression (not (eqb (byte b (at + 2)) 0)) w in right_same z.0 (not-true _ z.1)

    pub same_reads : record_reads c at sets ≡ record_reads b at sets
    unfolding record_reads reads_target
    same_reads =
        rw (command_same, reads_right_law)
        (ap₂
        (field_reads (((row_of (byte b at)).target || (row_of (byte b at)).mark) || (sets && (row_of (byte b at)).readers)) (row_of (byte b at)).expression
        (reads_right b at) (sets && (row_of (byte b at)).fifth) (sets && (row_of (byte b at)).sixth))
        (and_agree (row_of (byte b at)).expression (λ e. ap has_number (left_same e)))
        (and_agree (reads_right b at) (λ w. ap has_number (right_kind w))))

-- the check of a record's spare bytes, byte by byte
pub spare_all : (rs : List Bool) (c : List ℕ) (at : ℕ) → ((j : ℕ) → j < length rs → get_or rs j true ≡ false → byte c (at + j) ≡ 0) → spare_rule rs c at ≡ true
unfolding spare_rule
spare_all [] c at h = refl
spare_all (r ∷ rs) c at h =
    joined (one r (λ e. h 0 (omega arith) e))
    (spare_all rs c (suc at) (λ j l e. ap (byte c) {x = suc at + j} {y = at + suc j} (omega arith) ∙ h (suc j) (omega arith) e))
  where
    one : (a : Bool) → (a ≡ false → byte c (at + 0) ≡ 0) → (a || eqb (byte c at) 0) ≡ true
    one true g = refl
    one false g = let z : at + 0 ≡ at = omega arith in eq-eqb (byte c at) 0 (rw z at (g refl))

pub spare_zero : (rs : List Bool) (c : List ℕ) (at : ℕ) → spare_rule rs c at ≡ true → (j : ℕ) → j < length rs → get_or rs j true ≡ false → byte c (at + j) ≡ 0
unfolding spare_rule
spare_zero [] c at h j l e = absurd (omega arith)
spare_zero (r ∷ rs) c at h zero l e =
    let z : at + 0 ≡ at = omega arith in
    rw z (eqb-true (byte c at) 0 (rw e at (both_hold (r || eqb (byte c at) 0) (spare_rule rs c (suc at)) h).0))
spare_zero (r ∷ rs) c at h (suc j) l e =
    ap (byte c) {x = at + suc j} {y = suc at + j} (omega arith)
    ∙ spare_zero rs c (suc at) (both_hold (r || eqb (byte c at) 0) (spare_rule rs c (suc at)) h).1 j (omega arith) e

-- the sizes of the three records
pub records_16 : (sets : Bool) (b : List ℕ) (at : ℕ) → length (record_reads b at sets) ≡ 16
unfolding record_reads field_reads
records_16 sets b at = refl

pub variables_8 : length variable_reads ≡ 8
unfolding variable_reads
variables_8 = refl

pub nodes_12 : length node_reads ≡ 12
unfolding node_reads
nodes_12 = refl
