-- The chain of checks, one link at a time: a test that fails ends it, one that passes leaves the rest. Then what the first three tests give, and the numbers with
-- which a job is turned back.
-- Assumes nothing.
use mathlib.Core.Path.{◌≡◌, refl}
use mathlib.Core.Bool.{Bool, true, false, cond}
use mathlib.Core.List.{List}
use Prim.Native.Nat.{ℕ, ◌+◌, ◌-◌, ◌*◌, ◌%◌, ◌≤◌, ◌<◌}
use native.Mathlib.Omega.{arith}
use lib.Dec.{leb, ltb, eqb}
use lib.ListN.{length}
use borrow.Author.Tests.{lt-ltb, le-ltb, ltb-false, leb-true, eqb-true}
use Rattle.rules.specs.Limits.{max_variables, max_nodes, max_records, max_bytes, trailer_size, variable_size, node_size, record_size}
use Rattle.rules.specs.Bytes.{variables_at, nodes_at, script_at, trailer_at, variable_count, node_count, record_count}
use Rattle.rules.specs.Check.{Checked, Edition, accepted, refused, first_fault, require, require_each, require_if, length_rule, whole, offset_rule, count_rule, check_script, check_records, check_bytes_by}
use Rattle.rules.specs.Run.{Buffers}
use Rattle.rules.specs.Outcome.{and_then, check_job_by, check_job}
use Rattle.rules.proofs.Tests.{Test, holds, fails, test, both, clash}
use Rattle.rules.proofs.Search.{all_pass, none_faulty}

module _ (k : ℕ) (c : Checked) {t : Bool} where
  pub turned : t ≡ false → require k t c ≡ refused k 0
  unfolding require
  turned e = rw e

  pub met : t ≡ true → require k t c ≡ c
  unfolding require
  met e = rw e

module _ (k : ℕ) (good : ℕ → Bool) (n : ℕ) (c : Checked) {r : ℕ} (e : r ≡ first_fault good n 0) where
  pub stopped : r < n → require_each k good n c ≡ refused k r
  unfolding require_each
  stopped h = rw (← e, lt-ltb r n h)

  pub through : n ≤ r → require_each k good n c ≡ c
  unfolding require_each
  through h = rw (← e, le-ltb r n h)

-- a test that every index passes leaves the rest
pub all_met : (k : ℕ) (good : ℕ → Bool) (n : ℕ) (c : Checked) → ((i : ℕ) → i < n → good i ≡ true) → require_each k good n c ≡ c
all_met k good n c h = through k good n c refl (let e = none_faulty good n h in omega arith)

-- the other way: a chain that accepts has passed the test
never : {P : Type 0} {k i : ℕ} → refused k i ≡ accepted → P
never e = let z : ◌≡◌ {A = ℕ} 0 1 = cc in absurd (omega arith)

pub passed_one : (k : ℕ) (t : Bool) (c : Checked) → require k t c ≡ accepted → (t ≡ true) × (c ≡ accepted)
unfolding require
passed_one k true c e = (refl, e)
passed_one k false c e = never e

pub passed_each : (k : ℕ) (good : ℕ → Bool) (n : ℕ) (c : Checked) → require_each k good n c ≡ accepted
    → ((i : ℕ) → i < n → good i ≡ true) × (c ≡ accepted)
unfolding require_each
passed_each k good n c e = go (test (ltb (first_fault good n 0) n))
  where
    go : Test (ltb (first_fault good n 0) n) → ((i : ℕ) → i < n → good i ≡ true) × (c ≡ accepted)
    go (holds q) = let z : refused k (first_fault good n 0) ≡ accepted = rw q at e in never z
    go (fails q) = let z : c ≡ accepted = rw q at e in (all_pass good n refl (ltb-false _ n q), z)

-- a check that an edition may not have
pub met_if : (asked : Bool) (k : ℕ) (good : ℕ → Bool) (n : ℕ) (c : Checked) → (asked ≡ true → (i : ℕ) → i < n → good i ≡ true) → require_if asked k good n c ≡ c
unfolding require_if
met_if true k good n c h = all_met k good n c (h refl)
met_if false k good n c h = refl

pub passed_if : (asked : Bool) (k : ℕ) (good : ℕ → Bool) (n : ℕ) (c : Checked) → require_if asked k good n c ≡ accepted
    → (asked ≡ true → (i : ℕ) → i < n → good i ≡ true) × (c ≡ accepted)
unfolding require_if
passed_if true k good n c e = let z = passed_each k good n c e in ((λ q. z.0), z.1)
passed_if false k good n c e = ((λ q. clash q refl), e)

-- 1
pub long_enough : (n : ℕ) → length_rule n ≡ true → trailer_size ≤ n
unfolding length_rule
long_enough n e = leb-true trailer_size n (both (leb trailer_size n) (leb n max_bytes) e).0

-- 2: the sections lie one behind the other, in front of the trailer
pub record Sections (b : List ℕ) : Type 0 where
  pub ordered : nodes_at b ≤ script_at b
  pub ended : script_at b ≤ trailer_at b
  pub variables : variable_size * variable_count b ≡ nodes_at b
  pub nodes : nodes_at b + node_size * node_count b ≡ script_at b
  pub records : script_at b + record_size * record_count b ≡ length b - trailer_size
  pub trailer : trailer_at b ≡ length b - trailer_size

whole_parts : (size from to : ℕ) → whole size from to ≡ true → (from ≤ to) × ((to - from) % size ≡ 0)
unfolding whole
whole_parts size from to e = let z = both (leb from to) (eqb ((to - from) % size) 0) e in (leb-true from to z.0, eqb-true _ 0 z.1)

pub sections : (b : List ℕ) → offset_rule b ≡ true → Sections b
unfolding offset_rule variable_count node_count record_count
sections b e =
    let w1 = both _ (whole record_size (script_at b) (trailer_at b)) e in
    let w2 = both _ (whole node_size (nodes_at b) (script_at b)) w1.0 in
    let w3 = both _ (whole variable_size 0 (nodes_at b)) w2.0 in
    let t : trailer_at b ≡ length b - trailer_size = eqb-true _ _ (both (eqb (variables_at b) 0) _ w3.0).1 in
    let r = whole_parts record_size (script_at b) (trailer_at b) w1.1 in
    let n = whole_parts node_size (nodes_at b) (script_at b) w2.1 in
    let v = whole_parts variable_size 0 (nodes_at b) w3.1 in
    record { ordered = n.0; ended = r.0; variables = omega arith; nodes = omega arith; records = omega arith; trailer = t }

-- 3
pub record Counts (vs ns rs : ℕ) : Type 0 where
  pub variables : vs ≤ max_variables
  pub some : 1 ≤ ns
  pub nodes : ns ≤ max_nodes
  pub records : rs ≤ max_records

pub counts : (vs ns rs : ℕ) → count_rule vs ns rs ≡ true → Counts vs ns rs
unfolding count_rule
counts vs ns rs e =
    let w1 = both _ (leb rs max_records) e in
    let w2 = both _ (leb ns max_nodes) w1.0 in
    let w3 = both (leb vs max_variables) (leb 1 ns) w2.0 in
    record { variables = leb-true _ _ w3.0; some = leb-true _ _ w3.1; nodes = leb-true _ _ w2.1; records = leb-true _ _ w1.1 }

-- the numbers with which a job is turned back
abbrev pub Refuses : (ℕ → Type 0) → Checked → Type 0
Refuses P accepted = Unit {0}
Refuses P (refused k i) = P k

pub refuses_with : (P : ℕ → Type 0) (c : Checked) (k i : ℕ) → c ≡ refused k i → Refuses P c → P k
refuses_with P c k i e h = rw e at h

module _ (P : ℕ → Type 0) (k : ℕ) (h : P k) where
  pub refuses_one : (t : Bool) (c : Checked) → Refuses P c → Refuses P (require k t c)
  unfolding require
  refuses_one true c g = g
  refuses_one false c g = h

  pub refuses_each : (good : ℕ → Bool) (n : ℕ) (c : Checked) → Refuses P c → Refuses P (require_each k good n c)
  unfolding require_each
  refuses_each good n c g = pick (ltb (first_fault good n 0) n)
    where
      pick : (t : Bool) → Refuses P (cond t (refused k (first_fault good n 0)) c)
      pick true = h
      pick false = g

  pub refuses_if : (asked : Bool) (good : ℕ → Bool) (n : ℕ) (c : Checked) → Refuses P c → Refuses P (require_if asked k good n c)
  unfolding require_if
  refuses_if true good n c g = refuses_each good n c g
  refuses_if false good n c g = g

refuses_then : (P : ℕ → Type 0) (c d : Checked) → Refuses P c → Refuses P d → Refuses P (and_then c d)
unfolding and_then
refuses_then P accepted d h g = g
refuses_then P (refused k i) d h g = h

-- neither that of a finished run nor that of a stop
abbrev pub Numbered : ℕ → Type 0
Numbered k = (1 ≤ k) × (k ≤ 20)

pub script_numbered : (rules : Edition) (b : List ℕ) (vars vs tree ns script rs : ℕ) (c : Checked) → Refuses Numbered c
    → Refuses Numbered (check_script rules b vars vs tree ns script rs c)
unfolding check_script
script_numbered rules b vars vs tree ns script rs c g =
    refuses_each Numbered _ (omega arith, omega arith) _ _ _
    (refuses_if Numbered _ (omega arith, omega arith) _ _ _ _
    (refuses_if Numbered _ (omega arith, omega arith) _ _ _ _
    (refuses_if Numbered _ (omega arith, omega arith) _ _ _ _ (refuses_each Numbered _ (omega arith, omega arith) _ _ _ g))))

pub job_numbered : (b : List ℕ) (budget : ℕ) (lent : Buffers) → Refuses Numbered (check_job b budget lent)
unfolding check_job check_job_by check_bytes_by check_records
job_numbered b budget lent =
    refuses_then Numbered _ _
    (refuses_one Numbered _ (omega arith, omega arith) _ _
    (refuses_one Numbered _ (omega arith, omega arith) _ _
    (refuses_one Numbered _ (omega arith, omega arith) _ _
    (refuses_each Numbered _ (omega arith, omega arith) _ _ _
    (refuses_each Numbered _ (omega arith, omega arith) _ _ _
    (refuses_if Numbered _ (omega arith, omega arith) _ _ _ _
    (refuses_each Numbered _ (omega arith, omega arith) _ _ _ (script_numbered _ b _ _ _ _ _ _ accepted tt))))))))
    (refuses_one Numbered _ (omega arith, omega arith) _ _ (refuses_one Numbered _ (omega arith, omega arith) _ _ tt))
