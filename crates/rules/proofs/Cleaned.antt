-- The cleaner: byte by byte a job is cleaned, and on the way it is read as before; the cleaned job passes the checks with 12 and runs as the old one; a clean
-- job stays as it is. All by the law that a job is what its read bytes say. Assumes nothing.
use mathlib.Core.Path.{◌≡◌, refl, sym, ap, ◌∙◌}
use Prim.Native.Nat.{ℕ, suc, ◌≤◌, ◌<◌}
use native.Mathlib.Omega.{arith}
use native.Mathlib.Decide.{ℕ_discrete}
use mathlib.Core.Bool.{true, false}
use mathlib.Core.List.{List}
use lib.ListN.{length, set, length-set, get_or-eq_default}
use lib.Seq.{ext_get_or, get_or-set_same, get_or-set_other}
use lib.Dec.{ltb}
use borrow.Author.Tests.{ltb-true, ltb-false}
use Rattle.rules.specs.Bytes.{byte, nodes_at, script_at, variable_count, node_count, record_count, variable_place, node_place, record_place}
use Rattle.rules.specs.Check.{accepted, variable_reads, node_reads, record_reads, variable_clean, node_clean, record_clean}
use Rattle.rules.specs.Check.{first, clean, check_bytes_by}
use Rattle.rules.specs.Run.{Buffers}
use Rattle.rules.specs.Outcome.{run_job_by}
use Rattle.rules.specs.Clean.{is_read, clean_byte, cleaned}
use Rattle.rules.proofs.Tests.{Test, holds, fails, test, clash}
use Rattle.rules.proofs.Decode.{listed_length, listed_from_zero}
use Rattle.rules.proofs.ReadBytes.{spare_all, spare_zero, records_16, variables_8, nodes_12}
use Rattle.rules.proofs.Accepted.{Clean, Right, RightBy, right_by, accept_by}
use Rattle.rules.proofs.SameReads.{laid, Lies, in_variable, in_node, in_record, in_trailer, lies, read_variable, read_node, read_record, read_trailer, Agreed}
use Rattle.rules.proofs.SameReads.{around, around_script, around_runs, record_reads_law, same_tree, same_right, same_house}

-- the bytes of a job that is cleaned as far as byte n
pub record Partly (b : List ℕ) (n : ℕ) (c : List ℕ) : Type 0 where
  pub long : length c ≡ length b
  pub done : (x : ℕ) → x < n → byte c x ≡ clean_byte b x
  pub left : (x : ℕ) → n ≤ x → byte c x ≡ byte b x

module _ (b : List ℕ) where
  kept : (x : ℕ) → is_read b x ≡ true → clean_byte b x ≡ byte b x
  unfolding clean_byte
  kept x h = rw h

  zeroed : (x : ℕ) → is_read b x ≡ false → clean_byte b x ≡ 0
  unfolding clean_byte
  zeroed x h = rw h

  pub partly_agreed : (n : ℕ) (c : List ℕ) → Partly b n c → Agreed b c
  partly_agreed n c p = record { long = p.long; bytes = λ x h. by x h (test (ltb x n)) }
    where
      by : (x : ℕ) → is_read b x ≡ true → Test (ltb x n) → byte c x ≡ byte b x
      by x h (holds t) = p.done x (ltb-true x n t) ∙ kept x h
      by x h (fails t) = p.left x (ltb-false x n t)

  pub partly_start : Partly b 0 b
  partly_start = record { long = refl; done = λ x h. absurd (omega arith); left = λ x h. refl }

  pub partly_next : (n : ℕ) (c : List ℕ) → Partly b n c → n < length b → Partly b (suc n) (set c n (clean_byte b n))
  partly_next n c p m =
      record {
        long = length-set c n _ ∙ p.long;
        done = λ x l. by x l (ℕ_discrete x n);
        left = λ x l. get_or-set_other c n x _ 0 (λ e. omega arith) ∙ p.left x (omega arith);
      }
    where
      by : (x : ℕ) → x < suc n → Dec (x ≡ n) → byte (set c n (clean_byte b n)) x ≡ clean_byte b x
      by x l (yes e) = rw e (get_or-set_same c n _ 0 (let z = p.long in omega arith))
      by x l (no e) = get_or-set_other c n x _ 0 e ∙ p.done x (omega arith)

  pub cleaned_long : length (cleaned b) ≡ length b
  unfolding cleaned
  cleaned_long = listed_length (clean_byte b) (length b) 0

  cleaned_within : (x : ℕ) → x < length b → byte (cleaned b) x ≡ clean_byte b x
  unfolding cleaned
  cleaned_within x h = listed_from_zero (clean_byte b) 0 (length b) x h

  pub partly_done : (n : ℕ) (c : List ℕ) → Partly b n c → length b ≤ n → c ≡ cleaned b
  partly_done n c p h =
      ext_get_or 0 c (cleaned b) (p.long ∙ sym cleaned_long) (λ x l. let z = p.long in p.done x (omega arith) ∙ sym (cleaned_within x (omega arith)))

  pub cleaned_partly : Partly b (length b) (cleaned b)
  cleaned_partly =
      record {
        long = cleaned_long;
        done = cleaned_within;
        left = λ x l. let z = cleaned_long in get_or-eq_default (cleaned b) 0 (omega arith) ∙ sym (get_or-eq_default b 0 l);
      }

  pub cleaned_agreed : Agreed b (cleaned b)
  cleaned_agreed = partly_agreed (length b) (cleaned b) cleaned_partly

  pub cleaned_spare : (x : ℕ) → x < length b → is_read b x ≡ false → byte (cleaned b) x ≡ 0
  cleaned_spare x l h = cleaned_within x l ∙ zeroed x h

-- the cleaned job is clean
module _ (b : List ℕ) (r : Right b) where
  abbrev new : List ℕ
  new = cleaned b

  new_clean : Clean false new (variable_count b) (nodes_at b) (node_count b) (script_at b) (record_count b)
  unfolding variable_clean node_clean record_clean
  new_clean =
      let s = laid b r in
      record {
        variables =
            λ i h. spare_all variable_reads new (variable_place i)
            (λ j l e. let z = variables_8 in cleaned_spare b _ (omega arith) (read_variable b r i j _ h (omega arith) refl ∙ e));
        nodes =
            λ i h. spare_all node_reads new (node_place (nodes_at b) i)
            (λ j l e. let z = nodes_12 in cleaned_spare b _ (omega arith) (read_node b r i j _ h (omega arith) refl ∙ e));
        records =
            λ i h. rw (record_reads_law b new r (around (cleaned_agreed b)) i h)
            (spare_all (record_reads b (record_place (script_at b) i) false) new (record_place (script_at b) i)
            (λ j l e. let z = records_16 false b (record_place (script_at b) i) in cleaned_spare b _ (omega arith) (read_record b r i j _ h (omega arith) refl ∙ e)));
      }

-- "A job with such a byte not zero is refused from now on.", and the cleaned one is not
pub cleaned_taken : (b : List ℕ) → check_bytes_by first b ≡ accepted → check_bytes_by clean (cleaned b) ≡ accepted
unfolding first clean
cleaned_taken b e =
    let s = right_by first b e in
    let r = s.right in
    let a = cleaned_agreed b in
    accept_by clean (cleaned b)
    (record {
      right = same_right b (cleaned b) r a;
      house = λ q. same_house b (cleaned b) r a (s.house refl);
      order = λ q. clash q refl;
      script = around_script b (cleaned b) r (around a) first clean refl s.script (λ q. new_clean b r);
    })

-- "The cleaned job runs exactly as the old one did."
pub cleaned_runs : (b : List ℕ) → check_bytes_by first b ≡ accepted → (budget : ℕ) (lent : Buffers)
    → run_job_by clean (cleaned b) budget lent ≡ run_job_by first b budget lent
unfolding first clean
cleaned_runs b e =
    let r = (right_by first b e).right in
    let a = cleaned_agreed b in
    around_runs b (cleaned b) r (around a) first clean refl refl e (cleaned_taken b e) (same_tree b (cleaned b) r a)

-- the spare bytes of a clean job are zero
module _ (b : List ℕ) (s : RightBy clean b) where
  is_clean : Clean false b (variable_count b) (nodes_at b) (node_count b) (script_at b) (record_count b)
  unfolding clean
  is_clean = s.script.clean refl

  pub clean_spare : (x : ℕ) → is_read b x ≡ false → byte b x ≡ 0
  unfolding variable_clean node_clean record_clean
  clean_spare x e = by (lies b s.right x)
    where
      by : Lies b s.right x → byte b x ≡ 0
      by (in_variable i j h l q) =
          let z = variables_8 in
          ap (byte b) q ∙ spare_zero variable_reads b (variable_place i) (is_clean.variables i h) j (omega arith) (sym (read_variable b s.right i j x h l q) ∙ e)
      by (in_node i j h l q) =
          let z = nodes_12 in
          ap (byte b) q
          ∙ spare_zero node_reads b (node_place (nodes_at b) i) (is_clean.nodes i h) j (omega arith) (sym (read_node b s.right i j x h l q) ∙ e)
      by (in_record i j h l q) =
          let z = records_16 false b (record_place (script_at b) i) in
          ap (byte b) q
          ∙ spare_zero (record_reads b (record_place (script_at b) i) false) b (record_place (script_at b) i) (is_clean.records i h) j (omega arith)
          (sym (read_record b s.right i j x h l q) ∙ e)
      by (in_trailer h) = clash (read_trailer b s.right x h) e

  pub clean_stays : cleaned b ≡ b
  clean_stays = ext_get_or 0 (cleaned b) b (cleaned_long b) (λ x l. by x (test (is_read b x)) (let z = cleaned_long b in omega arith))
    where
      by : (x : ℕ) → Test (is_read b x) → x < length b → byte (cleaned b) x ≡ byte b x
      by x (holds t) h = (cleaned_agreed b).bytes x t
      by x (fails t) h = cleaned_spare b x h t ∙ sym (clean_spare x t)
