-- The job that is written for a store is accepted and holds that store: it is the job of the store and a section of no records. Assumes nothing.
use mathlib.Core.Path.{◌≡◌, refl, sym, ap, subst, ◌∙◌}
use Prim.Native.Nat.{ℕ, ◌+◌, ◌*◌, ◌≤◌, ◌<◌}
use native.Mathlib.Omega.{arith}
use mathlib.Core.Bool.{true, false}
use mathlib.Core.List.{List, [], ◌++◌, flat_map}
use lib.ListN.{length, drop}
use lib.Dec.{leb}
use borrow.Author.Tests.{le-leb, lt-leb, leb-true, leb-false}
use Rattle.rules.specs.Limits.{max_nodes, no_parent, variable_size, trailer_size, bad_buffers, bad_follow_on, bad_area}
use Rattle.rules.specs.Tree.{Forest, nil, tree, size, count}
use Rattle.rules.specs.Blocks.{block_rule, parts}
use Rattle.rules.specs.Check.{Checked, accepted, refused, require, today}
use Rattle.rules.specs.Job.{listed, script_from}
use Rattle.rules.specs.History.{Store, section_count, section_script, section_rule, store_rule}
use Rattle.rules.specs.Write.{trailer, listing, node_bytes, variable_bytes, written_size, written, job_of, check_write, write_answer, left_written, Ranged, Writes, WriterRight}
use Rattle.rules.proofs.Tests.{Test, holds, fails, test}
use Rattle.rules.proofs.Checks.{passed_one}
use Rattle.rules.proofs.Accepted.{ScriptRight}
use Rattle.rules.proofs.Stores.{holdable}
pub use Rattle.rules.proofs.Joined.{variable_size_law, entry_size}
use Rattle.rules.proofs.Joined.{joins_right}

-- a section of no records
no_records : (vars : ℕ) → ScriptRight today [] vars 0 0 0 0 0
unfolding block_rule parts
no_records vars =
    record {
      known = λ i a. absurd (omega arith);
      records = λ i a. absurd (omega arith);
      clean = λ q. record { variables = λ i a. absurd (omega arith); nodes = λ i a. absurd (omega arith); records = λ i a. absurd (omega arith) };
      blocks = λ i a. let z : i ≡ 0 = omega arith in rw z;
    }

bare : (s : Store) → written s ≡ job_of s []
unfolding written job_of
bare s =
    ap
    (λ (n : ℕ).
    flat_map variable_bytes s.variables
    ++ (flat_map node_bytes (listing no_parent 0 s.tree) ++ trailer (variable_size * length s.variables) (written_size s) n))
    {x = written_size s} {y = written_size s + 0} (omega arith)

writes : (s : Store) → store_rule s ≡ true → Ranged s → Writes s
unfolding section_rule section_count section_script script_from listed
writes s e r =
    let j = joins_right s [] refl e r (no_records (length s.variables)) in
    let q = bare s in
    record {
      taken = rw q j.taken;
      variables = rw q j.variables;
      tree = rw q j.tree;
      script = rw q j.script;
      long = rw q (let z = j.long in omega arith);
    }

-- a store with a root is written in no fewer than 20 bytes
rooted : (t : Forest) → count t ≡ 1 → 1 ≤ size t
unfolding count size
rooted nil e = absurd (omega arith)
rooted (tree l c r) e = omega arith

pub ruled : (s : Store) (places area : ℕ) → check_write s places area ≡ accepted → store_rule s ≡ true
unfolding check_write
ruled s places area e = (passed_one bad_follow_on (store_rule s) _ e).0

far : (s : Store) (places area : ℕ) → check_write s places area ≡ accepted → bad_area < write_answer s places area
unfolding check_write write_answer written_size
far s places area e =
    let h = holdable s (ruled s places area e) in
    let n = rooted s.tree h.rooted in
    subst (λ (c : Checked). bad_area < elim c [ accepted ↦ written_size s + trailer_size | refused k i ↦ k ]) (sym e) (omega arith)

-- the checks, one by one, with what they leave of an area
module _ (s : Store) (places : ℕ) (area : List ℕ) where
  pub write_refused : (k i : ℕ) → check_write s places (length area) ≡ refused k i
      → (write_answer s places (length area) ≡ k) × (left_written s places area ≡ area)
  unfolding write_answer left_written
  write_refused k i e = (
    ap (λ (c : Checked). elim c [ accepted ↦ written_size s + trailer_size | refused k i ↦ k ]) e,
    ap (λ (c : Checked). elim c [ accepted ↦ written s ++ drop (written_size s + trailer_size) area | refused k i ↦ area ]) e,
  )

  pub write_accepted : check_write s places (length area) ≡ accepted
      → (write_answer s places (length area) ≡ written_size s + trailer_size) × (left_written s places area ≡ written s ++ drop (written_size s + trailer_size) area)
  unfolding write_answer left_written
  write_accepted e = (
    ap (λ (c : Checked). elim c [ accepted ↦ written_size s + trailer_size | refused k i ↦ k ]) e,
    ap (λ (c : Checked). elim c [ accepted ↦ written s ++ drop (written_size s + trailer_size) area | refused k i ↦ area ]) e,
  )

  pub no_store : store_rule s ≡ false → check_write s places (length area) ≡ refused bad_follow_on 0
  unfolding check_write require
  no_store e = rw e

  module _ (good : store_rule s ≡ true) where
    pub many_places : max_nodes < places → check_write s places (length area) ≡ refused bad_buffers 0
    unfolding check_write require
    many_places lt = rw (good, lt-leb places max_nodes lt)

    module _ (few : places ≤ max_nodes) where
      pub no_room : length area < written_size s + trailer_size → check_write s places (length area) ≡ refused bad_area 0
      unfolding check_write require
      no_room lt = rw (good, le-leb places max_nodes few, lt-leb (written_size s + trailer_size) (length area) lt)

      pub has_room : written_size s + trailer_size ≤ length area → check_write s places (length area) ≡ accepted
      unfolding check_write require
      has_room le = rw (good, le-leb places max_nodes few, le-leb (written_size s + trailer_size) (length area) le)

  -- an answer that is none of the numbers is that of an accepted store
  pub write_told : bad_area < write_answer s places (length area) → check_write s places (length area) ≡ accepted
  write_told lt = go (test (store_rule s)) (test (leb places max_nodes)) (test (leb (written_size s + trailer_size) (length area)))
    where
      number : (k : ℕ) → k ≤ bad_area → check_write s places (length area) ≡ refused k 0 → check_write s places (length area) ≡ accepted
      number k le e = absurd (let z = (write_refused k 0 e).0 in omega arith)

      go : Test (store_rule s) → Test (leb places max_nodes) → Test (leb (written_size s + trailer_size) (length area)) → check_write s places (length area) ≡ accepted
      go (fails e) p q = number bad_follow_on (omega arith) (no_store e)
      go (holds e) (fails p) q = number bad_buffers (omega arith) (many_places e (leb-false places max_nodes p))
      go (holds e) (holds p) (fails q) =
          number bad_area (omega arith) (no_room e (leb-true places max_nodes p) (leb-false (written_size s + trailer_size) (length area) q))
      go (holds e) (holds p) (holds q) = has_room e (leb-true places max_nodes p) (leb-true (written_size s + trailer_size) (length area) q)

pub writer_right : WriterRight
writer_right =
    record {
      writes = writes;
      alike =
          λ o s t e r f q a.
          let x = writes s e r in
          let y = writes t f q in
          record {
            script = x.script ∙ sym y.script;
            parts = record { variables = rw (x.variables, y.variables) a.variables; trees = rw (x.tree, y.tree) a.trees };
          };
      apart = far;
    }
