-- A job that is cleaned as far as a byte: it has the sections of the old one, and reads its next byte as the old one does. Assumes nothing.
use mathlib.Core.Path.{◌≡◌, sym, ◌∙◌}
use Prim.Native.Nat.{ℕ, suc, ◌<◌}
use native.Mathlib.Omega.{arith}
use mathlib.Core.List.{List}
use lib.ListN.{length, set}
use Rattle.rules.specs.Check.{accepted, first, check_bytes_by}
use Rattle.rules.specs.Clean.{clean_byte}
use Rattle.rules.proofs.Accepted.{Right, right_by}
use Rattle.rules.proofs.SameReads.{around, same_nodes_at, same_script_at, same_variable_count, same_node_count, same_record_count, same_right, same_read}
use Rattle.rules.proofs.Cleaned.{Partly, partly_agreed, partly_next}
use Rattle.fields.specs.declared.sections.Layout.{Layout}
use Rattle.fields.specs.Layout.{layout_of}
use Rattle.cleaner.specs.Cleaner.{Laid}

module _ (b : List ℕ) (l : Layout) (e : check_bytes_by first b ≡ accepted) (h : l ≡ layout_of b) (n : ℕ) (c : List ℕ) (p : Partly b n c) where
  right : Right b
  right = (right_by first b e).right

  same_layout : layout_of c ≡ layout_of b
  unfolding layout_of
  same_layout =
      let a = around (partly_agreed b n c p) in
      rw (same_variable_count b c right a, same_nodes_at b c right a, same_node_count b c right a, same_script_at b c right a, same_record_count b c right a)

  pub halfway_laid : Laid c l
  halfway_laid = let r = same_right b c right (partly_agreed b n c p) in record { layout = h ∙ sym same_layout; lengths = r.lengths; offsets = r.offsets }

  same_byte : clean_byte c n ≡ clean_byte b n
  unfolding clean_byte
  same_byte = rw (same_read b c right (partly_agreed b n c p) n, p.left n (omega arith))

  pub halfway_next : {c' : List ℕ} → n < length c → c' ≡ set c n (clean_byte c n) → Partly b (suc n) c'
  halfway_next m q = let z = p.long in rw (q, same_byte) (partly_next b n c p (omega arith))
