-- Who has all parties sees a job as it is, byte for byte. Assumes nothing.
use mathlib.Core.Path.{◌≡◌, refl, sym, ap, ap₂, ◌∙◌}
use Prim.Native.Nat.{ℕ, zero, suc, ◌+◌, ◌-◌, ◌*◌, ◌%◌, ◌/◌, ◌≤◌, ◌<◌}
use native.Mathlib.Omega.{arith}
use mathlib.Core.Bool.{true}
use mathlib.Core.List.{List, [], ◌∷◌, ◌++◌, flat_map}
use lib.ListN.{length}
use lib.Seq.{ext_get_or}
use lib.Dec.{eqb-suc-zero}
use borrow.Author.Tests.{eqb-true}
use Rattle.rules.specs.Limits.{no_parent}
use Rattle.rules.specs.Level.{visible}
use Rattle.rules.specs.Bytes.{byte, half, two, variables_at, nodes_at, script_at, trailer_at, variable_count, node_count, record_count, node_place}
use Rattle.rules.specs.Check.{accepted, offset_rule, parent, existence, content, parent_rule, check_bytes}
use Rattle.rules.specs.Job.{listed}
use Rattle.rules.specs.Write.{trailer, script_section}
use Rattle.rules.specs.Projection.{everyone, project, four_seen, variable_seen, rank, rank_parent, sifted, sifted_bytes, sifted_script, sifted_job}
use Rattle.rules.proofs.Tests.{both}
use Rattle.rules.proofs.Lattice.{byte_level}
use Rattle.rules.proofs.Checks.{Sections, sections, long_enough}
use Rattle.rules.proofs.Decode.{listed_length, listed_at}
use Rattle.rules.proofs.Packed.{listed_is}
use Rattle.rules.proofs.Accepted.{right}
use Rattle.rules.proofs.Sections.{section_byte, section_size}
use Rattle.rules.proofs.Projection.{sees_all}
use Rattle.rules.proofs.Sifted.{one_pass}

listed_append : {A : Type 0} (f : ℕ → A) (m n i j : ℕ) → j ≡ i + m → listed f m i ++ listed f n j ≡ listed f (m + n) i
unfolding listed
listed_append f zero n i j e = ap₂ (listed f) {x = n} {y = 0 + n} {u = j} {v = i} (omega arith) (omega arith)
listed_append f (suc m) n i j e =
    ap (λ xs. f i ∷ xs) (listed_append f m n (suc i) j (omega arith)) ∙ ap (λ (k : ℕ). listed f k i) {x = suc (m + n)} {y = suc m + n} (omega arith)

low : (x y : ℕ) → x < 256 → (x + y * 256) % 256 ≡ x
low x y h = omega arith

high : (x y : ℕ) → x < 256 → (x + y * 256) / 256 ≡ y
high x y h = omega arith

itself : (y : ℕ) → y < 256 → y % 256 ≡ y
itself y h = omega arith

module _ (b : List ℕ) (small : (at : ℕ) → byte b at < 256) where
  seen_byte : (at : ℕ) → visible everyone (byte b at) ≡ true
  seen_byte at = sees_all (byte b at) (byte_level (byte b at) (small at))

  four_all : (at k : ℕ) → four_seen everyone b (byte b at) k ≡ listed (byte b) 4 k
  unfolding four_seen
  four_all at k = rw (seen_byte at)

  two_own : (at : ℕ) → two (half b at) ≡ listed (byte b) 2 at
  unfolding two half listed
  two_own at =
      let p = low (byte b at) (byte b (at + 1)) (small at) in
      let q = ap (λ (n : ℕ). n % 256) (high (byte b at) (byte b (at + 1)) (small at)) ∙ itself (byte b (at + 1)) (small (at + 1)) in
      let r : byte b (at + 1) ≡ byte b (suc at) = ap (byte b) {x = at + 1} {y = suc at} (omega arith) in
      λ i. p i ∷ (q ∙ r) i ∷ []

  variable_all : (i : ℕ) → variable_seen everyone b i ≡ listed (byte b) 8 (8 * i)
  unfolding variable_seen
  variable_all i =
      ap (λ (xs : List ℕ). listed (byte b) 4 (8 * i) ++ xs) (four_all (8 * i) (8 * i + 4)) ∙ listed_append (byte b) 4 4 (8 * i) (8 * i + 4) refl

  variables_all : (n i : ℕ) → flat_map (variable_seen everyone b) (listed (λ (k : ℕ). k) n i) ≡ listed (byte b) (8 * n) (8 * i)
  unfolding flat_map listed
  variables_all zero i = refl
  variables_all (suc n) i =
      ap₂ ◌++◌ (variable_all i) (variables_all n (suc i)) ∙ listed_append (byte b) 8 (8 * n) (8 * i) (8 * suc i) (omega arith)
      ∙ ap (λ (k : ℕ). listed (byte b) k (8 * i)) {x = 8 + 8 * n} {y = 8 * suc n} (omega arith)

  module _ (base m : ℕ) (parents : (i : ℕ) → i < m → parent_rule b base i ≡ true) where
    rank_all : (i : ℕ) → rank everyone b base i ≡ i
    unfolding rank existence
    rank_all zero = refl
    rank_all (suc i) = rw (seen_byte (node_place base i + 2)) (ap (λ (k : ℕ). suc k) (rank_all i))

    parent_all : (i : ℕ) → i < m → rank_parent everyone b base i ≡ parent b base i
    unfolding rank_parent parent_rule
    parent_all zero h = sym (eqb-true (parent b base 0) no_parent (parents 0 h))
    parent_all (suc i) h = rw (eqb-suc-zero i) (rank_all (parent b base (suc i)))

    node_all : (i : ℕ) → i < m → sifted_bytes everyone b base (record { from = i; parent = rank_parent everyone b base i }) ≡ listed (byte b) 12 (node_place base i)
    unfolding sifted_bytes content parent
    node_all i h =
        let at = node_place base i in
        ap₂ ◌++◌ (ap two (parent_all i h) ∙ two_own at)
        (ap (λ (xs : List ℕ). listed (byte b) 6 (at + 2) ++ xs) (four_all (at + 3) (at + 8)) ∙ listed_append (byte b) 6 4 (at + 2) (at + 8) (omega arith))
        ∙ listed_append (byte b) 2 10 at (at + 2) refl

    nodes_all : (n i : ℕ) → i + n ≤ m → flat_map (sifted_bytes everyone b base) (sifted everyone b base n i) ≡ listed (byte b) (12 * n) (node_place base i)
    unfolding flat_map sifted listed existence
    nodes_all zero i h = refl
    nodes_all (suc n) i h =
        rw (seen_byte (node_place base i + 2))
        (ap₂ ◌++◌ (node_all i (omega arith)) (nodes_all n (suc i) (omega arith))
        ∙ listed_append (byte b) 12 (12 * n) (node_place base i) (node_place base (suc i)) (omega arith)
        ∙ ap (λ (k : ℕ). listed (byte b) k (node_place base i)) {x = 12 + 12 * n} {y = 12 * suc n} (omega arith))

    count_all : (n i : ℕ) → length (sifted everyone b base n i) ≡ n
    unfolding sifted existence
    count_all zero i = refl
    count_all (suc n) i = rw (seen_byte (node_place base i + 2)) (ap (λ (k : ℕ). suc k) (count_all n (suc i)))

  module _ (e : check_bytes b ≡ accepted) where
    laid : Sections b
    laid = sections b (right b e).offsets

    long : 8 ≤ length b
    long = long_enough (length b) (right b e).lengths

    section_all : script_section b ≡ listed (byte b) (16 * record_count b) (script_at b)
    section_all =
        let s = laid in
        let l = long in
        let n = section_size b (omega arith) in
        let k = listed_length (byte b) (16 * record_count b) (script_at b) in
        ext_get_or 0 (script_section b) (listed (byte b) (16 * record_count b) (script_at b)) (omega arith)
        (λ i h. section_byte b i (omega arith) ∙ sym (listed_at (byte b) 0 (16 * record_count b) (script_at b) i (omega arith)))

    first_at : variables_at b ≡ 0
    unfolding offset_rule
    first_at =
        let r = (right b e).offsets in
        eqb-true (variables_at b) 0 (both _ _ (both _ _ (both _ _ (both _ _ r).0).0).0).0

    trailer_all : trailer (nodes_at b) (script_at b) (trailer_at b) ≡ listed (byte b) 8 (length b - 8)
    unfolding trailer variables_at nodes_at script_at trailer_at
    trailer_all =
        let at = length b - 8 in
        ap₂ ◌++◌ (ap two (sym first_at) ∙ two_own at)
        (ap₂ ◌++◌ (two_own (at + 2)) (ap₂ ◌++◌ (two_own (at + 4)) (two_own (at + 6)) ∙ listed_append (byte b) 2 2 (at + 4) (at + 6) (omega arith))
        ∙ listed_append (byte b) 2 4 (at + 2) (at + 4) (omega arith))
        ∙ listed_append (byte b) 2 6 at (at + 2) refl

    pub sifts_none : sifted_job everyone b ≡ b
    unfolding sifted_job sifted_script
    sifts_none =
        let s = laid in
        let l = long in
        let p = (right b e).parents in
        let c = count_all (nodes_at b) (node_count b) p (node_count b) 0 in
        let at : nodes_at b + 12 * length (sifted everyone b (nodes_at b) (node_count b) 0) ≡ script_at b = omega arith in
        let end : nodes_at b + 12 * length (sifted everyone b (nodes_at b) (node_count b) 0) + (trailer_at b - script_at b) ≡ trailer_at b = omega arith in
        ap₂ ◌++◌ (variables_all (variable_count b) 0)
        (ap₂ ◌++◌ (nodes_all (nodes_at b) (node_count b) p (node_count b) 0 (omega arith))
        (ap₂ ◌++◌ section_all (ap₂ (trailer (nodes_at b)) at end ∙ trailer_all)
        ∙ listed_append (byte b) (16 * record_count b) 8 (script_at b) (length b - 8) (omega arith))
        ∙ listed_append (byte b) (12 * node_count b) (16 * record_count b + 8) (node_place (nodes_at b) 0) (script_at b) (omega arith))
        ∙ listed_append (byte b) (8 * variable_count b) (12 * node_count b + (16 * record_count b + 8)) (8 * 0) (node_place (nodes_at b) 0) (omega arith)
        ∙ ap (λ (n : ℕ). listed (byte b) n 0) {x = 8 * variable_count b + (12 * node_count b + (16 * record_count b + 8))} {y = length b} (omega arith)
        ∙ listed_is (byte b) 0 (length b) b refl (λ k h. refl)

-- all of it
pub project_whole : (b : List ℕ) → ((at : ℕ) → byte b at < 256) → check_bytes b ≡ accepted → project everyone b ≡ b
project_whole b small e = sym (one_pass everyone b small e) ∙ sifts_none b small e
