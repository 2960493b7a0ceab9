-- The records put one by one: what was put stays right, also where another is put at its place, since what comes to stand there is fixed; when all are put, every index has its
-- record. Assumes nothing.
use mathlib.Core.Path.{◌≡◌, refl, sym, ap, subst, ◌∙◌}
use mathlib.Core.Logic.{◌⊎◌, inl, inr}
use mathlib.Core.List.{List}
use Prim.Native.Nat.{ℕ, zero, suc, ◌+◌, ◌-◌, ◌*◌, ◌/◌, ◌%◌, ◌≤◌, ◌<◌}
use native.Mathlib.Omega.{arith}
use native.Mathlib.Decide.{ℕ_discrete, dec_lt}
use lib.Dec.{eqb-suc-zero}
use lib.ListN.{length, get_or, set, length-set}
use lib.Seq.{ext_get_or, get_or-set_same, get_or-set_other}
use Rattle.rules.specs.Bytes.{byte, two, nodes_at, script_at, node_count, node_place}
use Rattle.rules.specs.Check.{accepted, parent, unordered, check_bytes_by}
use Rattle.rules.specs.Arrange.{Moved, moves, moved_bytes, arranged}
use Rattle.rules.proofs.Accepted.{Right, right_by, parent_before}
use Rattle.rules.proofs.SameReads.{Laid, laid}
use Rattle.rules.proofs.Packed.{half_agree}
use Rattle.rules.proofs.Arranged.{moved_byte, same_length, in_front_law, behind, inside}
use Rattle.fields.specs.Siblings.{Linked}
use Rattle.arranger.specs.Arranger.{no_move, Placed, Copied, Put, new_parent, Ready}

-- the nodes of an accepted job
module _ (b : List ℕ) (base n : ℕ) (taken : check_bytes_by unordered b ≡ accepted) (tree : base ≡ nodes_at b) (count : n ≡ node_count b) where
  found : Laid b
  found = laid b (right_by unordered b taken).right

  pub nodes_linked : Linked b base n
  nodes_linked =
      let s = found.sections in
      let f = found.few in
      record { inside = omega arith; few = omega arith; parents = rw (tree, count) (right_by unordered b taken).right.parents }

  pub nodes_some : 1 ≤ n
  nodes_some = let l = found.some in omega arith

-- one record: two bytes of its parent, and ten that are copied
abbrev two_set : List ℕ → ℕ → ℕ → ℕ → List ℕ
two_set b base at parent = set (set b (node_place base at) (parent % 256)) (node_place base at + 1) (parent / 256 % 256)

pub two_long : (b : List ℕ) (base at parent : ℕ) → length (two_set b base at parent) ≡ length b
two_long b base at parent = length-set (set b (node_place base at) (parent % 256)) (node_place base at + 1) (parent / 256 % 256) ∙ length-set b (node_place base at) (parent % 256)

module _ (b : List ℕ) (base : ℕ) (old : List ℕ) (i at parent : ℕ) (c : List ℕ) (h : node_place base at + 12 ≤ length b) where
  pub is_put : Copied 10 (two_set b base at parent) (node_place base at + 2) old (12 * i + 2) c → Put b base old i at parent c
  unfolding moved_bytes two
  is_put s = record { long = s.long ∙ two_long b base at parent; here = here; left = λ x l. left x l }
    where
      here : (j : ℕ) → j < 12 → byte c (node_place base at + j) ≡ byte (moved_bytes old 0 (record { from = i; parent = parent })) j
      here zero l =
          let z : node_place base at + 0 ≡ node_place base at = omega arith in
          rw z
          (s.left (node_place base at) (inl (omega arith)) ∙ get_or-set_other (set b (node_place base at) (parent % 256)) _ (node_place base at) _ 0 (λ e. omega arith)
          ∙ get_or-set_same b (node_place base at) _ 0 (omega arith))
      here (suc zero) l =
          s.left (node_place base at + 1) (inl (omega arith))
          ∙ get_or-set_same (set b (node_place base at) (parent % 256)) (node_place base at + 1) _ 0 (let z = length-set b (node_place base at) (parent % 256) in omega arith)
      here (suc (suc j)) l =
          ap (byte c) {x = node_place base at + suc (suc j)} {y = node_place base at + 2 + j} (omega arith)
          ∙ s.done j (omega arith)
          ∙ ap (byte old) {x = 12 * i + 2 + j} {y = node_place 0 i + (2 + j)} (omega arith)
          ∙ sym (moved_byte old 0 (record { from = i; parent = parent }) j (omega arith))

      left : (x : ℕ) → (x < node_place base at) ⊎ (node_place base at + 12 ≤ x) → byte c x ≡ byte b x
      left x (inl l) =
          s.left x (inl (omega arith)) ∙ get_or-set_other (set b (node_place base at) (parent % 256)) _ x _ 0 (λ e. omega arith)
          ∙ get_or-set_other b (node_place base at) x _ 0 (λ e. omega arith)
      left x (inr l) =
          s.left x (inr (omega arith)) ∙ get_or-set_other (set b (node_place base at) (parent % 256)) _ x _ 0 (λ e. omega arith)
          ∙ get_or-set_other b (node_place base at) x _ 0 (λ e. omega arith)

module _ (b : List ℕ) (base n : ℕ) (own : List ℕ) where
  -- the first i records are put
  pub record Halfway (i : ℕ) (c : List ℕ) : Type 0 where
    pub long : length c ≡ length b
    pub around : (x : ℕ) → (x < base) ⊎ (base + 12 * n ≤ x) → byte c x ≡ byte b x
    pub done : (q j : ℕ) → q < i → j < 12 → byte c (node_place base (get_or own q 0) + j) ≡ byte (moved_bytes b base (get_or (moves b base n) (get_or own q 0) no_move)) j

  pub halfway_start : Halfway 0 b
  halfway_start = record { long = refl; around = λ x h. refl; done = λ q j h l. absurd (omega arith) }

  module _ (old : List ℕ) (r : Ready b base n old own) where
    pub linked : Linked b base n
    linked = nodes_linked b base n r.taken r.tree r.count

    -- what is put is what is moved
    old_byte : (m : Moved) (j : ℕ) → m.from < n → j < 12 → byte (moved_bytes old 0 m) j ≡ byte (moved_bytes b base m) j
    unfolding moved_bytes two
    old_byte m zero h l = refl
    old_byte m (suc zero) h l = refl
    old_byte m (suc (suc j)) h l =
        moved_byte old 0 m j (omega arith)
        ∙ r.copied (node_place 0 m.from + (2 + j)) (omega arith)
        ∙ ap (byte b) {x = base + (node_place 0 m.from + (2 + j))} {y = node_place base m.from + (2 + j)} (omega arith)
        ∙ sym (moved_byte b base m j (omega arith))

    pub old_parent : (i : ℕ) → i < n → parent old 0 i ≡ parent b base i
    unfolding parent
    old_parent i h =
        half_agree old b (node_place 0 i) (node_place base i)
        (r.copied (node_place 0 i) (omega arith) ∙ ap (byte b) {x = base + node_place 0 i} {y = node_place base i} (omega arith))
        (r.copied (node_place 0 i + 1) (omega arith) ∙ ap (byte b) {x = base + (node_place 0 i + 1)} {y = node_place base i + 1} (omega arith))

    pub own_below : (q : ℕ) → q < n → get_or own q 0 < n
    own_below zero h = let z = r.placed.root in omega arith
    own_below (suc q) h = (r.placed.each (suc q) (omega arith) h).below

    pub parent_below : (i : ℕ) → (i ≡ 0 → ⊥) → i < n → parent old 0 i < i
    parent_below i o h = rw (old_parent i h) (parent_before b base i o (linked.parents i h))

    -- every record is moved to its own index, with its parent's
    pub is_moved : (i : ℕ) → i < n → record { from = i; parent = new_parent old own i } ≡ get_or (moves b base n) (get_or own i 0) no_move
    unfolding new_parent moves
    is_moved zero h = sym (ap (λ (k : ℕ). get_or (moves b base n) k no_move) r.placed.root)
    is_moved (suc i) h = rw (eqb-suc-zero i, old_parent (suc i) h) (sym (r.placed.each (suc i) (omega arith) h).is)

    pub small : (i : ℕ) → i < n → new_parent old own i < 65536
    unfolding new_parent
    small zero h = omega arith
    small (suc i) h =
        let l = parent_below (suc i) (λ e. omega arith) h in
        let z = own_below (parent old 0 (suc i)) (omega arith) in
        let f = linked.few in rw (eqb-suc-zero i) (omega arith)

    pub halfway_next : (i at p : ℕ) (c d : List ℕ) → i < n → at ≡ get_or own i 0 → record { from = i; parent = p } ≡ get_or (moves b base n) (get_or own i 0) no_move
        → Halfway i c → Put c base old i at p d → Halfway (suc i) d
    halfway_next i at p c d h e m s t =
        record {
          long = t.long ∙ s.long;
          around = λ x l. t.left x (outside x l) ∙ s.around x l;
          done = λ q j l g. by q j l g (ℕ_discrete (get_or own q 0) at);
        }
      where
        low : at < n
        low = let z = own_below i h in omega arith

        outside : (x : ℕ) → (x < base) ⊎ (base + 12 * n ≤ x) → (x < node_place base at) ⊎ (node_place base at + 12 ≤ x)
        outside x (inl l) = inl (omega arith)
        outside x (inr l) = let z = low in inr (omega arith)

        apart : (k j : ℕ) → (k ≡ at → ⊥) → j < 12 → Dec (k < at) → (node_place base k + j < node_place base at) ⊎ (node_place base at + 12 ≤ node_place base k + j)
        apart k j z g (yes l) = inl (omega arith)
        apart k j z g (no l) = inr (omega arith)

        by : (q j : ℕ) → q < suc i → j < 12 → Dec (get_or own q 0 ≡ at)
            → byte d (node_place base (get_or own q 0) + j) ≡ byte (moved_bytes b base (get_or (moves b base n) (get_or own q 0) no_move)) j
        by q j l g (yes z) =
            rw z (t.here j g)
            ∙ old_byte (record { from = i; parent = p }) j h g
            ∙ ap (λ (x : Moved). byte (moved_bytes b base x) j) (m ∙ ap (λ (k : ℕ). get_or (moves b base n) k no_move) (sym e ∙ sym z))
        by q j l g (no z) = t.left _ (apart (get_or own q 0) j z g (dec_lt _ at)) ∙ s.done q j (before (ℕ_discrete q i)) g
          where
            before : Dec (q ≡ i) → q < i
            before (yes w) = absurd (z (rw w (sym e)))
            before (no w) = omega arith

-- all records are put
module _ (b : List ℕ) (r : Right b) (own : List ℕ) where
  abbrev All : ℕ → ℕ → List ℕ → Type 0
  All base n c = Placed b base n own → Halfway b base n own n c → c ≡ arranged b

  all_put : (c : List ℕ) → All (nodes_at b) (node_count b) c
  all_put c t s = ext_get_or 0 c (arranged b) (s.long ∙ sym (same_length b r)) (λ x l. by x (dec_lt x (nodes_at b)) (dec_lt x (script_at b)))
    where
      by : (x : ℕ) → Dec (x < nodes_at b) → Dec (x < script_at b) → byte c x ≡ byte (arranged b) x
      by x (yes l) m = s.around x (inl l) ∙ sym (in_front_law b r x l)
      by x (no l) (no m) = let f = (laid b r).sections in s.around x (inr (omega arith)) ∙ sym (behind b r x (omega arith))
      by x (no l) (yes m) =
          let f = (laid b r).sections in
          let k = (x - nodes_at b) / 12 in
          let j = (x - nodes_at b) % 12 in
          let w = t.every k (omega arith) in
          let e : x ≡ node_place (nodes_at b) k + j = omega arith in
          ap (byte c) e ∙ ap (λ (i : ℕ). byte c (node_place (nodes_at b) i + j)) (sym w.here)
          ∙ s.done w.node j w.before (omega arith)
          ∙ ap (λ (i : ℕ). byte (moved_bytes b (nodes_at b) (get_or (moves b (nodes_at b) (node_count b)) i no_move)) j) w.here
          ∙ sym (inside b r k j x (omega arith) (omega arith) e)

pub halfway_end : (b : List ℕ) (base n : ℕ) (own old c : List ℕ) → Ready b base n old own → Halfway b base n own n c → c ≡ arranged b
halfway_end b base n own old c r s =
    let q = (right_by unordered b r.taken).right in
    subst (λ (x : ℕ). All b q own x n c) (sym r.tree) (subst (λ (m : ℕ). All b q own (nodes_at b) m c) (sym r.count) (all_put b q own c)) r.placed s
