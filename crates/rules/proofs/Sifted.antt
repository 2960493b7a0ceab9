-- The nodes of a job's view are the records that the reader sees, in their order, each with the number of seen records before its parent: a hidden record
-- stands with all that hangs below it and right of it, and all that is hidden. Assumes nothing.
use mathlib.Core.Path.{◌≡◌, refl, sym, ap, ap₂, subst, ◌∙◌}
use Prim.Native.Nat.{ℕ, zero, suc, ◌+◌, ◌-◌, ◌*◌, ◌%◌, ◌/◌, ◌≤◌, ◌<◌}
use native.Mathlib.Omega.{arith}
use mathlib.Core.Bool.{Bool, true, false}
use mathlib.Core.List.{List, [], ◌∷◌, ◌++◌, map, map-append, append-nil, flat_map}
use lib.ListN.{length, get_or, length-map}
use lib.IntN.{pos}
use borrow.Author.Tests.{ne_eqb}
use Rattle.rules.specs.Limits.{variable_size, node_size, no_parent}
use Rattle.rules.specs.Level.{Level, public, visible}
use Rattle.rules.specs.Tree.{Label, Forest, nil, tree, size, with_value, Fits}
use Rattle.rules.specs.Number.{bits, signed}
use Rattle.rules.specs.Bytes.{byte, full, two, nodes_at, variable_count, node_count, variable_place, node_place}
use Rattle.rules.specs.Check.{accepted, parent, existence, content, structure, variable_reads, node_reads, spare_rule, variable_clean, node_clean, today, check_bytes}
use Rattle.rules.specs.Job.{listed, variable_of, variables, label_of, children_of, tree_of, job_tree}
use Rattle.rules.specs.History.{job_store}
use Rattle.rules.specs.Arrange.{Moved}
use Rattle.rules.specs.Write.{four, variable, node, trailer, Entry, listing, node_bytes, variable_bytes, written_size, script_section, job_of}
use Rattle.rules.specs.Projection.{mask, cut_label, cut, mask_variable, view_variables, view_store, project, four_seen, variable_seen, rank, rank_parent, sifted, sifted_bytes, sifted_script, sifted_job}
use Rattle.rules.proofs.Tests.{Test, holds, fails, test}
use Rattle.rules.proofs.Lattice.{hid_up, vis_down, vis_public}
use Rattle.rules.proofs.Checks.{sections, counts, long_enough}
use Rattle.rules.proofs.Decode.{listed_length, variables_length}
use Rattle.rules.proofs.Number.{bits_signed}
use Rattle.rules.proofs.ReadBytes.{spare_zero, variables_8, nodes_12}
use Rattle.rules.proofs.Accepted.{right_by}
use Rattle.rules.proofs.Sections.{section_size}
use Rattle.rules.proofs.Listing.{All, listing_length}
use Rattle.rules.proofs.Entries.{entry_of}
use Rattle.rules.proofs.Moved.{entry_from, moves_listing}
use Rattle.rules.proofs.Stays.{self, moves_same}
use Rattle.rules.proofs.Ordered.{all_split}
use Rattle.rules.proofs.Stores.{job_store_law}
use Rattle.rules.proofs.Projection.{variables_many}

-- an accepted job lists its tree

self_entries : (b : List ℕ) (base n i : ℕ) → map (entry_from b base) (listed (self b base) n i) ≡ listed (entry_of b base) n i
unfolding listed entry_from self entry_of
self_entries b base zero i = refl
self_entries b base (suc n) i = ap (λ (es : List Entry). entry_of b base i ∷ es) (self_entries b base n (suc i))

pub lists_itself : (b : List ℕ) → check_bytes b ≡ accepted → listing no_parent 0 (job_tree b) ≡ listed (entry_of b (nodes_at b)) (node_count b) 0
unfolding job_tree today
lists_itself b e =
    let r = right_by today b e in
    let n = counts _ _ _ r.right.counts in
    sym (moves_listing b (nodes_at b) (node_count b))
    ∙ ap (map (entry_from b (nodes_at b))) (moves_same b (nodes_at b) (node_count b) r.right.parents (r.order refl) n.some)
    ∙ self_entries b (nodes_at b) (node_count b) 0

module _ (o : Level) (b : List ℕ) (base : ℕ) where
  -- an entry is that of its record
  abbrev Is : ℕ → Entry → Type 0
  Is i e = entry_of b base i ≡ e

  all_own : (n i : ℕ) → All Is i (listed (entry_of b base) n i)
  unfolding listed
  all_own zero i = tt
  all_own (suc n) i = (refl, all_own n (suc i))

  -- a seen record as an entry
  unfoldable pub seen_entry : Moved → Entry
  seen_entry m = record { parent = m.parent; label = cut_label o (label_of b base m.from) }

  -- one record more

  sift_seen : (n i : ℕ) → visible o (existence b base i) ≡ true → sifted o b base (suc n) i ≡ record { from = i; parent = rank_parent o b base i } ∷ sifted o b base n (suc i)
  unfolding sifted
  sift_seen n i e = rw e

  sift_hidden : (n i : ℕ) → visible o (existence b base i) ≡ false → sifted o b base (suc n) i ≡ sifted o b base n (suc i)
  unfolding sifted
  sift_hidden n i e = rw e

  rank_seen : (i : ℕ) → visible o (existence b base i) ≡ true → rank o b base (suc i) ≡ suc (rank o b base i)
  unfolding rank
  rank_seen i e = rw e

  rank_hidden : (i : ℕ) → visible o (existence b base i) ≡ false → rank o b base (suc i) ≡ rank o b base i
  unfolding rank
  rank_hidden i e = rw e

  sift_split : (m n i : ℕ) → sifted o b base (m + n) i ≡ sifted o b base m i ++ sifted o b base n (i + m)
  unfolding sifted
  sift_split zero n i = ap₂ (sifted o b base) {x = 0 + n} {y = n} {u = i} {v = i + 0} (omega arith) (omega arith)
  sift_split (suc m) n i =
      ap (λ (k : ℕ). sifted o b base k i) {x = suc m + n} {y = suc (m + n)} (omega arith) ∙ pick (test (visible o (existence b base i)))
      (sift_split m n (suc i) ∙ ap (λ (k : ℕ). sifted o b base m (suc i) ++ sifted o b base n k) {x = suc i + m} {y = i + suc m} (omega arith))
    where
      pick : Test (visible o (existence b base i)) → sifted o b base (m + n) (suc i) ≡ sifted o b base m (suc i) ++ sifted o b base n (i + suc m)
          → sifted o b base (suc (m + n)) i ≡ sifted o b base (suc m) i ++ sifted o b base n (i + suc m)
      pick (holds e) h = rw e (ap (λ (ms : List Moved). record { from = i; parent = rank_parent o b base i } ∷ ms) h)
      pick (fails e) h = rw e h

  -- what an entry says of its record
  entry_existence : (i p : ℕ) (l : Label) → Is i (record { parent = p; label = l }) → existence b base i ≡ l.existence
  unfolding entry_of label_of
  entry_existence i p l h = ap (λ (e : Entry). e.label.existence) h

  entry_parent : (i p : ℕ) (l : Label) → Is i (record { parent = p; label = l }) → parent b base i ≡ p
  unfolding entry_of
  entry_parent i p l h = ap (λ (e : Entry). e.parent) h

  entry_label : (i p : ℕ) (l : Label) → Is i (record { parent = p; label = l }) → label_of b base i ≡ l
  unfolding entry_of
  entry_label i p l h = ap (λ (e : Entry). e.label) h

  -- the two parts of a listing behind its first entry
  parts : (p i : ℕ) (c r : Forest) → All Is (suc i) (listing i (suc i) c ++ listing p (suc i + size c) r)
      → All Is (suc i) (listing i (suc i) c) × All Is (suc i + size c) (listing p (suc i + size c) r)
  parts p i c r a =
      all_split Is (suc i) (suc i + size c) (listing i (suc i) c) (listing p (suc i + size c) r) (ap (λ (n : ℕ). suc i + n) (sym (listing_length i (suc i) c))) a

  -- records that are hidden with all of theirs
  record Gone (i n : ℕ) : Type 0 where
    none : sifted o b base n i ≡ []
    still : rank o b base (i + n) ≡ rank o b base i

  gone_node : (p i : ℕ) (l : Label) (c r : Forest) → visible o l.existence ≡ false → Is i (record { parent = p; label = l }) → Gone (suc i) (size c)
      → Gone (suc i + size c) (size r) → Gone i (suc (size c + size r))
  gone_node p i l c r h a x y =
      let v : visible o (existence b base i) ≡ false = ap (visible o) (entry_existence i p l a) ∙ h in
      record {
        none = sift_hidden (size c + size r) i v ∙ sift_split (size c) (size r) (suc i) ∙ ap₂ ◌++◌ x.none y.none;
        still =
            ap (rank o b base) {x = i + suc (size c + size r)} {y = suc i + size c + size r} (omega arith)
            ∙ y.still ∙ x.still ∙ rank_hidden i v;
      }

  gone : (p i : ℕ) (f : Forest) (lo hi : Level) → visible o lo ≡ false → Fits lo hi f → All Is i (listing p i f) → Gone i (size f)
  unfolding size listing sifted
  gone p i nil lo hi e f a = record { none = refl; still = ap (rank o b base) {x = i + 0} {y = i} (omega arith) }
  gone p i (tree l c r) lo hi e f a =
      let h = hid_up o _ _ f.0.above e in
      let q = parts p i c r a.1 in
      gone_node p i l c r h a.0 (gone i (suc i) c l.existence l.structure h f.1 q.0) (gone p (suc i + size c) r l.existence hi h f.2 q.1)

  -- records that list what hangs below an earlier one
  record Sifts (p i : ℕ) (f : Forest) : Type 0 where
    seen : map seen_entry (sifted o b base (size f) i) ≡ listing (rank o b base p) (rank o b base i) (cut o f)
    ranks : rank o b base (i + size f) ≡ rank o b base i + size (cut o f)

  cut_node : (l : Label) (c r : Forest) → visible o l.existence ≡ true → cut o (tree l c r) ≡ tree (cut_label o l) (cut o c) (cut o r)
  unfolding cut
  cut_node l c r h = rw h

  cut_away : (l : Label) (c r : Forest) → visible o l.existence ≡ false → cut o (tree l c r) ≡ nil
  unfolding cut
  cut_away l c r h = rw h

  first_entry : (p i : ℕ) (l : Label) → 1 ≤ i → Is i (record { parent = p; label = l })
      → seen_entry (record { from = i; parent = rank_parent o b base i }) ≡ record { parent = rank o b base p; label = cut_label o l }
  unfolding seen_entry rank_parent
  first_entry p i l o' a =
      let e : rank_parent o b base i ≡ rank o b base p = rw (ne_eqb i 0 (λ (z : i ≡ 0). omega arith)) (ap (rank o b base) (entry_parent i p l a)) in
      λ j. record { parent = e j; label = cut_label o (entry_label i p l a j) }

  sifts_node : (p i : ℕ) (l : Label) (c r : Forest) → 1 ≤ i → visible o l.existence ≡ true → Is i (record { parent = p; label = l }) → Sifts i (suc i) c
      → Sifts p (suc i + size c) r → Sifts p i (tree l c r)
  unfolding size listing
  sifts_node p i l c r o' h a x y =
      let v : visible o (existence b base i) ≡ true = ap (visible o) (entry_existence i p l a) ∙ h in
      let w = rank_seen i v in
      let k : rank o b base (suc i + size c) ≡ suc (rank o b base i) + size (cut o c) = x.ranks ∙ ap (λ (n : ℕ). n + size (cut o c)) w in
      let z = cut_node l c r h in
      let u = y.ranks in
      record {
        seen =
            ap (map seen_entry) (sift_seen (size c + size r) i v)
            ∙ ap₂ ◌∷◌ (first_entry p i l o' a)
            (ap (map seen_entry) (sift_split (size c) (size r) (suc i))
            ∙ map-append seen_entry (sifted o b base (size c) (suc i)) (sifted o b base (size r) (suc i + size c))
            ∙ ap₂ ◌++◌ (x.seen ∙ ap (λ (n : ℕ). listing (rank o b base i) n (cut o c)) w)
            (y.seen ∙ ap (λ (n : ℕ). listing (rank o b base p) n (cut o r)) k))
            ∙ ap (listing (rank o b base p) (rank o b base i)) (sym z);
        ranks =
            ap (rank o b base) {x = i + suc (size c + size r)} {y = suc i + size c + size r} (omega arith)
            ∙ rw z (omega arith);
      }

  sifts : (p i : ℕ) (f : Forest) (lo hi : Level) → 1 ≤ i → Fits lo hi f → All Is i (listing p i f) → Sifts p i f
  unfolding size listing sifted cut
  sifts p i nil lo hi o' f a = record { seen = refl; ranks = ap (rank o b base) {x = i + 0} {y = i} (omega arith) ∙ omega arith }
  sifts p i (tree l c r) lo hi o' f a =
      pick (test (visible o l.existence)) (sifts i (suc i) c l.existence l.structure (omega arith) f.1 (parts p i c r a.1).0)
      (sifts p (suc i + size c) r l.existence hi (omega arith) f.2 (parts p i c r a.1).1)
    where
      pick : Test (visible o l.existence) → Sifts i (suc i) c → Sifts p (suc i + size c) r → Sifts p i (tree l c r)
      pick (holds h) x y = sifts_node p i l c r o' h a.0 x y
      pick (fails h) x y =
          let q = parts p i c r a.1 in
          let g = gone_node p i l c r h a.0 (gone i (suc i) c l.existence l.structure h f.1 q.0) (gone p (suc i + size c) r l.existence hi h f.2 q.1) in
          let z = cut_away l c r h in
          record { seen = ap (map seen_entry) g.none ∙ rw h; ranks = g.still ∙ rw h (omega arith) }

-- the seen records of an accepted job list the view of its tree
pub seen_listing : (o : Level) (b : List ℕ) → check_bytes b ≡ accepted
    → map (seen_entry o b (nodes_at b)) (sifted o b (nodes_at b) (node_count b) 0) ≡ listing no_parent 0 (cut o (job_tree b))
unfolding job_store job_tree tree_of label_of listing size rank rank_parent cut seen_entry
seen_listing o b e =
    let base = nodes_at b in
    let c = children_of b base 0 (node_count b - 1) 1 in
    let f = (job_store_law b e).rules in
    let a = subst (All (Is o b base) 0) (sym (lists_itself b e)) (all_own o b base (node_count b) 0) in
    let q = all_split (Is o b base) 1 (1 + size c) (listing 0 1 c) [] (ap (λ (n : ℕ). 1 + n) (sym (listing_length 0 1 c))) a.1 in
    let long : length (listing no_parent 0 (job_tree b)) ≡ node_count b = ap length (lists_itself b e) ∙ listed_length (entry_of b base) (node_count b) 0 in
    let many : node_count b ≡ suc (size c) = sym long ∙ listing_length no_parent 0 (job_tree b) ∙ ap (λ (n : ℕ). suc n) {x = size c + 0} {y = size c} (omega arith) in
    let v : visible o (existence b base 0) ≡ true = vis_down o (existence b base 0) public f.0.under (vis_public o) in
    let x = sifts o b base 0 1 c (existence b base 0) (structure b base 0) (omega arith) f.1 q.0 in
    ap (map (seen_entry o b base)) (ap (λ (n : ℕ). sifted o b base n 0) many ∙ sift_seen o b base (size c) 0 v)
    ∙ ap (λ (es : List Entry). record { parent = no_parent; label = cut_label o (label_of b base 0) } ∷ es)
    (x.seen ∙ ap (λ (n : ℕ). listing 0 n (cut o c)) (rank_seen o b base 0 v) ∙ sym (append-nil (listing 0 1 (cut o c))))
    ∙ ap (listing no_parent 0) (sym (cut_node o b base (label_of b base 0) c nil v))

-- as bytes

zeros : four (pos 0) ≡ 0 ∷ 0 ∷ 0 ∷ 0 ∷ []
unfolding four two bits
zeros = refl

low : (w r : ℕ) → w < 256 → (w + r * 256) % 256 ≡ w
low w r h = omega arith

digits : (n w x y z : ℕ) → w < 256 → x < 256 → y < 256 → z < 256 → n ≡ w + x * 256 + y * 65536 + z * 16777216
    → (n % 256 ≡ w) × (n / 256 % 256 ≡ x) × (n / 65536 % 256 ≡ y) × (n / 65536 / 256 % 256 ≡ z)
digits n w x y z a b c d e =
    let p : n ≡ w + (x + y * 256 + z * 65536) * 256 = omega arith in
    let q : n / 256 ≡ x + (y + z * 256) * 256 = omega arith in
    let r : n / 65536 ≡ y + z * 256 = omega arith in
    let s : n / 65536 / 256 ≡ z = omega arith in (
      ap (λ (m : ℕ). m % 256) p ∙ low w (x + y * 256 + z * 65536) a,
      ap (λ (m : ℕ). m % 256) q ∙ low x (y + z * 256) b,
      ap (λ (m : ℕ). m % 256) r ∙ low y z c,
      omega arith,
    )

module _ (o : Level) (b : List ℕ) (small : (at : ℕ) → byte b at < 256) where
  -- the four bytes of a number
  four_own : (at : ℕ) → four (signed (full b at)) ≡ listed (byte b) 4 at
  unfolding four two full listed
  four_own at =
      let w = small at in
      let x = small (at + 1) in
      let y = small (at + 2) in
      let z = small (at + 3) in
      let e = bits_signed (full b at) (omega arith) in
      let p : byte b (suc at) ≡ byte b (at + 1) = ap (byte b) {x = suc at} {y = at + 1} (omega arith) in
      let q : byte b (suc (suc at)) ≡ byte b (at + 2) = ap (byte b) {x = suc (suc at)} {y = at + 2} (omega arith) in
      let r : byte b (suc (suc (suc at))) ≡ byte b (at + 3) = ap (byte b) {x = suc (suc (suc at))} {y = at + 3} (omega arith) in
      let d = digits (full b at) (byte b at) (byte b (at + 1)) (byte b (at + 2)) (byte b (at + 3)) w x y z refl in
      ap (λ (n : ℕ). two n ++ two (n / 65536)) e
      ∙ (λ i. d.0 i ∷ (d.1 ∙ sym p) i ∷ (d.2 ∙ sym q) i ∷ (d.3 ∙ sym r) i ∷ [])

  four_seen_law : (l : Level) (at : ℕ) → four (mask o l (signed (full b at))) ≡ four_seen o b l at
  unfolding mask four_seen
  four_seen_law l at = pick (test (visible o l))
    where
      pick : Test (visible o l) → four (mask o l (signed (full b at))) ≡ four_seen o b l at
      pick (holds e) = rw e (four_own at)
      pick (fails e) = rw e zeros

  -- a spare byte
  spare : (rs : List Bool) (at j k : ℕ) → spare_rule rs b at ≡ true → j < length rs → get_or rs j true ≡ false → k ≡ at + j → 0 ≡ byte b k
  spare rs at j k h l e w = sym (ap (byte b) w ∙ spare_zero rs b at h j l e)

  -- a variable
  variable_own : (i : ℕ) → variable_clean b i ≡ true → variable_bytes (mask_variable o (variable_of b (variable_place i))) ≡ variable_seen o b i
  unfolding variable_bytes variable mask_variable variable_of variable_seen listed variable_clean variable_reads
  variable_own i h =
      let at = variable_place i in
      let n = variables_8 in
      let e1 = spare variable_reads at 1 (suc at) h (omega arith) refl (omega arith) in
      let e2 = spare variable_reads at 2 (suc (suc at)) h (omega arith) refl (omega arith) in
      let e3 = spare variable_reads at 3 (suc (suc (suc at))) h (omega arith) refl (omega arith) in
      λ k. byte b at ∷ e1 k ∷ e2 k ∷ e3 k ∷ four_seen_law (byte b at) (at + 4) k

  variables_own : (n i : ℕ) → ((k : ℕ) → k < i + n → variable_clean b k ≡ true)
      → flat_map variable_bytes (view_variables o (listed (λ (k : ℕ). variable_of b (variable_place k)) n i)) ≡ flat_map (variable_seen o b) (listed (λ (k : ℕ). k) n i)
  unfolding flat_map view_variables listed
  variables_own zero i h = refl
  variables_own (suc n) i h = ap₂ ◌++◌ (variable_own i (h i (omega arith))) (variables_own n (suc i) (λ k l. h k (omega arith)))

  -- a node
  node_own : (base i p : ℕ) → node_clean b base i ≡ true
      → node_bytes (seen_entry o b base (record { from = i; parent = p })) ≡ sifted_bytes o b base (record { from = i; parent = p })
  unfolding node_bytes node seen_entry sifted_bytes cut_label with_value label_of existence content structure listed node_clean node_reads
  node_own base i p h =
      let at = node_place base i in
      let n = nodes_12 in
      let c3 : byte b (at + 3) ≡ byte b (suc (at + 2)) = ap (byte b) {x = at + 3} {y = suc (at + 2)} (omega arith) in
      let c4 : byte b (at + 4) ≡ byte b (suc (suc (at + 2))) = ap (byte b) {x = at + 4} {y = suc (suc (at + 2))} (omega arith) in
      let c5 = spare node_reads at 5 (suc (suc (suc (at + 2)))) h (omega arith) refl (omega arith) in
      let c6 = spare node_reads at 6 (suc (suc (suc (suc (at + 2))))) h (omega arith) refl (omega arith) in
      let c7 = spare node_reads at 7 (suc (suc (suc (suc (suc (at + 2)))))) h (omega arith) refl (omega arith) in
      λ k. two p ++ (byte b (at + 2) ∷ c3 k ∷ c4 k ∷ c5 k ∷ c6 k ∷ c7 k ∷ four_seen_law (byte b (at + 3)) (at + 8) k)

  nodes_own : (base n i : ℕ) → ((k : ℕ) → k < i + n → node_clean b base k ≡ true)
      → flat_map node_bytes (map (seen_entry o b base) (sifted o b base n i)) ≡ flat_map (sifted_bytes o b base) (sifted o b base n i)
  unfolding flat_map sifted
  nodes_own base zero i h = refl
  nodes_own base (suc n) i h = pick (test (visible o (existence b base i))) (nodes_own base n (suc i) (λ k l. h k (omega arith)))
    where
      pick : Test (visible o (existence b base i))
          → flat_map node_bytes (map (seen_entry o b base) (sifted o b base n (suc i))) ≡ flat_map (sifted_bytes o b base) (sifted o b base n (suc i))
          → flat_map node_bytes (map (seen_entry o b base) (sifted o b base (suc n) i)) ≡ flat_map (sifted_bytes o b base) (sifted o b base (suc n) i)
      pick (holds e) r = rw e (ap₂ ◌++◌ (node_own base i (rank_parent o b base i) (h i (omega arith))) r)
      pick (fails e) r = rw e r

-- one pass makes the view of an accepted job
pub one_pass : (o : Level) (b : List ℕ) → ((at : ℕ) → byte b at < 256) → check_bytes b ≡ accepted → sifted_job o b ≡ project o b
unfolding sifted_job sifted_script project job_of view_store job_store variables written_size today
one_pass o b small e =
    let r = right_by today b e in
    let s = sections b r.right.offsets in
    let k = long_enough (length b) r.right.lengths in
    let c = r.script.clean refl in
    let base = nodes_at b in
    let seen = sifted o b base (node_count b) 0 in
    let q = variables_many o (variables b) ∙ variables_length b in
    let first : variable_size * length (view_variables o (variables b)) ≡ nodes_at b = omega arith in
    let many : size (cut o (job_tree b)) ≡ length seen =
    sym (listing_length no_parent 0 (cut o (job_tree b))) ∙ ap length (sym (seen_listing o b e)) ∙ length-map seen (seen_entry o b base)
    in
    let second : variable_size * length (view_variables o (variables b)) + node_size * size (cut o (job_tree b)) ≡ nodes_at b + node_size * length seen =
    ap₂ (λ (x y : ℕ). x + node_size * y) first many
    in
    let third = section_size b (omega arith) in
    let vs = variables_own o b small (variable_count b) 0 (λ j l. c.variables j (omega arith)) in
    let ns = ap (flat_map node_bytes) (sym (seen_listing o b e)) ∙ nodes_own o b small base (node_count b) 0 (λ j l. c.nodes j (omega arith)) in
    sym (λ i. vs i ++ (ns i ++ (script_section b ++ trailer (first i) (second i) (second i + third i))))
