-- The walk that writes the nodes of a tree is at a link that leads to a forest, and behind it wait the right siblings of the nodes above. What is still
-- to be written is the listing of that forest, and then those of what waits: each turn leaves this so. Assumes nothing.
use mathlib.Core.Path.{◌≡◌, refl, sym, ap, subst, ◌∙◌}
use mathlib.Core.List.{List, [], ◌∷◌, ◌++◌, flat_map, append_assoc, append-nil}
use Prim.Native.Nat.{ℕ, zero, suc, ◌+◌, ◌-◌, ◌*◌, ◌<◌, ◌≤◌}
use native.Mathlib.Omega.{arith}
use native.Mathlib.Numerals.{add-one}
use lib.ListN.{length, get_or, set, take, drop, length-set, length-drop}
use lib.Seq.{get_or-set_same, get_or-set_other, length-take-le, take-suc, drop-cons, take_all}
use Rattle.rules.specs.Limits.{node_size, no_parent}
use Rattle.rules.specs.Tree.{Label, Forest, size}
use Rattle.rules.specs.Write.{Entry, listing, node_bytes}
use Rattle.rules.proofs.Listing.{listing_length}
use Rattle.rules.proofs.Packed.{packed_length}
use Rattle.rules.proofs.Written.{entry_size}
use Rattle.table.specs.Cells.{Table, gone, ByteLevels}
use Rattle.table.specs.Holds.{Placed, empty, node, erase, head, Stored}
use Rattle.lent.specs.Lent.{node_of, cell_of}
use Rattle.lent.specs.Stands.{Stands}
use Rattle.lent.proofs.Copies.{same_cell}
use Rattle.lent.proofs.Resuming.{stands_one}
use Rattle.writer.specs.declared.nodes.Spot.{Spot}
use Rattle.writer.specs.Area.{replaced, entry}
use Rattle.writer.specs.Nodes.{start, parent_in, enter, leave, Turned, left, entered, NodesPut}
use Rattle.writer.proofs.Area.{replaced_none, replaced_on, flat_snoc}

-- the nodes above the link, innermost first: the place and the index of each, and what stands right of it
pub data Trail : Type 0 where
  home : Trail
  under : ℕ → ℕ → Placed → Trail → Trail

abbrev above : Trail → ℕ
above home = gone
above (under x i r k) = x

abbrev index : Trail → ℕ
index home = no_parent
index (under x i r k) = i

abbrev depth : Trail → ℕ
depth home = 0
depth (under x i r k) = suc (depth k)

-- what waits is listed from index j on
abbrev waiting : Trail → ℕ → List Entry
waiting home j = []
waiting (under x i r k) j = listing (index k) j (erase r) ++ waiting k (j + size (erase r))

-- the cells of the nodes above lead to what waits, and by depth there stand their indexes
abbrev Chain : Table → ℕ → List ℕ → Trail → Type 0
Chain m n b home = Unit
Chain m n b (under x i r k) =
    (x < n) × ((m x).right ≡ head r) × ((m x).parent ≡ above k) × (get_or b (depth k) 0 ≡ i) × Stored m n (above k) x r × Chain m n b k

chain_set : (m : Table) (n : ℕ) (b : List ℕ) (k : Trail) (i v : ℕ) → depth k ≤ i → Chain m n b k → Chain m n (set b i v) k
chain_set m n b home i v le h = tt
chain_set m n b (under x j r k) i v le h =
    (h.0, h.1, h.2, get_or-set_other b i (depth k) v 0 (λ z. omega arith) ∙ h.3, h.4, chain_set m n b k i v (omega arith) h.5)

-- the parent's index stands in b
chain_parent : (m : Table) (n : ℕ) (b : List ℕ) (k : Trail) (d : ℕ) → d ≡ depth k → Chain m n b k → parent_in b d ≡ index k
unfolding parent_in
chain_parent m n b home d e h = ap (parent_in b) e
chain_parent m n b (under x i r k) d e h = ap (parent_in b) e ∙ h.3

-- and is read from there
pub parent_above : (b : List ℕ) (d : ℕ) → (d ≡ 0 → ⊥) → get_or b (d - 1) 0 ≡ parent_in b d
unfolding parent_in
parent_above b zero h = absurd (h refl)
parent_above b (suc d) h = ap (λ (k : ℕ). get_or b k 0) {x = suc d - 1} {y = d} (omega arith)

-- where the walk over the entries es is
pub record Walking (m : Table) (n : ℕ) (es : List Entry) (b : List ℕ) (s : Spot) : Type 0 where
  pub f : Placed
  pub v : ℕ
  pub k : Trail
  pub leads : s.link ≡ head f
  pub under : s.up ≡ above k
  pub deep : s.deep ≡ depth k
  pub stored : Stored m n (above k) v f
  pub chain : Chain m n b k
  pub shallow : depth k ≤ s.next
  pub ahead : drop s.next es ≡ listing (index k) s.next (erase f) ++ waiting k (s.next + size (erase f))

-- a forest by its first link
nothing : (m : Table) (n u v : ℕ) (f : Placed) → n ≤ head f → Stored m n u v f → f ≡ empty
nothing m n u v empty ge h = refl
nothing m n u v (node x l c r) ge h = absurd (omega (arith, h.0))

-- the node that a link leads to
pub record Found (m : Table) (n u : ℕ) (f : Placed) (x : ℕ) : Type 0 where
  pub l : Label
  pub c : Placed
  pub r : Placed
  pub is : f ≡ node x l c r
  pub first : (m x).first ≡ head c
  pub right : (m x).right ≡ head r
  pub parent : (m x).parent ≡ u
  pub label : (m x).label ≡ l
  pub bytes : ByteLevels (m x).label
  pub below : Stored m n x gone c
  pub beside : Stored m n u x r

found : (m : Table) (n u v x : ℕ) (f : Placed) → n ≤ gone → x ≡ head f → x < n → Stored m n u v f → Found m n u f x
found m n u v x empty le e lt h = absurd (omega arith)
found m n u v x (node y l c r) le e lt h =
    subst (Found m n u (node y l c r)) (sym e)
    (record {
      l = l;
      c = c;
      r = r;
      is = refl;
      first = ap (λ a. a.first) h.1;
      right = ap (λ a. a.right) h.1;
      parent = ap (λ a. a.parent) h.1;
      label = ap (λ a. a.label) h.1;
      bytes = subst ByteLevels (sym (ap (λ a. a.label) h.1)) h.4;
      below = h.2;
      beside = h.3;
    })

-- one entry less
tail_of : (es : List Entry) (j : ℕ) (e : Entry) (rest : List Entry) → drop j es ≡ e ∷ rest → (j < length es) × (get_or es j e ≡ e) × (drop (suc j) es ≡ rest)
tail_of es j e rest h =
    let lt : j < length es = omega (arith, length-drop j es, ap length h) in
    let both : get_or es j e ∷ drop (suc j) es ≡ e ∷ rest = sym (drop-cons es j e lt) ∙ h in
    let x : get_or es j e ≡ e = cc in
    let y : drop (suc j) es ≡ rest = cc in
    (lt, x, y)

module _ {m : Table} {n : ℕ} {es : List Entry} {b : List ℕ} {s : Spot} (le : n ≤ gone) (w : Walking m n es b s) where
  -- at a node: what is written next, and where the walk is then
  module _ (lt : s.link < n) where
    here : Found m n (above w.k) w.f s.link
    here = found m n (above w.k) w.v s.link w.f le w.leads lt w.stored

    abbrev next : Entry
    next = entry (index w.k) (m s.link).label

    rest : List Entry
    rest = listing s.next (suc s.next) (erase here.c) ++ (listing (index w.k) (suc s.next + size (erase here.c)) (erase here.r) ++ waiting w.k (suc s.next + size (erase here.c) + size (erase here.r)))

    comes : drop s.next es ≡ next ∷ rest
    unfolding rest listing size
    comes =
        let h = here in
        w.ahead
        ∙ ap (λ f. listing (index w.k) s.next (erase f) ++ waiting w.k (s.next + size (erase f))) h.is
        ∙ (λ i. entry (index w.k) (sym h.label i)
        ∷ append_assoc (listing s.next (suc s.next) (erase h.c)) (listing (index w.k) (suc s.next + size (erase h.c)) (erase h.r))
        (waiting w.k (s.next + suc (size (erase h.c) + size (erase h.r)))) i)
        ∙ ap (λ j. next ∷ (listing s.next (suc s.next) (erase h.c) ++ (listing (index w.k) (suc s.next + size (erase h.c)) (erase h.r) ++ waiting w.k j)))
        {x = s.next + suc (size (erase h.c) + size (erase h.r))} {y = suc s.next + size (erase h.c) + size (erase h.r)} (omega arith)

    pub behind_next : take (s.next + 1) es ≡ take s.next es ++ (next ∷ [])
    behind_next =
        let t = tail_of es s.next next rest comes in
        ap (λ j. take j es) (add-one s.next) ∙ take-suc es s.next next t.0 ∙ ap (λ e. take s.next es ++ (e ∷ [])) t.1

    pub goes_down : s.deep < length b → Walking m n es (set b s.deep s.next) (enter s (node_of (m s.link)))
    unfolding rest
    goes_down room =
        let h = here in
        record {
          f = h.c;
          v = gone;
          k = Trail.under s.link s.next h.r w.k;
          leads = h.first;
          under = refl;
          deep = omega (arith, w.deep);
          stored = h.below;
          chain = (
            lt,
            h.right,
            h.parent,
            ap (λ d. get_or (set b s.deep s.next) d 0) (sym w.deep) ∙ get_or-set_same b s.deep s.next 0 room,
            h.beside,
            chain_set m n b w.k s.deep s.next (omega (arith, w.deep)) w.chain,
          );
          shallow = omega (arith, w.shallow);
          ahead =
              ap (λ j. drop j es) (add-one s.next) ∙ (tail_of es s.next next rest comes).2
              ∙ ap (λ j. listing s.next j (erase h.c) ++ (listing (index w.k) (j + size (erase h.c)) (erase h.r) ++ waiting w.k (j + size (erase h.c) + size (erase h.r)))) (sym (add-one s.next));
        }

    pub its_parent : parent_in b s.deep ≡ index w.k
    its_parent = chain_parent m n b w.k s.deep w.deep w.chain

    -- what is written is the next entry
    pub its_entry : entry (parent_in b s.deep) (cell_of (node_of (m s.link))).label ≡ next
    its_entry = λ i. entry (its_parent i) (same_cell (m s.link) here.bytes i).label

  -- at the end of a list, with entries left: there is a node above
  module _ (ge : n ≤ s.link) (more : s.next < length es) where
    waits : drop s.next es ≡ waiting w.k s.next
    unfolding listing size
    waits =
        w.ahead
        ∙ ap (λ f. listing (index w.k) s.next (erase f) ++ waiting w.k (s.next + size (erase f))) (nothing m n (above w.k) w.v w.f (omega (arith, w.leads)) w.stored)
        ∙ ap (waiting w.k) {x = s.next + 0} {y = s.next} (omega arith)

    -- by what stands above
    abbrev Up : Trail → Type 0
    Up k = s.up ≡ above k → s.deep ≡ depth k → Chain m n b k → depth k ≤ s.next → drop s.next es ≡ waiting k s.next
        → (0 < s.deep) × (s.up < n) × Walking m n es b (leave s (node_of (m s.up)))

    up_from : (k : Trail) → Up k
    up_from home u d c z e = absurd (omega (arith, length-drop s.next es, ap length e))
    up_from (Trail.under x i r k) u d c z e =
        subst (λ y. (0 < s.deep) × (y < n) × Walking m n es b (leave s (node_of (m y)))) (sym u) (
          omega arith,
          c.0,
          record {
            f = r;
            v = x;
            k = k;
            leads = c.1;
            under = c.2;
            deep = omega arith;
            stored = c.4;
            chain = c.5;
            shallow = omega arith;
            ahead = e;
          },
        )

    pub goes_up : (0 < s.deep) × (s.up < n) × Walking m n es b (leave s (node_of (m s.up)))
    goes_up = up_from w.k w.under w.deep w.chain w.shallow waits

-- the start
pub walk_start : {m : Table} {n : ℕ} {t : Forest} {b : List ℕ} → Stands m n t → Walking m n (listing no_parent 0 t) b start
walk_start {m} {n} {t} h =
    record {
      f = h.placed;
      v = gone;
      k = home;
      leads = sym h.is_root;
      under = refl;
      deep = refl;
      stored = h.stored;
      chain = tt;
      shallow = omega arith;
      ahead = ap (listing no_parent 0) (sym h.is_tree) ∙ sym (append-nil (listing no_parent 0 (erase h.placed)));
    }

-- the walk, with what it has written: the first entries
pub record Writing (m : Table) (n base : ℕ) (t : Forest) (area b area' : List ℕ) (s : Spot) : Type 0 where
  pub walk : Walking m n (listing no_parent 0 t) b s
  pub few : s.next ≤ size t
  pub bytes : area' ≡ replaced area base (flat_map node_bytes (take s.next (listing no_parent 0 t)))

pub writing_start : {m : Table} {n base : ℕ} {t : Forest} {area b : List ℕ} → Stands m n t → Writing m n base t area b area start
unfolding flat_map
writing_start {base = base} {area = area} h = record { walk = walk_start h; few = omega arith; bytes = sym (replaced_none area base) }

-- by depth there stand as many indexes as before
pub turned_slots : {m : Table} {n base : ℕ} {s r : Spot} {b area b' area' : List ℕ} → Turned m n base s b area b' area' r → length b' ≡ length b
turned_slots (left ge rr rb ra) = ap length rb
turned_slots {s = s} {b = b} (entered lt rr rb ra) = ap length rb ∙ length-set b s.deep s.next

-- how many turns are left, at most
abbrev pub turns : ℕ → Spot → ℕ
turns nodes s = 2 * (nodes - s.next) + s.deep

module _ {m : Table} {n base : ℕ} {t : Forest} {area b area' : List ℕ} {s : Spot} (le : n ≤ gone) (w : Writing m n base t area b area' s) where
  abbrev es : List Entry
  es = listing no_parent 0 t

  all : length es ≡ size t
  all = listing_length no_parent 0 t

  pub shallow : s.deep ≤ s.next
  shallow = omega (arith, w.walk.deep, w.walk.shallow)

  module _ (more : s.next < size t) where
    pub ready_above : n ≤ s.link → (0 < s.deep) × (s.up < n)
    ready_above ge = let u = goes_up le w.walk ge (omega (arith, all)) in (u.0, u.1)

    written_long : length (flat_map node_bytes (take s.next es)) ≡ node_size * s.next
    written_long =
        packed_length node_bytes node_size entry_size (take s.next es)
        ∙ ap (λ j. node_size * j) (length-take-le s.next es (omega (arith, all)))

    pub turned : {b' area'' : List ℕ} {r : Spot} → base + node_size * size t ≤ length area → s.deep < length b → Turned m n base s b area' b' area'' r
        → Writing m n base t area b' area'' r × (turns (size t) r < turns (size t) s)
    turned room deep (left ge rr rb ra) =
        let u = goes_up le w.walk ge (omega (arith, all)) in
        rw (rr, rb, ra) (record { walk = u.2; few = w.few; bytes = w.bytes }, omega (arith, u.0))
    turned room deep (entered lt rr rb ra) =
        let long = written_long in
        let e = entry (index w.walk.k) (m s.link).label in
        rw (rr, rb, ra) (
          record {
            walk = goes_down le w.walk lt deep;
            few = omega arith;
            bytes =
                ap (λ e. replaced area' (base + node_size * s.next) (node_bytes e)) (its_entry le w.walk lt)
                ∙ ap (λ a. replaced a (base + node_size * s.next) (node_bytes e)) w.bytes
                ∙ replaced_on area base (base + node_size * s.next) (flat_map node_bytes (take s.next es)) (node_bytes e) (omega arith) (omega arith)
                ∙ ap (replaced area base) (sym (flat_snoc node_bytes (take s.next es) e) ∙ ap (flat_map node_bytes) (sym (behind_next le w.walk lt)));
          },
          omega arith,
        )

  -- all nodes are written
  pub nodes_put : size t ≤ s.next → Stands m n t → NodesPut m n base area area'
  unfolding NodesPut
  nodes_put ge h u k =
      w.bytes ∙ ap (λ l. replaced area base (flat_map node_bytes l)) (take_all s.next es (omega (arith, all)) ∙ ap (listing no_parent 0) (stands_one le h k))
