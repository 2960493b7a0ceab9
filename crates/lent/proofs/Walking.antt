-- The walk that asks whether a tree stands in a table, turn by turn. What fills the links that wait is what filled the first; by depth, there stand the
-- siblings due and what bounds them; and the number of nodes entered is the tree's size at the end. That no place stands twice is proved of every
-- stored tree. Assumes nothing.
use mathlib.Core.Logic.{◌↔◌}
use mathlib.Core.Path.{◌≡◌, refl, sym, ap, subst, ◌∙◌}
use mathlib.Core.Bool.{Bool, true, false, true≢false, ◌&&◌, cond}
use mathlib.Core.List.{List}
use Prim.Native.Nat.{ℕ, zero, suc, ◌+◌, ◌-◌, ◌*◌, ◌<◌, ◌≤◌}
use native.Mathlib.Omega.{arith}
use native.Mathlib.Nat.{le_refl}
use native.Mathlib.Decide.{ℕ_discrete}
use lib.Dec.{eqb, ltb}
use lib.ListN.{get_or, length, set}
use lib.Seq.{get_or-set_same, get_or-set_other}
use borrow.Author.Tests.{eq-eqb, ne_eqb, eqb-true, lt-ltb, le-ltb, ltb-true}
use Rattle.rules.specs.Level.{public}
use Rattle.rules.specs.Limits.{max_nodes}
use Rattle.rules.specs.Tree.{Fit, count, size}
use Rattle.lent.specs.declared.node.Node.{Node}
use Rattle.lent.specs.declared.standing.Spot.{Spot}
use Rattle.table.specs.Cells.{Table, ByteLevels, gone}
use Rattle.table.specs.Holds.{empty, erase, last, hit, times}
use Rattle.lent.specs.Lent.{cell_of}
use Rattle.lent.specs.Stands.{Decided, flag, seen, Marked, label_fits, start, Asked, short, over, up, full, outside, down, admits, closes, leave, enter, stuck, mark, Ready, Rooms, Turned, left, open_ended, entered, refused}
use Rattle.table.proofs.Counting.{hit_same, hit_other, sum_to, sum_zero, sum_add, sum_spike, sum_stored, count_size}
use Rattle.lent.proofs.Once.{tree_once}
use Rattle.lent.proofs.Covers.{Trail, home, under, above, depth, bound, bound_in, bound_out, Fills, Cover, Found, rest_le, both, fit_test, test_fit, no_node, empty_fills, found, cover_down, cover_up, stands_cover, cover_stands}

sum_mono : (n : ℕ) (f g : ℕ → ℕ) → ((z : ℕ) → z < n → f z ≤ g z) → sum_to n f ≤ sum_to n g
sum_mono zero f g h = le_refl 0
sum_mono (suc n) f g h = omega (arith, h n (le_refl (suc n)), sum_mono n f g (λ z lt. h z (omega arith)))

-- the tests of a record
all_four : {a b c d : Bool} → a ≡ true → b ≡ true → c ≡ true → d ≡ true → (a && b && c && d) ≡ true
all_four p q r s = rw (p, q, r, s)

-- a mark is there or not
pub flag_pos : (j : ℕ) → 0 < j → flag j ≡ 1
flag_pos zero h = absurd (omega arith)
flag_pos (suc j) h = refl

flag_few : (j : ℕ) → j ≤ 1 → flag j ≡ j
flag_few zero h = refl
flag_few (suc j) h = omega arith

mark_seen : (c : List ℕ) (y z k : ℕ) → max_nodes ≤ length c → z < max_nodes → seen c z ≡ flag k → seen (mark c y) z ≡ flag (hit z y + k)
unfolding seen mark
mark_seen c y z k long lt e = go (ℕ_discrete z y)
  where
    go : Dec (z ≡ y) → flag (get_or (cond (ltb y max_nodes) (set c y 1) c) z 0) ≡ flag (hit z y + k)
    go (yes q) =
        rw (← q, lt-ltb z max_nodes lt) (ap flag (get_or-set_same c z 1 0 (omega arith)) ∙ sym (flag_pos (hit z z + k) (omega (arith, hit_same z))))
    go (no q) = let i : k ≡ hit z y + k = omega (arith, hit_other z y q) in other (ltb y max_nodes) ∙ e ∙ ap flag i
      where
        other : (t : Bool) → flag (get_or (cond t (set c y 1) c) z 0) ≡ flag (get_or c z 0)
        other true = ap flag (get_or-set_other c y z 1 0 q)
        other false = refl

-- a record that is admitted is one of those due
pub admitted_due : (s : Spot) (d : Node) → admits s d ≡ true → 0 < s.due
unfolding admits
admitted_due s d e =
    let a = eqb d.parent s.up && eqb d.left s.prev in
    let b = ltb 0 s.due in
    ltb-true 0 s.due (both a b (both (a && b) (label_fits s.lo s.hi (cell_of d).label) e).0).1

-- at each depth stand the siblings due and the bound of the list that is left there
abbrev Chain : Table → ℕ → List ℕ → List ℕ → Trail → Type 0
Chain m n b e home = Unit
Chain m n b e (under x c k) =
    (x < n) × (get_or b (depth k) 0 ≡ c) × (get_or e (depth k) 0 ≡ bound m n (above k)) × ((m x).parent ≡ above k) × ByteLevels (m x).label × Chain m n b e k

chain_set : (m : Table) (n : ℕ) (b e : List ℕ) (k : Trail) (i v w : ℕ) → depth k ≤ i → Chain m n b e k → Chain m n (set b i v) (set e i w) k
chain_set m n b e home i v w le h = tt
chain_set m n b e (under x c k) i v w le h = (
  h.0,
  get_or-set_other b i (depth k) v 0 (λ z. omega arith) ∙ h.1,
  get_or-set_other e i (depth k) w 0 (λ z. omega arith) ∙ h.2,
  h.3,
  h.4,
  chain_set m n b e k i v w (omega arith) h.5,
)

-- where the walk is, in a table m of n places, with what stands by depth and the marks
pub record Walking (m : Table) (n : ℕ) (b e c : List ℕ) (s : Spot) : Type 0 where
  pub k : Trail
  pub mk : ℕ → ℕ
  pub is_deep : depth k ≡ s.deep
  pub is_up : above k ≡ s.up
  pub is_bound : bound m n s.up ≡ s.hi
  pub chain : Chain m n b e k
  pub total : sum_to n mk ≡ s.entered
  pub few : s.deep ≤ s.entered
  pub limit : s.entered ≤ max_nodes
  pub marks : (z : ℕ) → z < n → z < max_nodes → seen c z ≡ flag (mk z)
  pub same : (T : ℕ → ℕ) → sum_to n T ≤ max_nodes → Cover m n T (λ _. 0) home gone 0 1 public ↔ Cover m n T mk k s.prev s.link s.due s.lo

-- turns that are left: three for each node that can be entered, two for each that can be left, and one where no list is too short
pub turns : Spot → ℕ
turns s = 3 * (max_nodes - s.entered) + 2 * s.deep + cond (eqb s.link gone && ltb 0 s.due) 0 1

module _ {m : Table} {n : ℕ} (le : n ≤ gone) where
  pub walk_start : (b e c : List ℕ) → ((z : ℕ) → z < max_nodes → get_or c z 0 ≡ 0) → Walking m n b e c start
  unfolding start public seen
  walk_start b e c z =
      record {
        k = home;
        mk = λ _. 0;
        is_deep = refl;
        is_up = refl;
        is_bound = bound_out m n gone le;
        chain = tt;
        total = sum_zero n;
        few = omega arith;
        limit = omega arith;
        marks = λ i _ lt. ap flag (z i lt);
        same = λ T _. (λ h. h, λ h. h);
      }

  module _ {b e c : List ℕ} {s : Spot} (w : Walking m n b e c s) where
    -- no tree stands in the table
    never : ((T : ℕ → ℕ) → sum_to n T ≤ max_nodes → Cover m n T w.mk w.k s.prev s.link s.due s.lo → ⊥) → Decided m n false
    never h =
        record {
          sound = λ i. absurd (true≢false (sym i));
          exact =
              λ t st.
              let q : sum_to n (λ z. times z st.placed) ≤ max_nodes =
              omega (arith, sum_stored m n gone gone st.placed st.stored, ap size st.is_tree, st.few) in
              absurd (h (λ z. times z st.placed) q ((w.same (λ z. times z st.placed) q).0 (stands_cover le st)));
        }

    -- the node that a link leads to, and room for it
    meets : (T : ℕ → ℕ) → sum_to n T ≤ max_nodes → (s.link ≡ gone → ⊥) → (h : Cover m n T w.mk w.k s.prev s.link s.due s.lo)
        → Found m n (above w.k) s.prev s.link s.due s.lo h.f × (s.entered < max_nodes)
    meets T few ne h =
        let d = found h.f ne h.fills in
        let q = sum_mono n (λ z. times z h.f + w.mk z) T (rest_le m n T (λ z. times z h.f + w.mk z) w.k h.rest) in
        let r = sum_add n (λ z. times z h.f) w.mk in
        let f = h.fills in (
          d,
          omega (arith, q, r, few, w.total, sum_stored m n (above w.k) s.prev h.f f.stored, count_size h.f, f.counted, d.more),
        )

    -- a list that is shorter than it should be
    too_short : s.link ≡ gone → 0 < s.due → (T : ℕ → ℕ) → Cover m n T w.mk w.k s.prev s.link s.due s.lo → ⊥
    unfolding count
    too_short i pos T h =
        let q = no_node h.f le (subst (λ v. Fills m n (above w.k) s.prev v s.due s.lo h.f) i h.fills) in
        omega (arith, h.fills.counted, ap (λ f. count (erase f)) q)

    -- what the node above says, where there is one
    over_there : 0 < s.deep → (s.up < n) × ByteLevels (m s.up).label
    over_there pos = go w.k w.is_deep w.is_up w.chain
      where
        go : (k : Trail) → depth k ≡ s.deep → above k ≡ s.up → Chain m n b e k → (s.up < n) × ByteLevels (m s.up).label
        go home d i h = absurd (omega arith)
        go (under x j k) d i h = rw (← i) (h.0, h.4)

    -- no tree stands in the table: from here on the walk is as where a list is too short
    stops : ((T : ℕ → ℕ) → sum_to n T ≤ max_nodes → Cover m n T w.mk w.k s.prev s.link s.due s.lo → ⊥) → Walking m n b e c (stuck s)
    unfolding count
    stops none =
        let never-short : (T : ℕ → ℕ) → Cover m n T w.mk w.k s.prev gone 1 s.lo → ⊥ =
        λ T h. omega (arith, h.fills.counted, ap (λ f. count (erase f)) (no_node h.f le h.fills)) in
        record {
          k = w.k;
          mk = w.mk;
          is_deep = w.is_deep;
          is_up = w.is_up;
          is_bound = w.is_bound;
          chain = w.chain;
          total = w.total;
          few = w.few;
          limit = w.limit;
          marks = w.marks;
          same = λ T q. (λ h. absurd (none T q ((w.same T q).0 h)), λ h. absurd (never-short T h));
        }

    -- a list whose last node is not the one that the node above leads to
    strays : {d : Node} → s.link ≡ gone → 0 < s.deep → cell_of d ≡ m s.up → closes s d ≡ false → Walking m n b e c (stuck s)
    unfolding closes
    strays {d} l pos ex no' =
        stops λ T _ h.
        let q = no_node h.f le (subst (λ v. Fills m n (above w.k) s.prev v s.due s.lo h.f) l h.fills) in
        let e : s.prev ≡ (m (above w.k)).last =
        sym (ap (last s.prev) q) ∙ h.fills.ends (subst (λ v. v < n) (sym w.is_up) (over_there pos).0) in
        let z : d.last ≡ s.prev = ap (λ v. v.last) ex ∙ ap (λ v. (m v).last) (sym w.is_up) ∙ sym e in
        true≢false (sym (eq-eqb d.last s.prev z) ∙ no')

    -- up from the end of a list
    goes_up : {d : Node} → s.link ≡ gone → s.due ≡ 0 → 0 < s.deep → cell_of d ≡ m s.up → closes s d ≡ true
        → Walking m n b e c (leave s d (get_or b (s.deep - 1) 0) (get_or e (s.deep - 1) 0))
    unfolding closes
    goes_up {d} l z pos ex ok = go w.k w.is_deep w.is_up w.chain w.same
      where
        go : (k : Trail) → depth k ≡ s.deep → above k ≡ s.up → Chain m n b e k
            → ((T : ℕ → ℕ) → sum_to n T ≤ max_nodes → Cover m n T (λ _. 0) home gone 0 1 public ↔ Cover m n T w.mk k s.prev s.link s.due s.lo)
            → Walking m n b e c (leave s d (get_or b (s.deep - 1) 0) (get_or e (s.deep - 1) 0))
        go home dp i h same = absurd (omega arith)
        go (under x j k) dp i h same =
            let a : cell_of d ≡ m x = ex ∙ ap m (sym i) in
            let dk : depth k ≡ s.deep - 1 = omega arith in
            let p : above k ≡ d.parent = sym (ap (λ v. v.parent) a ∙ h.3) in
            let r₁ : d.right ≡ (m x).right = ap (λ v. v.right) a in
            let r₂ : d.existence ≡ (m x).label.existence = ap (λ v. v.label.existence) a in
            let r₃ : get_or b (s.deep - 1) 0 ≡ j = sym (ap (λ v. get_or b v 0) dk) ∙ h.1 in
            let step : (T : ℕ → ℕ)
            → Cover m n T w.mk (under x j k) s.prev s.link s.due s.lo
            ↔ Cover m n T w.mk k s.up d.right (get_or b (s.deep - 1) 0) d.existence =
            λ T. rw (l, z, r₁, r₂, r₃, ← i)
            (cover_up m n le T w.mk k s.prev x j s.lo (sym (ap (λ v. v.last) a) ∙ eqb-true d.last s.prev ok)) in
            record {
              k = k;
              mk = w.mk;
              is_deep = dk;
              is_up = p;
              is_bound = ap (bound m n) (sym p) ∙ sym h.2 ∙ ap (λ v. get_or e v 0) dk;
              chain = h.5;
              total = w.total;
              few = omega (arith, w.few);
              limit = w.limit;
              marks = w.marks;
              same = λ T q. (λ g. (step T).0 ((same T q).0 g), λ g. (same T q).1 ((step T).1 g));
            }

    -- down to the children of a node
    module _ {d : Node} (ne : s.link ≡ gone → ⊥) (room : s.entered < max_nodes) (lt : s.link < n) (ex : cell_of d ≡ m s.link) where
      goes_down : max_nodes ≤ length b → max_nodes ≤ length e → max_nodes ≤ length c → admits s d ≡ true → ByteLevels (cell_of d).label
          → Walking m n (set b s.deep (s.due - 1)) (set e s.deep s.hi) (mark c s.link) (enter s d)
      unfolding admits
      goes_down long long' long'' ok bytes =
          let t = both (eqb d.parent s.up && eqb d.left s.prev && ltb 0 s.due) (label_fits s.lo s.hi (cell_of d).label) ok in
          let u = both (eqb d.parent s.up && eqb d.left s.prev) (ltb 0 s.due) t.0 in
          let v = both (eqb d.parent s.up) (eqb d.left s.prev) u.0 in
          let y = s.link in
          let dp = w.is_deep in
          let pos = ltb-true 0 s.due u.1 in
          let p : (m y).parent ≡ above w.k = sym (ap (λ v. v.parent) ex) ∙ eqb-true d.parent s.up v.0 ∙ sym w.is_up in
          let q : (m y).left ≡ s.prev = sym (ap (λ v. v.left) ex) ∙ eqb-true d.left s.prev v.1 in
          let hi : bound m n (above w.k) ≡ s.hi = ap (bound m n) w.is_up ∙ w.is_bound in
          let fit : Fit s.lo (bound m n (above w.k)) (m y).label =
          subst (λ v. Fit s.lo v (m y).label) (sym hi) (subst (λ v. Fit s.lo s.hi v.label) ex (fit_test s.lo s.hi (cell_of d).label t.1)) in
          let mk' : ℕ → ℕ = λ z. hit z y + w.mk z in
          let step : (T : ℕ → ℕ)
          → Cover m n T w.mk w.k s.prev y s.due s.lo
          ↔ Cover m n T mk' (under y (s.due - 1) w.k) gone d.first d.children d.existence =
          λ T.
          subst
          (λ v.
          Cover m n T w.mk w.k s.prev y s.due s.lo
          ↔ Cover m n T mk' (under y (s.due - 1) w.k) gone v.first v.children v.label.existence) (sym ex)
          (cover_down m n le T w.mk mk' w.k s.prev y s.due s.lo lt pos p q fit (subst (λ v. ByteLevels v.label) ex bytes) (λ z _. refl)) in
          record {
            k = under y (s.due - 1) w.k;
            mk = mk';
            is_deep = omega (arith, dp);
            is_up = refl;
            is_bound = bound_in m n y lt ∙ sym (ap (λ v. v.label.structure) ex);
            chain = (
              lt,
              ap (λ v. get_or (set b s.deep (s.due - 1)) v 0) dp ∙ get_or-set_same b s.deep (s.due - 1) 0 (omega (arith, w.few)),
              ap (λ v. get_or (set e s.deep s.hi) v 0) dp ∙ get_or-set_same e s.deep s.hi 0 (omega (arith, w.few)) ∙ sym hi,
              p,
              subst (λ v. ByteLevels v.label) ex bytes,
              chain_set m n b e w.k s.deep (s.due - 1) s.hi (omega (arith, dp)) w.chain,
            );
            total =
                omega
                (arith, sum_spike n y 1 w.mk mk' lt (omega (arith, hit_same y)) (λ i q. omega (arith, hit_other i y q)), w.total);
            few = omega (arith, w.few);
            limit = omega arith;
            marks = λ z q v. mark_seen c y z (w.mk z) long'' v (w.marks z q v);
            same = λ T q. (λ h. (step T).0 ((w.same T q).0 h), λ h. (w.same T q).1 ((step T).1 h));
          }

      -- a node that does not keep the rules
      gets_stuck : admits s d ≡ false → Walking m n b e c (stuck s)
      unfolding admits
      gets_stuck no' =
          stops λ T few h.
          let f = (meets T few ne h).0 in
          let hi : bound m n (above w.k) ≡ s.hi = ap (bound m n) w.is_up ∙ w.is_bound in
          let fit = subst (λ v. Fit s.lo s.hi v.label) (sym ex) (subst (λ v. Fit s.lo v (m s.link).label) hi f.fit) in
          let p : d.parent ≡ s.up = ap (λ v. v.parent) ex ∙ f.parent ∙ w.is_up in
          let q : d.left ≡ s.prev = ap (λ v. v.left) ex ∙ f.left in
          true≢false
          (sym (all_four (eq-eqb d.parent s.up p) (eq-eqb d.left s.prev q) (lt-ltb 0 s.due f.more)
          (test_fit s.lo s.hi (cell_of d).label fit)) ∙ no')

    -- the end: a tree, whose places are those entered
    walk_yes : s.link ≡ gone → s.due ≡ 0 → s.deep ≡ 0 → Decided m n true × (true ≡ true → Marked m n c)
    unfolding Marked
    walk_yes l z dp = go w.k w.is_deep w.same
      where
        go : (k : Trail) → depth k ≡ s.deep
            → ((T : ℕ → ℕ) → sum_to n T ≤ max_nodes → Cover m n T (λ _. 0) home gone 0 1 public ↔ Cover m n T w.mk k s.prev s.link s.due s.lo)
            → Decided m n true × (true ≡ true → Marked m n c)
        go (under x j k) i same = absurd (omega arith)
        go home i same =
            let total : sum_to n w.mk ≤ max_nodes = omega (arith, w.total, w.limit) in
            let last : Cover m n w.mk w.mk home s.prev s.link s.due s.lo =
            rw (l, z) record { f = empty; fills = empty_fills (λ lt. absurd (omega arith)); rest = λ i lt. omega arith } in
            let h = (same w.mk total).1 last in (
              record { sound = λ _. (erase h.f, cover_stands le total h); exact = λ _ _. refl },
              λ _ t st y lt few.
                  let q : sum_to n (λ z. times z st.placed) ≤ max_nodes =
                  omega (arith, sum_stored m n gone gone st.placed st.stored, ap size st.is_tree, st.few) in
                  let g : Cover m n (λ i. times i st.placed) w.mk home s.prev gone 0 s.lo =
                  rw (l, z) at ((same (λ i. times i st.placed) q).0 (stands_cover le st)) in
                  let e : w.mk y ≡ times y st.placed = omega (arith, g.rest y lt, ap (times y) (no_node g.f le g.fills)) in
                  sym (w.marks y lt few ∙ ap flag e ∙ flag_few (times y st.placed) (tree_once m n le st.placed st.stored y)),
            )

    module _ {x : ℕ} where
      -- a turn can be made
      pub walk_ready : Asked s n x → x < n → Ready s
      walk_ready (short l z e) lt = absurd (omega arith)
      walk_ready (over l z d e) lt = absurd (omega arith)
      walk_ready (up l z pos e) lt = record { above = λ _. (pos, omega (arith, w.few, w.limit)); below = λ ne. absurd (ne l) }
      walk_ready (full ne z e) lt = absurd (omega arith)
      walk_ready (outside ne z e) lt = absurd (omega arith)
      walk_ready (down ne room z e) lt = record { above = λ l. absurd (ne l); below = λ _. (omega (arith, w.few), w.limit) }

      -- levels that are bytes where a node is entered are bytes at every turn: the node above was entered
      pub walk_bytes : Asked s n x → x < n → ((s.link ≡ gone → ⊥) → x ≡ s.link → ByteLevels (m x).label) → ByteLevels (m x).label
      walk_bytes (short l z e) lt b = absurd (omega arith)
      walk_bytes (over l z d e) lt b = absurd (omega arith)
      walk_bytes (up l z pos e) lt b = subst (λ v. ByteLevels (m v).label) (sym e) (over_there pos).1
      walk_bytes (full ne z e) lt b = absurd (omega arith)
      walk_bytes (outside ne z e) lt b = absurd (omega arith)
      walk_bytes (down ne room z e) lt b = b ne e

      -- levels that are no bytes
      pub walk_plain : Asked s n x → x < n → (ByteLevels (m x).label → ⊥) → Decided m n false
      walk_plain a lt no' =
          never λ T few h.
          no' (walk_bytes a lt (λ ne e. subst (λ v. ByteLevels (m v).label) (sym e) (meets T few ne h).0.bytes))

      -- a turn
      pub walk_turn : {d : Node} {b' e' c' : List ℕ} {r : Spot} → Asked s n x → x < n → cell_of d ≡ m x → Rooms b e c → Turned s d b e c b' e' c' r → Walking m n b' e' c' r × (turns r < turns s)
      unfolding turns
      walk_turn {d} (up l z pos i) lt ex rooms (left l' ok rr rb rf rc) =
          rw (rr, rb, rf, rc) (goes_up l z pos (ex ∙ ap m i) ok, fewer (eqb d.right gone && ltb 0 (get_or b (s.deep - 1) 0)))
        where
          fewer : (t : Bool) → 3 * (max_nodes - s.entered) + 2 * (s.deep - 1) + cond t 0 1 < 3 * (max_nodes - s.entered) + 2 * s.deep + cond (eqb s.link gone && ltb 0 s.due) 0 1
          fewer true = omega arith
          fewer false = omega arith
      walk_turn (up l z pos i) lt ex rooms (open_ended l' no' rr rb rf rc) =
          rw (rr, rb, rf, rc) (strays l pos (ex ∙ ap m i) no', rw (l, z) (omega arith))
      walk_turn {d} (down ne room lt' i) lt ex rooms (entered ne' ok bt rr rb rf rc) =
          rw (rr, rb, rf, rc) (goes_down ne room lt' (ex ∙ ap m i) rooms.dues rooms.bounds rooms.marks ok bt, fewer (eqb d.first gone && ltb 0 d.children))
        where
          fewer : (t : Bool) → 3 * (max_nodes - (s.entered + 1)) + 2 * (s.deep + 1) + cond t 0 1 < 3 * (max_nodes - s.entered) + 2 * s.deep + cond (eqb s.link gone && ltb 0 s.due) 0 1
          fewer true = rw (ne_eqb s.link gone ne) (omega arith)
          fewer false = rw (ne_eqb s.link gone ne) (omega arith)
      walk_turn (down ne room lt' i) lt ex rooms (refused ne' no' rr rb rf rc) =
          rw (rr, rb, rf, rc) (gets_stuck ne room lt' (ex ∙ ap m i) no', rw (ne_eqb s.link gone ne) (omega arith))
      walk_turn (up l z pos i) lt ex rooms (entered ne ok bt rr rb rf rc) = absurd (ne l)
      walk_turn (up l z pos i) lt ex rooms (refused ne no' rr rb rf rc) = absurd (ne l)
      walk_turn (down ne room lt' i) lt ex rooms (left l ok rr rb rf rc) = absurd (ne l)
      walk_turn (down ne room lt' i) lt ex rooms (open_ended l no' rr rb rf rc) = absurd (ne l)
      walk_turn (short l z i) lt ex rooms t = absurd (omega arith)
      walk_turn (over l z dp i) lt ex rooms t = absurd (omega arith)
      walk_turn (full ne z i) lt ex rooms t = absurd (omega arith)
      walk_turn (outside ne z i) lt ex rooms t = absurd (omega arith)

      -- the end: no tree
      walk_no : ((T : ℕ → ℕ) → sum_to n T ≤ max_nodes → Cover m n T w.mk w.k s.prev s.link s.due s.lo → ⊥) → x ≡ n
          → Decided m n (ltb n x) × (ltb n x ≡ true → Marked m n c)
      walk_no h i = rw (le-ltb n x (omega arith)) (never h, λ e. absurd (true≢false (sym e)))

      pub walk_end : Asked s n x → n ≤ x → Decided m n (ltb n x) × (ltb n x ≡ true → Marked m n c)
      walk_end (short l pos i) ge = walk_no (λ T _ h. too_short l pos T h) i
      walk_end (over l z dp i) ge = rw (lt-ltb n x (omega arith)) (walk_yes l z dp)
      walk_end (up l z pos i) ge = absurd (omega (arith, (over_there pos).0))
      walk_end (full ne ge' i) ge = walk_no (λ T few h. omega (arith, (meets T few ne h).1)) i
      walk_end (outside ne ge' i) ge = walk_no (λ T few h. omega (arith, (meets T few ne h).0.below)) i
      walk_end (down ne room lt i) ge = absurd (omega arith)
