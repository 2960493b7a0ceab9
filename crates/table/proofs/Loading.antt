-- Node records become a tree. The k records from j on are linked, from the last to the first, each list from its parent before j; the next record goes
-- in front of its parent's list; and once j is 1, the only list is that of the root. Assumes nothing.
use mathlib.Core.Path.{◌≡◌, refl, sym, ap, subst, ◌∙◌}
use Prim.Native.Nat.{ℕ, zero, suc, ◌+◌, ◌<◌, ◌≤◌}
use native.Mathlib.Omega.{arith}
use native.Mathlib.Nat.{le_refl}
use native.Mathlib.Decide.{ℕ_discrete, dec_le}
use Rattle.rules.specs.Limits.{max_nodes}
use Rattle.rules.specs.Tree.{Label, tree, nil, root, count}
use Rattle.table.specs.Cells.{cell, Table, ByteLevels, gone}
use Rattle.table.specs.Holds.{Placed, empty, node, erase, head, last, Stored, end, hit, times, Holds}
use Rattle.table.specs.Steps.{with_word, Put, LedBack, Cleared, Entered, under, alone}
use Rattle.table.proofs.Counting.{hit_same, hit_other}
use Rattle.table.proofs.Frames.{stored}
use Rattle.table.proofs.Links.{led_stored, led_same, led_last, led_count, led_first}
use Rattle.table.proofs.Words.{one_more_law}
use Rattle.table.proofs.Kids.{among_below, among_once, kids, kids_none, kids_hit, kids_miss, kids_below, kids_few, kids_once, kids_apart, spread}

cell≡ : {f f' r r' u u' v z z' j j' : ℕ} {l : Label} → f ≡ f' → r ≡ r' → u ≡ u' → z ≡ z' → j ≡ j' → cell f r u v z j l ≡ cell f' r' u' v z' j' l
cell≡ {v = v} {l = l} p q s e g = λ i. cell (p i) (q i) (s i) v (e i) (g i) l

-- the record x is in front of f, the children of p so far
record Prepended (m m' : Table) (b x p : ℕ) (l : Label) (f : Placed) : Type 0 where
  new : m' x ≡ cell (m x).first (head f) p gone (m x).last (m x).children l
  first : (m' p).first ≡ x
  final : (m' p).last ≡ last x f
  children : (m' p).children ≡ suc (m p).children
  list : Stored m' b p x f
  same : (y : ℕ) → times y f ≡ 0 → (y ≡ x → ⊥) → (y ≡ p → ⊥) → m' y ≡ m y
  bytes : ByteLevels l

prepended : {m m' : Table} {b x p : ℕ} {l : Label} (f : Placed) → b ≤ gone → p < x → (m p).children < 4294967295 → (m p).first ≡ head f
    → (m p).last ≡ last gone f → Stored m b p gone f → ((y : ℕ) → times y f ≤ 1) → times x f ≡ 0 → times p f ≡ 0 → Entered b p x l m m'
    → Prepended m m' b x p l f
unfolding with_word
prepended {m} {m'} {b} {x} {p} {l} f least lt few i j s once nx np (under m₁ m₂ m₃ by lt' q₁ q₂ q₃ q₄) =
    let xp : x ≡ p → ⊥ = λ e. omega arith in
    let notX : (y : ℕ) → 0 < times y f → y ≡ x → ⊥ = λ y q e. omega (arith, ap (λ v. times v f) e) in
    let notP : (y : ℕ) → 0 < times y f → y ≡ p → ⊥ = λ y q e. omega (arith, ap (λ v. times v f) e) in
    let at_p = q₂.on ∙ ap (with_word 0 x) (q₁.off p (λ e. omega arith)) in
    let s₂ = stored m m₂ (le_refl b) p gone f (λ y q. q₂.off y (notP y q) ∙ q₁.off y (notX y q)) s in
    let led : LedBack m₂ b (head f) p x m₃ = subst (λ v. LedBack m₂ b v p x m₃) i q₃ in
    let same_count : (m₃ p).children ≡ (m p).children = led_count q₃ p ∙ ap (λ a. a.children) at_p in
    record {
      new =
          q₄.off x xp ∙ led_same gone least (le_refl b) f s₂ led x nx xp ∙ q₂.off x xp ∙ q₁.on
          ∙ ap (λ v. cell (m x).first v p gone (m x).last (m x).children l) i;
      first = ap (λ a. a.first) q₄.on ∙ led_first q₃ p ∙ ap (λ a. a.first) at_p;
      final = ap (λ a. a.last) q₄.on ∙ led_last gone least (le_refl b) f s₂ led (ap (λ a. a.last) at_p ∙ j);
      children = ap (λ a. a.children) q₄.on ∙ one_more_law (m₃ p).children (omega arith) ∙ ap suc same_count;
      list = stored m₃ m' (le_refl b) p x f (λ y q. q₄.off y (notP y q)) (led_stored gone least (le_refl b) f once s₂ led);
      same = λ y q ex ep. q₄.off y ep ∙ led_same gone least (le_refl b) f s₂ led y q ep ∙ q₂.off y ep ∙ q₁.off y ex;
      bytes = by;
    }
prepended f least lt few i j s once nx np (alone by ge q) = absurd (omega arith)

module _ (par : ℕ → ℕ) (lab : ℕ → Label) where
  pub record Loading (m : Table) (b k j : ℕ) : Type 0 where
    pub heads : (i : ℕ) → i < j → (m i).first ≡ head (kids par lab i k j)
    pub lasts : (i : ℕ) → i < j → (m i).last ≡ last gone (kids par lab i k j)
    pub counts : (i : ℕ) → i < j → (m i).children ≡ count (erase (kids par lab i k j))
    pub lists : (i : ℕ) → i < j → Stored m b i gone (kids par lab i k j)

  -- lists from j on stay where their cells, which are from j on, do
  keep : (m m' : Table) (b i k j : ℕ) → ((y : ℕ) → j ≤ y → 0 < times y (kids par lab i k j) → m' y ≡ m y) → Stored m b i gone (kids par lab i k j)
      → Stored m' b i gone (kids par lab i k j)
  keep m m' b i k j same h = stored m m' (le_refl b) i gone (kids par lab i k j) (λ y q. same y (from y (dec_le j y) q) q) h
    where
      from : (y : ℕ) → Dec (j ≤ y) → 0 < times y (kids par lab i k j) → j ≤ y
      from y (yes z) q = z
      from y (no z) q = absurd (omega (arith, kids_below par lab y i k j (omega arith)))

  -- no record is linked yet
  pub load_none : (m : Table) (b : ℕ) → Cleared m b → Loading m b zero b
  unfolding Cleared count
  load_none m b h =
      record {
        heads = λ i lt. rw kids_none (h i lt).0;
        lasts = λ i lt. rw kids_none (h i lt).1;
        counts = λ i lt. rw kids_none (h i lt).2;
        lists = λ i lt. rw kids_none tt;
      }

  -- the record x is linked
  pub load_step : {m m' : Table} {b k : ℕ} (x : ℕ) → b ≤ max_nodes → k ≤ max_nodes → x < b → par x < x
      → ((y : ℕ) → suc x ≤ y → y < suc x + k → par y < y) → Loading m b k (suc x) → Entered b (par x) x (lab x) m m' → Loading m' b (suc k) x
  unfolding count
  load_step {m} {m'} {b} {k} x least hk hb hp rule h e =
      record {
        heads = λ i lt. head' i lt (ℕ_discrete (par x) i);
        lasts = λ i lt. last' i lt (ℕ_discrete (par x) i);
        counts = λ i lt. count' i lt (ℕ_discrete (par x) i);
        lists = λ i lt. list' i lt (ℕ_discrete (par x) i);
      }
    where
      -- the children of its parent so far
      f : Placed
      f = kids par lab (par x) k (suc x)

      q : Prepended m m' b x (par x) (lab x) f
      q =
          prepended f (omega arith) hp (omega (arith, h.counts (par x) (omega arith), kids_few par lab (par x) k (suc x))) (h.heads (par x) (omega arith))
          (h.lasts (par x) (omega arith)) (h.lists (par x) (omega arith)) (λ y. kids_once par lab k (suc x) rule y (par x) (omega arith))
          (kids_below par lab x (par x) k (suc x) (omega arith)) (kids_below par lab (par x) (par x) k (suc x) (omega arith)) e

      -- other records that wait are as they were
      other : (i : ℕ) → i < x → (par x ≡ i → ⊥) → m' i ≡ m i
      other i lt z = q.same i (kids_below par lab i (par x) k (suc x) (omega arith)) (λ v. omega arith) (λ v. z (sym v))

      head' : (i : ℕ) → i < x → Dec (par x ≡ i) → (m' i).first ≡ head (kids par lab i (suc k) x)
      head' i lt (yes z) = rw (kids_hit par lab i k x z, ← z) q.first
      head' i lt (no z) = rw (kids_miss par lab i k x z, other i lt z) (h.heads i (omega arith))

      last' : (i : ℕ) → i < x → Dec (par x ≡ i) → (m' i).last ≡ last gone (kids par lab i (suc k) x)
      last' i lt (yes z) = rw (kids_hit par lab i k x z, ← z) q.final
      last' i lt (no z) = rw (kids_miss par lab i k x z, other i lt z) (h.lasts i (omega arith))

      count' : (i : ℕ) → i < x → Dec (par x ≡ i) → (m' i).children ≡ count (erase (kids par lab i (suc k) x))
      count' i lt (yes z) = rw (kids_hit par lab i k x z, ← z) (q.children ∙ ap suc (h.counts (par x) (omega arith)))
      count' i lt (no z) = rw (kids_miss par lab i k x z, other i lt z) (h.counts i (omega arith))

      kept : (i : ℕ) → i < suc x → (par x ≡ i → ⊥) → Stored m' b i gone (kids par lab i k (suc x))
      kept i lt ne =
          keep m m' b i k (suc x)
          (λ y z p.
          q.same y (omega (arith, kids_apart par lab k (suc x) rule y (par x) i (omega arith) lt ne)) (λ v. omega arith) (λ v. omega arith))
          (h.lists i lt)

      list' : (i : ℕ) → i < x → Dec (par x ≡ i) → Stored m' b i gone (kids par lab i (suc k) x)
      list' i lt (yes z) =
          let own = le_refl (suc x) in
          rw (kids_hit par lab i k x z, ← z)
          (hb, q.new ∙ cell≡ (h.heads x own) refl refl (h.lasts x own) (h.counts x own), kept x own (λ v. omega arith), q.list, q.bytes)
      list' i lt (no z) = rw (kids_miss par lab i k x z) (kept i (omega arith) z)

  -- the root is entered, and the tree stands
  module _ {m m' : Table} {b k places p : ℕ} (room : suc k ≤ places) (few : places ≤ max_nodes) (rule : (x : ℕ) → 1 ≤ x → x < 1 + k → par x < x)
      (h : Loading m (suc k) k 1) (e : Entered b p 0 (lab 0) m m') where
    abbrev first : Placed
    first = kids par lab 0 k 1

    root_put : Entered b p 0 (lab 0) m m' → Put m m' 0 (cell (m 0).first gone gone gone (m 0).last (m 0).children (lab 0)) × ByteLevels (lab 0)
    root_put (under m₁ m₂ m₃ by lt q₁ q₂ q₃ q₄) = absurd (omega arith)
    root_put (alone by ge q) = (q, by)

    once : (y : ℕ) → y < suc k → Dec (y ≡ 0) → hit y 0 + times y first ≡ 1
    once y lt (yes z) = rw z (omega (arith, hit_same 0, spread par lab 0 k 1 rule, among_below 0 1 k (le_refl 1)))
    once y lt (no z) = omega (arith, hit_other y 0 z, spread par lab y k 1 rule, among_once y 1 k (omega arith) (omega arith))

    pub load_end : Holds m' places (suc k) gone 0 (tree (lab 0) (erase first) nil) root
    unfolding count
    load_end =
        let q = root_put e in
        record {
          few = few;
          room = room;
          placed = node 0 (lab 0) first empty;
          spare = end;
          is_tree = refl;
          is_root = refl;
          alone = refl;
          here = refl;
          live = omega arith;
          stored = (
            omega arith,
            q.0.on ∙ cell≡ (h.heads 0 (le_refl 1)) refl refl (h.lasts 0 (le_refl 1)) (h.counts 0 (le_refl 1)),
            keep m m' (suc k) 0 k 1 (λ y z _. q.0.off y (λ v. omega arith)) (h.lists 0 (le_refl 1)),
            tt,
            q.1,
          );
          freed = tt;
          leads = refl;
          each = λ y lt. omega (arith, once y lt (ℕ_discrete y 0));
        }
