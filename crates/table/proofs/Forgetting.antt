-- The walk that clears the places of a subtree. What waits is a stack of forests: its first place is cleared, and makes way for what hangs from it,
-- so that each place is cleared once. Only parent words change: the forests hang together as they did. Assumes nothing.
use mathlib.Core.Path.{◌≡◌, refl, sym, ap, subst, ◌∙◌}
use mathlib.Core.Logic.{◌⊎◌, inl, inr}
use mathlib.Core.Bool.{Bool, false, true≢false}
use mathlib.Core.List.{List}
use Prim.Native.Nat.{ℕ, suc, ◌+◌, ◌<◌, ◌≤◌}
use native.Mathlib.Omega.{arith}
use native.Mathlib.Decide.{ℕ_discrete, dec_lt}
use lib.ListN.{length, set}
use lib.Seq.{get_or-set_same, get_or-set_other}
use Rattle.rules.specs.Tree.{Forest, Side, Place}
use Rattle.table.specs.Cells.{Table, gone}
use Rattle.table.specs.Holds.{Placed, head, Spare, end, more, top, Linked, Free, hit, times, spare_times, Holds}
use Rattle.table.specs.Promises.{Behind}
use Rattle.table.specs.Since.{never, number, Forgotten, Clears, Clearing, Forgets}
use Rattle.table.specs.Steps.{with_word, orphan, Reparented, Pushed, some, none, Popped}
use Rattle.table.proofs.Behind.{same_behind}
use Rattle.table.proofs.Counting.{hit_same, hit_other, sum_to, sum_ext, sum_add, sum_bound, sum_term, sum_hit, free_beyond}
use Rattle.table.proofs.Frames.{still_linked}
use Rattle.table.proofs.Links.{same_part}
use Rattle.table.proofs.Sides.{forest_on}
use Rattle.table.proofs.Spares.{onto, onto_times, push_free, push_same, unstack, none_new}
use Rattle.table.proofs.Removing.{First, seen_first, gone_below, not_below}

-- a push touches a parent word only
pushed_rest : {m m' : Table} {n x e r : ℕ} → Pushed m n x e m' r → (y : ℕ) → orphan (m' y) ≡ orphan (m y)
unfolding with_word
pushed_rest (some lt p i) y = same_part orphan p refl y
pushed_rest (none ge same i) y = ap orphan (same y)

-- nothing is touched
untouched : {touched : ℕ → ℕ} {m : Table} → Reparented touched m m
untouched = record { cells = λ y q. refl; rest = λ y. refl }

-- how many places wait
abbrev pub waiting : ℕ → Spare → ℕ
waiting n s = sum_to n (λ y. spare_times y s)

-- the walk over the stack s₀ has come to where next leads; at most `left` places wait
pub record Going (n used : ℕ) (s₀ : Spare) (m₀ m : Table) (since₀ since : List ℕ) (next left : ℕ) : Type 0 where
  pub stack : Spare
  pub freed : Free m used stack
  pub leads : top stack ≡ next
  pub part : (y : ℕ) → spare_times y stack ≤ spare_times y s₀
  pub each : (y : ℕ) → 0 < spare_times y s₀ → spare_times y stack ≡ 0 → number since y ≡ never
  pub other : (y : ℕ) → spare_times y s₀ ≡ 0 → number since y ≡ number since₀ y
  pub links : Reparented (λ y. spare_times y s₀) m₀ m
  pub few : waiting n stack ≤ left

module _ {n used : ℕ} (least : n ≤ gone) (room : used ≤ n) (s₀ : Spare) (once : (y : ℕ) → spare_times y s₀ ≤ 1) (m₀ : Table) (since₀ : List ℕ) where
  pub going_start : {x : ℕ} → Free m₀ used s₀ → top s₀ ≡ x → Going n used s₀ m₀ m₀ since₀ since₀ x n
  going_start h e =
      record {
        stack = s₀;
        freed = h;
        leads = e;
        part = λ y. omega arith;
        each = λ y p q. absurd (omega arith);
        other = λ y q. refl;
        links = untouched;
        few = sum_bound n (λ y. spare_times y s₀) once;
      }

  -- the first place is cleared, and makes way
  module _ {m m' : Table} {since : List ℕ} {next next' left : ℕ} where
    pub going_on : n ≤ length since → next < n → Going n used s₀ m₀ m since₀ since next (suc left) → Popped m n next m' next'
        → Going n used s₀ m₀ m' since₀ (set since next never) next' left
    going_on long lt g p = go g.stack refl
      where
        go : (s : Spare) → g.stack ≡ s → Going n used s₀ m₀ m' since₀ (set since next never) next' left
        go end e = absurd (omega (arith, ap top (sym e) ∙ g.leads))
        go (more x c r s) e =
            let i : x ≡ next = ap top (sym e) ∙ g.leads in
            let h = subst (Free m used) e g.freed in
            let times-of : (y : ℕ) → hit y x + times y c + times y r + spare_times y s ≤ spare_times y s₀ = λ y. subst (λ z. spare_times y z ≤ spare_times y s₀) e (g.part y) in
            let u = unstack least room x c r s (λ y. omega (arith, times-of y, once y)) h (subst (λ z. Popped m n z m' next') (sym i) p) in
            record {
              stack = onto c (onto r s);
              freed = u.freed;
              leads = sym u.leads;
              part = λ y. omega (arith, times-of y, onto_times y r s, onto_times y c (onto r s));
              each = λ y a b. each y a (omega (arith, b, onto_times y r s, onto_times y c (onto r s))) (ℕ_discrete y next);
              other = λ y q. get_or-set_other since next y never 0 (λ z. omega (arith, times-of x, hit_same x, ap (λ v. spare_times v s₀) (z ∙ sym i))) ∙ g.other y q;
              links = record {
                cells = λ y q. u.same y (omega (arith, times-of y)) ∙ g.links.cells y q;
                rest = λ y. pushed_rest p.first y ∙ pushed_rest p.right y ∙ g.links.rest y;
              };
              few =
                  omega (
                    arith,
                    subst (λ z. sum_to n (λ y. spare_times y z) ≤ suc left) e g.few,
                    sum_more,
                    sum_hit n x (omega arith),
                  );
            }
          where
            each : (y : ℕ) → 0 < spare_times y s₀ → times y c + times y r + spare_times y s ≡ 0 → Dec (y ≡ next) → number (set since next never) y ≡ never
            each y a b (yes q) = rw q (get_or-set_same since next never 0 (omega arith))
            each y a b (no q) =
                get_or-set_other since next y never 0 q
                ∙ g.each y a
                (ap (spare_times y) e
                ∙ omega (arith, hit_other y x (λ z. q (z ∙ ap top (sym e) ∙ g.leads))))

            sum_more : sum_to n (λ y. hit y x + times y c + times y r + spare_times y s) ≡ sum_to n (λ y. hit y x) + sum_to n (λ y. spare_times y (onto c (onto r s)))
            sum_more =
                sum_ext n (λ y. hit y x + spare_times y (onto c (onto r s))) (λ y. hit y x + times y c + times y r + spare_times y s)
                (λ y _. omega (arith, onto_times y r s, onto_times y c (onto r s)))
                ∙ sum_add n (λ y. hit y x) (λ y. spare_times y (onto c (onto r s)))

  -- nothing waits any more
  pub going_done : {m : Table} {since : List ℕ} {next left : ℕ} → Going n used s₀ m₀ m since₀ since next left → (left ≡ 0) ⊎ (n ≤ next)
      → Forgotten (λ y. spare_times y s₀) (λ y. spare_times y s₀) m₀ m since₀ since
  going_done {m} {next = next} {left} g d =
      record {
        each = λ y a. g.each y a (none_left y (dec_lt y n) d);
        other = g.other;
        links = g.links;
      }
    where
      empty_stack : (s : Spare) → Free m used s → n ≤ top s → (y : ℕ) → spare_times y s ≡ 0
      empty_stack end h ge y = refl
      empty_stack (more x c r s) h ge y = absurd (omega arith)

      none_left : (y : ℕ) → Dec (y < n) → (left ≡ 0) ⊎ (n ≤ next) → spare_times y g.stack ≡ 0
      none_left y (yes lt) (inl z) = omega (arith, g.few, sum_term n y (λ v. spare_times v g.stack) lt)
      none_left y (no ge) (inl z) = free_beyond m used g.stack g.freed y (omega arith)
      none_left y q (inr ge) = empty_stack g.stack g.freed (rw (← g.leads) at ge) y

-- a removed node is cleared, and what hangs below it
pub forgotten : {m m₁ m' : Table} {n used x below : ℕ} {since since' : List ℕ} (c : Placed) → n ≤ gone → used ≤ n → x < length since
    → Pushed m n (m x).first gone m₁ below → Clears n m₁ m' below (set since x never) since' → (m x).first ≡ head c → Linked m used c
    → ((y : ℕ) → hit y x + times y c ≤ 1) → Forgotten (λ y. hit y x + times y c) (λ y. times y c) m m' since since'
forgotten {m} {m₁} {m'} {n} {used} {x} {below} {since} {since'} c least room lx p g e h once =
    let q : Pushed m n (head c) (top end) m₁ below = rw e at p in
    let f = push_free least room c end (λ y. omega (arith, once y)) h tt q in
    let w = g.done used (onto c end) room f.0 (sym f.1) (λ y. omega (arith, once y, onto_times y c end)) in
    record {
      each = λ y z. each w y z (ℕ_discrete y x);
      other = λ y z.
          w.other y (omega (arith, z, onto_times y c end))
          ∙ get_or-set_other since x y never 0 (λ i. omega (arith, z, hit_same x, ap (λ v. hit v x) i));
      links = record {
        cells = λ y z. w.links.cells y (omega (arith, z, onto_times y c end)) ∙ push_same least room c h q y z;
        rest = λ y. w.links.rest y ∙ pushed_rest q y;
      };
    }
  where
    each : Forgotten (λ y. spare_times y (onto c end)) (λ y. spare_times y (onto c end)) m₁ m' (set since x never) since' → (y : ℕ) → 0 < hit y x + times y c
        → Dec (y ≡ x) → number since' y ≡ never
    each w y z (yes i) =
        w.other y (omega (arith, once x, hit_same x, onto_times y c end, ap (λ v. times v c) i)) ∙ ap (number (set since x never)) i
        ∙ get_or-set_same since x never 0 lx
    each w y z (no i) = w.each y (omega (arith, z, hit_other y x i, onto_times y c end))

-- the node at y, the first on a side of the cursor's, and all below it are forgotten
module _ {m m' : Table} {n used free x y : ℕ} {t : Forest} {p : Place} {since since' : List ℕ} (h : Holds m n used free x t p) (d : Side)
    (o : First y (forest_on h d)) where
  subtree : Clearing n m m' y since since' → Forgotten (λ i. hit i y + times i o.c) (λ i. times i o.c) m m' since since'
  subtree w =
      let v = seen_first h d o in
      w.done used o.c h.room (ap (λ a. a.first) v.stored.1) (still_linked m used y gone o.c v.stored.2) (λ i. omega (arith, v.once i))

  forgets : Forgotten (λ i. hit i y + times i o.c) (λ i. times i o.c) m m' since since' → {b : Bool} → Forgets b d m n used free t p since since'
  forgets f =
      record {
        lost = λ _ i q k z. f.each i (gone_below h d o i q k z);
        other = λ i q q' k z. f.other i (not_below h d o i q q' k z);
        either = λ i. either i (dec_lt 0 (hit i y + times i o.c));
        behind = λ i ge. f.other i (omega (arith, none_new (seen_first h d o) i (omega (arith, h.room))));
      }
    where
      either : (i : ℕ) → Dec (0 < hit i y + times i o.c) → (number since' i ≡ number since i) ⊎ (number since' i ≡ never)
      either i (yes z) = inr (f.each i z)
      either i (no z) = inl (f.other i (omega arith))

-- the node at y, the first on a side of the cursor's, may go: it is forgotten with all below it, if any block remembers a node, and of the table only parent
-- words below it are touched
pub record Ready (remembered : Bool) (d : Side) (n x y : ℕ) (m m' : Table) (since since' : List ℕ) : Type 0 where
  pub behind : Behind n m m'
  pub done : {used free : ℕ} {t : Forest} {p : Place} (h : Holds m n used free x t p) (o : First y (forest_on h d))
      → Reparented (λ i. times i o.c) m m' × Forgets remembered d m n used free t p since since'

module _ {d : Side} {n x y : ℕ} {m : Table} {since : List ℕ} where
  pub all_forgotten : {b : Bool} {m' : Table} {since' : List ℕ} → Clearing n m m' y since since' → Ready b d n x y m m' since since'
  all_forgotten w = record { behind = w.behind; done = λ h o. let f = subtree h d o w in (f.links, forgets h d o f) }

  -- where no block remembers a node there is nothing to forget
  pub none_kept : Ready false d n x y m m since since
  none_kept =
      record {
        behind = same_behind (λ y. refl);
        done = λ h o. (
          untouched,
          record { lost = λ z. absurd (true≢false (sym z)); other = λ x q r h e. refl; either = λ y. inl refl; behind = λ y ge. refl },
        );
      }
