-- The places with no mark become the free places, one by one from the last; those with one keep their cells. Assumes nothing.
use mathlib.Core.Path.{◌≡◌, refl, sym, ap, ◌∙◌}
use mathlib.Core.List.{List}
use Prim.Native.Nat.{ℕ, ◌+◌, ◌<◌, ◌≤◌}
use native.Mathlib.Omega.{arith}
use native.Mathlib.Nat.{le_refl}
use native.Mathlib.Decide.{ℕ_discrete, dec_lt}
use lib.ListN.{get_or}
use Rattle.rules.specs.Limits.{max_nodes}
use Rattle.table.specs.Cells.{Table, gone, word_of}
use Rattle.table.specs.Holds.{Placed, empty, node, head, Stored, Spare, end, more, top, Free, hit, times, spare_times}
use Rattle.table.specs.Promises.{Behind}
use Rattle.lent.specs.Stands.{flag, seen, Marked, Reclaimed}
use Rattle.table.specs.Steps.{with_word, Put}
use Rattle.table.proofs.Behind.{same_behind, then_behind, put_behind}
use Rattle.table.proofs.Counting.{hit_same, hit_other, none_beyond}
use Rattle.table.proofs.Frames.{stored, freed}
use Rattle.table.proofs.Words.{fits}
use Rattle.lent.proofs.Walking.{flag_pos}

-- the places with no mark from x on are free
pub record Spared (m m' : Table) (n : ℕ) (b : List ℕ) (x free : ℕ) : Type 0 where
  pub s : Spare
  pub leads : top s ≡ free
  pub freed : Free m' n s
  pub kept : (y : ℕ) → 0 < seen b y → m' y ≡ m y
  pub before : (y : ℕ) → y < x → spare_times y s ≡ 0
  pub from : (y : ℕ) → x ≤ y → y < n → spare_times y s + seen b y ≡ 1
  pub small : free ≤ gone
  pub behind : Behind n m m'

pub spared_none : {m : Table} (n : ℕ) (b : List ℕ) → Spared m m n b n gone
spared_none n b =
    record {
      s = end;
      leads = refl;
      freed = tt;
      kept = λ y _. refl;
      before = λ y _. refl;
      from = λ y le lt. absurd (omega arith);
      small = omega arith;
      behind = same_behind (λ _. refl);
    }

module _ {m m₁ : Table} {n : ℕ} {b : List ℕ} {x free : ℕ} (h : Spared m m₁ n b (x + 1) free) where
  -- a place with a mark
  pub spared_pass : 0 < get_or b x 0 → Spared m m₁ n b x free
  unfolding seen
  spared_pass pos =
      record {
        s = h.s;
        leads = h.leads;
        freed = h.freed;
        kept = h.kept;
        before = λ y lt. h.before y (omega arith);
        from = λ y le lt. go y le lt (ℕ_discrete y x);
        small = h.small;
        behind = h.behind;
      }
    where
      go : (y : ℕ) → x ≤ y → y < n → Dec (y ≡ x) → spare_times y h.s + seen b y ≡ 1
      go y le lt (yes q) = omega (arith, h.before y (omega arith), ap (λ v. flag (get_or b v 0)) q, flag_pos (get_or b x 0) pos)
      go y le lt (no q) = h.from y (omega arith) lt

  -- a place with none
  pub spared_more : {m₂ : Table} → n ≤ max_nodes → x < n → get_or b x 0 ≡ 0
      → Put m₁ m₂ x (with_word 2 (word_of free) (with_word 1 gone (with_word 0 gone (m₁ x))))
      → Spared m m₂ n b x x
  unfolding seen with_word
  spared_more {m₂} few lt z p =
      record {
        s = more x empty empty h.s;
        leads = refl;
        freed = (
          lt,
          ap (λ a. a.first) p.on,
          ap (λ a. a.right) p.on,
          ap (λ a. a.parent) p.on ∙ fits free (omega (arith, h.small)) ∙ sym h.leads,
          tt,
          tt,
          freed m₁ m₂ (le_refl n) h.s (λ y q. p.off y (λ e. omega (arith, h.before y (omega arith)))) h.freed,
        );
        kept = λ y q. p.off y (λ e. omega (arith, ap (λ v. flag (get_or b v 0)) e, ap flag z)) ∙ h.kept y q;
        before = λ y q. omega (arith, h.before y (omega arith), hit_other y x (λ e. omega arith));
        from = λ y le q. go y le q (ℕ_discrete y x);
        small = omega arith;
        behind = then_behind h.behind (put_behind lt p);
      }
    where
      go : (y : ℕ) → x ≤ y → y < n → Dec (y ≡ x) → (hit y x + 0 + 0 + spare_times y h.s) + seen b y ≡ 1
      go y le q (yes e) =
          omega (arith, h.before y (omega arith), ap (λ v. hit v x) e, hit_same x, ap (λ v. flag (get_or b v 0)) e, ap flag z)
      go y le q (no e) = omega (arith, h.from y (omega arith) q, hit_other y x e)

-- all places
pub spared_all : {m m' : Table} {n : ℕ} {b : List ℕ} {free : ℕ} → n ≤ max_nodes → Spared m m' n b 0 free → Reclaimed m m' n b free
unfolding Reclaimed Marked
spared_all {m} {m'} {n} {b} le g e t h =
    record {
      few = le;
      room = le_refl n;
      placed = h.placed;
      spare = g.s;
      is_tree = h.is_tree;
      is_root = h.is_root;
      alone = h.alone;
      stored = stored m m' (le_refl n) gone gone h.placed (λ y q. g.kept y (omega (arith, below y q (dec_lt y n)))) h.stored;
      here = h.is_root;
      live = first h.placed h.stored h.is_root;
      freed = g.freed;
      leads = g.leads;
      each = λ y lt. omega (arith, g.from y (omega arith) lt, e t h y lt (omega arith));
    }
  where
    below : (y : ℕ) → 0 < times y h.placed → Dec (y < n) → times y h.placed ≡ seen b y
    below y q (yes lt) = e t h y lt (omega arith)
    below y q (no ge) = absurd (omega (arith, none_beyond m n gone gone h.placed h.stored y (omega arith)))

    first : (f : Placed) → Stored m n gone gone f → head f ≡ 0 → 0 < n
    first empty s z = absurd (omega arith)
    first (node x l c r) s z = omega (arith, s.0)
