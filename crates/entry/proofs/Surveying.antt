-- The walk that asks lent records for a tree, turn by turn: it goes as the one over words does, over the table that the records spell. Assumes nothing.
use mathlib.Core.Path.{◌≡◌, refl, sym, ◌∙◌, subst}
use mathlib.Core.List.{List}
use Prim.Native.Nat.{ℕ, ◌<◌, ◌≤◌, min}
use native.Mathlib.Omega.{arith}
use lib.Dec.{ltb}
use lib.ListN.{length, get_or, replicate, length-replicate}
use Rattle.rules.specs.Limits.{max_nodes}
use Rattle.lent.specs.declared.node.Node.{Node}
use Rattle.lent.specs.declared.standing.Spot.{Spot}
use Rattle.table.specs.Cells.{gone}
use Rattle.lent.specs.Lent.{blank, nodes_table}
use Rattle.lent.specs.Stands.{Decided, Marked, start, Asked, Ready, Rooms, Turned}
use Rattle.lent.proofs.Walking.{Walking, turns, walk_start, walk_ready, walk_turn, walk_end}
use Rattle.entry.specs.Records.{Unmarked, Surveys}

-- where the walk is, over records of which n can be led to, with so many marks
pub record Point (ns : List Node) (n many : ℕ) : Type 0 where
  pub dues : List ℕ
  pub bounds : List ℕ
  pub marks : List ℕ
  pub s : Spot
  pub x : ℕ
  pub few_dues : length dues ≡ max_nodes
  pub few_bounds : length bounds ≡ max_nodes
  pub few_marks : length marks ≡ many
  pub walking : Walking (nodes_table ns) n dues bounds marks s
  pub asked : Asked s n x

module _ (ns : List Node) (n : ℕ) (reached : n ≡ min (length ns) gone) where
  pub le : n ≤ gone
  le = omega (arith, reached)

  -- what is asked for is a record
  pub is_record : {x : ℕ} → x < n → x < length ns
  is_record lt = omega (arith, reached, lt)

  abbrev pub first : {marks : List ℕ} {s : Spot} {x : ℕ} → Unmarked marks → s ≡ start → Asked s n x → Point ns n (length marks)
  first {marks} {s} {x} none is a =
      record {
        dues = replicate max_nodes 0;
        bounds = replicate max_nodes 0;
        marks = marks;
        s = s;
        x = x;
        few_dues = length-replicate {A = ℕ} max_nodes 0;
        few_bounds = length-replicate {A = ℕ} max_nodes 0;
        few_marks = refl;
        walking = subst (Walking (nodes_table ns) n (replicate max_nodes 0) (replicate max_nodes 0) marks) (sym is)
            (walk_start le (replicate max_nodes 0) (replicate max_nodes 0) marks none.none);
        asked = a;
      }

  module _ {many : ℕ} (long : max_nodes ≤ many) (p : Point ns n many) where
    rooms : Rooms p.dues p.bounds p.marks
    rooms = record { dues = omega (arith, p.few_dues); bounds = omega (arith, p.few_bounds); marks = omega (arith, p.few_marks) }

    pub ready : p.x < n → Ready p.s × Rooms p.dues p.bounds p.marks
    ready lt = (walk_ready le p.walking p.asked lt, rooms)

    module _ {b e c : List ℕ} {r : Spot} (lt : p.x < n) (t : Turned p.s (get_or ns p.x blank) p.dues p.bounds p.marks b e c r) where
      pub turned : Walking (nodes_table ns) n b e c r × (turns r < turns p.s)
      unfolding nodes_table
      turned = walk_turn le p.walking p.asked lt refl rooms t

      pub nearer_end : turns r < turns p.s
      nearer_end = turned.1

      abbrev pub next : length b ≡ length p.dues → length e ≡ length p.bounds → length c ≡ length p.marks → {x : ℕ} → Asked r n x → Point ns n many
      next lb lh lc {x} a =
          record {
            dues = b;
            bounds = e;
            marks = c;
            s = r;
            x = x;
            few_dues = lb ∙ p.few_dues;
            few_bounds = lh ∙ p.few_bounds;
            few_marks = lc ∙ p.few_marks;
            walking = turned.0;
            asked = a;
          }

    pub last : n ≤ p.x → Surveys ns p.marks (ltb n p.x)
    last ge =
        let w = walk_end le p.walking p.asked ge in
        record {
          decided = subst (λ k. Decided (nodes_table ns) k (ltb n p.x)) reached w.0;
          marked = λ q. subst (λ k. Marked (nodes_table ns) k p.marks) reached (w.1 q);
        }
