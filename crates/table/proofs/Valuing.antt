-- The cursor's node gets another value: one word of its cell changes, and every node keeps its place. Assumes nothing.
use mathlib.Core.Path.{sym, subst}
use Prim.Native.Nat.{ℕ}
use Rattle.rules.specs.Number.{signed}
use Rattle.rules.specs.Tree.{Forest, Place, change, with_value, set_value}
use Rattle.table.specs.Cells.{Table}
use Rattle.table.specs.Holds.{empty, node, Holds}
use Rattle.table.specs.Promises.{Valued}
use Rattle.table.specs.Steps.{with_word, Put}
use Rattle.table.proofs.Ways.{path_of}
use Rattle.table.proofs.Focus.{Focus, seen, whole}
use Rattle.table.proofs.Unique.{Stands, placing, held_stands}
use Rattle.table.proofs.Changes.{revalue}
use Rattle.table.proofs.Relocating.{stands_labelled, elsewhere}

pub valued : {m m' : Table} {n used free x : ℕ} {t : Forest} {p : Place} (v : ℕ) → Holds m n used free x t p → Put m m' x (with_word 4 v (m x))
    → Valued (signed v) m m' n used free x t p
unfolding with_word with_value
valued {m} {m'} {n} {used} {free} {x} {t} {p} v h e =
    subst (λ q. Valued (signed v) m m' n used free x t q) (seen h).is_path (record { done = held; moved = λ y q k. moved y q k })
  where
    focus : Focus m' n used free (change (path_of (seen h).k) (set_value (signed v)) t) empty (seen h).k (node x (with_value (signed v) (seen h).l) (seen h).c (seen h).r) (seen h).s
    focus = revalue (seen h).k (signed v) (seen h).focus e

    held : Holds m' n used free x (change (path_of (seen h).k) (set_value (signed v)) t) (path_of (seen h).k)
    held = whole (seen h).k focus

    moved : (y : ℕ) (q : Place) → Holds m n used free y t q → Holds m' n used free y (change (path_of (seen h).k) (set_value (signed v)) t) q
    moved y q k =
        let s = subst (Stands y q) (placing k (seen h).focus) (held_stands k) in
        elsewhere held (subst (Stands y q) (sym (placing held focus)) (stands_labelled q (seen h).k x (seen h).l (seen h).c (seen h).r _ s))
