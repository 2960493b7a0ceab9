-- One place: its turn and its newcomer over the parts that are lent are those over what stands in them. Assumes nothing.
use mathlib.Core.Path.{◌≡◌, sym}
use Prim.Native.Nat.{ℕ, ◌-◌, ◌*◌, ◌≤◌}
use mathlib.Core.List.{List}
use lib.ListN.{length}
use lib.IntN.{ℤ, pos}
use Rattle.rules.specs.Limits.{max_bytes, max_variables}
use Rattle.fields.specs.declared.sections.Layout.{Layout}
use Rattle.actions.specs.declared.control.Running.{Running}
use Rattle.actions.specs.Marks.{marks_size}
use Rattle.actions.specs.Shows.{slices}
use Rattle.interpreter.specs.Steps.{held, Startable}
use Rattle.monitor.specs.Starting.{Room}
use Rattle.turns.specs.declared.pool.Place.{Place}
use Rattle.turns.specs.declared.turn.Turned.{Turned}
use Rattle.places.specs.Pieces.{plan_size, piece, Beside}
use Rattle.turns.specs.Turn.{Freshens, TakesTurn}
use Rattle.turns.specs.Pool.{table_size, area_size, Parts, parts, Elsewhere, held_at, slices_at, marks_at, Ready}
use Rattle.places.proofs.Cuts.{Cut, mid, put, mid_is, piece_put, beside, beside_same}

-- a turn
module _ (i : ℕ) (r : Place) (jobs plans levels words : List ℕ) (values : List ℤ) (lines marks : List ℕ) (j₀ j₁ p₀ p₁ v₀ v₁ w₀ w₁ b₀ b₁ m₀ m₁ : ℕ)
    (cj : Cut max_bytes i r.bytes j₀ j₁) (cp : Cut plan_size i plan_size p₀ p₁) (cv : Cut max_variables i max_variables v₀ v₁)
    (cw : Cut table_size i table_size w₀ w₁) (cb : Cut area_size i (5 * r.capacity) b₀ b₁) (cm : Cut marks_size i marks_size m₀ m₁) where
  abbrev s : Parts
  s = parts jobs plans levels words values lines marks

  pub startable_there : Ready s i r
      → Startable (held (mid j₀ j₁ jobs) (mid p₀ p₁ plans) r.frame) (slices (mid w₀ w₁ words) (mid v₀ v₁ levels) (mid v₀ v₁ values) (mid b₀ b₁ lines))
      (mid m₀ m₁ marks) r.running
  startable_there h =
      rw (mid_is _ _ _ _ _ jobs cj, mid_is _ _ _ _ _ plans cp, mid_is _ _ _ _ _ words cw, mid_is _ _ _ _ _ levels cv, mid_is _ _ _ _ _ values cv, mid_is _ _ _ _ _ lines cb, mid_is _ _ _ _ _ marks cm)
      h.startable

  pub turn_there : (ws : List ℕ) (vs : List ℤ) (ls ms : List ℕ) (t : Turned) → w₁ ≤ length words → v₁ ≤ length values → b₁ ≤ length lines → m₁ ≤ length marks
      → length ws ≡ w₁ - w₀ → length vs ≡ v₁ - v₀ → length ls ≡ b₁ - b₀ → length ms ≡ m₁ - m₀
      → TakesTurn (held (mid j₀ j₁ jobs) (mid p₀ p₁ plans) r.frame) r.budget
      (slices (mid w₀ w₁ words) (mid v₀ v₁ levels) (mid v₀ v₁ values) (mid b₀ b₁ lines)) (slices ws (mid v₀ v₁ levels) vs ls) (mid m₀ m₁ marks) ms r.running t
      → let s' = parts jobs plans levels (put w₀ w₁ words ws) (put v₀ v₁ values vs) (put b₀ b₁ lines ls) (put m₀ m₁ marks ms) in
      TakesTurn (held_at s i r) r.budget (slices_at s i r) (slices_at s' i r) (marks_at s i) (marks_at s' i) r.running t × Elsewhere i s s'
  turn_there ws vs ls ms t iw iv ib im lw lv lb lm h = (
    rw (piece_put 0 _ _ _ _ _ words ws cw iw lw, piece_put (pos 0) _ _ _ _ _ values vs cv iv lv, piece_put 0 _ _ _ _ _ lines ls cb ib lb, piece_put 0 _ _ _ _ _ marks ms cm im lm, sym (mid_is _ _ _ _ _ jobs cj), sym (mid_is _ _ _ _ _ plans cp), sym (mid_is _ _ _ _ _ words cw), sym (mid_is _ _ _ _ _ levels cv), sym (mid_is _ _ _ _ _ values cv), sym (mid_is _ _ _ _ _ lines cb), sym (mid_is _ _ _ _ _ marks cm))
        h,
    record {
      jobs = beside_same _ _ _;
      plans = beside_same _ _ _;
      levels = beside_same _ _ _;
      words = beside 0 _ _ _ _ _ words ws cw iw lw;
      values = beside (pos 0) _ _ _ _ _ values vs cv iv lv;
      lines = beside 0 _ _ _ _ _ lines ls cb ib lb;
      marks = beside 0 _ _ _ _ _ marks ms cm im lm;
    },
  )

-- a newcomer's variables and tree
module _ (i : ℕ) (levels words : List ℕ) (values : List ℤ) (marks : List ℕ) (v₀ v₁ w₀ w₁ m₀ m₁ : ℕ) (cv : Cut max_variables i max_variables v₀ v₁)
    (cw : Cut table_size i table_size w₀ w₁) (cm : Cut marks_size i marks_size m₀ m₁) where
  pub room_there : (b : List ℕ) (l : Layout)
      → Room b l (piece table_size i table_size words) (piece max_variables i max_variables levels) (piece max_variables i max_variables values)
      → Room b l (mid w₀ w₁ words) (mid v₀ v₁ levels) (mid v₀ v₁ values)
  room_there b l h = rw (mid_is _ _ _ _ _ words cw, mid_is _ _ _ _ _ levels cv, mid_is _ _ _ _ _ values cv) h

  pub fresh_there : (b : List ℕ) (l : Layout) (budget : ℕ) (ws ls : List ℕ) (vs : List ℤ) (ms : List ℕ) (r : Running)
      → Freshens b l budget (mid w₀ w₁ words) ws (mid v₀ v₁ levels) ls (mid v₀ v₁ values) vs ms r
      → w₁ ≤ length words → v₁ ≤ length levels → v₁ ≤ length values → m₁ ≤ length marks
      → length ws ≡ w₁ - w₀ → length ls ≡ v₁ - v₀ → length vs ≡ v₁ - v₀ → length ms ≡ m₁ - m₀
      → Freshens b l budget (piece table_size i table_size words) (piece table_size i table_size (put w₀ w₁ words ws)) (piece max_variables i max_variables levels)
      (piece max_variables i max_variables (put v₀ v₁ levels ls)) (piece max_variables i max_variables values)
      (piece max_variables i max_variables (put v₀ v₁ values vs)) (piece marks_size i marks_size (put m₀ m₁ marks ms)) r
      × Beside table_size i words (put w₀ w₁ words ws) × Beside max_variables i levels (put v₀ v₁ levels ls)
      × Beside max_variables i values (put v₀ v₁ values vs) × Beside marks_size i marks (put m₀ m₁ marks ms)
  fresh_there b l budget ws ls vs ms r h iw il iv im lw ll lv lm = (
    rw (piece_put 0 _ _ _ _ _ words ws cw iw lw, piece_put 0 _ _ _ _ _ levels ls cv il ll, piece_put (pos 0) _ _ _ _ _ values vs cv iv lv, piece_put 0 _ _ _ _ _ marks ms cm im lm, sym (mid_is _ _ _ _ _ words cw), sym (mid_is _ _ _ _ _ levels cv), sym (mid_is _ _ _ _ _ values cv))
        h,
    beside 0 _ _ _ _ _ words ws cw iw lw,
    beside 0 _ _ _ _ _ levels ls cv il ll,
    beside (pos 0) _ _ _ _ _ values vs cv iv lv,
    beside 0 _ _ _ _ _ marks ms cm im lm,
  )
