-- What holds of the results of steps: of one, wherever it goes on, and of two, wherever both do. Assumes nothing.
use mathlib.Core.Path.{◌≡◌, refl}
use Prim.Native.Nat.{ℕ}
use mathlib.Core.Bool.{Bool, true, false}
use mathlib.Core.Option.{Option, none, some}
use Rattle.std.specs.Prelude.{None, Some}
use mathlib.Core.List.{List}
use lib.IntN.{ℤ}
use Rattle.rules.specs.Number.{Value}
use Rattle.rules.specs.Tree.{Place}
use Rattle.rules.specs.Run.{Memory, Saved, Block, State, Stop, Result, next, stop, need, given, with_cursor, restore, leave, stepped, onward}

module _ {A : Type 0} where
  -- P holds of what a result goes on with
  abbrev pub Good : (A → Type 0) → Result A → Type 0
  Good P (next a) = P a
  Good P (stop k) = Unit {0}

  pub good_need : (P : A → Type 0) (k : Stop) (b : Bool) (r : Result A) → (b ≡ true → Good P r) → Good P (need k b r)
  unfolding need
  good_need P k true r h = h refl
  good_need P k false r h = tt

  pub good_given : (P : A → Type 0) (v : Value) (r : ℤ → Result A) → ((z : ℤ) → Good P (r z)) → Good P (given v r)
  unfolding given
  good_given P (Some z) r h = h z
  good_given P None r h = tt

  pub good_map : (P Q : A → Type 0) → ((a : A) → P a → Q a) → (r : Result A) → Good P r → Good Q r
  good_map P Q f (next a) h = f a h
  good_map P Q f (stop k) h = tt

  pub good_next : (P : A → Type 0) (r : Result A) (a : A) → r ≡ next a → Good P r → P a
  good_next P r a e h = rw e at h

  -- R holds of what two results go on with
  abbrev pub Good₂ : (A → A → Type 0) → Result A → Result A → Type 0
  Good₂ R (stop k) q = Unit {0}
  Good₂ R (next a) (stop k) = Unit {0}
  Good₂ R (next a) (next b) = R a b

  pub good₂_stop : (R : A → A → Type 0) (r : Result A) (k : Stop) → Good₂ R r (stop k)
  good₂_stop R (next a) k = tt
  good₂_stop R (stop j) k = tt

  pub good₂_need : (R : A → A → Type 0) (j k : Stop) (b c : Bool) (r q : Result A) → (b ≡ true → c ≡ true → Good₂ R r q)
      → Good₂ R (need j b r) (need k c q)
  unfolding need
  good₂_need R j k true true r q h = h refl refl
  good₂_need R j k true false r q h = good₂_stop R r k
  good₂_need R j k false c r q h = tt

  pub good₂_given : (R : A → A → Type 0) (v w : Value) (r q : ℤ → Result A)
      → ((y z : ℤ) → v ≡ Some y → w ≡ Some z → Good₂ R (r y) (q z)) → Good₂ R (given v r) (given w q)
  unfolding given
  good₂_given R (Some y) (Some z) r q h = h y z refl refl
  good₂_given R (Some y) None r q h = good₂_stop R (r y) _
  good₂_given R None w r q h = tt

  pub good₂_of : (P Q : A → Type 0) (R : A → A → Type 0) → ((a b : A) → P a → Q b → R a b) → (r q : Result A) → Good P r → Good Q q → Good₂ R r q
  good₂_of P Q R f (next a) (next b) h k = f a b h k
  good₂_of P Q R f (next a) (stop k) h l = tt
  good₂_of P Q R f (stop j) q h l = tt

  pub good₂_next : (R : A → A → Type 0) (r q : Result A) (a b : A) → r ≡ next a → q ≡ next b → Good₂ R r q → R a b
  good₂_next R r q a b e f h = rw (e, f) at h

-- what holds of the memory after a command holds of the state after it
pub good_onward : (P : Memory → Type 0) (Q : State → Type 0) (s : State) (bs : List Block) (i : ℕ) → ((m : Memory) → P m → Q (stepped s m bs i))
    → (r : Result Memory) → Good P r → Good Q (onward s bs i r)
unfolding onward
good_onward P Q s bs i f (next m) h = f m h
good_onward P Q s bs i f (stop k) h = tt

pub good₂_onward : (P : Memory → Memory → Type 0) (Q : State → State → Type 0) (s t : State) (bs cs : List Block) (i j : ℕ)
    → ((m n : Memory) → P m n → Q (stepped s m bs i) (stepped t n cs j)) → (r q : Result Memory) → Good₂ P r q → Good₂ Q (onward s bs i r) (onward t cs j q)
unfolding onward
good₂_onward P Q s t bs cs i j f (next m) (next n) h = f m n h
good₂_onward P Q s t bs cs i j f (next m) (stop k) h = tt
good₂_onward P Q s t bs cs i j f (stop k) q h = tt

-- what holds of a memory, and of it with the cursor at the remembered place, holds of it after the end of a block
pub good_leave : (P : Memory → Type 0) (m : Memory) (r : Option Saved) → P m
    → ((x : Saved) → r ≡ some x → (p : Place) → x.place ≡ some p → P (with_cursor m p x.level)) → Good P (leave m r)
unfolding leave restore
good_leave P m none h f = h
good_leave P m (some r) h f = go r.place refl
  where
    go : (p : Option Place) → r.place ≡ p → Good P (restore m p r.level)
    go none e = tt
    go (some p) e = f r refl p e
