-- The lattice laws of levels, and what a reader sees of joined levels. Nothing else opens `join`, `notAbove`, `visible` or `isLevel`,
-- and no law says that two levels which a reader does not see are equal. The order comes from the union: all its laws are those of a union that
-- is associative, commutative and idempotent. Assumes nothing.
use mathlib.Core.Path.{◌≡◌, refl, sym, ◌∙◌, ap}
use Prim.Native.Nat.{ℕ, zero, suc, ◌+◌, ◌*◌, ◌-◌, ◌/◌, ◌%◌, ◌≤◌, ◌<◌, max}
use native.Mathlib.Omega.{arith}
use mathlib.Core.Bool.{true, false, ◌||◌}
use lib.Dec.{eqb}
use borrow.Author.Tests.{eqb-true, eqb-false, eq-eqb, ne_eqb, lt-ltb, ltb-true}
use lib.Arith.{bin_ind}
use lib.Bits.{bit_and, and_step, and_zero_r, or_step, or_comm, or_self, or_add_and, and_le_r, or_lt}
use Rattle.rules.specs.Level.{Level, has, public, secret, join, not_above, is_level, visible}
use Rattle.rules.proofs.Tests.{Test, holds, fails, test, clash}

-- union, digit by digit

join_step : (a b : Level) → join a b ≡ join (a / 2) (b / 2) * 2 + max (a % 2) (b % 2)
unfolding join
join_step a b = or_step a b

join_half : (a b : Level) → join a b / 2 ≡ join (a / 2) (b / 2)
join_half a b = omega (arith, join_step a b)

join_odd : (a b : Level) → join a b % 2 ≡ max (a % 2) (b % 2)
join_odd a b = omega (arith, join_step a b)

pub join_comm : (a b : Level) → join a b ≡ join b a
unfolding join
join_comm a b = or_comm a b

pub join_self : (a : Level) → join a a ≡ a
unfolding join
join_self a = or_self a

join_none : (b c : Level) → join (join 0 b) c ≡ join 0 (join b c)
unfolding join
join_none b c = refl

pub join_assoc : (a b c : Level) → join (join a b) c ≡ join a (join b c)
join_assoc =
    bin_ind (λ (n : ℕ). (b c : Level) → join (join n b) c ≡ join n (join b c)) join_none
    (λ n ih b c.
    let l : join (join n b / 2) (c / 2) ≡ join (join (n / 2) (b / 2)) (c / 2) = ap (λ (x : ℕ). join x (c / 2)) (join_half n b) in
    let r : join (n / 2) (join b c / 2) ≡ join (n / 2) (join (b / 2) (c / 2)) = ap (join (n / 2)) (join_half b c) in
    omega (arith, join_step (join n b) c, join_step n (join b c), l, r, ih (b / 2) (c / 2), join_odd n b, join_odd b c))

-- containment

above_eq : (a b : Level) → not_above a b ≡ true → join a b ≡ b
unfolding not_above
above_eq a b h = eqb-true (join a b) b h

eq_above : (a b : Level) → join a b ≡ b → not_above a b ≡ true
unfolding not_above
eq_above a b e = eq-eqb (join a b) b e

na_none : (a : Level) → not_above 0 a ≡ true
unfolding not_above join
na_none a = eq-eqb a a refl

pub na_public : (a : Level) → not_above public a ≡ true
unfolding public
na_public a = na_none a

pub na_refl : (a : Level) → not_above a a ≡ true
na_refl a = eq_above a a (join_self a)

pub na_trans : (a b c : Level) → not_above a b ≡ true → not_above b c ≡ true → not_above a c ≡ true
na_trans a b c h k =
    let e = above_eq b c k in
    eq_above a c (ap (join a) (sym e) ∙ sym (join_assoc a b c) ∙ ap (λ (x : Level). join x c) (above_eq a b h) ∙ e)

pub na_left : (a b : Level) → not_above a (join a b) ≡ true
na_left a b = eq_above a (join a b) (sym (join_assoc a a b) ∙ ap (λ (x : Level). join x b) (join_self a))

pub na_right : (a b : Level) → not_above b (join a b) ≡ true
na_right a b = ap (not_above b) (join_comm a b) ∙ na_left b a

pub na_join : (a b c : Level) → not_above a c ≡ true → not_above b c ≡ true → not_above (join a b) c ≡ true
na_join a b c h k = eq_above (join a b) c (join_assoc a b c ∙ ap (join a) (above_eq b c k) ∙ above_eq a c h)

-- a set is contained in another if it has nothing in common with what lies outside that, among the first k parties

all : ℕ → ℕ
all zero = 0
all (suc k) = 2 * all k + 1

outside_eq : (k a b : ℕ) → a ≤ all k → b ≤ all k → bit_and a (all k - b) ≡ 0 → join a b ≡ b
unfolding all
outside_eq zero a b h l e = let z : a ≡ 0 = omega arith in rw z (above_eq 0 b (na_none b))
outside_eq (suc k) a b h l e =
    let c : (2 * all k + 1 - b) / 2 ≡ all k - b / 2 = omega arith in
    let s = and_step a (2 * all k + 1 - b) in
    let r = outside_eq k (a / 2) (b / 2) (omega arith) (omega arith) (ap (bit_and (a / 2)) (sym c) ∙ omega (arith, s, e)) in
    omega (arith, s, e, r, join_step a b)

eq_outside : (k a b : ℕ) → a ≤ all k → b ≤ all k → join a b ≡ b → bit_and a (all k - b) ≡ 0
unfolding all
eq_outside zero a b h l e = let z : a ≡ 0 = omega arith in rw z refl
eq_outside (suc k) a b h l e =
    let c : (2 * all k + 1 - b) / 2 ≡ all k - b / 2 = omega arith in
    let s = and_step a (2 * all k + 1 - b) in
    let r = ap (bit_and (a / 2)) c ∙ eq_outside k (a / 2) (b / 2) (omega arith) (omega arith) (omega (arith, e, join_step a b)) in
    omega (arith, s, e, r, join_step a b)

pub above_outside : (a b : Level) → a < 256 → b < 256 → not_above a b ≡ eqb (bit_and a (255 - b)) 0
unfolding all
above_outside a b h l = pick (test (not_above a b))
  where
    pick : Test (not_above a b) → not_above a b ≡ eqb (bit_and a (255 - b)) 0
    pick (holds e) = e ∙ sym (eq-eqb (bit_and a (255 - b)) 0 (eq_outside 8 a b (omega arith) (omega arith) (above_eq a b e)))
    pick (fails e) =
        e ∙ sym (ne_eqb (bit_and a (255 - b)) 0 (λ q. clash (eq_above a b (outside_eq 8 a b (omega arith) (omega arith) q)) e))

-- party by party: a union has the parties of either set, and a set is contained in another that has all its parties

digit : (x y : ℕ) → eqb (max (x % 2) (y % 2)) 1 ≡ (eqb (x % 2) 1 || eqb (y % 2) 1)
digit x y = go (test (eqb (x % 2) 1)) (test (eqb (y % 2) 1))
  where
    go : Test (eqb (x % 2) 1) → Test (eqb (y % 2) 1) → eqb (max (x % 2) (y % 2)) 1 ≡ (eqb (x % 2) 1 || eqb (y % 2) 1)
    go (holds e) t = rw e (eq-eqb (max (x % 2) (y % 2)) 1 (omega (arith, eqb-true (x % 2) 1 e)))
    go (fails e) (holds f) = rw (e, f) (eq-eqb (max (x % 2) (y % 2)) 1 (omega (arith, eqb-true (y % 2) 1 f)))
    go (fails e) (fails f) = rw (e, f) (ne_eqb (max (x % 2) (y % 2)) 1 (λ q. let d = eqb-false (x % 2) 1 e in let g = eqb-false (y % 2) 1 f in omega (arith, d, g)))

pub has_join : (k : ℕ) (a b : Level) → has k (join a b) ≡ (has k a || has k b)
unfolding has
has_join zero a b = ap (λ (x : ℕ). eqb x 1) (join_odd a b) ∙ digit a b
has_join (suc k) a b = ap (has k) (join_half a b) ∙ has_join k (a / 2) (b / 2)

pub has_above : (k : ℕ) (a b : Level) → not_above a b ≡ true → has k a ≡ true → has k b ≡ true
has_above k a b h e = ap (has k) (sym (above_eq a b h)) ∙ has_join k a b ∙ rw e

contains : (a b : Level) → ((k : ℕ) → has k a ≡ true → has k b ≡ true) → join a b ≡ b
unfolding has
contains =
    bin_ind (λ (n : ℕ). (b : Level) → ((k : ℕ) → has k n ≡ true → has k b ≡ true) → join n b ≡ b) (λ b h. above_eq 0 b (na_none b))
    (λ n ih b h. odd n b (ih (b / 2) (λ k. h (suc k))) (test (eqb (n % 2) 1)) (h 0))
  where
    odd : (n b : Level) → join (n / 2) (b / 2) ≡ b / 2 → Test (eqb (n % 2) 1) → (eqb (n % 2) 1 ≡ true → eqb (b % 2) 1 ≡ true) → join n b ≡ b
    odd n b e (holds t) h = omega (arith, join_step n b, e, eqb-true (n % 2) 1 t, eqb-true (b % 2) 1 (h t))
    odd n b e (fails t) h = let z = eqb-false (n % 2) 1 t in omega (arith, join_step n b, e, z)

pub above_has : (a b : Level) → ((k : ℕ) → has k a ≡ true → has k b ≡ true) → not_above a b ≡ true
above_has a b h = eq_above a b (contains a b h)

-- the set of all eight parties contains every other
pub na_all : (a : Level) → a < 256 → not_above a 255 ≡ true
unfolding all
na_all a h = eq_above a 255 (outside_eq 8 a 255 (omega arith) (omega arith) (and_zero_r a))

-- what joins nothing new
pub join_below : (a b : Level) → not_above b a ≡ true → join a b ≡ a
join_below a b h = join_comm a b ∙ above_eq b a h

-- levels: every byte is one

pub byte_level : (a : ℕ) → a < 256 → is_level a ≡ true
unfolding is_level
byte_level a h = lt-ltb a 256 h

pub level_byte : (a : ℕ) → is_level a ≡ true → a < 256
unfolding is_level
level_byte a h = ltb-true a 256 h

pub level_public : is_level public ≡ true
unfolding public
level_public = byte_level 0 (omega arith)

pub secret_level : is_level secret ≡ true
unfolding secret
secret_level = byte_level 1 (omega arith)

-- what a set contains is no larger a number
above_le : (a b : Level) → not_above a b ≡ true → a ≤ b
unfolding join
above_le a b h = let e = above_eq a b h in omega (arith, or_add_and a b, and_le_r a b, e)

pub level_below : (a b : Level) → not_above a b ≡ true → is_level b ≡ true → is_level a ≡ true
level_below a b h k = byte_level a (omega (arith, above_le a b h, level_byte b k))

pub level_join : (a b : Level) → is_level a ≡ true → is_level b ≡ true → is_level (join a b) ≡ true
unfolding join
level_join a b h k = byte_level (join a b) (or_lt 8 a b (level_byte a h) (level_byte b k))

-- visible (vis) and hidden (hid) levels of a reader

module _ (o : Level) where
  pub vis_public : visible o public ≡ true
  unfolding visible
  vis_public = na_public o

  pub vis_down : (a b : Level) → not_above a b ≡ true → visible o b ≡ true → visible o a ≡ true
  unfolding visible
  vis_down a b = na_trans a b o

  pub vis_both : (a b : Level) → visible o a ≡ true → visible o b ≡ true → visible o (join a b) ≡ true
  unfolding visible
  vis_both a b = na_join a b o

  pub vis_left : (a b : Level) → visible o (join a b) ≡ true → visible o a ≡ true
  vis_left a b = vis_down a (join a b) (na_left a b)

  pub vis_right : (a b : Level) → visible o (join a b) ≡ true → visible o b ≡ true
  vis_right a b = vis_down b (join a b) (na_right a b)

  pub hid_up : (a b : Level) → not_above a b ≡ true → visible o a ≡ false → visible o b ≡ false
  hid_up a b h k = go (test (visible o b))
    where
      go : Test (visible o b) → visible o b ≡ false
      go (holds e) = clash (vis_down a b h e) k
      go (fails e) = e

  pub hid_left : (a b : Level) → visible o a ≡ false → visible o (join a b) ≡ false
  hid_left a b = hid_up a (join a b) (na_left a b)

  pub hid_right : (a b : Level) → visible o b ≡ false → visible o (join a b) ≡ false
  hid_right a b = hid_up b (join a b) (na_right a b)
