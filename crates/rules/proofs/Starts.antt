-- What a script starts from, over the variables and the tree of a job or of a standing store: its blocks are closed, its state is valid, and two states
-- that agree are twins. Assumes nothing.
use mathlib.Core.Path.{◌≡◌, refl}
use Prim.Native.Nat.{ℕ, zero, suc, ◌%◌, ◌<◌}
use native.Mathlib.Omega.{arith}
use mathlib.Core.Bool.{Bool, true, false, cond}
use mathlib.Core.List.{List, [], ◌∷◌}
use lib.ListN.{get_or}
use lib.Dec.{eqb}
use Rattle.rules.specs.Level.{Level, public, secret, is_level}
use Rattle.rules.specs.Bytes.{byte, record_place}
use Rattle.rules.specs.Tree.{Forest, exists, sub, TreeRules}
use Rattle.rules.specs.Script.{Expression, Command, act, Action, secret_if, content_set, list_set, cover_set, commands, fetch}
use Rattle.rules.specs.Blocks.{block_rule, nest}
use Rattle.rules.specs.Check.{record_rule, code}
use Rattle.rules.specs.Job.{Variable, all_levels, listed, set_at, command_of, command_by, script_of, script_from}
use Rattle.rules.specs.Run.{context, current, start}
use Rattle.rules.specs.Public.{Agree, AgreeVariables, seen_lines}
use Rattle.rules.proofs.Lattice.{byte_level, level_public, secret_level, level_join, vis_public}
use Rattle.rules.proofs.Trees.{fit_first}
use Rattle.rules.proofs.View.{view}
use Rattle.rules.proofs.ByPlace.{cuts_equal}
use Rattle.rules.proofs.Decode.{section_length}
use Rattle.rules.proofs.Accepted.{section_blocks}
use Rattle.rules.proofs.Control.{CommandSets, Closed, Valid}
use Rattle.rules.proofs.Secrecy.{Twins}

-- the sets of a script are levels, whatever its bytes

abbrev Each : {A : Type 0} → (A → Type 0) → List A → Type 0
Each P [] = Unit {0}
Each P (x ∷ xs) = P x × Each P xs

each_at : {A : Type 0} (P : A → Type 0) (xs : List A) (d : A) (k : ℕ) → Each P xs → P d → P (get_or xs k d)
each_at P [] d k h g = g
each_at P (x ∷ xs) d zero h g = h.0
each_at P (x ∷ xs) d (suc k) h g = each_at P xs d k h.1 g

each_listed : {A : Type 0} (P : A → Type 0) (f : ℕ → A) → ((i : ℕ) → P (f i)) → (n i : ℕ) → Each P (listed f n i)
unfolding listed
each_listed P f h zero i = tt
each_listed P f h (suc n) i = (h i, each_listed P f h n (suc i))

secret_if_law : (t : Bool) → is_level (secret_if t) ≡ true
unfolding secret_if
secret_if_law true = secret_level
secret_if_law false = level_public

cover_level : (p : Level) → is_level p ≡ true → is_level (cover_set p) ≡ true
unfolding cover_set
cover_level p h = pick (eqb p 0)
  where
    pick : (t : Bool) → is_level (cond t secret p) ≡ true
    pick true = secret_level
    pick false = h

command_sets : (t : ℕ) (r p q : Level) (e : Expression) (k : ℕ) → is_level p ≡ true → is_level q ≡ true
    → CommandSets (get_or (commands t r p q e) k (act Action.skip))
unfolding commands content_set list_set
command_sets t r p q e k h g =
    let c = level_join _ _ h (secret_if_law _) in
    let l = level_join _ _ g (secret_if_law _) in
    each_at CommandSets (commands t r p q e) (act Action.skip) k
    (tt, (tt, (tt, (tt, (tt, (tt, (tt, (tt, (tt, (tt, (tt, ((c, l), ((c, l), (tt, (tt, (tt, (cover_level p h, (tt, (tt, (tt, tt)))))))))))))))))))) tt

set_level : (b : List ℕ) (at : ℕ) → is_level (set_at true b at) ≡ true
unfolding set_at
set_level b at = byte_level (byte b at % 256) (omega arith)

pub section_sets : (b : List ℕ) (base n i : ℕ) → CommandSets (fetch (script_of b base n) i)
unfolding script_from command_by fetch
section_sets b base n i =
    each_at CommandSets (script_of b base n) (act Action.skip) i
    (each_listed CommandSets (λ (k : ℕ). command_of b (record_place base k))
    (λ k. command_sets _ _ _ _ _ (byte b (record_place base k)) (set_level b _) (set_level b _)) n 0) tt

-- n records from base on that pass the checks 7 and 8
pub closed_section : (b : List ℕ) (vars base n : ℕ) → ((i : ℕ) → i < n → record_rule b vars (record_place base i) ≡ true)
    → ((i : ℕ) → i < suc n → block_rule (code b base) n i ≡ true) → Closed (script_of b base n)
closed_section b vars base n records blocks =
    record { blocks = rw (section_length b base n) (section_blocks b vars base n records blocks); sets = section_sets b base n }

-- variables and a tree that keep the rules
pub record Kept (vs : List Variable) (t : Forest) : Type 0 where
  pub variables : all_levels vs ≡ true
  pub root : exists t ≡ true
  pub tree : TreeRules t

pub start_valid : (vs : List Variable) (t : Forest) → Kept vs t → (cs : List Command) → Valid cs (start vs t)
unfolding start context nest current sub
start_valid vs t h cs =
    record {
      memory =
          record {
            rules = h.tree;
            stands = h.root;
            covered = (fit_first public public t h.root h.tree).under;
            cursor = level_public;
            variables = h.variables;
          };
      guards = level_public;
      within = omega arith;
      depth = refl;
      kinds = refl;
      restorable = tt;
    }

pub start_twins : (o : Level) (vs ws : List Variable) (t u : Forest) → Kept vs t → Kept ws u → Agree o vs ws t u → Twins o (start vs t) (start ws u)
unfolding start view context AgreeVariables
start_twins o vs ws t u h k a =
    let e = cuts_equal o t u a.trees in
    record {
      seen = λ i. record { variables = a.variables i; tree = e i; cursor = (view o (start vs t).memory).cursor; lines = seen_lines o [] };
      blocks = refl;
      at = refl;
      light = vis_public o;
    }
