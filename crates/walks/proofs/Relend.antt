-- A `&κ mut [T]` that is lent on for the lifetime κ' of one call, and comes back: what a loop does with a slice that it passes on in each turn. The
-- machine value v of the slice stays, though its list does not. By opening the borrow, lending what it holds, and closing it at the last list.
--     Waits        what the holder keeps meanwhile: the lender's part at κ', and its own borrow, open
--     lends_on     the slice with ys and a token of κ give a slice with ys for κ', under a new name δ, and Waits
--     comes_back   once κ' is over: Waits, and that zs was the last list under δ, give the slice with zs and the token back
-- Assumes `Logic`.
use mathlib.Core.Path.{◌≡◌, refl, sym}
use Prim.Native.Nat.{ℕ}
use mathlib.Core.List.{List, [], ◌∷◌}
use lib.ListN.{length}
use seplogic.Ra.Ura.{Ura}
use base.Fraction.{full_share}
use mir.Syntax.{Lifetime}
use mir.Val.{Val}
use base.Logic.{ent, sep, ex}
use base.Fml.{Lft, GName, Share, Fml, fsep, flft, fdead, fobs, fauth, flent, fobor}
use types.Logic.{Logic, sem}
use types.Kit.{‵, ◌⊛◌, some, later, ◌$◌, ◌∵◌, !, qed, move, use1, use3, drop, split, pick, rewrite, fsplit, fjoin, frame, await, updating, now as at_once, show, done}
use types.SemTy.{cells, Arr}
use denote.RattleType.{RattleType}
use denote.Shadow.{pure_l, pure_i}
use denote.Memory.{mem}
use denote.Ref.{MutBor}
use denote.Slice.{slice_val, MutSlice, heres, Room, finally, mut_slice_at, coded_holeys}
use denote.Lend.{Held, lends_slice, slice_back}
use denote.Index.{row, whole_out, whole_in, opens_slice, closes_slice}

module _ (R : RattleType) (κ κ' : Lft) (q : Share) (γ : GName) (b o : ℕ) where
  abbrev under : GName → List R.Denot → MutBor (List R.Denot)
  under δ ys = record { ref_ptr = (b, o); ghost_name = δ; now = ys }

  abbrev pub Waits : GName → List R.Denot → Fml
  Waits δ ys =
      fsep (flent κ' (Held R (length ys) b o δ))
      (fsep (fobor κ q (Held R (length ys) b o γ)) (fsep (fobs γ ((coded_holeys R).code (heres R ys))) (fauth γ ((coded_holeys R).code (heres R ys)))))

  module _ {M : Type 1} {𝓤 : Ura M} (𝓛 : Logic 𝓤) (ℓ ℓ' : Lifetime) (v : Val) (ys : List R.Denot) where
    open 𝓛 use {H, A}

    pub lends_on : ent 𝓤 (sep 𝓤 (sem 𝓛 ((MutSlice ℓ κ R).own_val (under γ ys) (v ∷ []))) (A.lft κ q))
        (H.⇛ (ex 𝓤 (λ (δ : GName). sep 𝓤 (sem 𝓛 ((MutSlice ℓ' κ' R).own_val (under δ ys) (v ∷ []))) (sem 𝓛 (Waits δ ys)))))
    lends_on =
        qed 𝓛 (‵ ((MutSlice ℓ κ R).own_val (under γ ys) (v ∷ [])) ∷ ‵ (flft κ q) ∷ []) ∵
        updating ! $ fsplit ! $ pure_l ! (mut_slice_at R (under γ ys) (v ∷ [])) (λ p. fsplit ! $ opens_slice ! tt R ys b o $
        use1 𝓛 (‵ (cells (mem R) ys b o)) (whole_in 𝓛 R ys b o) $
        use1 𝓛 (later (some (λ (δ : GName). ‵ ((MutSlice ℓ' κ' R).own_val (under δ ys) (slice_val (b, o) (length ys) ∷ [])) ⊛ ‵ (flent κ' (Held R (length ys) b o δ)))))
        (lends_slice 𝓛 R ℓ' κ' ys b o p.1) $ await ! tt $ pick ! (λ δ. split ! $
        rewrite ! 0 (λ (vs : List Val). ‵ ((MutSlice ℓ' κ' R).own_val (under δ ys) vs)) (sym p.0) refl $
        at_once ! $ show ! (λ (ε : GName). sep 𝓤 (sem 𝓛 ((MutSlice ℓ' κ' R).own_val (under ε ys) (v ∷ []))) (sem 𝓛 (Waits ε ys))) δ $ frame ! $
        move ! (2 ∷ 3 ∷ []) $ fjoin ! $ move ! (2 ∷ 0 ∷ []) $ fjoin ! $ move ! (1 ∷ 0 ∷ []) $ fjoin ! $ done !))

    pub comes_back : (δ : GName) (zs : List R.Denot) → length zs ≡ length ys → v ∷ [] ≡ slice_val (b, o) (length zs) ∷ [] → Room R (length zs)
        → ent 𝓤 (sep 𝓤 (A.dead κ') (sep 𝓤 (sem 𝓛 (Waits δ ys)) (sem 𝓛 (finally R δ zs))))
        (H.⇛ (sep 𝓤 (sem 𝓛 ((MutSlice ℓ κ R).own_val (under γ zs) (v ∷ []))) (A.lft κ q)))
    comes_back δ zs same is room =
        qed 𝓛 (‵ (fdead κ') ∷ ‵ (Waits δ ys) ∷ ‵ (finally R δ zs) ∷ []) ∵
        updating ! $ move ! (1 ∷ []) $ fsplit ! $ move ! (2 ∷ 0 ∷ 3 ∷ []) $
        use3 𝓛 (later (‵ ((Arr (mem R) (length ys)).own_at zs b o))) (slice_back 𝓛 R κ' δ zs (length ys) b o) $ await ! tt $ fsplit ! $ drop ! $
        use1 𝓛 (‵ (row R full_share zs b o)) (whole_out 𝓛 R zs b o) $
        move ! (1 ∷ []) $ fsplit ! $ move ! (1 ∷ []) $ fsplit ! $ move ! (3 ∷ 2 ∷ 0 ∷ 1 ∷ []) $ closes_slice ! tt R ys zs same b o $ at_once ! $
        fjoin ! $ pure_i ! (mut_slice_at R (under γ zs) (v ∷ [])) (tt, (tt, tt)) (is, room) $ fjoin ! $ done !
