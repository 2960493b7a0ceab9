-- What a walk by hand does around a call: a row of elements or a slice is lent for a lifetime of the call and comes back, and the callee's answer is
-- taken apart. It says nothing of any crate.
--     lends_mut, lends_shr     a row is lent as a `&mut [T]`, as a `&[T]`, for a new lifetime. A `&[T]` holds its elements one by one, so that it takes
--                              the law of sharing of T, which holds no `&mut`, and has no ghost name
--     ends_mut, ends_shr       the lifetime is ended, and the row is back: at the last list that the callee's contract says, or as it was
--     Waits                    what the holder of a `&mut [T]` keeps while it is lent on as a `&[T]`: the lender's part, and its own borrow, open
--     shares_on, comes_home    a `&mut [T]` is lent on so for a new lifetime; that is ended, and the slice is back as it was
--     gives_up                 a `&mut [T]` that is not used again has its last list
--     answers                  what the callee's contract says: its result, the last values of what it was passed, and the fact of both
-- Assumes `Logic`.
use mathlib.Core.Path.{◌≡◌, refl, sym, subst}
use Prim.Native.Nat.{ℕ}
use mathlib.Core.List.{List, [], ◌∷◌, not-mem-nil}
use lib.ListN.{length}
use seplogic.Ra.Ura.{Ura}
use base.Fraction.{full_share}
use mir.Syntax.{Lifetime, named}
use mir.Val.{Val}
use base.Logic.{SProp, ent, sep, ex}
use base.Fml.{Lft, GName, Share, Fml, fsep, flft, fobs, fauth, fres, flent, fobor}
use contract.Monad.{fact}
use types.Logic.{Logic, sem}
use types.Kit.{Goal, Soaks, Item, ‵, raw, mean, ◌⊛◌, some, later, Seq, Step, step, ◌$◌, move, drop, use1, use2, use3, split, pick, rewrite, fsplit, fjoin, feq_i, await}
use types.Tokens.{lft_new, lft_end, lent_back}
use types.Share.{arr_parts}
use denote.RattleType.{RattleType}
use denote.Ref.{Bor, MutBor}
use denote.Laws.{Is, shows}
use denote.Memory.{shares}
use denote.Shares.{Shares}
use denote.Shadow.{pure_l, pure_i}
use denote.Slice.{slice_val, MutSlice, ShrSlice, Room, heres, finally, res-finally, mut_slice_at, coded_holeys}
use denote.Lend.{Held, lends_shr_slice}
use denote.Index.{row, opens_slice, closes_slice}
use denote.Steps.{heard, peeks}
use Rattle.walks.proofs.Slots.{lends_row, row_back}

-- what lies at (b, o), lent under the name δ
abbrev pub under : {X : Type 0} → ℕ → ℕ → X → GName → MutBor X
under b o x δ = record { ref_ptr = (b, o); ghost_name = δ; now = x }

-- the same, lent as a `&`, which has no name
abbrev pub seen : {X : Type 0} → ℕ → ℕ → X → Bor X
seen b o x = record { ref_ptr = (b, o); now = x }

module _ (R : RattleType) (κ : Lft) (q : Share) (ys : List R.Denot) (b o : ℕ) (γ : GName) where
  abbrev pub Waits : ℕ → Fml
  Waits ν =
      fsep (flent (ν ∷ []) ((arr_parts (shares R) (length ys)).part full_share ys b o))
      (fsep (fobor κ q (Held R (length ys) b o γ)) (fsep (fobs γ ((coded_holeys R).code (heres R ys))) (fauth γ ((coded_holeys R).code (heres R ys)))))

module _ {M : Type 1} {𝓤 : Ura M} {𝓛 : Logic 𝓤} {K : Type 0} {Γ : List (Item 𝓤)} {G : Goal 𝓤 𝓛.H} where
  module _ (t : K) (z : Soaks G) (R : RattleType) where
    module _ (ℓ : Lifetime) (ys : List R.Denot) (b o n : ℕ) (long : length ys ≡ n) (room : Room R n) where
      pub lends_mut : ((ν : ℕ) (δ : GName)
          → Seq K 𝓛 (‵ ((MutSlice ℓ (ν ∷ []) R).own_val (under b o ys δ) (slice_val (b, o) n ∷ [])) ∷ ‵ (flent (ν ∷ []) (Held R (length ys) b o δ))
          ∷ ‵ (flft (ν ∷ []) full_share) ∷ Γ) G)
          → Seq K 𝓛 (‵ (row R full_share ys b o) ∷ Γ) G
      lends_mut k =
          lft_new t z (λ ν. move t (1 ∷ []) $
          use1 𝓛 (later (some (λ (δ : GName). ‵ ((MutSlice ℓ (ν ∷ []) R).own_val (under b o ys δ) (slice_val (b, o) (length ys) ∷ []))
          ⊛ ‵ (flent (ν ∷ []) (Held R (length ys) b o δ)))))
          (lends_row 𝓛 R ℓ (ν ∷ []) ys b o (subst (Room R) (sym long) room)) $ await t z $ pick t (λ δ. split t $
          rewrite t 0 (λ (m : ℕ). ‵ ((MutSlice ℓ (ν ∷ []) R).own_val (under b o ys δ) (slice_val (b, o) m ∷ []))) long refl $ k ν δ))

      -- the elements hold no `&mut`, so that they are shared with no token but the new lifetime's
      pub lends_shr : Shares 𝓛 R [] → ((ν : ℕ)
          → Seq K 𝓛 (‵ ((ShrSlice ℓ (ν ∷ []) R).own_val (seen b o ys) (slice_val (b, o) n ∷ []))
          ∷ ‵ (flent (ν ∷ []) ((arr_parts (shares R) (length ys)).part full_share ys b o)) ∷ ‵ (flft (ν ∷ []) full_share) ∷ Γ) G)
          → Seq K 𝓛 (‵ (row R full_share ys b o) ∷ Γ) G
      lends_shr sh k =
          feq_i t ℕ (length ys) (length ys) refl $ fjoin t $ lft_new t z (λ ν. move t (1 ∷ []) $
          use2 𝓛 (later ((‵ ((ShrSlice ℓ (ν ∷ []) R).own_val (seen b o ys) (slice_val (b, o) (length ys) ∷ []))
          ⊛ ‵ (flent (ν ∷ []) ((arr_parts (shares R) (length ys)).part full_share ys b o))) ⊛ ‵ (flft (ν ∷ []) full_share)))
          (lends_shr_slice 𝓛 R ℓ (ν ∷ []) full_share ys b o (subst (Room R) (sym long) room) [] sh ((ν ∷ [], full_share) ∷ []) (λ a m. absurd (not-mem-nil m)) (λ a m. m)) $
          await t z $ split t $ split t $
          rewrite t 0 (λ (m : ℕ). ‵ ((ShrSlice ℓ (ν ∷ []) R).own_val (seen b o ys) (slice_val (b, o) m ∷ []))) long refl $ k ν)

    pub ends_mut : {ν : ℕ} {δ : GName} {n : ℕ} (zs : List R.Denot) (b o : ℕ)
        → Step K 𝓛 (‵ (row R full_share zs b o) ∷ Γ) G
        (‵ (flft (ν ∷ []) full_share) ∷ ‵ (flent (ν ∷ []) (Held R n b o δ)) ∷ ‵ (finally R δ zs) ∷ Γ) G
    ends_mut {ν} {δ} {n} zs b o =
        step (λ s. lft_end t z $ use3 𝓛 (later (‵ (row R full_share zs b o))) (row_back 𝓛 R (named 0) (ν ∷ []) zs b o δ n) $ await t z $ s)

    pub ends_shr : {ν n : ℕ} (ys : List R.Denot) (b o : ℕ)
        → Step K 𝓛 (‵ (row R full_share ys b o) ∷ Γ) G
        (‵ (flft (ν ∷ []) full_share) ∷ ‵ (flent (ν ∷ []) ((arr_parts (shares R) n).part full_share ys b o)) ∷ Γ) G
    ends_shr ys b o = step (λ s. lft_end t z $ lent_back t z $ fsplit t $ drop t $ s)

module _ {M : Type 1} {𝓤 : Ura M} {𝓛 : Logic 𝓤} {K : Type 0} {Γ : List (Item 𝓤)} {G : Goal 𝓤 𝓛.H} where
  open 𝓛 use {H}

  module _ (t : K) (z : Soaks G) (R : RattleType) {κ : Lft} {q : Share} (ys : List R.Denot) (b o : ℕ) {γ : GName} where
    pub shares_on : (ℓ ℓ' : Lifetime) → Room R (length ys) → Shares 𝓛 R []
        → ((ν : ℕ) → Seq K 𝓛 (‵ ((ShrSlice ℓ' (ν ∷ []) R).own_val (seen b o ys) (slice_val (b, o) (length ys) ∷ []))
        ∷ ‵ (Waits R κ q ys b o γ ν) ∷ ‵ (flft (ν ∷ []) full_share) ∷ Γ) G)
        → Seq K 𝓛 (‵ ((MutSlice ℓ κ R).own_val (under b o ys γ) (slice_val (b, o) (length ys) ∷ [])) ∷ ‵ (flft κ q) ∷ Γ) G
    shares_on ℓ ℓ' room sh k =
        fsplit t $ pure_l t (mut_slice_at R (under b o ys γ) (slice_val (b, o) (length ys) ∷ [])) (λ p. fsplit t $ opens_slice t z R ys b o $
        lends_shr t z R ℓ' ys b o (length ys) refl room sh (λ ν. move t (4 ∷ 5 ∷ []) $ fjoin t $ move t (4 ∷ 0 ∷ []) $ fjoin t $ move t (2 ∷ 0 ∷ []) $ fjoin t $
        move t (1 ∷ 0 ∷ []) $ k ν))

    pub comes_home : {ν : ℕ} (ℓ : Lifetime) → Room R (length ys)
        → Step K 𝓛 (‵ ((MutSlice ℓ κ R).own_val (under b o ys γ) (slice_val (b, o) (length ys) ∷ [])) ∷ ‵ (flft κ q) ∷ Γ) G
        (‵ (flft (ν ∷ []) full_share) ∷ ‵ (Waits R κ q ys b o γ ν) ∷ Γ) G
    comes_home ℓ room =
        step (λ s. move t (1 ∷ []) $ fsplit t $ move t (2 ∷ 0 ∷ []) $ ends_shr t z R ys b o $ move t (1 ∷ []) $ fsplit t $ move t (1 ∷ []) $ fsplit t $
        move t (3 ∷ 2 ∷ 0 ∷ 1 ∷ []) $ closes_slice t z R ys ys refl b o $ fjoin t $
        pure_i t (mut_slice_at R (under b o ys γ) (slice_val (b, o) (length ys) ∷ [])) (tt, (tt, tt)) (refl, room) $ fjoin t $ s)

  -- a `&mut [T]` that is not used again has its last list
  pub gives_up : K → (ℓ : Lifetime) {κ : Lft} (R : RattleType) (ys : List R.Denot) (b o : ℕ) {γ : GName} {v : Val}
      → Step K 𝓛 (‵ (finally R γ ys) ∷ Γ) G (‵ ((MutSlice ℓ κ R).own_val (under b o ys γ) (v ∷ [])) ∷ Γ) G
  gives_up t ℓ {κ} R ys b o {γ} =
      step (λ s. fsplit t $ drop t $ fsplit t $
      use1 𝓛 (‵ (fres γ ((coded_holeys R).code (heres R ys)))) (𝓛.names.obs-res γ ((coded_holeys R).code (heres R ys))) $
      use1 𝓛 (‵ (finally R γ ys)) (res-finally 𝓛 ℓ κ R γ ys) $ move t (1 ∷ []) $ drop t $ s)

  pub answers : K → Soaks G → (R : RattleType) (w : Val) (i : Item 𝓤) {Z : Type 0} (L : Z → Fml) (φ : R.Denot → Z → Type 0) {P : SProp 𝓤}
      → ent 𝓤 P (H.⇛ (ex 𝓤 (λ r. sep 𝓤 (sep 𝓤 (mean 𝓛 i) (sem 𝓛 (R.own_val r (w ∷ [])))) (ex 𝓤 (λ zs. sep 𝓤 (sem 𝓛 (L zs)) (fact 𝓤 (φ r zs)))))))
      → ((r : R.Denot) (zs : Z) → Is R r (w ∷ []) → φ r zs → Seq K 𝓛 (i ∷ ‵ (L zs) ∷ Γ) G) → Seq K 𝓛 (raw P ∷ Γ) G
  answers t z R w i {Z} L φ h k =
      use1 𝓛 (later (some (λ r. (i ⊛ ‵ (R.own_val r (w ∷ []))) ⊛ some (λ zs. ‵ (L zs) ⊛ raw (fact 𝓤 (φ r zs)))))) h $ await t z $ pick t (λ r. split t $
      split t $ move t (2 ∷ []) $ pick t (λ zs. split t $ move t (1 ∷ []) $ heard t (φ r zs) (λ f. move t (2 ∷ []) $
      peeks t R (Is R) (shows 𝓛 R) r (w ∷ []) (λ is. drop t $ move t (1 ∷ []) $ k r zs is f))))
