-- What a walk by hand cites of the logic, under one roof. Assumes nothing.
pub use Prim.Native.Nat.{◌*◌, ◌+◌, ◌-◌, ◌<◌, ◌^◌, ◌≤◌, suc, zero-le, ℕ}
pub use base.Fml.{Fml, GName, Lft, Share, fat, fauth, fbor, fdies, flent, flft, fobor, fobs, fres, froom, fshr_bor, ftrue}
pub use base.Logic.{SProp, emp, ent, ex_e, fst∗, id⊢, sep, snd∗, via}
pub use contract.Monad.{Fun, fact}
unfoldable pub use contract.Running.{tables, tables_of}
pub use denote.Array.{Array, Array-Lawful, Array-Makes, Array-Tells, array_vals, each}
pub use denote.Builtin.{i32, u16, u32, u8, unit, usize}
pub use denote.Exit.{yes}
pub use denote.Index.{closes_slice, elem_back, elem_out, elem_put, looks_slice, opens_slice, place_is, row, shuts_slice}
pub use denote.Laws.{Is, shows}
pub use denote.Lend.{Held, LentAgain, comes_back, lends_again, lends_shr_slice}
pub use denote.Memory.{mem, pointee, shares}
pub use denote.Plain.{uint_Lawful, uint_Makes, uint_Tells, uint_vals}
pub use denote.RattleType.{RattleType, owns}
pub use denote.Ref.{MutRef, Bor, MutBor, mut_Tells, shr_vals, mut_vals}
pub use denote.Shadow.{pure_i, shadow}
pub use denote.Signature.{plain, shr_slice_of}
pub use denote.Slice.{MutSlice, Room, ShrSlice, shr_slice_at, mut_slice_at, coded_holeys, finally, heres, mut_slice_Tells, shr_slice_copy, shr_slice_Tells, shr_slice_vals, mut_slice_vals, slice_ty, slice_val}
pub use denote.Steps.{closes, heard, nothing, only, opens, owned, peeks}
pub use denote.Struct.Declared.{shape}
pub use denote.Struct.Steps.{spelt}
pub use denote.Struct.Struct.{Struct, twices}
pub use denote.Triple.Call.{calls_at, calls_at_last}
pub use denote.Triple.Clauses.{ensured, lasts}
pub use denote.Triple.Entry.{on_entry}
pub use denote.Triple.Spec.{Meets, triple_of}
pub use denote.Triple.Statement.{Contract, Triple}
pub use denote.Triple.Table.{cited, entered}
pub use denote.Triple.Walked.{Stays, Walks, ends_at, gave_slice, Goes-dropped, Goes-gave_slice, Goes-none, Goes-none_slice, Goes-ref, Goes-slice, needs, says, stay_dropped, stay_none, stay_none_slice, stay_ref, stay_slice, walk_Meets, walk_of, walked}
pub use ghost.Atoms.{Atoms}
pub use base.Fraction.{full_share}
pub use seplogic.Ra.Ura.{Ura}
pub use lib.Dec.{lit<, ltb, ltb→lt, nltb→le}
pub use lib.IntN.{ℤ}
pub use lib.ListN.{get_or, length, length-map, length-set, replicate, set}
pub use mathlib.Core.List.{List, [], ◌∷◌, map}
pub use mathlib.Core.Path.{◌∙◌, ◌≡◌, ap, refl, subst, sym}
pub use mir.Syntax.{Ty, erased, imm, mut, named, ty_array, ty_bool, ty_int, ty_ptr, ty_ref, ty_unit, w16, w32, w64, w8}
pub use mir.Val.{Val, WT, has_ty, vint, vptr, vunit}
pub use native.Mathlib.Nat.{le_antisymm}
pub use native.Mathlib.Omega.{arith}
pub use prog.Memory.{Memory}
pub use prog.Routine.{Routine}
pub use prog.Wp.{Calls, Heap, Loops, Tables, WpFn}
pub use sound.WpLaws.{FmC, WpFn-mono, fm_of}
pub use types.Kit.{ !, Item, ◌$◌, ◌∵◌, ◌⊛◌, await, by, done, drop, feq_i, feq_l, fjoin, fjoin3, frame, fsplit, fsplit3, given, join, keep, later, learn, move, pick, qed, raw, rewrite, some, split, suffices, use0, use1, use2, use3, ‵, ⋆}
pub use types.Logic.{sem}
pub use types.Part.{agg, look_in, sub, whole}
pub use types.Run.{addr, again, alloc0, alloc1, and_then, assigns, assigns_last, bin, enter, fld, forget, free0, free1, from, hop, init, land, land_last, lit, load, look, look_raw, no_more, of_opd, params1, pass0, pass1, returns, stop, store, store_raw, unit_lit}
pub use types.SemTy.{Body}
pub use types.Share.{arr_parts}
pub use types.Tokens.{lent_back, lft_end, lft_new}
