-- The names of the program logic that a proof by hand of a function uses, in one place.
-- Assumes nothing.
pub use mathlib.Core.Path.{◌≡◌, refl, sym, ◌∙◌, ap, subst}
pub use mathlib.Core.List.{[], ◌∷◌, List, ◌++◌}
pub use mathlib.Core.Bool.{Bool, true, false}
pub use mathlib.Core.WellFounded.InvImage.{wf as InvImage·wf}
pub use mathlib.Core.WellFounded.{WellFounded}
pub use Prim.Native.Nat.{ℕ, ◌+◌, ◌-◌, ◌*◌, ◌≤◌, ◌<◌, ◌^◌, min}
pub use native.Mathlib.Omega.{arith}
pub use lib.Dec.{ltb, lit<}
pub use lib.ListN.{length, get_or, set, take, drop, length-take, length-append, take-append-drop}
pub use lib.WfN.{lt-wf_rel as Nat·lt-wfRel}
pub use borrow.Author.Tests.{ltb-true, ltb-false}
-- machine values and their types
pub use seplogic.Ra.Ura.{Ura}
pub use base.Fraction.{full_share}
pub use mir.Syntax.{Ty, named, mut, imm, w64, ty_int, ty_bool, ty_ptr, ty_ref, erased}
pub use mir.Val.{Val, vint, vptr, vbool, vstruct, vcons, vnil}
-- what is owned, and how code runs
pub use base.Logic.{SProp, ent, id⊢, ex_e, snd∗, emp, via, fst∗}
pub use base.Fml.{Lft, Share, GName, ftrue, flft, fobs, fauth, fbor, fobor, fat, froom, fdies, Fml, flent}
pub use prog.Memory.{Memory}
pub use prog.Routine.{Routine}
pub use prog.Wp.{Heap, WpFn, Tables, Calls, Loops}
unfoldable pub use prog.Wp.{after_turn}
pub use ghost.Atoms.{Atoms}
pub use types.Logic.{sem}
pub use sound.WpLaws.{FmC, fm_of}
pub use contract.Monad.{Fun, fact}
pub use contract.Running.{tables}
unfoldable pub use contract.Running.{tables_of}
-- the steps of a proof
pub use types.Kit.{Item, ‵, raw, ◌⊛◌, ⋆, some, later, given, ◌$◌, ◌∵◌, !, qed, by, done}
pub use types.Kit.{move, keep, drop as let_go, use1, use2, use3, split, join, pick, learn, rewrite, suffices, frame}
pub use types.Kit.{await, fsplit, fsplit3, fjoin, fjoin3, feq_l, feq_i}
pub use types.Run.{look, look_raw, init, store, store_raw, forget, stop, hop, fld, from, load, lit, of_opd, bin, addr}
pub use types.Run.{and_then, no_more, assigns, assigns_last, land, stays, leaves_loop, again, returns, enter}
pub use types.Run.{alloc1, alloc0, params1, pass1, pass0, free1, free0}
pub use types.Part.{whole, sub, look_in, agg}
pub use types.SemTy.{Body, cells, Arr}
pub use types.Tokens.{lft_new, lft_end}
-- what a type owns, and how it is lent
pub use denote.RattleType.{owns}
pub use denote.Shadow.{pure_i}
pub use denote.Laws.{Is, shows, Lawful}
pub use denote.Memory.{pointee, mem}
pub use denote.Plain.{uint_vals, uint_Tells}
pub use denote.Builtin.{u64, u8, usize, ArrayOf}
pub use denote.Array.{Array, Array-Lawful, Array-Tells}
pub use denote.Ref.{Bor, MutBor, MutRef, shr_vals, mut_vals, mut_Tells}
pub use denote.Slice.{MutSlice, ShrSlice, slice_ty, slice_val, shr_slice_vals, mut_slice_vals, Room, heres, coded_holeys, shr_slice_at, mut_slice_at, finally}
pub use denote.Slice.{mut_slice_Tells, shr_slice_Tells, shr_slice_copy}
pub use denote.Lend.{Held, lends_ref, ref_back, lends_slice, slice_back}
pub use denote.Index.{row, place_is, elem_out, elem_put, opens_slice, closes_slice}
pub use denote.Struct.Steps.{spelt}
pub use denote.Steps.{only, owned, facts, heard, nothing, opens, closes}
-- what a call asks and gives, and what a function leaves
pub use denote.Signature.{plain, shr_slice_of}
pub use denote.Exit.{yes}
pub use denote.Triple.Entry.{on_entry}
pub use denote.Triple.Spec.{triple_of}
pub use denote.Triple.Statement.{Contract, Triple}
pub use denote.Triple.Call.{calls_at}
pub use denote.Triple.Clauses.{ensured, lasts}
pub use denote.Triple.Table.{cited}
pub use denote.Triple.Walked.{says, needs, Stays, stay_dropped, stay_ref, stay_slice, gave_slice, walk_of, Walks}
pub use denote.Triple.Walked.{ends_at, walked, AllGo, Goes-dropped, Goes-ref, Goes-slice, Goes-gave_slice}
