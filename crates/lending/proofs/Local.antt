-- A local that is lent to a call: of a declared struct of plain fields, or an array of such a struct. The struct is D
-- with its laws L and the fact pl that its fields own only facts.
--     struct-laid, struct_back    a local that holds h is h lying in memory, which can be lent; and back
--     laid, back                  a local array xs ++ ys is the cells of xs, which can be lent, and the row of ys
--                                 behind them; and back, at another list in the place of xs
-- Assumes `Logic`.
use mathlib.Core.Path.{◌≡◌, refl, sym, ◌∙◌}
use mathlib.Core.List.{List, [], ◌∷◌, ◌++◌, map}
use Prim.Native.Nat.{ℕ}
use lib.ListN.{length, length-map}
use seplogic.Ra.Ura.{Ura}
use base.Fraction.{full_share}
use mir.Syntax.{Ty, ty_array}
use mir.Val.{Val}
use base.Logic.{ent, sep, guard}
use base.Fml.{Share, ftrue, fsep, fat}
use types.Logic.{Logic, sem}
use types.Kit.{‵, ◌⊛◌, ◌$◌, ◌∵◌, !, qed, move, use1, use2, drop, split, rewrite, check, fsplit, fjoin, fpick}
use types.Kit.{fpack, feq_i, done}
use types.SemTy.{cells, Arr}
use types.Share.{arr_parts}
use denote.RattleType.{RattleType}
use denote.Shadow.{shadow}
use denote.Laws.{Is, shows}
use denote.Memory.{cell_at, part_at, mem, shares, lone, part_of}
use denote.Array.{Array, array_vals, Array-Tells, Array-Makes, each}
use denote.ArrayMemory.{Array-apart, Array-whole}
use denote.Index.{row, place, whole_out, whole_in}
use denote.Steps.{only, owned, facts, nothing}
use denote.Struct.Steps.{spelt}
use denote.Struct.Struct.{Plains}
use denote.Struct.Declared.{Declared, fields, field}
use denote.Struct.Declared as declared
use denote.Struct.Laws as LL

-- where the elements after xs lie, in a row from the place o on
abbrev pub past : (R : RattleType) → List R.Denot → ℕ → ℕ
past R xs o = place (mem R).size o (length xs)

-- a row of elements is a row of the first ones and a row of the others behind them
module _ {M : Type 1} {𝓤 : Ura M} (𝓛 : Logic 𝓤) (R : RattleType) (q : Share) where
  row_apart : (xs ys : List R.Denot) (b o : ℕ) → ent 𝓤 (sem 𝓛 (row R q (xs ++ ys) b o))
      (sep 𝓤 (sem 𝓛 (row R q xs b o)) (sem 𝓛 (row R q ys b (past R xs o))))
  row_apart [] ys b o = qed 𝓛 (‵ (row R q ys b o) ∷ []) ∵ nothing ! $ done !
  row_apart (x ∷ xs) ys b o =
      qed 𝓛 (‵ (row R q (x ∷ (xs ++ ys)) b o) ∷ []) ∵ fsplit ! $ move ! (1 ∷ [])
      $ use1 𝓛
      (‵ (row R q xs b (place (mem R).size o 1)) ⊛ ‵ (row R q ys b (past R (x ∷ xs) o)))
      (row_apart xs ys b (place (mem R).size o 1)) $ split ! $ move ! (2 ∷ 0 ∷ []) $ fjoin ! $ done !

  row_whole : (xs ys : List R.Denot) (b o : ℕ)
      → ent 𝓤 (sep 𝓤 (sem 𝓛 (row R q xs b o)) (sem 𝓛 (row R q ys b (past R xs o))))
      (sem 𝓛 (row R q (xs ++ ys) b o))
  row_whole [] ys b o = qed 𝓛 (‵ ftrue ∷ ‵ (row R q ys b o) ∷ []) ∵ drop ! $ done !
  row_whole (x ∷ xs) ys b o =
      qed 𝓛 (‵ (row R q (x ∷ xs) b o) ∷ ‵ (row R q ys b (past R (x ∷ xs) o)) ∷ []) ∵ fsplit ! $ move ! (1 ∷ 2 ∷ [])
      $ use2 𝓛 (‵ (row R q (xs ++ ys) b (place (mem R).size o 1))) (row_whole xs ys b (place (mem R).size o 1))
      $ move ! (1 ∷ 0 ∷ []) $ fjoin ! $ done !

module _ (D : Declared) (L : LL.Laws D) (pl : Plains (fields D)) {M : Type 1} {𝓤 : Ura M} (𝓛 : Logic 𝓤)
  where
    open 𝓛 use {H}

    abbrev S : RattleType
    S = declared.row D

    pub struct_laid : (h : D.D) (b : ℕ) → Is S h (LL.vals D L h)
        → ent 𝓤 (H.at full_share (lone S.mir) b 0 (LL.val D L h)) (sem 𝓛 ((mem S).own_at h b 0))
    unfolding part_of
    struct_laid h b g =
        qed 𝓛 (‵ (fat full_share (lone S.mir) b 0 (LL.val D L h)) ∷ [])
        ∵ use1 𝓛 (‵ (cell_at full_share S.mir (LL.vals D L h) b 0))
        (𝓛.laws.at_raw full_share (lone S.mir) b 0 (LL.val D L h))
        $ owned ! S (Is S) (LL.makes D pl 𝓛) h _ g $ move ! (1 ∷ 0 ∷ []) $ fjoin !
        $ fpack ! (List Val) (λ us. fsep (cell_at full_share S.mir us b 0) (S.own_val h us)) (LL.vals D L h) $ done !

    pub struct_back : (h : D.D) (b : ℕ) → ent 𝓤 (sem 𝓛 ((mem S).own_at h b 0))
        (guard 𝓤 (Is S h (LL.vals D L h)) (H.at full_share (lone S.mir) b 0 (LL.val D L h)))
    unfolding part_of
    struct_back h b =
        qed 𝓛 (‵ ((mem S).own_at h b 0) ∷ []) ∵ fpick ! (λ vs. fsplit !
        $ spelt ! S (Is S) (shows 𝓛 S) (LL.vals D L) (LL.tells D L) full_share h vs b 0 $ move ! (1 ∷ [])
        $ facts ! S (Is S) (shows 𝓛 S) h (LL.vals D L h) (λ g. check ! g
        $ use1 𝓛 (‵ (fat full_share (lone S.mir) b 0 (LL.val D L h)))
        (𝓛.laws.raw_at full_share (lone S.mir) b 0 (LL.val D L h)) $ done !))

module _ (D : Declared) (L : LL.Laws D) (pl : Plains (fields D)) (n : ℕ) where
  abbrev R : RattleType
  R = declared.row D

  -- the machine values of the array, and the value and the type of a local that holds it
  abbrev pub vals : List D.D → List Val
  vals = array_vals (LL.vals D L)

  abbrev pub val : List D.D → Val
  val xs = only (vals xs)

  abbrev pub ty : Ty
  ty = ty_array (lone R.mir) n

  module _ {M : Type 1} {𝓤 : Ura M} (𝓛 : Logic 𝓤) (b : ℕ) where
    open 𝓛 use {H}

    pub laid : (xs ys : List D.D) → Is (Array R n) (xs ++ ys) (vals (xs ++ ys))
        → ent 𝓤 (H.at full_share ty b 0 (val (xs ++ ys)))
        (sep 𝓤 (sem 𝓛 (cells (mem R) xs b 0)) (sem 𝓛 (row R full_share ys b (past R xs 0))))
    unfolding part_of
    laid xs ys g =
        qed 𝓛 (‵ (fat full_share ty b 0 (val (xs ++ ys))) ∷ [])
        ∵ use1 𝓛 (‵ (cell_at full_share (ty ∷ []) (vals (xs ++ ys)) b 0))
        (𝓛.laws.at_raw full_share ty b 0 (val (xs ++ ys)))
        $ owned ! (Array R n) (Is (Array R n)) (Array-Makes 𝓛 R (LL.makes D pl 𝓛) n) (xs ++ ys) _ g
        $ move ! (1 ∷ 0 ∷ []) $ fjoin !
        $ fpack ! (List Val) (λ us. fsep (cell_at full_share (ty ∷ []) us b 0) ((Array R n).own_val (xs ++ ys) us))
        (vals (xs ++ ys))
        $ use1 𝓛 (‵ ((arr_parts (shares R) n).part full_share (xs ++ ys) b 0))
        (Array-apart 𝓛 R full_share tt n (xs ++ ys) b 0) $ fsplit ! $ drop !
        $ use1 𝓛 (‵ (row R full_share xs b 0) ⊛ ‵ (row R full_share ys b (past R xs 0)))
        (row_apart 𝓛 R full_share xs ys b 0) $ split !
        $ use1 𝓛 (‵ (cells (mem R) xs b 0)) (whole_in 𝓛 R xs b 0) $ done !

    pub back : (k : ℕ) (xs zs ys : List D.D) → length zs ≡ length xs → length (zs ++ ys) ≡ n
        → ent 𝓤 (sep 𝓤 (sem 𝓛 ((Arr (mem R) k).own_at zs b 0)) (sem 𝓛 (row R full_share ys b (past R xs 0))))
        (guard 𝓤 (Is (Array R n) (zs ++ ys) (vals (zs ++ ys))) (H.at full_share ty b 0 (val (zs ++ ys))))
    unfolding part_of
    back k xs zs ys same l =
        qed 𝓛 (‵ ((Arr (mem R) k).own_at zs b 0) ∷ ‵ (row R full_share ys b (past R xs 0)) ∷ []) ∵ fsplit ! $ drop !
        $ use1 𝓛 (‵ (row R full_share zs b 0)) (whole_out 𝓛 R zs b 0)
        $ rewrite ! 1 (λ (m : ℕ). ‵ (row R full_share ys b (place (mem R).size 0 m))) (sym same) refl
        $ use2 𝓛 (‵ (row R full_share (zs ++ ys) b 0)) (row_whole 𝓛 R full_share zs ys b 0)
        $ feq_i ! ℕ (length (zs ++ ys)) n l $ fjoin !
        $ use1 𝓛 (‵ (part_at (Array R n) full_share (zs ++ ys) b 0)) (Array-whole 𝓛 R full_share n (zs ++ ys) b 0)
        $ fpick ! (λ vs. fsplit !
        $ spelt ! (Array R n) (Is (Array R n)) (shows 𝓛 (Array R n)) vals
        (Array-Tells R (LL.vals D L) (LL.tells D L) n) full_share (zs ++ ys) vs b 0 $ move ! (1 ∷ [])
        $ facts ! (Array R n) (Is (Array R n)) (shows 𝓛 (Array R n)) (zs ++ ys) (vals (zs ++ ys)) (λ g. check ! g
        $ use1 𝓛 (‵ (fat full_share ty b 0 (val (zs ++ ys)))) (𝓛.laws.raw_at full_share ty b 0 (val (zs ++ ys)))
        $ done !))

  -- each element's relation, as a field of another struct has it
  each_into : (xs : List D.D) (us : List Val) → shadow (each D.D R.own_val xs us)
      → shadow (each (field D).row.Denot (field D).row.own_val (map (field D).into xs) us)
  each_into [] [] s = tt
  each_into [] (u ∷ us) s = absurd s
  each_into (x ∷ xs) [] s = absurd s
  each_into (x ∷ xs) (u ∷ us) s = (s.0, each_into xs us s.1)

  -- and the array's
  pub into_is : (xs : List D.D) (vs : List Val) → Is (Array R n) xs vs
      → Is (Array (field D).row n) (map (field D).into xs) vs
  into_is xs vs p = (p.0, ((p.1.0.0, length-map xs (field D).into ∙ p.1.0.1), each_into xs p.0 p.1.1))
