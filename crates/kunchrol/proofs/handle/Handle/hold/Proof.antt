-- The pointer of the parts becomes that of the handle, which owns from then on what they owned.
use Rattle.std.proofs.Common.{◌≡◌, List, [], ◌∷◌, refl}
use Rattle.std.proofs.raw_atomic.Walks.{proved}
use Rattle.std.specs.declared.option.Option.TheVariants.{None, Some}
use Rattle.core.proofs.alloc.Calls.{Goes-blank}
use base.Logic.{never, fst∗}
use base.Fraction.{full_share}
use base.Fml.{ftrue, flft}
use mir.Syntax.{named}
use mir.Raw.{raw as bare}
use mir.Val.{Val, vptr, vunit, vstruct, vcons, vnil}
use contract.Monad.{fact}
use contract.Running.{tables}
use prog.Wp.{WpFn}
use types.Logic.{sem}
use types.Kit.{‵, raw, ◌⊛◌, prop, ◌$◌, ◌∵◌, !, qed, done, move, keep, drop, split, join, fsplit, fsplit3, fjoin, feq_i, fpack, regoal, rewrite, suffices, frame, group}
use types.Run.{enter, of_opd, unit_lit, stop, fld, assigns, returns}
use types.Part.{whole, sub, store_in}
use types.ByLocal.{alloc_all, pass_all, free_all, look_at, get, get_in, through, sets}
use denote.Exit.{yes}
use denote.Laws.{shows}
use denote.Memory.{cell_at, lone}
use denote.RattleType.{RattleType, Valss}
use denote.RawPtr.{Ptr, RawPtr, block_ptr, null_ptr, ptr_val, in_a_block}
use denote.Ref.{MutRef, mut_vals, mut_Tells}
use denote.Signature.{plain}
use denote.Steps.{nothing, opens, closes, peeks}
use denote.Struct.Struct.{within}
use denote.Struct.Owning.{shape}
use denote.Triple.Walked.{Stays, walk_of, says, stay_ref, Goes-ref, stay_dropped, ends_at}
use Rattle.std.specs.Box.Ownership.{box_owns}
use Rattle.kunchrol.specs.Handles.{may_free}
use Rattle.embed.specs.contracts.register.Register.{the_row as Register}
use Rattle.embed.proofs.register.Register.TheLaws as register
use Rattle.kunchrol.specs.contracts.handle.Handle.{the_row as R, the_type}
use Rattle.kunchrol.proofs.handle.Handle.TheLaws.{lowers}
use Rattle.kunchrol.specs.contracts.handle.parts.Parts as parts
use Rattle.kunchrol.proofs.handle.parts.Parts.TheLaws as parts_laws
use Rattle.kunchrol.specs.contracts.handle.Handle.hold as f
use Rattle.kunchrol.proofs.handle.Handle.hold.Statement.{statement}
use Rattle.kunchrol.proofs.handle.Handle.hold.Code as code

abbrev P : RattleType
P = parts.the_row Register

abbrev stayed : Stays f.ended.signature.params f.ended.kept
stayed = (stay_ref (0 ∷ []) tt (plain (λ _. R)), (stay_dropped (plain (λ _. P)) yes, tt))

abbrev word : Ptr → Val
word p = vstruct (vcons (ptr_val p) vnil)

pub hold_spec : {M : Type 1} → statement M
hold_spec 𝓤 𝓛 𝓜 𝓡 wired =
    let c = f.clauses 𝓛 𝓜.mem 𝓡.returns in let W = walk_of 𝓛 f.ended stayed c in let 𝓣 = tables 𝓤 𝓛.H 𝓜 𝓡 𝓡.env in
    let told = parts_laws.lowers Register register.the_row_laws in
    proved 𝓛 f.ended stayed c 𝓜 𝓡 (Goes-ref 𝓛 1 0 tt (plain (λ _. R)), (Goes-blank 𝓛 1 (plain (λ _. P)) yes (λ κs x f. tt), tt))
    f.Key.name code.function (code.unfolded 𝓤 𝓛.H 𝓜 𝓡 wired)
    (λ κs. (mut_vals, ((λ p. word p.at ∷ []), tt))) (λ κs. (mut_Tells (named 0) κs.0 R, (told.val_is, tt))) (λ κs qs bounds a _ are.
    let b = a.0.ref_ptr.0 in let o = a.0.ref_ptr.1 in let h = a.0.now in let vs = mut_vals a.0 in let p = a.1.0 in
    let y : W.Ghost = ((κs, qs, bounds, a, (vs, (word p.at ∷ [], tt))), tt) in
    qed 𝓛 (((‵ (flft κs.0 qs.0) ⊛ ‵ ftrue) ⊛ ‵ ((MutRef (named 0) κs.0 R).own_val a.0 vs)
    ⊛ ‵ (P.own_val p (word p.at ∷ [])) ⊛ ‵ ftrue) ∷ raw (fact 𝓤 (h.value ≡ None)) ∷ []) ∵
    split ! $ split ! $ move ! (2 ∷ []) $ split ! $ move ! (1 ∷ []) $ split ! $ keep ! (0 ∷ 2 ∷ 3 ∷ []) $ fsplit ! $ move ! (1 ∷ []) $
    in_a_block ! p.at (λ q. box_owns may_free Register q p.value) (fst∗ 𝓤 (never 𝓤) (sem 𝓛 (may_free (bare (lone Register.mir)) null_ptr))) (λ b' o' e.
    regoal ! (λ (q : Ptr). prop (WpFn 𝓤 𝓛.H 𝓣.C 𝓣.Λ code.function (vptr b o ∷ word q ∷ []) (W.post y))) e refl $
    move ! (1 ∷ []) $ drop ! $ enter ! _ _ _ _ _ $ alloc_all ! (λ l. pass_all ! refl ((tt, tt), ((tt, (tt, tt)), tt)) $
    sets ! (of_opd ! (get_in ! (fld ! refl (stop !)) (sub ! 0 refl (whole !)))) refl (tt, tt) $
    sets ! (of_opd ! (get ! refl)) refl (tt, tt) $
    -- [self; what lies at the pointer; the token]
    move ! (1 ∷ []) $ fsplit3 ! $ move ! (1 ∷ 2 ∷ 4 ∷ []) $ opens ! tt R b o (λ us.
    move ! (1 ∷ []) $ peeks ! R _ (shows 𝓛 R) h us (λ is. drop ! $
    rewrite ! 0 (λ (ws : List Val). ‵ (cell_at full_share R.mir ws b o)) (lowers.val_is h us is) refl $
    -- [the handle's cell; the open borrow, in three entries; self's first part; what lies at the pointer]
    assigns ! (of_opd ! (get ! refl)) (through ! refl (fld ! refl (stop !))) (store_in ! 0 (sub ! 0 refl (whole !)) (tt, tt)) $
    sets ! (of_opd ! (unit_lit !)) refl (tt, tt) $
    let at : Ptr = block_ptr b' o' in let new : R.Denot = record { at = at; value = Some p.value } in
    nothing ! $ feq_i ! (List Val) (vptr b' o' ∷ []) (vptr b' o' ∷ []) refl $ fjoin ! $
    feq_i ! (List Val) (word at ∷ []) (word at ∷ []) refl $ fjoin ! $
    fpack ! (Valss (RawPtr ∷ [])) (within (shape the_type) (at, tt) (word at ∷ [])) (vptr b' o' ∷ [], tt) $
    move ! (0 ∷ 6 ∷ []) $ fjoin ! $ move ! (1 ∷ []) $ closes ! tt R new (word at ∷ []) b o $
    -- [two parts of self; the token; self's first part]
    returns ! (look_at ! 0 refl) $ free_all ! refl $ move ! (3 ∷ []) $
    suffices ! _ (ends_at 𝓛 f.ended stayed c y vunit tt (new, (tt, tt)) (tt, (tt, tt))) $ says ! refl $
    group ! 3 $ nothing ! $ nothing ! $ join ! $ move ! (1 ∷ 0 ∷ []) $ join ! $
    nothing ! $ move ! (2 ∷ 0 ∷ []) $ join ! $ frame ! $ frame ! $
    feq_i ! _ (vunit ∷ []) _ refl $ done !)))))
