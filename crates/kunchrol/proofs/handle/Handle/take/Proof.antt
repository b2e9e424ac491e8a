-- Null is told from a pointer to a register. The handle keeps null, and the box is made again of what it owned.
use Rattle.std.proofs.Common.{◌≡◌, ℕ, List, [], ◌∷◌, refl, sym, ap, subst, ◌∙◌, lit<}
use Rattle.std.proofs.raw_atomic.Walks.{proved}
use Rattle.std.specs.declared.option.Option.TheVariants.{None, Some}
use Rattle.core.proofs.mem.Facts.{says_two}
use Rattle.core.proofs.option.Made.{Some-of, none_of}
use seplogic.Ra.Ura.{Ura}
use base.Fraction.{full_share}
use base.Logic.{ent, emp, never_e, guard, guard_i, id⊢, via, snd∗}
use base.Fml.{ftrue, flft}
use mir.Syntax.{named}
use mir.Raw.{raw as bare}
use mir.Val.{Val, vptr, vnull, vstruct, vcons, vnil}
use contract.BorrowLft.{◌⊑◌, ⊑_static}
use contract.Monad.{fact, fact_i, fact_use}
use contract.Running.{tables, tables_of}
use types.Logic.{Logic, sem}
use types.Kit.{Goal, Item, Seq, ‵, raw, ◌⊛◌, some, given, later, at_ret, ◌$◌, ◌∵◌, !, qed, done, move, keep, drop, use0, use1, split, join, fsplit, fsplit3, fjoin, feq_i, fpack, pick, await, learn, rewrite, suffices, frame, group}
use types.Run.{enter, of_opd, lit, bin, load, stop, fld, no_more, and_then, assigns, first, blocks, branches, skips, exec, returns, returns_within}
use types.Part.{agg, whole, sub, look_in, store_in}
use types.ByLocal.{alloc_all, pass_all, free_all, look_at, get, through, sets, lands_last, env}
use types.Match.{live}
use types.Tokens.{lft_new}
use denote.Exit.{yes, no}
use denote.Param.{arg, layout}
use denote.Param.Laws.{arg_laws}
use Rattle.core.proofs.cell.Inside.{Good}
use denote.Laws.{shows}
use denote.Memory.{cell_at, lone}
use denote.Param.NoDrop.{glues}
use denote.RattleType.{RattleType, Valss}
use denote.RawPtr.{Ptr, RawPtr, block_ptr, null_ptr, ptr_val, Testable, tests_null}
use denote.Ref.{MutRef, mut_vals, mut_Tells}
use denote.Signature.{plain}
use denote.Steps.{nothing, only, opens, closes, peeks, heard}
use denote.Struct.Struct.{within}
use denote.Struct.Owning.{shape}
use denote.Triple.Call.{calls_at_last}
use denote.Triple.Clauses.{Lasts, lasts}
use denote.Triple.Spec.{triple_of}
use denote.Triple.Table.{framed}
use denote.Triple.Walked.{Stays, walk_of, stay_ref, Goes-ref, stay_dropped, Goes-dropped, ends_at}
use Rattle.std_alloc.proofs.ResultValues.{and_tt}
use Rattle.std.specs.Box.Ownership.{box_owns}
use Rattle.std_alloc.proofs.BoxSteps.Form as box
use Rattle.std_alloc.proofs.BoxSteps.Steps.{box_out, box_in}
use Rattle.core.specs.Ptr.{points_to}
use Rattle.std_heap.specs.contracts.Global as heap_type
use Rattle.std_alloc.specs.contracts.boxed.Box as box_type
use Rattle.std_alloc.specs.contracts.boxed.Box.from_raw as g
use Rattle.std_alloc.proofs.boxed.Box.from_raw.Met.{met}
use Rattle.core.specs.contracts.option.Option as option
use Rattle.std_heap.proofs.GlobalToken.{dealloc_token-Testable}
use Rattle.std_heap.proofs.Global.TheLaws as heap_laws
use Rattle.std_heap.proofs.GlobalAllocator.TheImpl.Met.{passed}
use Rattle.std_heap.specs.contracts.GlobalAllocator.TheImpl.{ghosts, dict}
use Rattle.embed.specs.contracts.register.Register.{the_row as Register}
use Rattle.embed.proofs.register.Register.TheLaws as register
use Rattle.kunchrol.specs.Handles.{Held, handle_owns, may_free}
use Rattle.kunchrol.proofs.Heap.{alloc, boxed, undropped}
use Rattle.kunchrol.proofs.Destruct++none.drop.Code as undrop
use Rattle.kunchrol.specs.contracts.handle.Handle.{the_row as R, the_type}
use Rattle.kunchrol.proofs.handle.Handle.TheLaws.{lowers}
use Rattle.kunchrol.specs.contracts.handle.Handle.take as f
use Rattle.kunchrol.proofs.handle.Handle.take.Statement.{statement}
use Rattle.kunchrol.proofs.handle.Handle.take.Code as code

abbrev word : Ptr → Val
word p = vstruct (vcons (ptr_val p) vnil)

abbrev B : RattleType
B = box_type.the_row Register heap_type.the_row ghosts

abbrev X : RattleType
X = arg (bare (layout Register)) no Register

abbrev E : box.Bx
E = boxed X (arg_laws (bare (layout Register)) no Register register.the_row_laws refl)

abbrev stayed : Stays f.ended.signature.params f.ended.kept
stayed = (stay_ref (0 ∷ []) tt (plain (λ _. R)), (stay_dropped (plain (λ _. heap_type.the_row)) yes, tt))

module _ {M : Type 1} {𝓤 : Ura M} {𝓛 : Logic 𝓤} {K : Type 0} {Γ : List (Item 𝓤)} {G : Goal 𝓤 𝓛.H} where
  -- a handle is at null and holds nothing, or a register lies where it points to
  holds : K → (p : Ptr) (x : Held) → (p ≡ null_ptr → x ≡ None → Seq K 𝓛 Γ G)
      → ((b o : ℕ) (t : Register.Denot) → p ≡ block_ptr b o → x ≡ Some t → Seq K 𝓛 (‵ (box_owns may_free Register (block_ptr b o) t) ∷ Γ) G)
      → Seq K 𝓛 (‵ (handle_owns p x) ∷ Γ) G
  holds k null_ptr None none some' = drop k $ none refl refl
  holds k (block_ptr b o) (Some t) none some' = some' b o t refl refl
  holds k null_ptr (Some t) none some' = use1 𝓛 (given ⊥ (‵ ftrue)) (never_e 𝓤 _) $ learn k (λ z. absurd z)
  holds k (block_ptr b o) None none some' = use1 𝓛 (given ⊥ (‵ ftrue)) (never_e 𝓤 _) $ learn k (λ z. absurd z)

-- what may be freed may be compared with null
tested : {M : Type 1} {𝓤 : Ura M} (𝓛 : Logic 𝓤) (z : heap_type.the_row.Denot) (p : Ptr) (t : Register.Denot)
    → ent 𝓤 (sem 𝓛 (box_owns may_free Register p t)) (guard 𝓤 (Testable p) (sem 𝓛 (box_owns may_free Register p t)))
tested {𝓤 = 𝓤} 𝓛 z p t = let free = sem 𝓛 (may_free (bare (lone Register.mir)) p) in
    fact_use 𝓤 (Testable p) (via 𝓤 free (snd∗ 𝓤 (sem 𝓛 (points_to Register p t)) free) (dealloc_token-Testable 𝓛 z (bare (lone Register.mir)) p))
    (guard_i 𝓤 (Testable p) (sem 𝓛 (box_owns may_free Register p t)))

pub take_spec : {M : Type 1} → statement M
unfolding tables_of undrop.code
take_spec {M} 𝓤 𝓛 𝓜 𝓡 wired =
    let c = f.clauses 𝓛 𝓜.mem 𝓡.returns in let W = walk_of 𝓛 f.ended stayed c in let 𝓣 = tables 𝓤 𝓛.H 𝓜 𝓡 𝓡.env in let at_env = 𝓡.env in
    let heap = passed at_env (code.calls-std_heap::GlobalAllocator::allocate at_env wired) (code.calls-std_heap::GlobalAllocator::deallocate at_env wired)
    (code.calls-std_heap::GlobalAllocator::grow at_env wired) (code.calls-std_heap::GlobalAllocator::shrink at_env wired) M 𝓤 𝓛 𝓜 𝓡 in
    let undropped_met = glues "kunchrol::Destruct++none::drop" at_env (code.calls-kunchrol::Destruct++none::drop at_env wired) alloc.row alloc.laws M 𝓤 𝓛 𝓜 𝓡 in
    let null : R.Denot = record { at = null_ptr; value = None } in let Back : RattleType = option.the_row B in
    proved 𝓛 f.ended stayed c 𝓜 𝓡 (Goes-ref 𝓛 1 0 tt (plain (λ _. R)), (Goes-dropped 𝓛 1 (plain (λ _. heap_type.the_row)) yes (λ κs x w. refl), tt))
    f.Key.name code.function (code.unfolded 𝓤 𝓛.H 𝓜 𝓡 wired)
    (λ κs. (mut_vals, ((λ z. heap_laws.lowers.lowered z ∷ []), tt)))
    (λ κs. (mut_Tells (named 0) κs.0 R, (heap_laws.lowers.val_is, tt))) (λ κs qs bounds a _ are.
    let b = a.0.ref_ptr.0 in let o = a.0.ref_ptr.1 in let h = a.0.now in let vs = mut_vals a.0 in let z = a.1.0 in let zv = heap_laws.lowers.lowered z in
    let good = (((heap_laws.the_row_laws).lawful 𝓛).typed z (zv ∷ []) are.1.0).0 in
    let y : W.Ghost = ((κs, qs, bounds, a, (vs, (zv ∷ [], tt))), tt) in let Cell = λ (ws : List Val). ‵ (cell_at full_share R.mir ws b o) in
    qed 𝓛 (((‵ (flft κs.0 qs.0) ⊛ ‵ ftrue) ⊛ ‵ ((MutRef (named 0) κs.0 R).own_val a.0 vs)
    ⊛ ‵ (heap_type.the_row.own_val z (zv ∷ [])) ⊛ ‵ ftrue) ∷ ‵ ftrue ∷ []) ∵
    split ! $ split ! $ move ! (2 ∷ []) $ split ! $ move ! (1 ∷ []) $ split ! $ keep ! (2 ∷ 3 ∷ 0 ∷ []) $
    enter ! _ _ _ _ _ $ alloc_all ! (λ l. pass_all ! refl ((tt, tt), (good, tt)) $ let En = env code.Mir.locals l in
    fsplit3 ! $ move ! (1 ∷ 2 ∷ 3 ∷ []) $ opens ! tt R b o (λ us. move ! (1 ∷ []) $ peeks ! R _ (shows 𝓛 R) h us (λ is. fsplit ! $ drop ! $
    rewrite ! 1 Cell (lowers.val_is h us is) refl $
    -- [what lies at the pointer; the handle's cell; the open borrow, in three entries; self's first part; the allocator]
    holds ! h.at h.value
    (λ at_null holds_none. rewrite ! 0 Cell (ap (λ (p : Ptr). word p ∷ []) at_null) refl $
    sets ! (of_opd ! (load ! (through ! refl (fld ! refl (stop !))) (look_in ! 0 (sub ! 0 refl (whole !))))) refl (tt, record { fits = lit< tt }) $
    sets ! (of_opd ! (get ! refl)) refl (tt, record { fits = lit< tt }) $ sets ! (bin ! (get ! refl) (lit ! tt) tt) refl (tt, tt) $
    first ! $ branches ! (get ! refl)
    (λ _. sets ! (agg ! (and_then ! (lit ! tt) (no_more !))) refl (tt, (record { fits = lit< tt }, tt)) $
    nothing ! $ nothing ! $ feq_i ! (List Val) (vnull ∷ []) (vnull ∷ []) refl $ fjoin ! $
    feq_i ! (List Val) (word null_ptr ∷ []) (word null_ptr ∷ []) refl $ fjoin ! $
    fpack ! (Valss (RawPtr ∷ [])) (within (shape the_type) (null_ptr, tt) (word null_ptr ∷ [])) (vnull ∷ [], tt) $
    fjoin ! $ move ! (1 ∷ []) $ closes ! tt R null (word null_ptr ∷ []) b o $
    returns_within ! (W.post y) refl (look_at ! 0 refl) $ free_all ! refl $ move ! (3 ∷ []) $
    suffices ! _ (ends_at 𝓛 f.ended stayed c y (live 0 vnil) None (null, (tt, tt)) (tt, (tt, tt))) $ says_two ! (holds_none, refl) $
    group ! 3 $ nothing ! $ nothing ! $ join ! $ move ! (1 ∷ 0 ∷ []) $ join ! $ nothing ! $ move ! (2 ∷ 0 ∷ []) $ join ! $ frame ! $ frame ! $ drop ! $
    use0 𝓛 (‵ (Back.own_val None (live 0 vnil ∷ []))) (none_of 𝓛 B) $ done !)
    (λ wrong. absurd wrong))
    (λ b' o' t at_block holds_some. rewrite ! 1 Cell (ap (λ (p : Ptr). word p ∷ []) at_block) refl $
    use1 𝓛 (given (Testable (block_ptr b' o')) (‵ (box_owns may_free Register (block_ptr b' o') t))) (tested 𝓛 z (block_ptr b' o') t) $ learn ! (λ test.
    sets ! (of_opd ! (load ! (through ! refl (fld ! refl (stop !))) (look_in ! 1 (sub ! 0 refl (whole !))))) refl (tt, tt) $
    sets ! (of_opd ! (get ! refl)) refl (tt, tt) $ sets ! (bin ! (get ! refl) (lit ! tt) (tests_null (block_ptr b' o') test)) refl (tt, tt) $
    first ! $ branches ! (get ! refl) (λ wrong. absurd wrong) (λ _. skips ! $ exec ! 𝓣.C 𝓣.Λ En code.Mir.t-5 (at_ret En (W.post y)) $
    assigns ! (of_opd ! (lit ! tt)) (through ! refl (fld ! refl (stop !))) (store_in ! 1 (sub ! 0 refl (whole !)) (tt, record { fits = lit< tt })) $
    -- [what lies at the pointer; the handle's cell; the open borrow, in three entries; self's first part; the allocator]
    nothing ! $ nothing ! $ feq_i ! (List Val) (vnull ∷ []) (vnull ∷ []) refl $ fjoin ! $
    feq_i ! (List Val) (word null_ptr ∷ []) (word null_ptr ∷ []) refl $ fjoin ! $
    fpack ! (Valss (RawPtr ∷ [])) (within (shape the_type) (null_ptr, tt) (word null_ptr ∷ [])) (vnull ∷ [], tt) $
    fjoin ! $ move ! (2 ∷ 0 ∷ 3 ∷ 4 ∷ 5 ∷ []) $ closes ! tt R null (word null_ptr ∷ []) b o $
    move ! (4 ∷ 0 ∷ 1 ∷ []) $ group ! 3 $
    first ! $ blocks ! $ sets ! (of_opd ! (get ! refl)) refl good $ sets ! (of_opd ! (get ! refl)) refl (tt, tt) $
    sets ! (of_opd ! (get ! refl)) refl (tt, tt) $ lft_new ! tt (λ α. lft_new ! tt (λ β.
    let k = triple_of 𝓛 (g.signature X alloc.row ghosts dict undropped) (g.spec X alloc.row ghosts dict undropped 𝓛 𝓜.mem 𝓡.returns) in
    let x : k.Ghost = (((α ∷ [], (β ∷ [], tt)), (full_share, (full_share, tt)), tt, (z, (block_ptr b' o', tt)), (zv ∷ [], (vptr b' o' ∷ [], tt))), t) in
    -- [two tokens; self; its token; what lies at the pointer; the allocator]
    nothing ! $ move ! (1 ∷ 0 ∷ []) $ join ! $ move ! (1 ∷ 0 ∷ []) $ join ! $
    nothing ! $ feq_i ! (List Val) (vptr b' o' ∷ []) (vptr b' o' ∷ []) refl $ fjoin ! $ move ! (5 ∷ 0 ∷ []) $ fjoin ! $ move ! (1 ∷ 0 ∷ []) $ join ! $
    use0 𝓛 (raw (fact 𝓤 ((β ∷ []) ⊑ alloc.row.lives))) (fact_i 𝓤 ((β ∷ []) ⊑ alloc.row.lives) (emp 𝓤) (⊑_static (β ∷ []))) $
    move ! (0 ∷ 4 ∷ []) $ join ! $
    use0 𝓛 (raw (fact 𝓤 ((α ∷ []) ⊑ X.lives))) (fact_i 𝓤 ((α ∷ []) ⊑ X.lives) (emp 𝓤) (⊑_static (α ∷ []))) $ join ! $ move ! (1 ∷ 0 ∷ []) $ join ! $
    use1 𝓛 (raw (k.pre x)) (id⊢ 𝓤 _) $
    calls_at_last ! (framed 𝓤 𝓛.H 𝓜 𝓣) k
    (met 𝓤 𝓛 𝓜 𝓡 (code.calls-std_alloc::boxed::Box::from_raw at_env wired) X alloc.row E.laws alloc.laws ghosts dict undropped heap undropped_met) x
    (and_then ! (get ! refl) (and_then ! (get ! refl) (no_more !))) (λ u.
    let Gave = g.ended X alloc.row ghosts dict undropped in
    use1 𝓛 (later (some (λ (r : B.Denot). ((‵ (flft (α ∷ []) full_share) ⊛ ‵ (flft (β ∷ []) full_share) ⊛ ‵ ftrue) ⊛ ‵ ((box.B E).own_val r (u ∷ []))) ⊛
    some (λ (ls : Lasts Gave x.0.0 x.0.3). ‵ (lasts Gave x.0.0 x.0.3 ls) ⊛ (raw (fact 𝓤 (r.value ≡ t)) ⊛ raw (fact 𝓤 (r.alloc ≡ z))))))) (id⊢ 𝓤 _) $
    await ! tt $ pick ! (λ r. split ! $ move ! (1 ∷ []) $ pick ! (λ _. split ! $ drop ! $ split ! $ heard ! (r.value ≡ t) (λ same. drop ! $ split ! $ drop ! $
    box_out E ! r (u ∷ []) (λ b₂ o₂ hv e ws fa. box_in E ! r b₂ o₂ r.value e refl $ rewrite ! 0 (λ (xs : List Val). ‵ ((box.B E).own_val r xs)) (sym ws) refl $
    -- [the box; self; its token]
    let made : Good (layout B) u = subst (Good (layout B)) (sym (ap only ws)) (box.box_typed E hv b₂ o₂ fa) in
    lands_last ! refl made $ exec ! 𝓣.C 𝓣.Λ En code.Mir.t-7 (at_ret En (W.post y)) $ sets ! (of_opd ! (get ! refl)) refl made $
    sets ! (agg ! (and_then ! (lit ! tt) (and_then ! (get ! refl) (no_more !)))) refl (and_tt _ made.0, (record { fits = lit< tt }, (made.1, tt))) $
    use1 𝓛 (‵ (Back.own_val (Some r) (live 1 (vcons u vnil) ∷ []))) (Some-of 𝓛 B r u) $ returns ! (look_at ! 0 refl) $ free_all ! refl $
    suffices ! _ (ends_at 𝓛 f.ended stayed c y (live 1 (vcons u vnil)) (Some r) (null, (tt, tt)) (tt, (tt, tt))) $
    says_two ! (holds_some ∙ ap Some (sym same), refl) $
    nothing ! $ nothing ! $ join ! $ move ! (2 ∷ 0 ∷ []) $ join ! $ nothing ! $ move ! (3 ∷ 0 ∷ []) $ join ! $ frame ! $ frame ! $ done !))))))))))))))
