-- The box is turned into its pointer, and what it owns is what the parts own.
use Rattle.std.proofs.Common.{List, [], ◌∷◌, ◌++◌, refl, ap, ◌∙◌}
use Rattle.std.proofs.raw_atomic.Walks.{proved_at}
use Rattle.core.proofs.alloc.Calls.{Goes-blank}
use base.Fraction.{full_share}
use base.Logic.{emp, never, fst∗, id⊢}
use base.Fml.{ftrue, flft}
use mir.Syntax.{a_type, dcons, dnil}
use mir.MapTy.{inst_fn}
use mir.Raw.{raw as bare}
use mir.Val.{Val, vptr, vstruct, vcons, vnil}
use prog.Wp.{WpFn}
use contract.BorrowLft.{◌⊑◌, ⊑_static}
use contract.Monad.{fact, fact_i}
use contract.Running.{tables, tables_of}
use types.Logic.{sem}
use types.Kit.{‵, raw, ◌⊛◌, some, later, prop, ◌$◌, ◌∵◌, !, qed, done, move, drop, use0, use1, split, join, fsplit, fjoin, feq_i, feq_l, fpack, pick, await, regoal, suffices, frame}
use types.Run.{enter, of_opd, no_more, and_then, returns}
use types.Part.{agg}
use types.ByLocal.{alloc_all, pass_all, free_all, look_at, get, sets, lands_as}
use types.Tokens.{lft_new}
use denote.Exit.{no}
use denote.Param.{param, layout, bounded}
use denote.Param.NoDrop.{glues}
use denote.RattleType.{RattleType, Valss, owns}
use denote.RawPtr.{Ptr, RawPtr, block_ptr, null_ptr, ptr_val, in_a_block}
use denote.Signature.{plain, types_at}
use denote.Steps.{nothing, only}
use denote.Struct.Struct.{within}
use denote.Struct.Owning.{shape}
use denote.Triple.Call.{calls_at}
use denote.Triple.Clauses.{Lasts, lasts}
use denote.Triple.Spec.{triple_of}
use denote.Triple.Table.{framed}
use denote.Triple.Walked.{Stays, walk_of, says, stay_dropped, ends_at}
use Rattle.std.specs.Box.Ownership.{box_owns}
use Rattle.kunchrol.specs.Handles.{may_free}
use Rattle.std_alloc.proofs.BoxSteps.Form as box
use Rattle.std_alloc.proofs.BoxSteps.Steps.{box_out, box_in}
use Rattle.std_heap.specs.contracts.Global as heap_type
use Rattle.std_alloc.specs.contracts.boxed.Box as box_type
use Rattle.std_alloc.specs.contracts.boxed.Box.into_raw as g
use Rattle.std_alloc.proofs.boxed.Box.into_raw.Met.{met}
use Rattle.std_heap.proofs.GlobalAllocator.TheImpl.Met.{passed}
use Rattle.std_heap.specs.contracts.GlobalAllocator.TheImpl.{ghosts, dict}
use Rattle.kunchrol.proofs.Heap.{alloc, boxed, undropped}
use Rattle.kunchrol.proofs.Destruct++none.drop.Code as undrop
use Rattle.kunchrol.specs.contracts.handle.parts.Parts as parts
use Rattle.kunchrol.specs.contracts.handle.parts.Parts.of as f
use Rattle.kunchrol.proofs.handle.parts.Parts.of.Statement.{statement}
use Rattle.kunchrol.proofs.handle.parts.Parts.of.Code as code

abbrev word : Ptr → Val
word p = vstruct (vcons (ptr_val p) vnil)

pub of_spec : {M : Type 1} → statement M
unfolding tables_of undrop.code
of_spec {M} 𝓤 𝓛 𝓜 𝓡 wired T L dx glue =
    let H = 𝓛.H in let 𝓣 = tables 𝓤 H 𝓜 𝓡 𝓡.env in let E = boxed T L in let R : RattleType = param 0 T in
    let P = parts.the_row R in let B : RattleType = box_type.the_row R heap_type.the_row ghosts in
    let T' = f.ended T dx in let c = f.clauses T dx 𝓛 𝓜.mem 𝓡.returns in
    let inst = bounded (a_type ∷ []) (T, tt) (dcons dx dnil) in let fn = inst_fn inst code.function in
    let hs : Stays T'.signature.params T'.kept = (stay_dropped (plain (λ _. B)) no, tt) in
    let env = 𝓡.env in
    let heap = passed env (code.calls-std_heap::GlobalAllocator::allocate env wired) (code.calls-std_heap::GlobalAllocator::deallocate env wired)
    (code.calls-std_heap::GlobalAllocator::grow env wired) (code.calls-std_heap::GlobalAllocator::shrink env wired) M 𝓤 𝓛 𝓜 𝓡 in
    let undropped_met = glues "kunchrol::Destruct++none::drop" env (code.calls-kunchrol::Destruct++none::drop env wired) alloc.row alloc.laws M 𝓤 𝓛 𝓜 𝓡 in
    proved_at 𝓛 T' hs c 𝓜 𝓡 (Goes-blank 𝓛 1 (plain (λ _. B)) no (λ κs x w. tt), tt) (f.Key.name inst) fn (code.unfolded 𝓤 H 𝓜 𝓡 wired (T, tt) dx) (λ z are.
    let κ = z.0.0.0 in let q = z.0.1.0 in let v = z.0.3.0 in let Post = (walk_of 𝓛 T' hs c).post z in
    qed 𝓛 (((‵ (flft κ q) ⊛ ‵ ftrue) ⊛ ‵ (owns (types_at T'.signature.params z.0.0) z.0.3 z.0.4)) ∷ (raw (fact 𝓤 (κ ⊑ T.lives)) ⊛ ‵ ftrue) ∷ []) ∵
    split ! $ split ! $ move ! (2 ∷ []) $ fsplit ! $ box_out E ! v z.0.4.0 (λ b o hv e ws fa. box_in E ! v b o v.value e refl $
    -- [the box; nothing; the token; nothing; that the token's lifetime is within the type's]
    regoal ! (λ (us : List Val). prop (WpFn 𝓤 H 𝓣.C 𝓣.Λ fn us Post)) (λ i. ws i ++ []) refl $
    enter ! _ _ _ _ _ $ alloc_all ! (λ l. pass_all ! refl (box.box_typed E hv b o fa, tt) $
    sets ! (of_opd ! (get ! refl)) refl (box.box_typed E hv b o fa) $
    lft_new ! tt (λ α.
    let k = triple_of 𝓛 (g.signature T alloc.row ghosts dict undropped dx) (g.spec T alloc.row ghosts dict undropped dx 𝓛 𝓜.mem 𝓡.returns) in
    let y : k.Ghost = (((κ, (α ∷ [], tt)), (q, (full_share, tt)), tt, (v, tt), (box.word E hv b o ∷ [], tt)), tt) in
    -- [α's token; the box; nothing; the token; nothing; that the token's lifetime is within the type's]
    move ! (0 ∷ 4 ∷ []) $ join ! $ move ! (3 ∷ 0 ∷ []) $ join ! $ move ! (1 ∷ 2 ∷ []) $ fjoin ! $ move ! (1 ∷ 0 ∷ []) $ join ! $
    move ! (1 ∷ []) $ split ! $ use0 𝓛 (raw (fact 𝓤 ((α ∷ []) ⊑ alloc.row.lives))) (fact_i 𝓤 ((α ∷ []) ⊑ alloc.row.lives) (emp 𝓤) (⊑_static (α ∷ []))) $
    move ! (0 ∷ 2 ∷ []) $ join ! $ move ! (1 ∷ 0 ∷ []) $ join ! $ move ! (1 ∷ 0 ∷ []) $ join ! $ use1 𝓛 (raw (k.pre y)) (id⊢ 𝓤 _) $
    calls_at ! (framed 𝓤 H 𝓜 𝓣) k
    (met 𝓤 𝓛 𝓜 𝓡 (code.calls-std_alloc::boxed::Box::into_raw env wired) T alloc.row L alloc.laws ghosts dict undropped dx heap undropped_met glue) y
    (and_then ! (get ! refl) (no_more !)) (λ u.
    let G = g.ended T alloc.row ghosts dict undropped dx in
    use1 𝓛 (later (some (λ (r : Ptr). ((‵ (flft κ q) ⊛ ‵ (flft (α ∷ []) full_share) ⊛ ‵ ftrue) ⊛ ‵ (RawPtr.own_val r (u ∷ []))) ⊛
    some (λ (ls : Lasts G y.0.0 y.0.3). ‵ (lasts G y.0.0 y.0.3 ls) ⊛ ‵ (box_owns may_free R r v.value))))) (id⊢ 𝓤 _) $
    await ! tt $ pick ! (λ r. split ! $ move ! (1 ∷ []) $ pick ! (λ _. split ! $ drop ! $
    in_a_block ! r (λ p. box_owns may_free R p v.value) (fst∗ 𝓤 (never 𝓤) (sem 𝓛 (may_free (bare (layout T)) null_ptr))) (λ b' o' e'.
    move ! (1 ∷ []) $ split ! $ split ! $ move ! (1 ∷ []) $ drop ! $ move ! (1 ∷ []) $ feq_l ! (λ is.
    -- [the token; what lies at the pointer]
    lands_as ! (ap only (is ∙ ap (λ (p : Ptr). ptr_val p ∷ []) e')) refl (tt, tt) $
    sets ! (agg ! (and_then ! (get ! refl) (no_more !))) refl (tt, (tt, tt)) $
    let at : Ptr = block_ptr b' o' in let new : P.Denot = record { at = at; value = v.value } in
    nothing ! $ feq_i ! (List Val) (vptr b' o' ∷ []) (vptr b' o' ∷ []) refl $ fjoin ! $
    feq_i ! (List Val) (word at ∷ []) (word at ∷ []) refl $ fjoin ! $
    fpack ! (Valss (RawPtr ∷ [])) (within (shape (parts.the_type R)) (at, tt) (word at ∷ [])) (vptr b' o' ∷ [], tt) $
    move ! (0 ∷ 2 ∷ []) $ fjoin ! $ returns ! (look_at ! 0 refl) $ free_all ! refl $
    suffices ! _ (ends_at 𝓛 T' hs c z (word at) new (tt, tt) (tt, tt)) $ says ! refl $
    nothing ! $ nothing ! $ join ! $ nothing ! $ move ! (3 ∷ 0 ∷ []) $ join ! $ frame ! $ frame ! $ done !)))))))))
