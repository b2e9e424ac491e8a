-- The heap of C as the allocator that a call is passed.
use Rattle.std.proofs.Common.{[], ◌∷◌, refl}
use mir.Raw.{raw as bare}
use denote.Exit.{no}
use mir.Syntax.{Dict, impl, tcons, tnil, dnil}
use denote.Param.{layout, arg}
use denote.RattleType.{RattleType}
use denote.Param.Laws.{Laws, arg_laws}
use Rattle.core.proofs.alloc.Calls.{Al}
use Rattle.std_alloc.proofs.BoxSteps.Form.{Bx}
use Rattle.std_heap.specs.contracts.Global as heap
use Rattle.std_heap.proofs.Global.TheLaws as heap_laws
use Rattle.std_heap.specs.contracts.GlobalAllocator.TheImpl.{ghosts, dict}

-- a `Global` as a call is passed it
abbrev row : RattleType
row = arg (bare (layout heap.the_row)) no heap.the_row

-- a `Global` has nothing to drop
abbrev pub undropped : Dict
undropped = impl ("kunchrol::Destruct++none::drop" ∷ []) (tcons (layout row) tnil) dnil

abbrev pub alloc : Al
alloc = record { row = row; laws = arg_laws (bare (layout heap.the_row)) no heap.the_row heap_laws.the_row_laws refl; g = ghosts; d = dict; drops = undropped }

-- a box of such a value
abbrev pub boxed : (R : RattleType) → Laws R → Bx
boxed R L = record { row = R; laws = L; al = alloc }
