-- What a handle owns.
use Rattle.std.specs.declared.option.Option.{Option}
use Rattle.std.specs.declared.option.Option.TheVariants.{None, Some}
use mir.Syntax.{Ty}
use base.Fml.{Fml, ftrue, ffalse}
use base.Stored.{Coded}
use denote.RawPtr.{Ptr, block_ptr, null_ptr}
use Rattle.std.specs.Coded.{coded_option}
use Rattle.std.specs.Box.Ownership.{box_owns}
use Rattle.std_heap.specs.contracts.GlobalAllocator.TheImpl.{ghosts}
use Rattle.embed.specs.contracts.register.Register.{the_row}

-- A handle has a register, or is closed.
abbrev pub Held : Type 0
Held = Option the_row.Denot

-- The right to give a block back to the heap of C. A `Global` has one value, so it is the same of each.
abbrev pub may_free : Ty → Ptr → Fml
may_free = ghosts.dealloc_token (record { memory = record { seal = tt } })

-- A closed handle is null. A register lies in a block of its own, which may be freed.
abbrev pub handle_owns : Ptr → Held → Fml
handle_owns null_ptr None = ftrue
handle_owns (block_ptr b o) (Some register) = box_owns may_free the_row (block_ptr b o) register
handle_owns null_ptr (Some _) = ffalse
handle_owns (block_ptr _ _) None = ffalse

abbrev pub held_code : Coded Held
held_code = coded_option the_row.coded
