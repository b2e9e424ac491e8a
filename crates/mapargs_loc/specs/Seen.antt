-- What is read and what is sent, as the values of the machine.
use Rattle.std.specs.Prelude.{Result, Ok, Err}
use Rattle.hlr_types.specs.declared.register.Register.{Register}
use Rattle.machine.specs.Received as machine
use Rattle.machine.specs.Received.{Argument, Parameter}
use Rattle.machine.specs.Sent as sent
use Rattle.mapargs_loc.specs.declared.cancel.CancellationType.{CancellationType}
use Rattle.mapargs_loc.specs.declared.cancel.CancellationType.TheVariants.{UpdateProcedure, SubscriptionWithdraw}
use Rattle.mapargs_loc.specs.declared.fault.ArgFault.{ArgFault}
use Rattle.mapargs_loc.specs.declared.fault.ArgFault.TheVariants.{Mistyped, BadValue}
use Rattle.mapargs_loc.specs.declared.update.UpdateArg.{UpdateArg}
use Rattle.mapargs_loc.specs.declared.purge.PurgeArg.{PurgeArg}

abbrev pub register : Register → machine.Register
register r = record { vlr = r.vlr; msc = r.msc; lmsi = r.lmsi }

abbrev pub update_argument : UpdateArg → Argument
update_argument u = machine.Update u.imsi (register u.register)

abbrev pub purge_argument : PurgeArg → Argument
purge_argument p = machine.Purge p.imsi p.vlr

-- what a reader returns, as the parameter
abbrev pub answer : {A : Type 0} → (A → Argument) → Result A ArgFault → Parameter
answer argument (Ok a) = machine.Typed (argument a)
answer argument (Err Mistyped) = machine.Mistyped
answer argument (Err BadValue) = machine.Typed machine.BadValue

abbrev pub cancellation : CancellationType → sent.CancellationType
cancellation UpdateProcedure = sent.UpdateProcedure
cancellation SubscriptionWithdraw = sent.SubscriptionWithdraw
