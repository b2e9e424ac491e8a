-- What is decided and what an Abort carries, as the values of the definitions.
use Rattle.machine.specs.Sent as sent
use Rattle.mapctx.specs.Seen.{context}
use Rattle.mapdlg.specs.Accepting as accepting
use Rattle.mapdlg.specs.Accepting.{Decision}
use Rattle.mapdlg.specs.declared.begins.Accepted.{Accepted}
use Rattle.mapdlg.specs.declared.begins.Accepted.TheVariants.{Go, Refuse}
use Rattle.mapdlg.specs.declared.why.Why.{Why}
use Rattle.mapdlg.specs.declared.why.Why.TheVariants.{NoCause, Cause, Refusing}

abbrev pub why : Why → sent.Why
why NoCause = sent.NoCause
why (Cause cause) = sent.Cause cause
why (Refusing name) = sent.Refusing name

abbrev pub decided : Accepted → Decision
decided (Go c) = accepting.Go (context c)
decided (Refuse w) = accepting.Refuse (why w)
