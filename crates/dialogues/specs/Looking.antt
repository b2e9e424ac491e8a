-- Which dialogue a received message is for, by the open dialogue with its destination id (Q.774).
use Rattle.std.specs.Prelude.{ℕ, List, Option, Some, None}
use Rattle.machine.specs.State.{Transaction, Dialogue}
use Rattle.machine.specs.Transactions.{ContinueComes, transact}
use Rattle.machine.specs.Turns.{for_it}
use Rattle.tsl.specs.declared.received.Head.{Head}
use Rattle.tsl.specs.declared.received.Head.TheVariants.{Continue, End, Abort}
use Rattle.tsl.specs.declared.received.Received.{Received}
use Rattle.tsl.specs.declared.received.Received.TheVariants.{For, NotAssigned, Nothing}

-- A Continue for an open dialogue, by the transaction after it, if it is accepted.
abbrev pub told_of : (origin destination : List ℕ) → Option Transaction → Received
told_of origin destination None = NotAssigned origin
told_of origin destination (Some t) = For destination

-- A Continue for no open dialogue is reported as such; an End or an Abort for none is discarded.
abbrev pub looked : (from : List ℕ) → Head → Option Dialogue → Received
looked from (Continue origin destination) None = NotAssigned origin
looked from (Continue origin destination) (Some d) =
    told_of origin destination (for_it (transact (Some d.transaction) (ContinueComes from origin)))
looked from (End destination) None = Nothing
looked from (End destination) (Some d) = For destination
looked from (Abort destination) None = Nothing
looked from (Abort destination) (Some d) = For destination
