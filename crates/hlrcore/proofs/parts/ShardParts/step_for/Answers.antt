use Rattle.std.proofs.Common.{◌≡◌, ℕ, refl, rules, sym, subst}
use Rattle.std.specs.Prelude.{Ok}
use Rattle.machine.specs.Routing.{route}
use Rattle.frames.specs.Octets.{RawClock, RawExpire}
use Rattle.hlrcore.specs.Shards.{directory_of}
use Rattle.hlrcore.specs.declared.event.Event.{Event}
use Rattle.hlrcore.specs.Addressees.{subject_of_event}
use Rattle.hlrcore.specs.Events.{event_of, raw_of}
use Rattle.hlrcore.specs.Leading.{Leads, Steps}
use Rattle.hlrcore.proofs.SoundLemmas.{tick_keeps_shard}
use Rattle.hlrcore.proofs.IdsLemmas.{ticks_move_nothing}
use Rattle.hlrcore.proofs.SteppingLemmas.{handled, own}
use Rattle.hlrcore.proofs.TakenLemmas.{ticked_step}
use Rattle.hlrcore.proofs.parts.ShardParts.step_for.Goals as goal

pub receive-requires-clause-mine : goal.receive-requires-clause-mine
receive-requires-clause-mine c =
    let mine : route (directory_of c.args.self.now.directory) (event_of c.args.event.now) ≡ c.args.self.now.shard = search rules in
    subst (λ (e : Event). route (directory_of c.args.self.now.directory) (event_of e) ≡ c.args.self.now.shard) c.in-Frame.is mine

pub receive-requires-clause-about : goal.receive-requires-clause-about
receive-requires-clause-about c =
    subst (λ (e : Event). c.args.found.subject ≡ subject_of_event (directory_of c.args.self.now.directory) (event_of e)) c.in-Frame.is
    c.requires.subject

pub returns-in_ok-receive-in-Frame : goal.returns-in_ok-receive-in-Frame
returns-in_ok-receive-in-Frame c =
    let mine : route (directory_of c.args.self.now.directory) (event_of c.args.event.now) ≡ c.args.self.now.shard = search rules in
    let here = subst (λ (e : Event). route (directory_of c.args.self.now.directory) (event_of e) ≡ c.args.self.now.shard) c.in-Frame.is mine in
    subst (λ (e : Event). Steps c.args.self.now (raw_of e) (event_of e) (Ok c.in_ok-receive-in-Frame.field-0) c.receive.new.self) (sym c.in-Frame.is)
    (handled c.args.self.now c.receive.new.self _ _ c.in_ok-receive-in-Frame.field-0
    (record { is_event = (refl, c.receive.ensures.judged); routed = here }) (λ none. none)
    c.in_ok-receive-in-Frame.ensures.received c.in_ok-receive-in-Frame.ensures.ids c.receive.ensures.same_shard)

pub returns-in-Clock : goal.returns-in-Clock
returns-in-Clock c =
    let mine : route (directory_of c.args.self.now.directory) (event_of c.args.event.now) ≡ c.args.self.now.shard = search rules in
    let here : c.in-Clock.shard ≡ c.args.self.now.shard = subst (λ
    (e : Event). route (directory_of c.args.self.now.directory) (event_of e) ≡ c.args.self.now.shard) c.in-Clock.is mine in
    subst (λ (e : Event). Steps c.args.self.now (raw_of e) (event_of e) (Ok c.silent.result) c.tick.new.self) (sym c.in-Clock.is)
    (handled c.args.self.now c.tick.new.self _ _ c.silent.result (record { is_event = (refl, refl); routed = here }) (λ none. none)
    (subst (λ (n : ℕ). Leads c.args.self.now (RawClock n c.in-Clock.now) c.silent.result c.tick.new.self) (sym here)
    (ticked_step c.args.self.now c.tick.new.self c.in-Clock.now c.silent.result c.tick.ensures c.silent.ensures))
    (ticks_move_nothing c.args.self.now c.tick.new.self c.in-Clock.now c.silent.result c.tick.ensures c.silent.ensures)
    (tick_keeps_shard c.args.self.now c.tick.new.self c.in-Clock.now c.tick.ensures))

pub returns-in_ok-expire-in-Expire : goal.returns-in_ok-expire-in-Expire
returns-in_ok-expire-in-Expire c =
    let mine : route (directory_of c.args.self.now.directory) (event_of c.args.event.now) ≡ c.args.self.now.shard = search rules in
    let here : c.in-Expire.shard ≡ c.args.self.now.shard = subst
    (λ (e : Event). route (directory_of c.args.self.now.directory) (event_of e) ≡ c.args.self.now.shard) c.in-Expire.is mine in
    subst (λ (e : Event). Steps c.args.self.now (raw_of e) (event_of e) (Ok c.in_ok-expire-in-Expire.field-0) c.expire.new.self) (sym c.in-Expire.is)
    (handled c.args.self.now c.expire.new.self _ _ c.in_ok-expire-in-Expire.field-0 (record { is_event = refl; routed = here }) (λ none. none)
    (subst (λ (n : ℕ). Leads c.args.self.now (RawExpire n) c.in_ok-expire-in-Expire.field-0 c.expire.new.self)
    (sym here) c.in_ok-expire-in-Expire.ensures.expired)
    c.in_ok-expire-in-Expire.ensures.ids c.expire.ensures.same_shard)

pub returns-in-Change : goal.returns-in-Change
returns-in-Change c =
    let mine : route (directory_of c.args.self.now.directory) (event_of c.args.event.now) ≡ c.args.self.now.shard = search rules in
    let here = subst (λ (e : Event). route (directory_of c.args.self.now.directory) (event_of e) ≡ c.args.self.now.shard) c.in-Change.is mine in
    subst (λ (e : Event). Steps c.args.self.now (raw_of e) (event_of e) c.change.result c.change.new.self) (sym c.in-Change.is)
    (own c.args.self.now c.change.new.self _ _ c.change.result (record { is_event = (refl, refl); routed = here })
    c.change.ensures.mine c.change.ensures.no_room (search rules) c.change.ensures.changed c.change.ensures.ids c.change.ensures.err c.change.ensures.same_shard)
