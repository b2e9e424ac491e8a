-- The same events lead a register to the same.
use Rattle.std.proofs.Common.{◌≡◌, ℕ, [], ◌∷◌, Option, Some, refl, sym, ap, ◌∙◌, subst, inl, inr}
use Rattle.std.specs.Prelude.{slice_get, slice_set}
use Rattle.std.proofs.lemmas.Bool.{cases_eq}
use Rattle.std.proofs.lemmas.Option.{slice_get_within}
use Rattle.machine.specs.Routing.{route}
use Rattle.frames.specs.Octets.{IsRouted, RawEntry, RawEvent, StepOctets}
use Rattle.frames_laws.proofs.OctetLaws.{event_one}
use Rattle.records.specs.Maps.{DirectoryMap}
use Rattle.hlrcore.specs.declared.answer.StepAnswer.{StepAnswer}
use Rattle.hlrcore.specs.Answers.{entry_of}
use Rattle.hlrcore.specs.Leading.{Leads}
use Rattle.hlrcore.specs.Replaying.{IsAlike}
use Rattle.hlrcore.specs.Shards.{directory_of, state_of}
use Rattle.hlrcore.proofs.ReplayLemmas.{one_step}
use Rattle.shardlog.specs.declared.entry.Handled.{Handled}
use Rattle.shardlog.specs.Handling.{Handles}
use Rattle.shardlog.specs.Log.{Log}
use Rattle.wholenode.specs.Handling.{Takes, sent_of}
use Rattle.wholenode.specs.Nodes.{NodeState}
use Rattle.wholenode.specs.Replaying.{AreAlike, AreAlikeAt, AreReplayed}
use Rattle.wholenode.proofs.Places.{set_elsewhere, set_there}

-- an event has one shard
one_place : (here there : DirectoryMap) (raw : RawEvent) (n m : ℕ) → here ≡ there → IsRouted (directory_of here) raw n
    → IsRouted (directory_of there) raw m → n ≡ m
one_place here there raw n m same (e, is, to) (f, also, goes) =
    sym to ∙ (λ i. route (directory_of (same i)) (event_one raw e f is also i)) ∙ goes

-- the answer that an entry has
abbrev answer_in : RawEntry → StepAnswer
answer_in entry = record { outs = entry.outs; id = entry.id; subject = entry.subject }

leads_so : (l m : Log) (raw : RawEvent) (handled : Handled) (h : Handles l raw handled m) → Leads l.state raw (answer_in h.entry) m.state
leads_so l m raw handled h =
    subst (λ (e : RawEvent). StepOctets (state_of l.state) (entry_of e (answer_in h.entry)) (state_of m.state)) h.event_is h.step

-- a shard
shards_again : (l k m n : Log) (raw : RawEvent) (a b : Handled) → IsAlike l.state k.state → Handles l raw a m → Handles k raw b n
    → (sent_of a ≡ sent_of b) × IsAlike m.state n.state
shards_again l k m n raw a b alike h g =
    let both = one_step l.state k.state m.state n.state raw (answer_in h.entry) (answer_in g.entry) alike (leads_so l m raw a h) h.ids
    (leads_so k n raw b g) g.ids in
    (h.outs_are ∙ ap (λ (x : StepAnswer). x.outs) both.0 ∙ sym g.outs_are, both.1)

alike_in : (l k : Log) (o p : Option Log) → o ≡ Some l → p ≡ Some k → AreAlikeAt o p → IsAlike l.state k.state
alike_in l k o p here there alike = subst (λ (q : Option Log). AreAlikeAt (Some l) q) there (subst (λ (q : Option Log). AreAlikeAt q p) here alike)

-- one event
one_taken : (here there after behind : NodeState) (raw : RawEvent) (a b : Handled) → AreAlike here there → Takes here raw a after → Takes there raw b behind
    → (sent_of a ≡ sent_of b) × AreAlike after behind
one_taken here there after behind raw a b alike t u =
    let place : t.place ≡ u.place = one_place here.directory there.directory raw t.place u.place alike.directory t.is_for.routed u.is_for.routed in
    let stands : slice_get there.shards t.place ≡ Some u.shard = ap (λ n. slice_get there.shards n) place ∙ u.is_for.stands in
    let again = shards_again t.shard u.shard t.next u.next raw a b
    (alike_in t.shard u.shard _ _ t.is_for.stands stands (alike.shards t.place)) t.handles u.handles in
    let changed : behind ≡ record there { shards = slice_set there.shards t.place u.next } =
    u.changed ∙ ap (λ n. record there { shards = slice_set there.shards n u.next }) (sym place) in (
      again.0,
      record {
        directory = ap (λ (x : NodeState). x.directory) t.changed ∙ alike.directory ∙ sym (ap (λ (x : NodeState). x.directory) u.changed);
        shards = λ n. subst (λ (x : NodeState). AreAlikeAt (slice_get x.shards n) (slice_get behind.shards n)) (sym t.changed)
            (subst (λ (x : NodeState). AreAlikeAt (slice_get (slice_set here.shards t.place t.next) n) (slice_get x.shards n)) (sym changed)
            (elim (cases_eq t.place n) [
              | inl e ↦ subst (λ k. AreAlikeAt (slice_get (slice_set here.shards t.place t.next) k) (slice_get (slice_set there.shards t.place u.next) k)) e
                  (subst (λ (o : Option Log). AreAlikeAt o (slice_get (slice_set there.shards t.place u.next) t.place))
                  (sym (set_there here.shards t.place t.next (slice_get_within here.shards t.place t.shard t.is_for.stands)))
                  (subst (λ (o : Option Log). AreAlikeAt (Some t.next) o)
                  (sym (set_there there.shards t.place u.next (slice_get_within there.shards t.place u.shard stands))) again.1))
              | inr other ↦ subst (λ (o : Option Log). AreAlikeAt o (slice_get (slice_set there.shards t.place u.next) n))
                  (sym (set_elsewhere here.shards t.place n t.next other))
                  (subst (λ (o : Option Log). AreAlikeAt (slice_get here.shards n) o)
                  (sym (set_elsewhere there.shards t.place n u.next other)) (alike.shards n))
            ]));
      },
    )

pub replayed : AreReplayed
replayed here there after behind [] [] [] alike run other =
    (refl, subst (λ (x : NodeState). AreAlike x behind) (sym run) (subst (λ (x : NodeState). AreAlike here x) (sym other) alike))
replayed here there after behind [] (a ∷ done) again alike run other = absurd run
replayed here there after behind [] [] (b ∷ again) alike run other = absurd other
replayed here there after behind (raw ∷ raws) [] again alike run other = absurd run
replayed here there after behind (raw ∷ raws) (a ∷ done) [] alike run other = absurd other
replayed here there after behind (raw ∷ raws) (a ∷ done) (b ∷ again) alike (m, takes, rest) (n, goes, more) =
    let first = one_taken here there m n raw a b alike takes goes in
    let then = replayed m n after behind raws done again first.1 rest more in
    ((λ i. first.0 i ∷ then.0 i), then.1)
