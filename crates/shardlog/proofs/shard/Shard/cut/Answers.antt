use Rattle.std.proofs.Common.{◌≡◌, refl, sym, ap, ◌∙◌, subst}
use Rattle.std.specs.Prelude.{Option}
use Rattle.hlrcore.specs.Shards.{ShardState}
use Rattle.shardlog.specs.Entries.{raw_entries}
use Rattle.shardlog.specs.Log.{base_of, log}
use Rattle.shardlog.specs.Chains.{LeadTo}
use Rattle.shardlog.proofs.LogLemmas.{cut_leads, ends_sound, held_keeps, held_none, held_same, seen_keeps}
use Rattle.shardlog.proofs.shard.Shard.cut.Goals as goal

pub returns-in_err-keep_base-clause-keeps : goal.returns-in_err-keep_base-clause-keeps
returns-in_err-keep_base-clause-keeps c = (
  seen_keeps _ _ _ _ _ c.self.view_is c.self.invariant,
  held_keeps _ _ _ _ (held_same c.self.inside.keep c.self.inside.base c.keep_base.new.base c.self.inside.entries.items c.self.inside.entries.items
      c.self.inside.state c.self.invariant refl c.in_err-keep_base.ensures.err),
)

pub invariant_of-self-2 : goal.invariant_of-self-2
invariant_of-self-2 c =
    held_none c.self.inside.keep c.replace.new.dest c.self.inside.state (raw_entries c.replace-entries.new.dest.items) c.replace.ensures.after
    (ap (λ v. raw_entries v.items) c.replace-entries.ensures.after ∙ ap raw_entries c.new.ensures.items) (ends_sound _ c.self.invariant.log_is)

pub returns-clause-keeps : goal.returns-clause-keeps
returns-clause-keeps c = (seen_keeps _ _ _ _ _ c.self.view_is c.self.invariant, held_keeps _ _ _ _ (invariant_of-self-2 c))

pub returns-clause-leads : goal.returns-clause-leads
returns-clause-leads c = λ epochs leads.
    let based : base_of c.self.inside.base c.self.inside.state ≡ c.in-Some.base =
    ap (λ (o : Option ShardState). base_of o c.self.inside.state)
    (sym c.in_ok-keep_base.ensures.kept ∙ sym c.replace.ensures.value ∙ c.in-Some.is) in
    cut_leads (log c.self.inside.keep (base_of c.self.inside.base c.self.inside.state) (raw_entries c.self.inside.entries.items) c.self.inside.state)
    (log c.self.inside.keep (base_of c.replace.new.dest c.self.inside.state) (raw_entries c.replace-entries.new.dest.items) c.self.inside.state) c.in-Some.base
    (raw_entries c.replace-entries.result.items) c.self.invariant.log_is based
    (ap (λ v. raw_entries v.items) (sym c.replace-entries.ensures.value))
    (ap (λ (o : Option ShardState). base_of o c.self.inside.state) c.replace.ensures.after) epochs
    (subst (LeadTo epochs) (sym c.self.view_is) leads)
