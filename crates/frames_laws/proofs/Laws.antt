-- The laws as they are stated.
use Rattle.std.proofs.Common.{subst, arith}
use Rattle.machine.specs.Received.{Number}
use Rattle.machine.specs.declared.numbers.TheConstants.{UPDATE_LOCATION, PURGE_MS, SEND_ROUTING_INFO_FOR_SM}
use Rattle.frames.specs.ArgumentForms.{IsParameter}
use Rattle.frames.specs.ComponentForms.{IsComponent}
use Rattle.frames.specs.Heard.{IsHeard}
use Rattle.frames.specs.Verdicts.{verdict_of}
use Rattle.frames.specs.Frames.{IsJudged}
use Rattle.frames.specs.SentTrees.{reject_tree, component_tree}
use Rattle.frames.specs.SentHeard.{reject_meant, component_meant}
use Rattle.frames_laws.specs.Reader.{read_verdict}
use Rattle.frames_laws.specs.Laws.{TreesAreRead, VerdictsAreRead, MessagesAreRead, DialoguesAreRead, ComponentsAreRead, ParametersAreRead, ComponentsAreHeard, TreesAreJudged, OneMessage, OneVerdict, VerdictsAreWithinBounds, SentComponentsHaveForms, SentPortionsHaveForms, SentIsMeant, SentIsOctets, SentIsShallow, SentIsShort, OctetsTell, SentIsRead}
use Rattle.frames.proofs.PointLaws.{message_or_not_found, message_or_not_again}
use Rattle.frames.proofs.DialogueLaws.{dialogue_found, dialogue_again}
use Rattle.frames.proofs.ComponentLaws.{component_found, component_again, well_formed}
use Rattle.frames.proofs.ArgumentLaws.{update_found, update_again, purge_found, purge_again, route_found, route_again, parameter_found, parameter_again}
use Rattle.frames.proofs.HeardLaws.{heard_found, heard_again}
use Rattle.frames.proofs.JudgingLaws.{judged, one_judgement, one_verdict as one_verdict_of}
use Rattle.frames_laws.proofs.ReaderLaws.{tree-is, tree-of}
use Rattle.frames_laws.proofs.VerdictLaws.{verdict-read, verdict_is, verdict_of_octets}
use Rattle.frames_laws.proofs.BoundLaws.{verdict_within}
use Rattle.frames_laws.proofs.SizeLaws.{sent_size}
use Rattle.frames.proofs.ReadLaws.{one_message as one_message_of}
use Rattle.frames_laws.proofs.SentShape.{sent_octets, sent_levels, octets_tell as sent_octets_tell}
use Rattle.frames_laws.specs.JournalLaws.{OneJournal, HoldersAreServing, OwnEntriesAreLegal, JournalsGrow, ChainsAreJournals, MergesAreRuns}
use Rattle.frames_laws.proofs.OctetLaws.{one_journal as one_journal_of, one_legal_journal, run_one, holders_of_octets, one_holding, isolation_of_octets, octets_push, chain_cut, chain_joined, merge_of_octets}
use Rattle.frames_laws.proofs.SentRead.{component_is, reject_is, aarq_is, aare_is, abrt_is, sent_reads, sent_is_read as sent_is_read_again}

pub messages_are_read : MessagesAreRead
messages_are_read t r = (message_or_not_found t r, message_or_not_again t r)

pub dialogues_are_read : DialoguesAreRead
dialogues_are_read t apdu = (dialogue_found t apdu, dialogue_again t apdu)

pub components_are_read : ComponentsAreRead
components_are_read t c = (λ e. subst (IsComponent t) e (component_found t), component_again t c)

pub parameters_are_read : ParametersAreRead
parameters_are_read = record {
  update = λ t p. (λ e. subst (IsParameter (Number UPDATE_LOCATION) t) e (update_found t), update_again t p);
  purge = λ t p. (λ e. subst (IsParameter (Number PURGE_MS) t) e (purge_found t), purge_again t p);
  route = λ t p. (λ e. subst (IsParameter (Number SEND_ROUTING_INFO_FOR_SM) t) e (route_found t), route_again t p);
  any = λ code t p. (λ e. subst (IsParameter code t) e (parameter_found code t), parameter_again code t p);
}

pub components_are_heard : ComponentsAreHeard
components_are_heard t c = (λ e. subst (IsHeard t) e (heard_found t), heard_again t c)

pub trees_are_judged : TreesAreJudged
trees_are_judged t v = (λ e. subst (IsJudged t) e (judged t), λ j. one_judgement t (verdict_of t) v (judged t) j)

pub trees_are_read : TreesAreRead
trees_are_read octets t = (tree-is octets t, tree-of octets t)

pub verdicts_are_read : VerdictsAreRead
verdicts_are_read octets v = (verdict_is octets v, verdict_of_octets octets v)

pub one_message : OneMessage
one_message t m n h k = one_message_of t m n h k

pub one_verdict : OneVerdict
one_verdict octets = (read_verdict octets, verdict-read octets, λ w is. one_verdict_of octets w (read_verdict octets) is (verdict-read octets))

pub verdicts_are_within_bounds : VerdictsAreWithinBounds
verdicts_are_within_bounds octets v is = verdict_within octets v is

pub sent_components_have_forms : SentComponentsHaveForms
sent_components_have_forms = record {
  own = λ c h. well_formed (component_tree c) (component_meant c) (component_is c h);
  rejects = λ r h. well_formed (reject_tree r) (reject_meant r) (reject_is r h);
}

pub sent_portions_have_forms : SentPortionsHaveForms
sent_portions_have_forms = record { request = aarq_is; response = aare_is; abort = abrt_is }

pub sent_is_meant : SentIsMeant
sent_is_meant m h ids = sent_reads m h ids

pub sent_is_octets : SentIsOctets
sent_is_octets m h = sent_octets m h

pub sent_is_shallow : SentIsShallow
sent_is_shallow m h = let few = sent_levels m h in omega arith

pub sent_is_short : SentIsShort
sent_is_short m h = sent_size m h

pub octets_tell : OctetsTell
octets_tell m n h k e = sent_octets_tell m n h k e

pub sent_is_read : SentIsRead
sent_is_read m h = sent_is_read_again m h

-- ---- journals of octets

pub one_journal : OneJournal
one_journal = record {
  sane = one_journal_of;
  legal = λ n base S T raws a b. one_legal_journal n base S T raws a b;
  run = λ S T U raws a b. run_one raws S T U a b;
}

pub holders_are_serving : HoldersAreServing
holders_are_serving = record { serving = holders_of_octets; one = one_holding }

pub own_entries_are_legal : OwnEntriesAreLegal
own_entries_are_legal n base S raws x a none = isolation_of_octets n base S raws x a none

pub journals_grow : JournalsGrow
journals_grow n base S T raws raw a routed step = octets_push n base S T raws raw a routed step

pub chains_are_journals : ChainsAreJournals
chains_are_journals = record { cut = chain_cut; whole = chain_joined }

pub merges_are_runs : MergesAreRuns
merges_are_runs bases states journals merge legal directories hlrs merges = merge_of_octets bases states journals merge legal directories hlrs merges
