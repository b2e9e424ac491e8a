use Rattle.std.proofs.Common.{ap, ap₂, Bool, true, codes, Some, ◌≡◌, ◌∙◌}
use Rattle.std.proofs.lemmas.Result.{IfOk-weaker}
use Rattle.clap.specs.Words.{Rule, rule_of, with_rule}
use Rattle.clap.specs.declared.builder.arg.Arg.{Arg}
use Rattle.clap.specs.declared.builder.ArgAction.TheVariants.{Set, SetTrue}
use Rattle.hlr_input.specs.Command.{list_rule, records_rule, save_rule, script_rule, workers_rule}
use Rattle.hlr_input.proofs.words.command.Goals as goal

abbrev needed : Rule → Rule
needed a = record a { required = true }

abbrev is_global : Arg → Bool
is_global a = a.global

pub returns : goal.returns
returns c =
    let records_is : rule_of c.required-records.result ≡ records_rule = ap rule_of c.required-records.ensures ∙ ap needed c.new.ensures.rule in
    let script_is : rule_of c.required-script.result ≡ script_rule = ap rule_of c.required-script.ensures ∙ ap needed c.new-2.ensures.rule in
    let workers_is : rule_of c.action-workers.result ≡ workers_rule =
    ap rule_of c.action-workers.ensures ∙ ap (λ (a : Arg). record (rule_of a) { action = Some Set }) c.long.ensures
    ∙ ap (λ (r : Rule). record r { long = Some (codes "workers"); action = Some Set }) c.new-3.ensures.rule in
    let list_is : rule_of c.action-list.result ≡ list_rule =
    ap rule_of c.action-list.ensures ∙ ap (λ (a : Arg). record (rule_of a) { action = Some SetTrue }) c.long-2.ensures
    ∙ ap (λ (r : Rule). record r { long = Some (codes "list"); action = Some SetTrue }) c.new-4.ensures.rule in
    let save_is : rule_of c.action-save.result ≡ save_rule =
    ap rule_of c.action-save.ensures ∙ ap (λ (a : Arg). record (rule_of a) { action = Some SetTrue }) c.long-3.ensures
    ∙ ap (λ (r : Rule). record r { long = Some (codes "save"); action = Some SetTrue }) c.new-5.ensures.rule in
    let first = c.in_ok-arg.ensures.shape (ap is_global c.required-records.ensures ∙ c.new.ensures.optional.1) ∙ ap₂ with_rule c.new-6.ensures.app records_is in
    let second = c.in_ok-arg-2.ensures.shape (ap is_global c.required-script.ensures ∙ c.new-2.ensures.optional.1) ∙ ap₂ with_rule first script_is in
    let third = c.in_ok-arg-3.ensures.shape (ap is_global c.action-workers.ensures ∙ ap is_global c.long.ensures ∙ c.new-3.ensures.optional.1)
    ∙ ap₂ with_rule second workers_is in
    let fourth = c.in_ok-arg-4.ensures.shape (ap is_global c.action-list.ensures ∙ ap is_global c.long-2.ensures ∙ c.new-4.ensures.optional.1)
    ∙ ap₂ with_rule third list_is in
    let is_local = ap is_global c.action-save.ensures ∙ ap is_global c.long-3.ensures ∙ c.new-5.ensures.optional.1 in
    IfOk-weaker c.arg-5.result _ _ (λ command added. added.shape is_local ∙ ap₂ with_rule fourth save_is) c.arg-5.ensures
