use Rattle.std.proofs.Common.{◌≡◌, [], ◌∙◌, subst}
use Rattle.std.specs.Prelude.{IfSome, IfNone}
use Rattle.csl.specs.Tables.{invocations_at}
use Rattle.csl.proofs.Replacing.{first_put, other_put, put_refused}
use Rattle.csl.proofs.invocations.Invocations.replace.Goals as goal

pub invariant_of-self-in-Ok-None : goal.invariant_of-self-in-Ok-None
invariant_of-self-in-Ok-None c =
    let i = c.self.inside in
    first_put i.lists i.timers c.args.id c.self.invariant c.args.list.items _ c.deref.ensures c.insert_timers.new.timers c.in_ok-insert_timers.ensures.ok
    (subst (λ o. IfNone o (invocations_at i.lists c.args.id ≡ [])) c.in-Ok-None.field-0-is c.in-Ok-None.ensures.first)
    c.put.new.self c.in-Ok-None.ensures.ok

pub invariant_of-self-in-Ok-Some : goal.invariant_of-self-in-Ok-Some
invariant_of-self-in-Ok-Some c =
    let i = c.self.inside in
    let old = c.deref-in-Ok-Some.ensures
    ∙ subst (λ o. IfSome o (λ were. were.items ≡ invocations_at i.lists c.args.id)) c.in-Ok-Some.field-0-is c.in-Ok-Some.ensures.were in
    other_put i.lists i.timers c.args.id c.self.invariant c.args.list.items _ c.deref.ensures c.insert_timers.new.timers c.in_ok-insert_timers.ensures.ok
    c.put.new.self c.in-Ok-Some.ensures.ok _ _ old c.at.ensures.value c.remove_timers.new.timers c.remove_timers.ensures

-- the same once the old list is dropped
pub invariant_of-self-in-Ok-Some-2 : goal.invariant_of-self-in-Ok-Some-2
invariant_of-self-in-Ok-Some-2 c =
    let i = c.self.inside in
    let old = c.deref-in-Ok-Some.ensures
    ∙ subst (λ o. IfSome o (λ were. were.items ≡ invocations_at i.lists c.args.id)) c.in-Ok-Some.field-0-is c.in-Ok-Some.ensures.were in
    other_put i.lists i.timers c.args.id c.self.invariant c.args.list.items _ c.deref.ensures c.insert_timers.new.timers c.in_ok-insert_timers.ensures.ok
    c.put.new.self c.in-Ok-Some.ensures.ok _ _ old c.at.ensures.value c.remove_timers.new.timers c.remove_timers.ensures

pub invariant_of-self-in-Err : goal.invariant_of-self-in-Err
invariant_of-self-in-Err c =
    let i = c.self.inside in
    put_refused i.lists i.timers c.args.id c.self.invariant c.args.list.items _ c.deref.ensures c.insert_timers.new.timers c.in_ok-insert_timers.ensures.ok
    c.put.new.self c.in-Err.ensures.err c.in-Err.ensures.none _ (c.deref-in-Err.ensures ∙ c.in-Err.ensures.refused)
    c.remove_timers-in-Err.new.timers c.remove_timers-in-Err.ensures

-- the same once the new list is dropped
pub invariant_of-self-in-Err-2 : goal.invariant_of-self-in-Err-2
invariant_of-self-in-Err-2 c =
    let i = c.self.inside in
    put_refused i.lists i.timers c.args.id c.self.invariant c.args.list.items _ c.deref.ensures c.insert_timers.new.timers c.in_ok-insert_timers.ensures.ok
    c.put.new.self c.in-Err.ensures.err c.in-Err.ensures.none _ (c.deref-in-Err.ensures ∙ c.in-Err.ensures.refused)
    c.remove_timers-in-Err.new.timers c.remove_timers-in-Err.ensures
