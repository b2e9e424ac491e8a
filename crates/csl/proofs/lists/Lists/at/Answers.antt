use Rattle.std.proofs.Common.{Some, None, sym, ◌∙◌, subst, refl}
use Rattle.machine.specs.Effect.{AreRising}
use Rattle.csl.specs.Tables.{lists_of, octets_of}
use Rattle.csl.proofs.Putting.{list_got, rising_at}
use Rattle.csl.proofs.lists.Lists.at.Goals as goal

pub returns-in-Some-clause-value : goal.returns-in-Some-clause-value
returns-in-Some-clause-value c =
    c.as_slice.ensures ∙ list_got c.key_of.result c.self.inside.by_dialogue c.args.self.now c.args.id (Some c.in-Some.list.now) c.in-Some.ensures.value
    c.self.view_is c.key_of.ensures

pub returns-in-Some-clause-rising : goal.returns-in-Some-clause-rising
returns-in-Some-clause-rising c =
    let m = c.self.inside.by_dialogue in
    subst AreRising (sym (c.as_slice.ensures ∙ list_got c.key_of.result m (lists_of m) (octets_of c.key_of.result) (Some c.in-Some.list.now) c.in-Some.ensures.value refl refl))
    (rising_at (lists_of m) (octets_of c.key_of.result) c.self.invariant)

pub returns-in-None-clause-value : goal.returns-in-None-clause-value
returns-in-None-clause-value c =
    list_got c.key_of.result c.self.inside.by_dialogue c.args.self.now c.args.id None c.in-None.ensures.value c.self.view_is c.key_of.ensures
