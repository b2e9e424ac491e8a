use Rattle.std.proofs.Common.{length, set, sym, ap, ◌∙◌}
use Rattle.std.proofs.lemmas.Int.{to_z-of_z}
use Rattle.std.specs.List.{refill}
use Rattle.csl.specs.Seen.{heard}
use Rattle.csl.proofs.Concluding.{unmoved_by_none, unmoved_where_absent, unmoved_where_waiting, refilled, removed, waiting, waits, failed_sent}
use Rattle.csl.proofs.list.conclude.Goals as goal
use Rattle.csl.proofs.list.conclude.Goals.{in-IsRejected, in-Fails}

pub returns-in_default-clause-after : goal.returns-in_default-clause-after
returns-in_default-clause-after g c = (unmoved_by_none c.args.now (heard c.args.component.now) c.args.list.now.items
    (sym c.ending_of.ensures.exact ∙ c.in_default.is)).after

pub returns-in_default-clause-failed : goal.returns-in_default-clause-failed
returns-in_default-clause-failed g c = (unmoved_by_none c.args.now (heard c.args.component.now) c.args.list.now.items
    (sym c.ending_of.ensures.exact ∙ c.in_default.is)).failed

pub returns-in_default-place_of-clause-after : goal.returns-in_default-place_of-clause-after
returns-in_default-place_of-clause-after g c =
    let fits = c.in-Some.ensures.fits in
    (unmoved_where_absent c.args.now (heard c.args.component.now) c.in-Some.ending (sym c.ending_of.ensures.exact ∙ c.in-Some.is) c.args.list.now.items
    (sym (simp (c.deref.ensures, to_z-of_z) at c.place_of.ensures) ∙ c.in_default-place_of.is)).after

pub returns-in_default-place_of-clause-failed : goal.returns-in_default-place_of-clause-failed
returns-in_default-place_of-clause-failed g c =
    let fits = c.in-Some.ensures.fits in
    (unmoved_where_absent c.args.now (heard c.args.component.now) c.in-Some.ending (sym c.ending_of.ensures.exact ∙ c.in-Some.is) c.args.list.now.items
    (sym (simp (c.deref.ensures, to_z-of_z) at c.place_of.ensures) ∙ c.in_default-place_of.is)).failed

pub returns-then-not-is_sent-clause-after : goal.returns-then-not-is_sent-clause-after
returns-then-not-is_sent-clause-after g c =
    let fits = c.in-Some.ensures.fits in
    (unmoved_where_waiting c.args.now (heard c.args.component.now) c.in-Some.ending
    (sym c.ending_of.ensures.exact ∙ c.in-Some.is) c.args.list.now.items c.in-Some-place_of.place
    (sym (simp (c.deref.ensures, to_z-of_z) at c.place_of.ensures) ∙ c.in-Some-place_of.is) c.requires.rising c.index-deref-place.result
    (rw c.deref-2.ensures at c.index-deref-place.is) (sym c.is_sent.ensures ∙ c.if-not-is_sent.true)).after

pub returns-then-not-is_sent-clause-failed : goal.returns-then-not-is_sent-clause-failed
returns-then-not-is_sent-clause-failed g c =
    let fits = c.in-Some.ensures.fits in
    (unmoved_where_waiting c.args.now (heard c.args.component.now) c.in-Some.ending
    (sym c.ending_of.ensures.exact ∙ c.in-Some.is) c.args.list.now.items c.in-Some-place_of.place
    (sym (simp (c.deref.ensures, to_z-of_z) at c.place_of.ensures) ∙ c.in-Some-place_of.is) c.requires.rising c.index-deref-place.result
    (rw c.deref-2.ensures at c.index-deref-place.is) (sym c.is_sent.ensures ∙ c.if-not-is_sent.true)).failed

pub returns-clause-after : goal.returns-clause-after
returns-clause-after g c =
    let fits = c.in-Some.ensures.fits in
    let found = sym (simp (c.deref.ensures, to_z-of_z) at c.place_of.ensures) ∙ c.in-Some-place_of.is in
    let sent = sym c.is_sent.ensures ∙ c.if-not-is_sent.false in
    let at = rw c.deref-2.ensures at c.index-deref-place.is in
    elim c.match-ending.branch [
      | in-IsRejected w ↦ (λ i. (w.list-is i).items) ∙ w.remove.ensures.items
          ∙ removed c.args.now (heard c.args.component.now) c.in-Some.ending
          (sym c.ending_of.ensures.exact
          ∙ c.in-Some.is) c.args.list.now.items c.in-Some-place_of.place found c.requires.rising c.index-deref-place.result at sent w.in-IsRejected.is
      | in-Fails w ↦
          let read = rw w.deref_mut.ensures.value at w.index-deref_mut-place.is in
          (λ i. (w.list-is i).items)
          ∙ ap (λ us. refill (length c.args.list.now.items) c.args.list.now.items (set us c.in-Some-place_of.place w.wait.new.self))
          w.deref_mut.ensures.value ∙ refilled c.args.list.now.items c.in-Some-place_of.place w.wait.new.self
          ∙ waits c.args.now (heard c.args.component.now) c.in-Some.ending
          (sym c.ending_of.ensures.exact
          ∙ c.in-Some.is) c.args.list.now.items c.in-Some-place_of.place found c.requires.rising c.index-deref-place.result at sent
          w.index-deref_mut-place.result read w.wait.new.self
          (w.wait.ensures ∙ ap (waiting c.args.now) (sym w.index-deref_mut-place.is)) w.in-Fails.is
    ]

pub returns-clause-failed : goal.returns-clause-failed
returns-clause-failed g c =
    let fits = c.in-Some.ensures.fits in
    c.is_failing.ensures
    ∙ failed_sent c.args.now (heard c.args.component.now) c.in-Some.ending
    (sym c.ending_of.ensures.exact ∙ c.in-Some.is) c.args.list.now.items c.in-Some-place_of.place
    (sym (simp (c.deref.ensures, to_z-of_z) at c.place_of.ensures) ∙ c.in-Some-place_of.is) c.requires.rising c.index-deref-place.result
    (rw c.deref-2.ensures at c.index-deref-place.is) (sym c.is_sent.ensures ∙ c.if-not-is_sent.false)
