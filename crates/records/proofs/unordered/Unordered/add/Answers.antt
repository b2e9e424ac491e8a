use Rattle.std.proofs.Common.{◌≡◌, ◌++◌, ◌∷◌, [], ℕ, List, true, false, cond, ap, sym, subst, ◌∙◌, rules}
use Rattle.std.specs.Prelude.{is_some}
use Rattle.std.specs.FinMap as map
use Rattle.std.specs.List.{list_any}
use Rattle.std.specs.Ordering.{eq_by_cmp}
use Rattle.records.specs.Subscriber.{Subscriber}
use Rattle.records.specs.Maps.{RecordMap, digits_cmp}
use Rattle.records.specs.Loaded.{by_imsi}
use Rattle.records.specs.Ordered.{AreApartAs}
use Rattle.records.proofs.LoadLemmas.{none_is, to_true}
use Rattle.records.proofs.InOrder.{view_push}
use Rattle.records.proofs.MovedLemmas.{apart_push}
use Rattle.records.proofs.unordered.Unordered.add.Goals as goal

pub invariant_of-self-then-is_new : goal.invariant_of-self-then-is_new
invariant_of-self-then-is_new c =
    let v = c.args.subscriber in
    let ss = c.self.inside.records.items in
    let items : c.push_reserved.new.self.items ≡ ss ++ v ∷ [] =
    c.push_reserved.ensures.items ∙ ap (λ (l : List Subscriber). l ++ v ∷ []) c.reserve.ensures.items in
    let free : is_some (map.get (by_imsi ss) v.imsi) ≡ false = search rules in
    let none = none_is (map.get (by_imsi ss) v.imsi) free in
    let adds = subst (λ (k : List ℕ). (q : List ℕ) → list_any (eq_by_cmp digits_cmp q) c.insert.new.self.keys
    ≡ cond (eq_by_cmp digits_cmp k q) true (list_any (eq_by_cmp digits_cmp q) c.self.inside.imsis.keys))
    (ap (λ (s : Subscriber). s.imsi) c.subscriber.view_is) c.in_ok-is_new.ensures.updates.0 in
    subst (λ (ts : List Subscriber). AreApartAs c.insert.new.self.keys ts) (sym items)
    (apart_push c.self.inside.imsis.keys c.insert.new.self.keys ss v c.self.invariant none adds)

pub returns-then-is_new-clause-added : goal.returns-then-is_new-clause-added
returns-then-is_new-clause-added c =
    let v = c.args.subscriber in
    let ss = c.self.inside.records.items in
    let items : c.push_reserved.new.self.items ≡ ss ++ v ∷ [] =
    c.push_reserved.ensures.items ∙ ap (λ (l : List Subscriber). l ++ v ∷ []) c.reserve.ensures.items in
    let free : is_some (map.get (by_imsi ss) v.imsi) ≡ false = search rules in
    let none = none_is (map.get (by_imsi ss) v.imsi) free in
    to_true c.in_ok-is_new.is_new _ (ap by_imsi items ∙ view_push ss v none ∙ ap (λ (m : RecordMap). map.insert m v.imsi v) c.self.view_is)
