use Rattle.std.proofs.Common.{List, ℕ, Some, Option, IfSome, ap, sym, ◌∙◌, ◌≡◌, subst}
use Rattle.std.specs.FinMap as map
use Rattle.records.specs.Maps.{DirectoryMap}
use Rattle.records.proofs.MapLemmas.{get_view}
use Rattle.records.proofs.OrderLemmas.{found_in_a_part, in_the_whole}
use Rattle.records.proofs.directory.Directory.find_near.Goals as goal

pub returns : goal.returns
returns c =
    let es = c.self.inside.entries.items in
    let k = c.args.msisdn.now in
    let same = sym (get_view es k) ∙ ap (λ (m : DirectoryMap). map.get m k) c.self.view_is in
    let P : Option (List ℕ) → Type 0 = λ o. IfSome c.find_in.result (λ imsi. o ≡ Some imsi) in
    let near = c.in_ok-get.field-0.now in
    let part = rw c.deref.ensures.value at c.in_ok-get.ensures.lookup in
    let within = λ (e : List ℕ × List ℕ). in_the_whole es near c.in_ok-places.places.start c.in_ok-places.places.end e part.0.1 part.0.2 part.0.3 in
    subst P same (found_in_a_part es near k c.find_in.result c.self.invariant within c.find_in.ensures.found)
