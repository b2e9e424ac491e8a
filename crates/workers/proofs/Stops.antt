-- As many `Stop`s are sent as workers are started, whether there are receipts or not.
use Rattle.std.proofs.Common.{◌≡◌, ℕ, ◌+◌, true, List, [], ◌++◌, map, replicate, ap, arith}
use Rattle.workers.specs.declared.lot.Lot.{Lot}
use Rattle.workers.specs.declared.rule.Work.TheVariants.{Do, Stop}
use Rattle.workers.specs.declared.rule.Hand.{Hand}
use Rattle.workers.specs.Hands.{hand}
use Rattle.workers.specs.Batch.{batch_of, stops_in}
use Rattle.workers.proofs.Serving.{stops_in-append}
use Rattle.workers.proofs.Settling.{stops_in-batch_of}

-- after some lots, which nobody has taken yet, `count` times `Stop`
pub stops_sent : (lots : List Lot) (shares count : ℕ) (v w : Hand) → v ≡ hand true shares (map Do lots) []
    → w ≡ hand true v.shares (v.sent ++ replicate count Stop) v.taken → stops_in w.sent ≡ count + stops_in w.taken
stops_sent lots shares count v w new now =
    let sent : stops_in w.sent ≡ stops_in (v.sent ++ replicate count Stop) = ap (λ (y : Hand). stops_in y.sent) now in
    let same : stops_in (v.sent ++ replicate count Stop) ≡ stops_in (batch_of lots count) =
    ap (λ (y : Hand). stops_in (y.sent ++ replicate count Stop)) new in
    let all = stops_in-batch_of lots count in
    let taken : stops_in w.taken ≡ stops_in v.taken = ap (λ (y : Hand). stops_in y.taken) now in
    let none : stops_in v.taken ≡ 0 = ap (λ (y : Hand). stops_in y.taken) new in omega arith

-- one more worker is joined, which took one
pub stop_taken : (before : ℕ) (v u x : Hand) → stops_in v.sent ≡ before + 1 + stops_in v.taken → stops_in u.taken ≡ 1
    → x ≡ hand v.sends (v.shares + u.shares) v.sent (v.taken ++ u.taken) → stops_in x.sent ≡ before + stops_in x.taken
stop_taken before v u x others one now =
    let sent : stops_in x.sent ≡ stops_in v.sent = ap (λ (y : Hand). stops_in y.sent) now in
    let taken : stops_in x.taken ≡ stops_in (v.taken ++ u.taken) = ap (λ (y : Hand). stops_in y.taken) now in
    let both = stops_in-append v.taken u.taken in omega arith
