-- Which messages a batch may send next.
use Rattle.std.proofs.Common.{◌≡◌, ℕ, zero, suc, true, List, [], ◌∷◌, ◌++◌, map, replicate, sym, ap, ◌∙◌, subst, append-nil, take, drop, take-add, ◌+◌}
use Rattle.frames.specs.Account.{Job}
use Rattle.workers.specs.declared.lot.Lot.{Lot}
use Rattle.workers.specs.declared.rule.Work.{Work}
use Rattle.workers.specs.declared.rule.Work.TheVariants.{Do, Stop}
use Rattle.workers.specs.declared.rule.Hand.{Hand}
use Rattle.workers.specs.Hands.{hand, IsBatch, AllStop}
use Rattle.workers.specs.Batch.{jobs_in}
use Rattle.workers.specs.Lots.{jobs_at}
use Rattle.std.proofs.lemmas.List.{map-append}
use Rattle.std.proofs.lemmas.List.Concat.{flat_map-append}

all_stop : (ws : List Work) → AllStop ws → AllStop (ws ++ Stop ∷ [])
all_stop [] h = tt
all_stop (Do _ ∷ ws) h = absurd h
all_stop (Stop ∷ ws) h = all_stop ws h

pub batch_stop : (ws : List Work) → IsBatch ws → IsBatch (ws ++ Stop ∷ [])
batch_stop [] h = tt
batch_stop (Do _ ∷ ws) h = batch_stop ws h
batch_stop (Stop ∷ ws) h = all_stop ws h

pub batch_lots : (lots : List Lot) → IsBatch (map Do lots)
batch_lots [] = tt
batch_lots (l ∷ lots) = batch_lots lots

batch_lot : (lots : List Lot) (lot : Lot) → IsBatch (map Do lots ++ Do lot ∷ [])
batch_lot [] lot = tt
batch_lot (l ∷ lots) lot = batch_lot lots lot

all_stops : (count : ℕ) → AllStop (replicate count Stop)
all_stops zero = tt
all_stops (suc count) = all_stops count

stops_more : (ws : List Work) (count : ℕ) → AllStop ws → AllStop (ws ++ replicate count Stop)
stops_more [] count h = all_stops count
stops_more (Do _ ∷ ws) count h = absurd h
stops_more (Stop ∷ ws) count h = stops_more ws count h

batch_of_stops : (count : ℕ) → IsBatch (replicate count Stop)
batch_of_stops zero = tt
batch_of_stops (suc count) = all_stops count

batch_stops : (ws : List Work) (count : ℕ) → IsBatch ws → IsBatch (ws ++ replicate count Stop)
batch_stops [] count h = batch_of_stops count
batch_stops (Do _ ∷ ws) count h = batch_stops ws count h
batch_stops (Stop ∷ ws) count h = stops_more ws count h

-- a `Stop` may follow some `Stop`, and a lot some lots
pub stop_next : (ws sent : List Work) (count : ℕ) → IsBatch ws → sent ≡ ws ++ replicate count Stop → IsBatch (sent ++ Stop ∷ [])
stop_next ws sent count h is = subst (λ s. IsBatch (s ++ Stop ∷ [])) (sym is) (batch_stop (ws ++ replicate count Stop) (batch_stops ws count h))

pub lot_next : (lots : List Lot) (sent : List Work) (lot : Lot) → sent ≡ map Do lots → IsBatch (sent ++ Do lot ∷ [])
lot_next lots sent lot is = subst (λ s. IsBatch (s ++ Do lot ∷ [])) (sym is) (batch_lot lots lot)

-- What was sent, while the jobs are sent: lots, which have the jobs before this place.
abbrev pub AreSent : List Job → ℕ → ℕ → Hand → Type 0
AreSent jobs from shares v = (lots : List Lot) × (v ≡ hand true shares (map Do lots) []) × (jobs_in jobs lots ≡ take from jobs)

pub sends_lot : (jobs : List Job) (from shares : ℕ) (lot : Lot) (v w : Hand) → AreSent jobs from shares v → lot.from ≡ from
    → w ≡ hand true v.shares (v.sent ++ Do lot ∷ []) v.taken → AreSent jobs (from + lot.count) shares w
sends_lot jobs from shares lot v w h at is =
    let lots = h.0 in
    let sent : map Do (lots ++ lot ∷ []) ≡ map Do lots ++ Do lot ∷ [] = map-append Do lots (lot ∷ []) in
    let joined : jobs_in jobs (lots ++ lot ∷ []) ≡ jobs_in jobs lots ++ jobs_at jobs lot = flat_map-append (jobs_at jobs) lots (lot ∷ [])
    ∙ ap (λ l. jobs_in jobs lots ++ l) (append-nil (jobs_at jobs lot)) in (
      lots ++ lot ∷ [],
      is ∙ ap (λ (u : Hand). hand true u.shares (u.sent ++ Do lot ∷ []) u.taken) h.1 ∙ ap (λ s. hand true shares s []) (sym sent),
      joined ∙ ap (λ l. l ++ jobs_at jobs lot) h.2 ∙ ap (λ k. take from jobs ++ take lot.count (drop k jobs)) at
          ∙ sym (take-add from lot.count jobs),
    )
