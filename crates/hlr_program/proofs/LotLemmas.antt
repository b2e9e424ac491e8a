-- Events that are gathered, and a lot that one thread handles.
use Rattle.std.proofs.Common.{◌≡◌, ℕ, ◌+◌, ◌-◌, List, [], ◌∷◌, ◌++◌, drop, map, length, refl, sym, ap, subst, ◌∙◌, arith}
use Rattle.std.specs.List.{flat_map}
use Rattle.std.specs.Prelude.{Some}
use Rattle.std.proofs.lemmas.List.{append-nil, length-map}
use Rattle.std.proofs.lemmas.List.Prefix.{end_rest}
use Rattle.frames.specs.Octets.{RawEvent, RawOut}
use Rattle.hlrcore.specs.declared.event.Event.{Event}
use Rattle.hlrcore.specs.Events.{raw_of}
use Rattle.shardlog.specs.declared.keep.Keep.{Keep}
use Rattle.wholenode.specs.Nodes.{NodeState, whole}
use Rattle.wholenode.specs.Reading.{AreRead}
use Rattle.wholenode.proofs.ReadLemmas.{read_alone}
use Rattle.hlr_program.specs.declared.answers.Answers.{Answers}
use Rattle.hlr_program.specs.declared.fault.Fault.{Fault}
use Rattle.frames.specs.Account.{Receipt}
use Rattle.workers.specs.Shared.{AreLast, GoesOn, SharedState, sent_at, sent_for}
use Rattle.hlr_program.specs.declared.register.Register.TheVariants.{Alone, Shared}
use Rattle.hlr_program.specs.Answered.{frames_for, so_far}
use Rattle.hlr_program.specs.Gathered.{Gathered, with_part}
use Rattle.hlr_program.specs.Gathering.{Adds, AddingStops, progress}
use Rattle.hlr_program.specs.Journals.{RunsAlone}
use Rattle.hlr_program.specs.Parts.{IsReady}
use Rattle.hlr_program.specs.Printed.{Prints}
use Rattle.hlr_program.specs.Stopping.{EventsStop}
use Rattle.hlr_program.proofs.GatherLemmas.{adds_one, adds_part, adds_sent, stops_join, stops_part}
use Rattle.hlr_program.proofs.JournalLemmas.{alone_join}
use Rattle.hlr_program.proofs.PartLemmas.{ready_less}
use Rattle.hlr_program.proofs.PrintLemmas.{prints_none}
use Rattle.hlr_program.proofs.RegisterLemmas.{ran_none}

-- what was read, as the list that is lent
pub read_is : (raws : List RawEvent) (lent read : List Event) → lent ≡ read → AreRead raws read → (map raw_of lent ≡ raws) × AreRead (map raw_of lent) lent
read_is raws lent read same h = read_alone raws lent (subst (λ (es : List Event). AreRead raws es) (sym same) h)

-- as many are read as were gathered
pub lot_ready : (keep : Keep) (node : NodeState) (gathered : ℕ) (more : ℕ) (raws : List RawEvent) (lent : List Event) → length raws ≡ gathered
    → map raw_of lent ≡ raws → IsReady keep node (gathered + more) → IsReady keep node (length lent + more)
lot_ready keep node gathered more raws lent count same h =
    let long : length lent ≡ length raws = sym (length-map lent raw_of) ∙ ap length same in
    ready_less keep node (gathered + more) (length lent + more) (omega (arith, long, count)) h

-- one is gathered
pub gathered_more : (before : Gathered NodeState) (node : NodeState) (raws more : List RawEvent) (raw : RawEvent) (answers : Answers)
    → with_part node raws ≡ before → more ≡ raws ++ raw ∷ []
    → Adds (progress (Alone before) answers) (raw ∷ []) (progress (Alone (with_part node more)) answers)
gathered_more before node raws more raw answers is put =
    subst (λ (g : Gathered NodeState). Adds (progress (Alone g) answers) (raw ∷ []) (progress (Alone (with_part node more)) answers)) is
    (adds_one (progress (Alone (with_part node raws)) answers) (progress (Alone (with_part node more)) answers) raw
    (ran_none (Alone (with_part node raws))) put refl)

-- one is gathered for workers
pub shared_more : (before : Gathered SharedState) (register : SharedState) (raws more : List RawEvent) (raw : RawEvent) (answers : Answers)
    → with_part register raws ≡ before → more ≡ raws ++ raw ∷ []
    → Adds (progress (Shared before) answers) (raw ∷ []) (progress (Shared (with_part register more)) answers)
shared_more before register raws more raw answers is put =
    subst (λ (g : Gathered SharedState). Adds (progress (Shared g) answers) (raw ∷ []) (progress (Shared (with_part register more)) answers)) is
    (adds_one (progress (Shared (with_part register raws)) answers) (progress (Shared (with_part register more)) answers) raw
    (ran_none (Shared (with_part register raws))) put refl)

-- what receipts have, as what events send
frames_of_sent : (receipts : List Receipt) → flat_map (λ o. o) (sent_for receipts) ≡ frames_for receipts
frames_of_sent [] = refl
frames_of_sent (r ∷ receipts) = ap (λ (frames : List RawOut). sent_at r.place ++ frames) (frames_of_sent receipts)

-- as many receipts as events
pub one_receipt_each : (before after : SharedState) (raws : List RawEvent) (receipts : List Receipt) (count : ℕ) → GoesOn before raws (sent_for receipts) after
    → count ≡ length raws → length receipts ≡ count
one_receipt_each before after raws receipts count ran is = sym (length-map receipts (λ (r : Receipt). sent_at r.place)) ∙ ran.0 ∙ sym is

-- the last so many receipts are those that were appended last
pub last_are : (after : SharedState) (receipts : List Receipt) (count : ℕ) (found : List Receipt) → AreLast receipts after → length receipts ≡ count
    → found ≡ drop (length after.receipts - count) after.receipts → found ≡ receipts
last_are after receipts count found last long is =
    is ∙ ap (λ (n : ℕ). drop (length after.receipts - n) after.receipts) (sym long) ∙ end_rest after.receipts receipts last.0 last.1

-- workers handle a part, and what its receipts have is printed
pub part_adds : (before : Gathered SharedState) (register after : SharedState) (raws none : List RawEvent) (receipts printed : List Receipt)
    (answers more : Answers) → with_part register raws ≡ before → GoesOn register raws (sent_for receipts) after → none ≡ [] → printed ≡ receipts
    → Prints (so_far answers) (frames_for printed) (so_far more)
    → Adds (progress (Shared before) answers) [] (progress (Shared (with_part after none)) more)
part_adds before register after raws none receipts printed answers more is ran empty same prints =
    subst (λ (g : Gathered SharedState). Adds (progress (Shared g) answers) [] (progress (Shared (with_part after none)) more)) is
    (adds_part (progress (Shared (with_part register raws)) answers) (progress (Shared (with_part after none)) more) (sent_for receipts) ran empty
    (subst (λ (frames : List RawOut). Prints (so_far answers) frames (so_far more)) (ap frames_for same ∙ sym (frames_of_sent receipts)) prints))

-- room is made, and they are handled
pub lot_adds : (before after : Gathered NodeState) (node begun : NodeState) (answers more : Answers) (raws : List RawEvent) (outs : List (List RawOut))
    → with_part node raws ≡ before → after.part ≡ [] → RunsAlone node [] [] begun → RunsAlone begun raws outs after.register
    → Prints (so_far answers) (flat_map (λ o. o) outs) (so_far more)
    → Adds (progress (Alone before) answers) [] (progress (Alone after) more)
lot_adds before after node begun answers more raws outs is none began ran prints =
    subst (λ (g : Gathered NodeState). Adds (progress (Alone g) answers) [] (progress (Alone after) more)) is
    (adds_part (progress (Alone (with_part node raws)) answers) (progress (Alone after) more) outs
    (alone_join node begun after.register [] raws [] outs began ran) none prints)

-- room is made, and one of them stops
pub lot_stops : (before : Gathered NodeState) (node begun : NodeState) (answers : Answers) (raws : List RawEvent) (fault : Fault)
    → with_part node raws ≡ before → RunsAlone node [] [] begun → EventsStop (Some (whole begun.shards)) raws fault
    → AddingStops (progress (Alone before) answers) [] fault
lot_stops before node begun answers raws fault is began stops =
    subst (λ (g : Gathered NodeState). AddingStops (progress (Alone g) answers) [] fault) is
    (stops_join (progress (Alone (with_part node raws)) answers) (progress (Alone (with_part begun raws)) answers) [] [] fault
    (record { handled = []; outs = []; order = append-nil raws; ran = began; prints = prints_none (so_far answers) })
    (stops_part (progress (Alone (with_part begun raws)) answers) [] fault stops))

-- where none are gathered, room is made, and one event is handled
pub one_adds : (before after : Gathered NodeState) (node begun : NodeState) (answers more : Answers) (raws : List RawEvent) (raw : RawEvent)
    (sent : List RawOut)
    → with_part node raws ≡ before → before.part ≡ [] → after.part ≡ raws → RunsAlone node [] [] begun
    → RunsAlone begun (raw ∷ []) (sent ∷ []) after.register → Prints (so_far answers) sent (so_far more)
    → Adds (progress (Alone before) answers) (raw ∷ []) (progress (Alone after) more)
one_adds before after node begun answers more raws raw sent is none left began ran prints =
    let same : raws ≡ before.part = ap (λ (g : Gathered NodeState). g.part) is in
    let at : node ≡ before.register = ap (λ (g : Gathered NodeState). g.register) is in
    adds_sent (progress (Alone before) answers) (progress (Alone after) more) (raw ∷ []) (sent ∷ []) none (left ∙ same ∙ none)
    (subst (λ (n : NodeState). RunsAlone n (raw ∷ []) (sent ∷ []) after.register) at
    (alone_join node begun after.register [] (raw ∷ []) [] (sent ∷ []) began ran))
    (subst (λ (frames : List RawOut). Prints (so_far answers) frames (so_far more)) (sym (append-nil sent)) prints)

-- the same, if it stops
pub one_adding_stops : (before : Gathered NodeState) (node begun : NodeState) (answers : Answers) (raws : List RawEvent) (raw : RawEvent) (fault : Fault)
    → with_part node raws ≡ before → before.part ≡ [] → RunsAlone node [] [] begun → EventsStop (Some (whole begun.shards)) (raw ∷ []) fault
    → AddingStops (progress (Alone before) answers) (raw ∷ []) fault
one_adding_stops before node begun answers raws raw fault is none began stops =
    let empty : raws ≡ [] = ap (λ (g : Gathered NodeState). g.part) is ∙ none in
    subst (λ (g : Gathered NodeState). AddingStops (progress (Alone g) answers) (raw ∷ []) fault) is
    (stops_join (progress (Alone (with_part node raws)) answers) (progress (Alone (with_part begun raws)) answers) [] (raw ∷ []) fault
    (record { handled = []; outs = []; order = append-nil raws; ran = began; prints = prints_none (so_far answers) })
    (subst (λ (l : List RawEvent). AddingStops (progress (Alone (with_part begun l)) answers) (raw ∷ []) fault) (sym empty) stops))
