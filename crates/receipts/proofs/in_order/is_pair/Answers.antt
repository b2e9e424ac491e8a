use Rattle.std.proofs.Common.{rules, ◌≡◌, sym, ap, ◌∙◌, Some}
use Rattle.frames.specs.Account.{Job, Receipt, entry_at}
use Rattle.shardlog.specs.Entries.{raw_entry}
use Rattle.receipts.specs.Journals.{journal_list}
use Rattle.receipts.specs.Receipts.{placed, place_of}
use Rattle.receipts.proofs.in_order.is_pair.Goals as goal

pub returns-then-same_event : goal.returns-then-same_event
returns-then-same_event c = λ same.
    let number : c.args.receipt.now.job ≡ c.args.job.now.number = search rules in
    let stands : entry_at (journal_list c.args.shards.now) (placed c.in-Ok.place).shard (placed c.in-Ok.place).position
    ≡ Some (raw_entry c.in-Some.entry.now) = search rules in
    record {
      number = number;
      place = placed c.in-Ok.place;
      entry = raw_entry c.in-Some.entry.now;
      is_ok = ap (λ (r : Receipt). r.place) (sym c.receipt.view_is) ∙ ap place_of c.in-Ok.is;
      stands = stands;
      event = c.same_event.ensures.0 c.if-same_event.true ∙ ap (λ (j : Job). j.event) c.job.view_is;
      outs = c.same_outs.ensures.0 same;
    }
