use Rattle.records.proofs.WrittenLemmas.{five_pieces}
use Rattle.records.proofs.push.push_fields.Goals as goal

pub returns : goal.returns
returns c =
    let both = rw c.as_slice.ensures.value at c.in_ok-push_data.ensures in
    rw (← c.subscriber.view_is)
    (five_pieces _ _ _ _ _ _ _ _ _ _ _ c.in_ok-push_identity.ensures
    c.in_ok-push_str.ensures.bytes both c.in_ok-push_str-2.ensures.bytes c.in_ok-push_register.ensures)
