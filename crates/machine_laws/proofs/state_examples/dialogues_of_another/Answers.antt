use Rattle.std.proofs.Common.{ℕ, List, Option, ap, refl}
use Rattle.std.proofs.Math.Path.{fun_ext}
use Rattle.machine.specs.Keys.{put, put_at, shard_of, shard_of_id}
use Rattle.machine.specs.State.{Dialogue, Local, local_of, local_of_nobody}
use Rattle.machine.specs.Effect.{effect, conclusion_of}
use Rattle.machine.specs.Contexts.{accepted, context_of, refused_name}
use Rattle.machine.specs.Opening.{opening}
use Rattle.machine.specs.Changes.{data_to}
use Rattle.machine_laws.specs.Worked.{at_a, fifth_imsi, first_imsi, first_record, id_a, start}
use Rattle.machine_laws.proofs.Unseen.{unseen}
use Rattle.machine_laws.proofs.state_examples.dialogues_of_another.Goals as goal

pub returns : goal.returns
unfolding put put_at local_of local_of_nobody effect conclusion_of accepted context_of refused_name shard_of shard_of_id opening
returns c =
    let fifth : (List ℕ → Option Dialogue) → Local = λ seen. record (local_of start 1 fifth_imsi) { dialogues = seen } in
    let told : Dialogue = data_to (local_of start 1 first_imsi) at_a first_record.codes in
    (ap fifth (fun_ext (unseen fifth_imsi id_a told refl)), λ e. cc (ap (λ (here : Local). here.dialogues id_a) e))
