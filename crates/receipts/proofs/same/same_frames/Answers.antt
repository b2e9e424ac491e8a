use Rattle.std.proofs.Common.{get_or, sym, ap, ◌∙◌, arith, true≢false}
use Rattle.std.proofs.lemmas.List.{get_or-map}
use Rattle.hlrcore.specs.Frames.{raw_out}
use Rattle.receipts.proofs.same.same_frames.Goals as goal

pub returns-then-not-same_out : goal.returns-then-not-same_out
returns-then-not-same_out c = (
  (λ e. absurd (true≢false (sym e))),
  λ h.
      let k = c.loop-index.index in
      let mine = c.index-left-index.result in let theirs = c.index-right-index.result in
      let a = get_or-map raw_out c.args.left.now k mine (raw_out mine) (omega arith) in
      let b = get_or-map raw_out c.args.right.now k theirs (raw_out mine) (omega arith) in
      let same = ap raw_out c.index-left-index.is ∙ sym a ∙ ap (λ l. get_or l k (raw_out mine)) h ∙ b ∙ sym (ap raw_out c.index-right-index.is) in
      absurd (true≢false (sym (c.same_out.ensures.1 same) ∙ c.if-not-same_out.true)),
)
