use Rattle.std.proofs.Common.{refl}
use Rattle.embed.proofs.examples.law_log_texts.Goals as goal

pub returns : goal.returns
returns c = record { two_lines = refl; cut_off = refl; no_line_feed = refl; empty_line = refl; octets = refl }
