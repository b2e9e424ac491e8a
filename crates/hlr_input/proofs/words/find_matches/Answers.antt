use Rattle.std.proofs.Common.{map, string_bytes}
use Rattle.hlr_input.proofs.CommandLaws.{arguments_fine, line_is_no_memory, matches_found, words_refused}
use Rattle.hlr_input.proofs.words.find_matches.Goals as goal

pub returns-in_err-try_get_matches_from-clause-line : goal.returns-in_err-try_get_matches_from-clause-line
returns-in_err-try_get_matches_from-clause-line c is =
    let error = c.in_err-try_get_matches_from.field-0.0 in
    words_refused _ (map string_bytes c.args.words.now) error c.in_ok-command.ensures (arguments_fine c.args.words.now)
    c.in_err-try_get_matches_from.ensures.kinds (line_is_no_memory _ error c.from_residual-in_err-try_get_matches_from.ensures.1 is)

pub returns-clause-found : goal.returns-clause-found
returns-clause-found c =
    matches_found _ (map string_bytes c.args.words.now) c.in_ok-try_get_matches_from.field-0 c.in_ok-command.ensures (arguments_fine c.args.words.now)
    c.in_ok-try_get_matches_from.ensures.matches c.in_ok-try_get_matches_from.ensures.kinds
