-- The command line as `clap` sees it: two required positionals, an option with a value, and two flags.
use Rattle.std.specs.Prelude.{◌≡◌, ℕ, Bool, Some, true, List, cond, codes as text}
use Rattle.clap.specs.Words.{App, Rule, first_value, new_app, new_rule, with_rule}
use Rattle.clap.specs.Matches.{one_text}
use Rattle.clap.specs.declared.parser.matches.Found.{Found}
use Rattle.hlr_input.specs.CommandLine.{Said}
use Rattle.clap.specs.declared.builder.ArgAction.TheVariants.{Set, SetTrue}

abbrev pub records_rule : Rule
records_rule = record (new_rule (text "records")) { required = true }

abbrev pub script_rule : Rule
script_rule = record (new_rule (text "script")) { required = true }

abbrev pub workers_rule : Rule
workers_rule = record (new_rule (text "workers")) { long = Some (text "workers"); action = Some Set }

abbrev pub list_rule : Rule
list_rule = record (new_rule (text "list")) { long = Some (text "list"); action = Some SetTrue }

abbrev pub save_rule : Rule
save_rule = record (new_rule (text "save")) { long = Some (text "save"); action = Some SetTrue }

abbrev pub hlr : App
hlr = with_rule (with_rule (with_rule (with_rule (with_rule (new_app (text "hlr")) records_rule) script_rule) workers_rule) list_rule) save_rule

abbrev pub flag_text : Bool → List ℕ
flag_text given = cond given (text "true") (text "false")

-- `clap` found what the words said.
pub record Finds (said : Said) (found : Found) : Type 0 where
  pub records : first_value found (text "records") ≡ said.records
  pub script : first_value found (text "script") ≡ said.script
  pub workers : first_value found (text "workers") ≡ said.workers
  pub list : one_text found (text "list") ≡ Some (flag_text said.list)
  pub save : one_text found (text "save") ≡ Some (flag_text said.save)
