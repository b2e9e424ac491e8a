-- Values of the code as values of the definitions.
use Rattle.std.specs.Prelude.{string_bytes}
use Rattle.hlr_input.specs.CommandLine.{Asked}
use Rattle.hlr_input.specs.declared.options.Options.{Options}

abbrev pub asked_of : Options → Asked
asked_of options = record {
  records = string_bytes options.records;
  script = string_bytes options.script;
  workers = options.workers;
  list = options.list;
  save = options.save;
}
